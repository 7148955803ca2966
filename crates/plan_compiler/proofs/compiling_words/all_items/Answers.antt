-- The items of all strings.
use Rattle.std.proofs.Common.{◌∙◌, sym, ap, arith}
use Rattle.std.specs.Prelude.{flat_map}
use Rattle.std.proofs.lemmas.List.{take_all}
use Rattle.match_options.specs.Items as items
use Rattle.std.proofs.lemmas.List.Folds.{flat_map-map}
use Rattle.plan_compiler.proofs.compiling_words.all_items.Goals as goal

pub returns : goal.returns
returns c =
    c.loop-string.invariant
    ∙ ap (flat_map (items.items_of c.args.wildcards)) (take_all c.loop-string.string-index c.as_slice-string-items.result.now (omega arith) ∙ c.as_slice-string-items.ensures)
    ∙ sym (flat_map-map (λ own. own) (items.items_of c.args.wildcards) c.args.strings.now)
