-- One string further.
use Rattle.std.proofs.Common.{◌∷◌, [], map, refl, ap, ◌∙◌, take, arith}
use Rattle.std.proofs.lemmas.List.{map-append}
use Rattle.selection_grammar.specs.declared.parsed.PlacedString.{PlacedString}
use Rattle.selection_faults.specs.Strings.{written}
use Rattle.selection_faults.specs.steps.Walk.{after, after_all}
use Rattle.selection_faults.proofs.WalkLemmas.{walk_next}
use Rattle.selection_faults.proofs.strings.pass_words.Goals as goal

pub loop-string-init : goal.loop-string-init
unfolding after_all
loop-string-init c = refl

pub loop-string-preserved : goal.loop-string-preserved
unfolding after_all
loop-string-preserved c =
    let i = c.loop-string.string-index in
    let items = c.as_slice-string-items.result.now in
    let kind = written c.args.words.now.mode c.wildcards_inside-wildcards.result in
    let s = c.string-item.result in
    c.in_ok-walk.ensures
    ∙ ap (λ walk. after walk (kind s)) c.loop-string.invariant
    ∙ ap (λ (x : PlacedString). after (after_all c.args.walk.now (map kind (take i items))) (kind x)) c.string-item.is
    ∙ walk_next c.args.walk.now (λ x. kind x ∷ []) (map kind) (λ xs x. map-append kind xs (x ∷ [])) items i s (omega arith)
