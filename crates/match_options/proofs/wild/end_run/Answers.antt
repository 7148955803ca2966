-- The letters are the characters of the form of the run.
use Rattle.std.proofs.Common.{◌++◌, List, ℕ, map, ap, ◌∙◌, arith}
use Rattle.std.proofs.lemmas.List.{take_all}
use Rattle.match_options.specs.declared.atom.Atom.TheVariants.{Letter}
use Rattle.match_options.specs.Wildcards.{form_by}
use Rattle.match_options.proofs.WildLemmas.{run_form}
use Rattle.match_options.proofs.wild.end_run.Goals as goal

pub returns : goal.returns
returns c =
    c.loop-letter.invariant
    ∙ ap (λ (ls : List ℕ). c.args.out.now.items ++ map Letter ls)
    (take_all c.loop-letter.letter-index c.deref-letter-items.result.now (omega arith)
    ∙ run_form (form_by c.args.case c.args.marks) c.args.run.now c.as_str.result.now c.as_str-2.result.now c.deref-letter-items.result.now c.as_str.utf8 c.as_str-2.utf8
    (c.as_str.ensures ∙ c.in_ok-text.ensures) (c.as_str-2.ensures ∙ c.in_ok-form.ensures) (c.deref-letter-items.ensures.value ∙ c.in_ok-letters.ensures))
