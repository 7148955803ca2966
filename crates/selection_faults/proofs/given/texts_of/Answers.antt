-- One text further.
use Rattle.std.proofs.Common.{◌∷◌, [], ◌++◌, sym, ap, ◌∙◌}
use Rattle.selection_faults.proofs.OptionsLemmas.{texts_more}
use Rattle.selection_faults.proofs.given.texts_of.Goals as goal

pub loop-string-preserved : goal.loop-string-preserved
loop-string-preserved c =
    let string = c.in-Some.string in
    c.in_ok-push.ensures.ok
    ∙ ap (λ texts. texts ++ string.text ∷ []) c.loop-string.invariant
    ∙ sym (texts_more c.loop-string.yielded string)
