-- What the last step says.
use Rattle.std.proofs.Common.{map, sym, ap, ◌∙◌}
use Rattle.path_grammar.specs.Form as form
use Rattle.path_grammar.specs.View.{step}
use Rattle.path_subset.specs.Shown.{shown_selection}
use Rattle.path_subset.proofs.ShownLemmas.{last_step}
use Rattle.path_subset.proofs.shown.steps_selection.Goals as goal

pub returns-in-Some : goal.returns-in-Some
returns-in-Some c =
    c.predicates_selection.ensures
    ∙ sym (last_step c.as_slice.result.now c.in-Some.last.now c.in-Some.ensures.value)
    ∙ ap (λ xs. shown_selection (form.steps (map step xs))) c.as_slice.ensures
