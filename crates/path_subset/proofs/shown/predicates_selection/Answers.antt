-- What the last predicate says.
use Rattle.std.proofs.Common.{map, sym, ap, ◌∙◌}
use Rattle.path_grammar.specs.Form as form
use Rattle.path_grammar.specs.View.{predicate}
use Rattle.path_subset.specs.Shown.{predicates_selection}
use Rattle.path_subset.proofs.ShownLemmas.{last_predicate}
use Rattle.path_subset.proofs.shown.predicates_selection.Goals as goal

pub returns-in-Some : goal.returns-in-Some
returns-in-Some c =
    c.predicate_selection.ensures
    ∙ sym (last_predicate c.as_slice.result.now c.in-Some.last.now c.in-Some.ensures.value)
    ∙ ap (λ xs. predicates_selection (form.predicates (map predicate xs))) c.as_slice.ensures
