-- The steps lead to other elements, or there are ignored paths.
use Rattle.std.proofs.Common.{sym, ap, ◌∙◌}
use Rattle.path_grammar.specs.View.{condition}
use Rattle.path_grammar.proofs.Views.{view_contains}
use Rattle.path_subset.specs.Shown.{condition_selection}
use Rattle.path_subset.proofs.ShownLemmas.{not_itself, not_alone}
use Rattle.path_subset.proofs.shown.condition_selection.Goals as goal
use Rattle.path_subset.proofs.shown.condition_selection.Goals.{else-is_empty-via-then-is_empty+else-is_empty-2, else-is_empty-via-else-is_empty}

pub returns-else-is_empty : goal.returns-else-is_empty
returns-else-is_empty c =
    elim c.else-is_empty.branch [
      | else-is_empty-via-then-is_empty+else-is_empty-2 w ↦
          not_alone c.in-Contains.steps c.in-Contains.selection c.in-Contains.ignored w.is_empty-then-is_empty.result w.is_empty-then-is_empty.ensures.1 w.if-is_empty-2.false
          ∙ sym (ap (λ h. condition_selection (condition h)) c.in-Contains.is ∙ ap condition_selection (view_contains c.in-Contains.steps c.in-Contains.selection c.in-Contains.ignored))
      | else-is_empty-via-else-is_empty w ↦
          not_itself c.in-Contains.steps c.in-Contains.selection c.in-Contains.ignored c.is_empty.result c.is_empty.ensures.1 w.if-is_empty.false
          ∙ sym (ap (λ h. condition_selection (condition h)) c.in-Contains.is ∙ ap condition_selection (view_contains c.in-Contains.steps c.in-Contains.selection c.in-Contains.ignored))
    ]
