-- There are ignored paths.
use Rattle.std.proofs.Common.{sym, ap, ◌∙◌}
use Rattle.path_grammar.specs.View as view
use Rattle.path_grammar.specs.Without.{condition_has}
use Rattle.path_grammar.proofs.Views.{view_contains}
use Rattle.path_subset.proofs.WithoutLemmas.{ignoring}
use Rattle.path_subset.proofs.without.+without.Goals as goal

pub in_condition-returns-else-is_empty : goal.in_condition-returns-else-is_empty
in_condition-returns-else-is_empty t c =
    ignoring c.in-Contains.steps c.in-Contains.selection c.in-Contains.ignored c.is_empty.result c.is_empty.ensures.1 c.if-is_empty.false
    ∙ sym (ap (λ x. condition_has (view.condition x)) c.in-Contains.is ∙ ap condition_has (view_contains c.in-Contains.steps c.in-Contains.selection c.in-Contains.ignored))
