-- Of the first numbers, those of terms whose words pass.
use Rattle.std.proofs.Common.{◌≡◌}
use Rattle.std.specs.List.{range_with_len}
use Rattle.plan_runs.specs.steps.ChosenTerms.{passing}
use Rattle.plan_runs.specs.steps.OpenedItems.{word_test}
use Rattle.plan_runs.proofs.stem_terms.marked.Given as goal

abbrev pub invariant-loop-number : goal.invariant-loop-number
invariant-loop-number l = l.numbers ≡ passing (word_test l.opening.looks l.opening.lists.now.stems l.test) l.opening.version.now (range_with_len 0 l.number)
