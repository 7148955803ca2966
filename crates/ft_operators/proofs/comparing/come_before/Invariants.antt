-- The hits so far stand at the same places.
use Rattle.std.proofs.Common.{◌≡◌, ◌≤◌, drop, length}
use Rattle.best_hits.specs.Least.{comes_before}
use Rattle.ft_operators.proofs.comparing.come_before.Given as goal

abbrev pub invariant-loop-number : goal.invariant-loop-number
invariant-loop-number l = record {
  within : l.number ≤ length l.others;
  rest : comes_before (drop l.number l.hits) (drop l.number l.others) ≡ comes_before l.hits l.others;
}
