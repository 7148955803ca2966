-- The first groups, and those that are left, are all.
use Rattle.std.proofs.Common.{◌≡◌, ◌++◌, map}
use Rattle.plan_compiler.proofs.phrase_plan.without_lengths.Given as goal

abbrev pub invariant-loop-length : goal.invariant-loop-length
invariant-loop-length l = l.list ++ map (λ group. group.1) l._length-iterator ≡ map (λ group. group.1) l.fn.groups.entries
