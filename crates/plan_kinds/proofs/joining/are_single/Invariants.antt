-- The variants so far are single words.
use Rattle.std.proofs.Common.{◌≡◌, drop}
use Rattle.std.specs.List.{list_all}
use Rattle.plan_compiler.specs.CheapPlans.{is_single}
use Rattle.plan_kinds.proofs.joining.are_single.Given as goal

abbrev pub invariant-loop-tests : goal.invariant-loop-tests
invariant-loop-tests l = list_all is_single (drop l.tests-index l.variants) ≡ list_all is_single l.variants
