-- The words so far aren't any word.
use Rattle.std.proofs.Common.{◌≡◌, drop, not}
use Rattle.std.specs.List.{list_all}
use Rattle.plan_compiler.specs.ItemTests.{asks_nothing}
use Rattle.plan_kinds.proofs.joining.each_asks.Given as goal

abbrev pub invariant-loop-test : goal.invariant-loop-test
invariant-loop-test l = list_all (λ test. not (asks_nothing test)) (drop l.test-index l.tests) ≡ list_all (λ test. not (asks_nothing test)) l.tests
