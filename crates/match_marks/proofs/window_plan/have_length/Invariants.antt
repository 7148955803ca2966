-- The variants so far have as many words.
use Rattle.std.proofs.Common.{◌≡◌, ◌==◌, drop, length}
use Rattle.std.specs.List.{list_all}
use Rattle.match_marks.proofs.window_plan.have_length.Given as goal

abbrev pub invariant-loop-tests : goal.invariant-loop-tests
invariant-loop-tests l = list_all (λ tests. length tests == l.words) (drop l.tests-index l.variants) ≡ list_all (λ tests. length tests == l.words) l.variants
