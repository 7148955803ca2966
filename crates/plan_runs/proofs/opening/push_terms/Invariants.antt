-- The first terms are there.
use Rattle.std.proofs.Common.{◌≡◌, ◌++◌, map, take}
use Rattle.index_versions.specs.Terms.{version_term}
use Rattle.plan_runs.proofs.opening.push_terms.Given as goal

abbrev pub invariant-loop-number : goal.invariant-loop-number
invariant-loop-number l = l.terms ≡ l.fn.terms ++ map (version_term l.opening.version.now) (take l.number-index l.numbers)
