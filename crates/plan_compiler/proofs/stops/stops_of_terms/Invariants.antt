-- The keys of the first terms.
use Rattle.std.proofs.Common.{◌≡◌, map, take}
use Rattle.plan_compiler.specs.Stops.{term_keys, term_of}
use Rattle.plan_compiler.proofs.stops.stops_of_terms.Given as goal

abbrev pub invariant-loop-term : goal.invariant-loop-term
invariant-loop-term l = map term_of l.stops.items ≡ map (term_keys l.lists) (take l.term-index l.terms)
