-- What is held, and the terms that are left, say the same.
use Rattle.std.proofs.Common.{◌≡◌, drop, false, map, fold}
use Rattle.plan_compiler.specs.Stops.{after_keys, term_of}
use Rattle.plan_compiler.proofs.stops.is_stop_key.Given as goal

abbrev pub invariant-loop-term : goal.invariant-loop-term
invariant-loop-term l = fold (after_keys l.key) l.held (map term_of (drop l.term-index l.stops)) ≡ fold (after_keys l.key) false (map term_of l.stops)
