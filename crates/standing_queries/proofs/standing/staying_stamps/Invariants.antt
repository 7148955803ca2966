-- The stamps of the first turns.
use Rattle.std.proofs.Common.{◌≡◌, ℕ, take}
use Rattle.standing_queries.specs.steps.Staying.{is_in, stays}
use Rattle.standing_queries.proofs.standing.staying_stamps.Given as goal

abbrev pub invariant-loop-turn : goal.invariant-loop-turn
invariant-loop-turn l = (stamp : ℕ) → is_in l.staying stamp ≡ stays (take l.turn-index l.now) stamp
