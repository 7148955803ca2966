-- The answers of the first turns.
use Rattle.std.proofs.Common.{◌≡◌, take}
use Rattle.standing_queries.specs.Answers.{answers_of}
use Rattle.standing_queries.proofs.standing.Standing.after.Given as goal

abbrev pub invariant-loop-turn : goal.invariant-loop-turn
invariant-loop-turn l = l.answers.entries ≡ answers_of l.self (take l.turn-index l.now)
