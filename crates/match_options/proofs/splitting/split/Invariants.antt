-- The parts so far, and those of what is left, are all.
use Rattle.std.proofs.Common.{◌≡◌, ◌++◌, [], drop}
use Rattle.match_options.specs.steps.PartsLeft.{parts_left}
use Rattle.match_options.proofs.splitting.split.Given as goal

abbrev pub invariant-loop-letter : goal.invariant-loop-letter
invariant-loop-letter l = l.parts ++ parts_left l.part.items (drop l.letter-index l.letters) ≡ parts_left [] l.letters
