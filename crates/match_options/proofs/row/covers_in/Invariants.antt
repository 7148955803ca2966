-- The row is that of the last atoms.
use Rattle.std.proofs.Common.{◌-◌, length, drop, chars}
use Rattle.match_options.specs.steps.Row.{IsRow}
use Rattle.match_options.proofs.row.covers_in.Given as goal

abbrev pub invariant-loop-passed : goal.invariant-loop-passed
invariant-loop-passed l = IsRow l.row (drop (length l.atoms - l.passed) l.atoms) (chars l.text)
