-- What was read stands before what is left.
use Rattle.std.proofs.Common.{◌≡◌, ◌-◌, ◌≤◌, drop, length}
use Rattle.match_options.specs.Patterns.{atoms_after, atoms_of}
use Rattle.match_options.proofs.Reading.{after_read}
use Rattle.match_options.proofs.pattern.atoms_of.Given as goal

abbrev pub invariant-loop-next : goal.invariant-loop-next
invariant-loop-next l = record {
  within : l.next ≤ length l.letters;
  known : after_read l.atoms.items (atoms_after 0 (drop l.next l.letters)) ≡ atoms_of l.letters;
}

abbrev pub decreases-loop-next : goal.decreases-loop-next
decreases-loop-next l = length l.letters - l.next
