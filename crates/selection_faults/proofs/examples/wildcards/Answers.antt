-- By computation.
use Rattle.std.proofs.Common.{refl}
use Rattle.std.specs.Str.{chars}
use Rattle.std.proofs.Math.Utf8.{encode}
use Rattle.match_options.specs.Patterns.{atoms_of, atoms_after}
use Rattle.selection_faults.specs.Excludes.{within}
use Rattle.selection_faults.specs.Faults.{fault_of}
use Rattle.selection_faults.specs.Strings.{strings_inside}
use Rattle.selection_faults.proofs.examples.wildcards.Goals as goal

pub returns-clause-bounds : goal.returns-clause-bounds
unfolding fault_of within strings_inside chars encode atoms_of atoms_after
returns-clause-bounds c = refl

pub returns-clause-backslash : goal.returns-clause-backslash
unfolding fault_of within strings_inside chars encode atoms_of atoms_after
returns-clause-backslash c = refl

pub returns-clause-around : goal.returns-clause-around
unfolding fault_of within strings_inside chars encode atoms_of atoms_after
returns-clause-around c = refl

pub returns-clause-off_inside : goal.returns-clause-off_inside
unfolding fault_of within strings_inside chars encode atoms_of atoms_after
returns-clause-off_inside c = refl

pub returns-clause-off : goal.returns-clause-off
unfolding fault_of within strings_inside chars encode atoms_of atoms_after
returns-clause-off c = refl
