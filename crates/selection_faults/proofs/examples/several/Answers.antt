-- By computation.
use Rattle.std.proofs.Common.{refl}
use Rattle.std.specs.Str.{chars}
use Rattle.std.proofs.Math.Utf8.{encode}
use Rattle.match_options.specs.Patterns.{atoms_of, atoms_after}
use Rattle.selection_faults.specs.Excludes.{within}
use Rattle.selection_faults.specs.Faults.{fault_of}
use Rattle.selection_faults.specs.Strings.{strings_inside}
use Rattle.selection_faults.proofs.examples.several.Goals as goal

pub returns-clause-least_place : goal.returns-clause-least_place
unfolding fault_of within strings_inside chars encode atoms_of atoms_after
returns-clause-least_place c = refl

pub returns-clause-earlier_place : goal.returns-clause-earlier_place
unfolding fault_of within strings_inside chars encode atoms_of atoms_after
returns-clause-earlier_place c = refl
