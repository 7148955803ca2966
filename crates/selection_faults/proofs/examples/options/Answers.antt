-- By computation.
use Rattle.std.proofs.Common.{refl}
use Rattle.selection_faults.specs.Excludes.{within}
use Rattle.selection_faults.specs.Faults.{fault_of}
use Rattle.selection_faults.specs.Strings.{strings_inside}
use Rattle.selection_faults.proofs.examples.options.Goals as goal

pub returns-clause-on_and_off : goal.returns-clause-on_and_off
unfolding fault_of within strings_inside
returns-clause-on_and_off c = refl

pub returns-clause-case : goal.returns-clause-case
unfolding fault_of within strings_inside
returns-clause-case c = refl

pub returns-clause-further_in : goal.returns-clause-further_in
unfolding fault_of within strings_inside
returns-clause-further_in c = refl
