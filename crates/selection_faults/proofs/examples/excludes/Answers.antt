-- By computation.
use Rattle.std.proofs.Common.{refl}
use Rattle.counted_shapes.specs.Held.{needs_hit}
use Rattle.counted_shapes.specs.Shapes.{is_bare, is_shape}
use Rattle.selection_grammar.specs.Form.{form_of}
use Rattle.selection_faults.specs.Excludes.{within}
use Rattle.selection_faults.specs.Faults.{fault_of}
use Rattle.selection_faults.specs.Strings.{strings_inside}
use Rattle.selection_faults.proofs.examples.excludes.Goals as goal

pub returns-clause-in_mild_not : goal.returns-clause-in_mild_not
unfolding fault_of within strings_inside
returns-clause-in_mild_not c = refl

pub returns-clause-times_in_mild_not : goal.returns-clause-times_in_mild_not
unfolding fault_of within strings_inside
returns-clause-times_in_mild_not c = refl

pub returns-clause-nested : goal.returns-clause-nested
unfolding fault_of within strings_inside form_of is_shape is_bare needs_hit
returns-clause-nested c = refl

pub returns-clause-times_in_filter : goal.returns-clause-times_in_filter
unfolding fault_of within strings_inside
returns-clause-times_in_filter c = refl

pub returns-clause-nested_without_filter : goal.returns-clause-nested_without_filter
unfolding fault_of within strings_inside
returns-clause-nested_without_filter c = refl

pub returns-clause-one_outside : goal.returns-clause-one_outside
unfolding fault_of within strings_inside form_of is_shape is_bare needs_hit
returns-clause-one_outside c = refl
