-- By computation.
use Rattle.std.proofs.Common.{refl}
use Rattle.counted_shapes.specs.Held.{needs_hit}
use Rattle.counted_shapes.specs.Shapes.{is_bare, is_shape}
use Rattle.selection_grammar.specs.Form.{form_of}
use Rattle.selection_faults.specs.Excludes.{within}
use Rattle.selection_faults.specs.Faults.{fault_of}
use Rattle.selection_faults.specs.Strings.{strings_inside}
use Rattle.selection_faults.proofs.examples.counted_shapes.Goals as goal

pub returns-clause-in_a_window : goal.returns-clause-in_a_window
unfolding fault_of within strings_inside form_of is_shape is_bare needs_hit
returns-clause-in_a_window c = refl

pub returns-clause-in_one_sentence : goal.returns-clause-in_one_sentence
unfolding fault_of within strings_inside form_of is_shape is_bare needs_hit
returns-clause-in_one_sentence c = refl

pub returns-clause-in_one_paragraph : goal.returns-clause-in_one_paragraph
unfolding fault_of within strings_inside form_of is_shape is_bare needs_hit
returns-clause-in_one_paragraph c = refl

pub returns-clause-beside_a_negation : goal.returns-clause-beside_a_negation
unfolding fault_of within strings_inside form_of is_shape is_bare needs_hit
returns-clause-beside_a_negation c = refl

pub returns-clause-under_options : goal.returns-clause-under_options
unfolding fault_of within strings_inside form_of is_shape is_bare needs_hit
returns-clause-under_options c = refl

pub returns-clause-that_asks_for_none : goal.returns-clause-that_asks_for_none
unfolding fault_of within strings_inside form_of is_shape is_bare needs_hit
returns-clause-that_asks_for_none c = refl

pub returns-clause-from_none : goal.returns-clause-from_none
unfolding fault_of within strings_inside form_of is_shape is_bare needs_hit
returns-clause-from_none c = refl

pub returns-clause-of_all : goal.returns-clause-of_all
unfolding fault_of within strings_inside form_of is_shape is_bare needs_hit
returns-clause-of_all c = refl

pub returns-clause-in_different_sentences : goal.returns-clause-in_different_sentences
unfolding fault_of within strings_inside form_of is_shape is_bare needs_hit
returns-clause-in_different_sentences c = refl

pub returns-clause-at_a_distance : goal.returns-clause-at_a_distance
unfolding fault_of within strings_inside form_of is_shape is_bare needs_hit
returns-clause-at_a_distance c = refl

pub returns-clause-in_a_choice : goal.returns-clause-in_a_choice
unfolding fault_of within strings_inside form_of is_shape is_bare needs_hit
returns-clause-in_a_choice c = refl

pub returns-clause-negated : goal.returns-clause-negated
unfolding fault_of within strings_inside form_of is_shape is_bare needs_hit
returns-clause-negated c = refl

pub returns-clause-under_another_filter : goal.returns-clause-under_another_filter
unfolding fault_of within strings_inside form_of is_shape is_bare needs_hit
returns-clause-under_another_filter c = refl

pub returns-clause-beside_another_filter : goal.returns-clause-beside_another_filter
unfolding fault_of within strings_inside form_of is_shape is_bare needs_hit
returns-clause-beside_another_filter c = refl

pub returns-clause-in_mild_not : goal.returns-clause-in_mild_not
unfolding fault_of within strings_inside form_of is_shape is_bare needs_hit
returns-clause-in_mild_not c = refl
