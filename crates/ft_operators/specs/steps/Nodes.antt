-- Where the walk through the ways of a node stands.
use Rattle.ft_operators.specs.declared.course.Course.{Course}
use Rattle.ft_operators.specs.declared.node.Node.{Node, Phrase, Choice', Both', MildNot', Negated', Filtered'}
use Rattle.ft_operators.specs.declared.node.Fork.{Fork}
use Rattle.ft_operators.specs.declared.node.Pair.{Pair}
use Rattle.ft_operators.specs.declared.node.Negation.{Negation}
use Rattle.ft_operators.specs.declared.node.Sieve.{Sieve}
use Rattle.ft_operators.specs.Phrases.{PhraseState}
use Rattle.ft_operators.specs.Course.{course_inside, without_bounds}
use Rattle.ft_operators.specs.Standing.{Shape, Frame, Standing, course_now, frame}
use Rattle.ft_operators.specs.steps.Forms.{phrase_of, choice_of, both_of, apart_of, negation_of, sieve_of}
use Rattle.ft_operators.specs.steps.Forms.{phrase_shape, choice_shape, both_shape, apart_shape, negated_shape, filtered_shape}
use Rattle.ft_operators.specs.steps.Forms.{choice_frame, both_frame, apart_frame, negated_frame, filtered_frame}

unfoldable pub standing : {P : Type 0} → (P → PhraseState) → Course → Node P → Standing
standing state course (Phrase found) = phrase_of (state found)
standing state course (Choice' p left right second) = choice_of course second (standing state course left) (standing state course right)
standing state course (Both' p left right) = both_of course (standing state course left) (standing state (course_now course (standing state course left).rest) right)
standing state course (MildNot' p left right) = apart_of course (standing state course left) (standing state (without_bounds course) right)
standing state course (Negated' p operand there) = negation_of course there (standing state course operand)
standing state course (Filtered' p operand kind lead) = sieve_of course kind lead (standing state (course_inside kind course) operand)

abbrev pub fork_standing : {P : Type 0} → (P → PhraseState) → Course → Fork P → Standing
fork_standing state course fork = choice_of course fork.second (standing state course fork.left) (standing state course fork.right)

abbrev pub pair_standing : {P : Type 0} → (P → PhraseState) → Course → Pair P → Standing
pair_standing state course pair = both_of course (standing state course pair.left) (standing state (course_now course (standing state course pair.left).rest) pair.right)

abbrev pub apart_standing : {P : Type 0} → (P → PhraseState) → Course → Pair P → Standing
apart_standing state course pair = apart_of course (standing state course pair.left) (standing state (without_bounds course) pair.right)

abbrev pub negation_standing : {P : Type 0} → (P → PhraseState) → Course → Negation P → Standing
negation_standing state course negation = negation_of course negation.there (standing state course negation.operand)

abbrev pub sieve_standing : {P : Type 0} → (P → PhraseState) → Course → Sieve P → Standing
sieve_standing state course sieve = sieve_of course sieve.kind sieve.lead (standing state (course_inside sieve.kind course) sieve.operand)

-- the frame of a node, whatever the place of the walk
unfoldable pub frame_of : {P : Type 0} → (P → PhraseState) → Node P → Frame
frame_of state (Phrase found) = frame (phrase_of (state found))
frame_of state (Choice' p left right second) = choice_frame (frame_of state left) (frame_of state right)
frame_of state (Both' p left right) = both_frame (frame_of state left) (frame_of state right)
frame_of state (MildNot' p left right) = apart_frame (frame_of state left) (frame_of state right)
frame_of state (Negated' p operand there) = negated_frame (frame_of state operand)
frame_of state (Filtered' p operand kind lead) = filtered_frame kind (frame_of state operand)

abbrev pub fork_frame : {P : Type 0} → (P → PhraseState) → Fork P → Frame
fork_frame state fork = choice_frame (frame_of state fork.left) (frame_of state fork.right)

abbrev pub both_pair_frame : {P : Type 0} → (P → PhraseState) → Pair P → Frame
both_pair_frame state pair = both_frame (frame_of state pair.left) (frame_of state pair.right)

abbrev pub apart_pair_frame : {P : Type 0} → (P → PhraseState) → Pair P → Frame
apart_pair_frame state pair = apart_frame (frame_of state pair.left) (frame_of state pair.right)

abbrev pub negation_frame : {P : Type 0} → (P → PhraseState) → Negation P → Frame
negation_frame state negation = negated_frame (frame_of state negation.operand)

abbrev pub sieve_frame : {P : Type 0} → (P → PhraseState) → Sieve P → Frame
sieve_frame state sieve = filtered_frame sieve.kind (frame_of state sieve.operand)

-- the shape of a node, whatever its phrases
unfoldable pub shape_of : {P : Type 0} → Node P → Shape
shape_of (Phrase found) = phrase_shape
shape_of (Choice' p left right second) = choice_shape (shape_of left) (shape_of right)
shape_of (Both' p left right) = both_shape (shape_of left) (shape_of right)
shape_of (MildNot' p left right) = apart_shape (shape_of left) (shape_of right)
shape_of (Negated' p operand there) = negated_shape (shape_of operand)
shape_of (Filtered' p operand kind lead) = filtered_shape (shape_of operand)
