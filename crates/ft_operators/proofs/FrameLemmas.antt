-- The frame of a node is that of the walk through it, and its shape is that of the frame.
use Rattle.std.proofs.Common.{◌≡◌, refl, ap, sym, ◌∙◌, ℕ, ◌≤◌, true, ◌&&◌, Box, Global, arith}
use Rattle.std.proofs.lemmas.Bool.{and_parts}
use Rattle.ft_base.specs.declared.span.Span.{Span}
use Rattle.ft_operators.specs.declared.course.Course.{Course}
use Rattle.ft_operators.specs.declared.node.Node.{Node, Phrase, Choice', Both', MildNot', Negated', Filtered'}
use Rattle.ft_operators.specs.declared.node.Node as N
use Rattle.ft_operators.specs.declared.node.Fork.{Fork}
use Rattle.ft_operators.specs.declared.node.Pair.{Pair}
use Rattle.ft_operators.specs.declared.node.Negation.{Negation}
use Rattle.ft_operators.specs.declared.node.Sieve.{Sieve}
use Rattle.ft_operators.specs.Phrases.{PhraseState, aimed_at}
use Rattle.ft_operators.specs.Course.{course_inside, without_bounds}
use Rattle.ft_operators.specs.Standing.{Aims, Frame, course_now, frame, aimed}
use Rattle.ft_operators.specs.steps.Forms.{phrase_of, phrase_shape, choice_frame, both_frame, apart_frame, negated_frame, filtered_frame, choice_shape, both_shape, apart_shape, negated_shape, filtered_shape}
use Rattle.ft_operators.specs.steps.Nodes.{standing, frame_of, fork_frame, both_pair_frame, apart_pair_frame, negation_frame, sieve_frame, shape_of}
use Rattle.ft_operators.specs.steps.Walking.{AreAimed, IsAimed}

module _ {P : Type 0} (state : P → PhraseState) where
  pub frame_same : (course : Course) (node : Node P) → frame (standing state course node) ≡ frame_of state node
  unfolding standing frame_of
  frame_same course (Phrase found) = refl
  frame_same course (Choice' p left right second) = λ i. choice_frame (frame_same course left i) (frame_same course right i)
  frame_same course (Both' p left right) = λ i. both_frame (frame_same course left i) (frame_same (course_now course (standing state course left).rest) right i)
  frame_same course (MildNot' p left right) = λ i. apart_frame (frame_same course left i) (frame_same (without_bounds course) right i)
  frame_same course (Negated' p operand there) = λ i. negated_frame (frame_same course operand i)
  frame_same course (Filtered' p operand kind lead) = λ i. filtered_frame kind (frame_same (course_inside kind course) operand i)

  pub frames_same : (course other : Course) (node : Node P) → frame (standing state course node) ≡ frame (standing state other node)
  frames_same course other node = frame_same course node ∙ sym (frame_same other node)

  pub shape_same : (node : Node P) → (frame_of state node).shape ≡ shape_of node
  unfolding frame_of shape_of
  shape_same (Phrase found) = refl
  shape_same (Choice' p left right second) = λ i. choice_shape (shape_same left i) (shape_same right i)
  shape_same (Both' p left right) = λ i. both_shape (shape_same left i) (shape_same right i)
  shape_same (MildNot' p left right) = λ i. apart_shape (shape_same left i) (shape_same right i)
  shape_same (Negated' p operand there) = λ i. negated_shape (shape_same operand i)
  shape_same (Filtered' p operand kind lead) = λ i. filtered_shape (shape_same operand i)

  -- the shapes of the kinds
  pub shape_Phrase : (found : P) → shape_of (N.Phrase found) ≡ phrase_shape
  unfolding shape_of
  shape_Phrase found = refl

  pub shape_Choice : (fork : Box (Fork P) Global) → shape_of (N.Choice fork) ≡ choice_shape (shape_of fork.value.left) (shape_of fork.value.right)
  unfolding shape_of
  shape_Choice fork = refl

  pub shape_Both : (pair : Box (Pair P) Global) → shape_of (N.Both pair) ≡ both_shape (shape_of pair.value.left) (shape_of pair.value.right)
  unfolding shape_of
  shape_Both pair = refl

  pub shape_MildNot : (pair : Box (Pair P) Global) → shape_of (N.MildNot pair) ≡ apart_shape (shape_of pair.value.left) (shape_of pair.value.right)
  unfolding shape_of
  shape_MildNot pair = refl

  pub shape_Negated : (negation : Box (Negation P) Global) → shape_of (N.Negated negation) ≡ negated_shape (shape_of negation.value.operand)
  unfolding shape_of
  shape_Negated negation = refl

  pub shape_Filtered : (sieve : Box (Sieve P) Global) → shape_of (N.Filtered sieve) ≡ filtered_shape (shape_of sieve.value.operand)
  unfolding shape_of
  shape_Filtered sieve = refl

  -- kind by kind
  pub frame_Phrase : (found : P) → frame_of state (N.Phrase found) ≡ frame (phrase_of (state found))
  unfolding frame_of
  frame_Phrase found = refl

  pub frame_Choice : (fork : Box (Fork P) Global) → frame_of state (N.Choice fork) ≡ fork_frame state fork.value
  unfolding frame_of
  frame_Choice fork = refl

  pub frame_Both : (pair : Box (Pair P) Global) → frame_of state (N.Both pair) ≡ both_pair_frame state pair.value
  unfolding frame_of
  frame_Both pair = refl

  pub frame_MildNot : (pair : Box (Pair P) Global) → frame_of state (N.MildNot pair) ≡ apart_pair_frame state pair.value
  unfolding frame_of
  frame_MildNot pair = refl

  pub frame_Negated : (negation : Box (Negation P) Global) → frame_of state (N.Negated negation) ≡ negation_frame state negation.value
  unfolding frame_of
  frame_Negated negation = refl

  pub frame_Filtered : (sieve : Box (Sieve P) Global) → frame_of state (N.Filtered sieve) ≡ sieve_frame state sieve.value
  unfolding frame_of
  frame_Filtered sieve = refl

  -- told of what a node lends of its inside
  pub framed_Phrase : (node : Node P) (found : P) → node ≡ N.Phrase found → frame_of state node ≡ frame (phrase_of (state found))
  framed_Phrase node found is = ap (frame_of state) is ∙ frame_Phrase found

  pub framed_Choice : (node : Node P) (fork : Box (Fork P) Global) (lent : Fork P) → node ≡ N.Choice fork → lent ≡ fork.value → frame_of state node ≡ fork_frame state lent
  framed_Choice node fork lent is same = ap (frame_of state) is ∙ frame_Choice fork ∙ ap (fork_frame state) (sym same)

  pub framed_Both : (node : Node P) (pair : Box (Pair P) Global) (lent : Pair P) → node ≡ N.Both pair → lent ≡ pair.value → frame_of state node ≡ both_pair_frame state lent
  framed_Both node pair lent is same = ap (frame_of state) is ∙ frame_Both pair ∙ ap (both_pair_frame state) (sym same)

  pub framed_MildNot : (node : Node P) (pair : Box (Pair P) Global) (lent : Pair P) → node ≡ N.MildNot pair → lent ≡ pair.value → frame_of state node ≡ apart_pair_frame state lent
  framed_MildNot node pair lent is same = ap (frame_of state) is ∙ frame_MildNot pair ∙ ap (apart_pair_frame state) (sym same)

  pub framed_Negated : (node : Node P) (negation : Box (Negation P) Global) (lent : Negation P) → node ≡ N.Negated negation → lent ≡ negation.value → frame_of state node ≡ negation_frame state lent
  framed_Negated node negation lent is same = ap (frame_of state) is ∙ frame_Negated negation ∙ ap (negation_frame state) (sym same)

  pub framed_Filtered : (node : Node P) (sieve : Box (Sieve P) Global) (lent : Sieve P) → node ≡ N.Filtered sieve → lent ≡ sieve.value → frame_of state node ≡ sieve_frame state lent
  framed_Filtered node sieve lent is same = ap (frame_of state) is ∙ frame_Filtered sieve ∙ ap (sieve_frame state) (sym same)

module _ {P : Type 0} where
  -- the shape of a node, told of what it lends of its inside
  pub shaped_Choice : (node : Node P) (fork : Box (Fork P) Global) (lent : Fork P) → node ≡ N.Choice fork → lent ≡ fork.value → shape_of node ≡ choice_shape (shape_of lent.left) (shape_of lent.right)
  unfolding shape_of
  shaped_Choice node fork lent is same = ap shape_of is ∙ ap (λ (f : Fork P). choice_shape (shape_of f.left) (shape_of f.right)) (sym same)

  pub shaped_Both : (node : Node P) (pair : Box (Pair P) Global) (lent : Pair P) → node ≡ N.Both pair → lent ≡ pair.value → shape_of node ≡ both_shape (shape_of lent.left) (shape_of lent.right)
  unfolding shape_of
  shaped_Both node pair lent is same = ap shape_of is ∙ ap (λ (p : Pair P). both_shape (shape_of p.left) (shape_of p.right)) (sym same)

  pub shaped_MildNot : (node : Node P) (pair : Box (Pair P) Global) (lent : Pair P) → node ≡ N.MildNot pair → lent ≡ pair.value → shape_of node ≡ apart_shape (shape_of lent.left) (shape_of lent.right)
  unfolding shape_of
  shaped_MildNot node pair lent is same = ap shape_of is ∙ ap (λ (p : Pair P). apart_shape (shape_of p.left) (shape_of p.right)) (sym same)

  pub shaped_Filtered : (node : Node P) (sieve : Box (Sieve P) Global) (lent : Sieve P) → node ≡ N.Filtered sieve → lent ≡ sieve.value → shape_of node ≡ filtered_shape (shape_of lent.operand)
  unfolding shape_of
  shaped_Filtered node sieve lent is same = ap shape_of is ∙ ap (λ (s : Sieve P). filtered_shape (shape_of s.operand)) (sym same)

-- ---- aiming

pub aimed_inside : (doc : ℕ) (span : Span) (inside inside_new node node_new : Frame) (start end : ℕ) → node ≡ inside → node_new ≡ inside_new
    → IsAimed doc span inside inside_new start end → IsAimed doc span node node_new start end
aimed_inside doc span inside inside_new node node_new start end old new a = record { framed = new ∙ a.framed ∙ ap (aimed doc span) (sym old); grown = a.grown }

pub aimed_phrase : (doc : ℕ) (span : Span) (s new : PhraseState) (start end : ℕ) → new ≡ aimed_at doc span s → start ≤ end
    → IsAimed doc span (frame (phrase_of s)) (frame (phrase_of new)) start end
aimed_phrase doc span s new start end is grown = record { framed = ap (λ p. frame (phrase_of p)) is; grown = grown }

pub may_both : (a b : Aims) (doc : ℕ) (span : Span) → (a.may doc span && b.may doc span) ≡ true → (a.may doc span ≡ true) × (b.may doc span ≡ true)
may_both a b doc span may = and_parts (a.may doc span) (b.may doc span) may

pub aimed_choice : (doc : ℕ) (span : Span) (left left_new right right_new : Frame) (start mid end : ℕ) → IsAimed doc span left left_new start mid → IsAimed doc span right right_new mid end
    → IsAimed doc span (choice_frame left right) (choice_frame left_new right_new) start end
aimed_choice doc span left left_new right right_new start mid end a b = record {
  framed = λ i. choice_frame (a.framed i) (b.framed i);
  grown = omega (arith, a.grown, b.grown);
}

pub aimed_both : (doc : ℕ) (span : Span) (left left_new right right_new : Frame) (start end : ℕ) → AreAimed doc span left left_new right right_new start end
    → IsAimed doc span (both_frame left right) (both_frame left_new right_new) start end
aimed_both doc span left left_new right right_new start end a = record { framed = λ i. both_frame (a.first i) (a.second i); grown = a.grown }

pub aimed_apart : (doc : ℕ) (span : Span) (left left_new right right_new : Frame) (start end : ℕ) → AreAimed doc span left left_new right right_new start end
    → IsAimed doc span (apart_frame left right) (apart_frame left_new right_new) start end
aimed_apart doc span left left_new right right_new start end a = record { framed = λ i. apart_frame (a.first i) (a.second i); grown = a.grown }

pub aimed_pair : (doc : ℕ) (span : Span) (left left_new right right_new : Frame) (start mid end : ℕ) → IsAimed doc span left left_new start mid → IsAimed doc span right right_new mid end
    → AreAimed doc span left left_new right right_new start end
aimed_pair doc span left left_new right right_new start mid end a b = record { first = a.framed; second = b.framed; grown = omega (arith, a.grown, b.grown) }
