-- What is left of the hits of a node's phrases, kind by kind.
use Rattle.std.proofs.Common.{◌≡◌, refl, ap, sym, ◌∙◌, Box, Global}
use Rattle.ft_operators.specs.declared.node.Node.{Node, Phrase, Choice', Both', MildNot', Negated', Filtered'}
use Rattle.ft_operators.specs.declared.node.Node as N
use Rattle.ft_operators.specs.declared.node.Fork.{Fork}
use Rattle.ft_operators.specs.declared.node.Pair.{Pair}
use Rattle.ft_operators.specs.declared.node.Negation.{Negation}
use Rattle.ft_operators.specs.declared.node.Sieve.{Sieve}
use Rattle.ft_operators.specs.Phrases.{PhraseState}
use Rattle.ft_operators.specs.steps.Forms.{choice_frame, both_frame, apart_frame, negated_frame, filtered_frame}
use Rattle.ft_operators.specs.steps.Nodes.{frame_of}
use Rattle.ft_operators.specs.steps.Rising.{Left, left_of, left_of_one, left_of_phrase, left_of_two}

module _ {P : Type 0} (state : P → PhraseState) where
  pub left_Phrase : (found : P) → left_of state (N.Phrase found) ≡ left_of_phrase (state found)
  unfolding left_of
  left_Phrase found = refl

  pub left_Choice : (fork : Box (Fork P) Global) → left_of state (N.Choice fork) ≡ left_of_two choice_frame (left_of state fork.value.left) (left_of state fork.value.right)
  unfolding left_of
  left_Choice fork = refl

  pub left_Both : (pair : Box (Pair P) Global) → left_of state (N.Both pair) ≡ left_of_two both_frame (left_of state pair.value.left) (left_of state pair.value.right)
  unfolding left_of
  left_Both pair = refl

  pub left_MildNot : (pair : Box (Pair P) Global) → left_of state (N.MildNot pair) ≡ left_of_two apart_frame (left_of state pair.value.left) (left_of state pair.value.right)
  unfolding left_of
  left_MildNot pair = refl

  pub left_Negated : (negation : Box (Negation P) Global) → left_of state (N.Negated negation) ≡ left_of_one negated_frame (left_of state negation.value.operand)
  unfolding left_of
  left_Negated negation = refl

  pub left_Filtered : (sieve : Box (Sieve P) Global) → left_of state (N.Filtered sieve) ≡ left_of_one (filtered_frame sieve.value.kind) (left_of state sieve.value.operand)
  unfolding left_of
  left_Filtered sieve = refl

  -- told of what a node lends of its inside, which may be lent once for each side
  pub lent_Phrase : (node : Node P) (found : P) → node ≡ N.Phrase found → left_of state node ≡ left_of_phrase (state found)
  lent_Phrase node found is = ap (left_of state) is ∙ left_Phrase found

  pub lent_Choice : (node : Node P) (fork : Box (Fork P) Global) (lent other : Fork P) → node ≡ N.Choice fork → lent ≡ fork.value → other ≡ fork.value
      → left_of state node ≡ left_of_two choice_frame (left_of state lent.left) (left_of state other.right)
  lent_Choice node fork lent other is same again =
      ap (left_of state) is ∙ left_Choice fork ∙ (λ i. left_of_two choice_frame (left_of state ((sym same) i).left) (left_of state ((sym again) i).right))

  pub lent_Both : (node : Node P) (pair : Box (Pair P) Global) (lent other : Pair P) → node ≡ N.Both pair → lent ≡ pair.value → other ≡ pair.value
      → left_of state node ≡ left_of_two both_frame (left_of state lent.left) (left_of state other.right)
  lent_Both node pair lent other is same again =
      ap (left_of state) is ∙ left_Both pair ∙ (λ i. left_of_two both_frame (left_of state ((sym same) i).left) (left_of state ((sym again) i).right))

  pub lent_MildNot : (node : Node P) (pair : Box (Pair P) Global) (lent other : Pair P) → node ≡ N.MildNot pair → lent ≡ pair.value → other ≡ pair.value
      → left_of state node ≡ left_of_two apart_frame (left_of state lent.left) (left_of state other.right)
  lent_MildNot node pair lent other is same again =
      ap (left_of state) is ∙ left_MildNot pair ∙ (λ i. left_of_two apart_frame (left_of state ((sym same) i).left) (left_of state ((sym again) i).right))

  pub lent_Negated : (node : Node P) (negation : Box (Negation P) Global) (lent : Negation P) → node ≡ N.Negated negation → lent ≡ negation.value
      → left_of state node ≡ left_of_one negated_frame (left_of state lent.operand)
  lent_Negated node negation lent is same = ap (left_of state) is ∙ left_Negated negation ∙ ap (λ (n : Negation P). left_of_one negated_frame (left_of state n.operand)) (sym same)

  pub lent_Filtered : (node : Node P) (sieve : Box (Sieve P) Global) (lent : Sieve P) → node ≡ N.Filtered sieve → lent ≡ sieve.value
      → left_of state node ≡ left_of_one (filtered_frame lent.kind) (left_of state lent.operand)
  lent_Filtered node sieve lent is same = ap (left_of state) is ∙ left_Filtered sieve ∙ ap (λ (s : Sieve P). left_of_one (filtered_frame s.kind) (left_of state s.operand)) (sym same)

  -- the frame that is seen beside what is left is the node's
  pub left_frame : (node : Node P) → (left_of state node).frame_now ≡ frame_of state node
  unfolding left_of frame_of
  left_frame (Phrase found) = refl
  left_frame (Choice' p left right second) = λ i. choice_frame (left_frame left i) (left_frame right i)
  left_frame (Both' p left right) = λ i. both_frame (left_frame left i) (left_frame right i)
  left_frame (MildNot' p left right) = λ i. apart_frame (left_frame left i) (left_frame right i)
  left_frame (Negated' p operand there) = λ i. negated_frame (left_frame operand i)
  left_frame (Filtered' p operand kind lead) = λ i. filtered_frame kind (left_frame operand i)
