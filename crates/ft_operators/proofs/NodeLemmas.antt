-- Where the walk through a node stands, kind by kind.
use Rattle.std.proofs.Common.{◌≡◌, refl, ap, sym, ◌∙◌, ℕ, Bool, Box, Global}
use Rattle.ft_base.specs.Lists.{is_not_empty}
use Rattle.ft_operators.specs.declared.course.Course.{Course}
use Rattle.ft_operators.specs.declared.node.Node.{Node}
use Rattle.ft_operators.specs.declared.node.Node as N
use Rattle.ft_operators.specs.declared.node.Fork.{Fork}
use Rattle.ft_operators.specs.declared.node.Pair.{Pair}
use Rattle.ft_operators.specs.declared.node.Negation.{Negation}
use Rattle.ft_operators.specs.declared.node.Sieve.{Sieve}
use Rattle.ft_operators.specs.Phrases.{PhraseState}
use Rattle.ft_operators.specs.Standing.{Standing}
use Rattle.ft_operators.specs.steps.Forms.{phrase_of}
use Rattle.ft_operators.specs.steps.Nodes.{standing, fork_standing, pair_standing, apart_standing, negation_standing, sieve_standing}
use Rattle.ft_operators.specs.steps.Walking.{Moved}

module _ {P : Type 0} (state : P → PhraseState) (course : Course) where
  pub standing_Phrase : (found : P) → standing state course (N.Phrase found) ≡ phrase_of (state found)
  unfolding standing
  standing_Phrase found = refl

  pub standing_Choice : (fork : Box (Fork P) Global) → standing state course (N.Choice fork) ≡ fork_standing state course fork.value
  unfolding standing
  standing_Choice fork = refl

  pub standing_Both : (pair : Box (Pair P) Global) → standing state course (N.Both pair) ≡ pair_standing state course pair.value
  unfolding standing
  standing_Both pair = refl

  pub standing_MildNot : (pair : Box (Pair P) Global) → standing state course (N.MildNot pair) ≡ apart_standing state course pair.value
  unfolding standing
  standing_MildNot pair = refl

  pub standing_Negated : (negation : Box (Negation P) Global) → standing state course (N.Negated negation) ≡ negation_standing state course negation.value
  unfolding standing
  standing_Negated negation = refl

  pub standing_Filtered : (sieve : Box (Sieve P) Global) → standing state course (N.Filtered sieve) ≡ sieve_standing state course sieve.value
  unfolding standing
  standing_Filtered sieve = refl

  -- what a node stands for, told of its inside where that is lent
  pub inside_Phrase : (node : Node P) (found : P) → node ≡ N.Phrase found → standing state course node ≡ phrase_of (state found)
  inside_Phrase node found is = ap (standing state course) is ∙ standing_Phrase found

  pub inside_Choice : (node : Node P) (fork : Box (Fork P) Global) (lent : Fork P) → node ≡ N.Choice fork → lent ≡ fork.value → standing state course node ≡ fork_standing state course lent
  inside_Choice node fork lent is same = ap (standing state course) is ∙ standing_Choice fork ∙ ap (fork_standing state course) (sym same)

  pub inside_Both : (node : Node P) (pair : Box (Pair P) Global) (lent : Pair P) → node ≡ N.Both pair → lent ≡ pair.value → standing state course node ≡ pair_standing state course lent
  inside_Both node pair lent is same = ap (standing state course) is ∙ standing_Both pair ∙ ap (pair_standing state course) (sym same)

  pub inside_MildNot : (node : Node P) (pair : Box (Pair P) Global) (lent : Pair P) → node ≡ N.MildNot pair → lent ≡ pair.value → standing state course node ≡ apart_standing state course lent
  inside_MildNot node pair lent is same = ap (standing state course) is ∙ standing_MildNot pair ∙ ap (apart_standing state course) (sym same)

  pub inside_Negated : (node : Node P) (negation : Box (Negation P) Global) (lent : Negation P) → node ≡ N.Negated negation → lent ≡ negation.value
      → standing state course node ≡ negation_standing state course lent
  inside_Negated node negation lent is same = ap (standing state course) is ∙ standing_Negated negation ∙ ap (negation_standing state course) (sym same)

  pub inside_Filtered : (node : Node P) (sieve : Box (Sieve P) Global) (lent : Sieve P) → node ≡ N.Filtered sieve → lent ≡ sieve.value
      → standing state course node ≡ sieve_standing state course lent
  inside_Filtered node sieve lent is same = ap (standing state course) is ∙ standing_Filtered sieve ∙ ap (sieve_standing state course) (sym same)

-- a move that is told of what a node has inside, told of the node
pub moved_inside : (inside node wanted other : Standing) (room new_room start end : ℕ) (answer : Bool) → node ≡ inside → wanted ≡ other
    → Moved wanted inside room new_room start end answer → Moved other node room new_room start end answer
moved_inside inside node wanted other room new_room start end answer same to m = record {
  stand = same ∙ m.stand ∙ to;
  there = m.there ∙ ap (λ s. is_not_empty s.rest) (sym same);
  kept_room = m.kept_room;
  grown = m.grown;
}
