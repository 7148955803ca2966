-- What each kind of compiled operator is when it is opened.
use Rattle.std.proofs.Common.{◌≡◌, refl, sym, ap, ◌∙◌, List, map, Box, Global}
use Rattle.all_matches.specs.Ways.{Operator, either, together, apart, negated, through_filter}
use Rattle.ft_operators.specs.Phrases.{PhraseState}
use Rattle.ft_operators.specs.Standing.{Aims, phrase_aims, one_aims, two_aims}
use Rattle.ft_operators.specs.Tuples.{walk_of}
use Rattle.ft_operators.specs.Walk.{Walk, joined_walk, made_walk, phrase_walk}
use Rattle.ft_operators.specs.declared.tuples.Tuples.{Tuples}
use Rattle.index_meaning.specs.Documents.{Numbered}
use Rattle.index_phrases.specs.Cursors as cursors
use Rattle.index_phrases.specs.Cursors.{new_state, state_of}
use Rattle.index_phrases.specs.declared.phrase_cursor.PhraseCursor.{PhraseCursor}
use Rattle.index_phrases.specs.declared.word_terms.WordTerms.{WordTerms}
use Rattle.word_lists.specs.Stems.{Stem}
use Rattle.plan_runs.specs.steps.OpenedItems.{opened_variant}
use Rattle.plan_runs.specs.steps.OpenedOperators.{aims_of, opened_aims, phrase_opened}
use Rattle.plan_compiler.specs.declared.looks.Looks.{Looks}
use Rattle.plan_compiler.specs.declared.operator_plan.FilteredPlan.{FilteredPlan}
use Rattle.plan_compiler.specs.declared.operator_plan.NegatedPlan.{NegatedPlan}
use Rattle.plan_compiler.specs.declared.operator_plan.OperatorPlan.{OperatorPlan}
use Rattle.plan_compiler.specs.declared.operator_plan.OperatorPlan as O
use Rattle.plan_compiler.specs.declared.operator_plan.OperatorSides.{OperatorSides}
use Rattle.plan_compiler.specs.declared.operator_plan.PhraseTests.{PhraseTests}

module _ (looks : Looks) (stems : List Stem) (version : List Numbered) where
  abbrev opened : OperatorPlan → Aims
  opened plan = opened_aims looks stems version plan

  -- ---- phrases

  pub phrase_is : (tuples : Tuples PhraseCursor) (cursor : PhraseCursor) (found : PhraseTests) (terms : List (List WordTerms)) → walk_of state_of tuples ≡ phrase_walk (state_of cursor)
      → state_of cursor ≡ new_state version found.number terms → terms ≡ map (opened_variant looks stems version) found.variants → aims_of tuples ≡ phrase_opened looks stems version found
  phrase_is tuples cursor found terms walk state are =
      ap (λ (w : Walk). w.aims) walk
      ∙ ap (λ (s : PhraseState). phrase_aims s.aims) state
      ∙ ap (λ (ts : List (List WordTerms)). phrase_aims (cursors.phrase_aims version found.number ts)) are

  -- ---- what is made of phrases

  at_Phrase : (found : PhraseTests) → opened (O.Phrase found) ≡ phrase_opened looks stems version found
  unfolding opened_aims
  at_Phrase found = refl

  at_Choice : (sides : Box OperatorSides Global) → opened (O.Choice sides) ≡ two_aims either (opened sides.value.left) (opened sides.value.right)
  unfolding opened_aims
  at_Choice sides = refl

  at_Both : (sides : Box OperatorSides Global) → opened (O.Both sides) ≡ two_aims together (opened sides.value.left) (opened sides.value.right)
  unfolding opened_aims
  at_Both sides = refl

  at_MildNot : (sides : Box OperatorSides Global) → opened (O.MildNot sides) ≡ two_aims apart (opened sides.value.left) (opened sides.value.right)
  unfolding opened_aims
  at_MildNot sides = refl

  at_Negated : (own : Box NegatedPlan Global) → opened (O.Negated own) ≡ one_aims negated (opened own.value.operand)
  unfolding opened_aims
  at_Negated own = refl

  at_Filtered : (own : Box FilteredPlan Global) → opened (O.Filtered own) ≡ one_aims (λ operator. through_filter operator own.value.kind) (opened own.value.operand)
  unfolding opened_aims
  at_Filtered own = refl

  module _ (plan : OperatorPlan) (tuples : Tuples PhraseCursor) where
    pub opened-Phrase : (found : PhraseTests) → plan ≡ O.Phrase found → aims_of tuples ≡ phrase_opened looks stems version found → aims_of tuples ≡ opened plan
    opened-Phrase found is one = one ∙ sym (ap opened is ∙ at_Phrase found)

    module _ (sides : Box OperatorSides Global) (lent : OperatorSides) (same : lent ≡ sides.value) (left right : Tuples PhraseCursor) (l : aims_of left ≡ opened lent.left) (r : aims_of right ≡ opened lent.right) where
      sides_are : (join : Operator → Operator → Operator) → walk_of state_of tuples ≡ joined_walk join (walk_of state_of left) (walk_of state_of right)
          → aims_of tuples ≡ two_aims join (opened sides.value.left) (opened sides.value.right)
      sides_are join walk =
          ap (λ (w : Walk). w.aims) walk
          ∙ (λ i. two_aims join (l i) (r i))
          ∙ ap (λ (s : OperatorSides). two_aims join (opened s.left) (opened s.right)) same

      pub opened-Choice : plan ≡ O.Choice sides → walk_of state_of tuples ≡ joined_walk either (walk_of state_of left) (walk_of state_of right) → aims_of tuples ≡ opened plan
      opened-Choice is walk = sides_are either walk ∙ sym (ap opened is ∙ at_Choice sides)

      pub opened-Both : plan ≡ O.Both sides → walk_of state_of tuples ≡ joined_walk together (walk_of state_of left) (walk_of state_of right) → aims_of tuples ≡ opened plan
      opened-Both is walk = sides_are together walk ∙ sym (ap opened is ∙ at_Both sides)

      pub opened-MildNot : plan ≡ O.MildNot sides → walk_of state_of tuples ≡ joined_walk apart (walk_of state_of left) (walk_of state_of right) → aims_of tuples ≡ opened plan
      opened-MildNot is walk = sides_are apart walk ∙ sym (ap opened is ∙ at_MildNot sides)

    module _ (operand : Tuples PhraseCursor) where
      operand_is : (make : Operator → Operator) (aims : Aims) → aims_of operand ≡ aims → walk_of state_of tuples ≡ made_walk make (walk_of state_of operand) → aims_of tuples ≡ one_aims make aims
      operand_is make aims one walk = ap (λ (w : Walk). w.aims) walk ∙ ap (λ (a : Aims). one_aims make a) one

      pub opened-Negated : (own : Box NegatedPlan Global) (lent : NegatedPlan) → lent ≡ own.value → plan ≡ O.Negated own → aims_of operand ≡ opened lent.operand
          → walk_of state_of tuples ≡ made_walk negated (walk_of state_of operand) → aims_of tuples ≡ opened plan
      opened-Negated own lent same is one walk =
          operand_is negated (opened own.value.operand) (one ∙ ap (λ (p : NegatedPlan). opened p.operand) same) walk ∙ sym (ap opened is ∙ at_Negated own)

      pub opened-Filtered : (own : Box FilteredPlan Global) (lent again : FilteredPlan) → lent ≡ own.value → again ≡ own.value → plan ≡ O.Filtered own → aims_of operand ≡ opened lent.operand
          → walk_of state_of tuples ≡ made_walk (λ operator. through_filter operator again.kind) (walk_of state_of operand) → aims_of tuples ≡ opened plan
      opened-Filtered own lent again same likewise is one walk =
          operand_is (λ operator. through_filter operator again.kind) (opened own.value.operand) (one ∙ ap (λ (p : FilteredPlan). opened p.operand) same) walk
          ∙ ap (λ (p : FilteredPlan). one_aims (λ operator. through_filter operator p.kind) (opened own.value.operand)) likewise
          ∙ sym (ap opened is ∙ at_Filtered own)
