-- What each kind of compiled operator is when its phrases are opened variant by variant, and which of them ask for windows and scopes alone.
use Rattle.std.proofs.Common.{◌≡◌, refl, sym, ap, ◌∙◌, ◌&&◌, ◌++◌, true, true≢false, List, Box, Global}
use Rattle.all_matches.specs.Ways.{Operator, either, together, through_filter}
use Rattle.ft_operators.specs.Phrases.{PhraseAims}
use Rattle.ft_operators.specs.Standing.{Aims, one_aims, two_aims}
use Rattle.index_meaning.specs.Documents.{Numbered}
use Rattle.index_phrases.specs.Cursors.{state_of}
use Rattle.index_phrases.specs.declared.phrase_cursor.PhraseCursor.{PhraseCursor}
use Rattle.phrase_merges.specs.Near.{is_field}
use Rattle.phrase_merges.specs.NearTrees.{lists_aims, near_aims, near_lists}
use Rattle.phrase_merges.specs.declared.near_tree.NearTree.{NearTree}
use Rattle.word_lists.specs.Stems.{Stem}
use Rattle.plan_compiler.specs.declared.looks.Looks.{Looks}
use Rattle.plan_compiler.specs.declared.operator_plan.FilteredPlan.{FilteredPlan}
use Rattle.plan_compiler.specs.declared.operator_plan.NegatedPlan.{NegatedPlan}
use Rattle.plan_compiler.specs.declared.operator_plan.OperatorPlan.{OperatorPlan}
use Rattle.plan_compiler.specs.declared.operator_plan.OperatorPlan as O
use Rattle.plan_compiler.specs.declared.operator_plan.OperatorSides.{OperatorSides}
use Rattle.plan_compiler.specs.declared.operator_plan.PhraseTests.{PhraseTests}
use Rattle.plan_kinds.specs.steps.NearPlans.{is_near}
use Rattle.plan_runs.specs.steps.NearRuns.{near_opened, variant_lists}
use Rattle.plan_runs.specs.steps.Passes.{phrase_variants}

-- ---- which ask for nothing else

module _ (plan : OperatorPlan) (h : is_near plan ≡ true) where
  pub near_choice : (sides : Box OperatorSides Global) (lent : OperatorSides) → lent ≡ sides.value → plan ≡ O.Choice sides → (is_near lent.left && is_near lent.right) ≡ true
  unfolding is_near
  near_choice sides lent same is = ap (λ (s : OperatorSides). is_near s.left && is_near s.right) same ∙ sym (ap is_near is) ∙ h

  pub near_both : (sides : Box OperatorSides Global) (lent : OperatorSides) → lent ≡ sides.value → plan ≡ O.Both sides → (is_near lent.left && is_near lent.right) ≡ true
  unfolding is_near
  near_both sides lent same is = ap (λ (s : OperatorSides). is_near s.left && is_near s.right) same ∙ sym (ap is_near is) ∙ h

  pub near_operand : (own : Box FilteredPlan Global) (lent : FilteredPlan) → lent ≡ own.value → plan ≡ O.Filtered own → (is_field lent.kind && is_near lent.operand) ≡ true
  unfolding is_near
  near_operand own lent same is = ap (λ (f : FilteredPlan). is_field f.kind && is_near f.operand) same ∙ sym (ap is_near is) ∙ h

  pub no_mild_not : (sides : Box OperatorSides Global) → plan ≡ O.MildNot sides → ⊥
  unfolding is_near
  no_mild_not sides is = true≢false (sym h ∙ ap is_near is)

  pub no_negated : (own : Box NegatedPlan Global) → plan ≡ O.Negated own → ⊥
  unfolding is_near
  no_negated own is = true≢false (sym h ∙ ap is_near is)

module _ (looks : Looks) (stems : List Stem) (version : List Numbered) where
  abbrev opened : OperatorPlan → Aims
  opened plan = near_opened looks stems version plan

  abbrev listed : OperatorPlan → List PhraseAims
  listed plan = variant_lists looks stems version plan

  -- ---- where they may be aimed

  at_Phrase : (found : PhraseTests) → opened (O.Phrase found) ≡ lists_aims (phrase_variants looks stems version found)
  unfolding near_opened
  at_Phrase found = refl

  at_Choice : (sides : Box OperatorSides Global) → opened (O.Choice sides) ≡ two_aims either (opened sides.value.left) (opened sides.value.right)
  unfolding near_opened
  at_Choice sides = refl

  at_Both : (sides : Box OperatorSides Global) → opened (O.Both sides) ≡ two_aims together (opened sides.value.left) (opened sides.value.right)
  unfolding near_opened
  at_Both sides = refl

  at_Filtered : (own : Box FilteredPlan Global) → opened (O.Filtered own) ≡ one_aims (λ operator. through_filter operator own.value.kind) (opened own.value.operand)
  unfolding near_opened
  at_Filtered own = refl

  -- ---- the variants of their phrases

  lists_Phrase : (found : PhraseTests) → listed (O.Phrase found) ≡ phrase_variants looks stems version found
  unfolding variant_lists
  lists_Phrase found = refl

  lists_Choice : (sides : Box OperatorSides Global) → listed (O.Choice sides) ≡ listed sides.value.left ++ listed sides.value.right
  unfolding variant_lists
  lists_Choice sides = refl

  lists_Both : (sides : Box OperatorSides Global) → listed (O.Both sides) ≡ listed sides.value.left ++ listed sides.value.right
  unfolding variant_lists
  lists_Both sides = refl

  lists_Filtered : (own : Box FilteredPlan Global) → listed (O.Filtered own) ≡ listed own.value.operand
  unfolding variant_lists
  lists_Filtered own = refl

  module _ (plan : OperatorPlan) (tree : NearTree PhraseCursor) where
    pub aims-Phrase : (found : PhraseTests) → plan ≡ O.Phrase found → near_aims state_of tree ≡ lists_aims (phrase_variants looks stems version found) → near_aims state_of tree ≡ opened plan
    aims-Phrase found is one = one ∙ sym (ap opened is ∙ at_Phrase found)

    pub lists-Phrase : (found : PhraseTests) → plan ≡ O.Phrase found → near_lists state_of tree ≡ phrase_variants looks stems version found → near_lists state_of tree ≡ listed plan
    lists-Phrase found is one = one ∙ sym (ap listed is ∙ lists_Phrase found)

    module _ (sides : Box OperatorSides Global) (lent : OperatorSides) (same : lent ≡ sides.value) (left right : NearTree PhraseCursor) where
      module _ (l : near_aims state_of left ≡ opened lent.left) (r : near_aims state_of right ≡ opened lent.right) where
        sides_are : (join : Operator → Operator → Operator) → near_aims state_of tree ≡ two_aims join (near_aims state_of left) (near_aims state_of right)
            → near_aims state_of tree ≡ two_aims join (opened sides.value.left) (opened sides.value.right)
        sides_are join made = made ∙ (λ i. two_aims join (l i) (r i)) ∙ ap (λ (s : OperatorSides). two_aims join (opened s.left) (opened s.right)) same

        pub aims-Choice : plan ≡ O.Choice sides → near_aims state_of tree ≡ two_aims either (near_aims state_of left) (near_aims state_of right) → near_aims state_of tree ≡ opened plan
        aims-Choice is made = sides_are either made ∙ sym (ap opened is ∙ at_Choice sides)

        pub aims-Both : plan ≡ O.Both sides → near_aims state_of tree ≡ two_aims together (near_aims state_of left) (near_aims state_of right) → near_aims state_of tree ≡ opened plan
        aims-Both is made = sides_are together made ∙ sym (ap opened is ∙ at_Both sides)

      module _ (l : near_lists state_of left ≡ listed lent.left) (r : near_lists state_of right ≡ listed lent.right) where
        sides_listed : near_lists state_of tree ≡ near_lists state_of left ++ near_lists state_of right → near_lists state_of tree ≡ listed sides.value.left ++ listed sides.value.right
        sides_listed made = made ∙ (λ i. l i ++ r i) ∙ ap (λ (s : OperatorSides). listed s.left ++ listed s.right) same

        pub lists-Choice : plan ≡ O.Choice sides → near_lists state_of tree ≡ near_lists state_of left ++ near_lists state_of right → near_lists state_of tree ≡ listed plan
        lists-Choice is made = sides_listed made ∙ sym (ap listed is ∙ lists_Choice sides)

        pub lists-Both : plan ≡ O.Both sides → near_lists state_of tree ≡ near_lists state_of left ++ near_lists state_of right → near_lists state_of tree ≡ listed plan
        lists-Both is made = sides_listed made ∙ sym (ap listed is ∙ lists_Both sides)

    module _ (own : Box FilteredPlan Global) (lent again : FilteredPlan) (same : lent ≡ own.value) (likewise : again ≡ own.value) (operand : NearTree PhraseCursor) (is : plan ≡ O.Filtered own) where
      pub aims-Filtered : near_aims state_of operand ≡ opened lent.operand
          → near_aims state_of tree ≡ one_aims (λ operator. through_filter operator again.kind) (near_aims state_of operand) → near_aims state_of tree ≡ opened plan
      aims-Filtered one made =
          made
          ∙ ap (λ (a : Aims). one_aims (λ operator. through_filter operator again.kind) a) (one ∙ ap (λ (f : FilteredPlan). opened f.operand) same)
          ∙ ap (λ (f : FilteredPlan). one_aims (λ operator. through_filter operator f.kind) (opened own.value.operand)) likewise
          ∙ sym (ap opened is ∙ at_Filtered own)

      pub lists-Filtered : near_lists state_of operand ≡ listed lent.operand → near_lists state_of tree ≡ near_lists state_of operand → near_lists state_of tree ≡ listed plan
      lists-Filtered one made = made ∙ one ∙ ap (λ (f : FilteredPlan). listed f.operand) same ∙ sym (ap listed is ∙ lists_Filtered own)
