-- What each kind of compiled operator needs, and up to where a part of a document can be skipped by each kind of need.
use Rattle.std.proofs.Common.{◌≡◌, refl, sym, ap, ◌∙◌, ℕ, List, map, Option, Some, Box, Global}
use Rattle.std.specs.declared.vec.Vec.{Vec}
use Rattle.std.proofs.lemmas.Simd.{map-map}
use Rattle.ft_base.specs.declared.span.Span.{Span}
use Rattle.index_meaning.specs.Documents.{Numbered}
use Rattle.index_versions.specs.FirstPlaces.{sooner, soonest}
use Rattle.index_phrases.specs.declared.word_terms.WordTerms.{WordTerms}
use Rattle.word_lists.specs.Stems.{Stem}
use Rattle.plan_runs.specs.steps.Skips.{later, needed_variants, opened_skip, skip_of, variant_skip, variants_skip, vectors_skip}
use Rattle.index_phrases.specs.steps.Aiming.{variant_words}
use Rattle.plan_compiler.specs.declared.looks.Looks.{Looks}
use Rattle.plan_runs.specs.declared.needs.NeededSides.{NeededSides}
use Rattle.plan_runs.specs.declared.needs.Needs.{Needs}
use Rattle.plan_runs.specs.declared.needs.Needs as N
use Rattle.plan_compiler.specs.declared.operator_plan.FilteredPlan.{FilteredPlan}
use Rattle.plan_compiler.specs.declared.operator_plan.NegatedPlan.{NegatedPlan}
use Rattle.plan_compiler.specs.declared.operator_plan.OperatorPlan.{OperatorPlan}
use Rattle.plan_compiler.specs.declared.operator_plan.OperatorPlan as O
use Rattle.plan_compiler.specs.declared.operator_plan.OperatorSides.{OperatorSides}
use Rattle.plan_compiler.specs.declared.operator_plan.PhraseTests.{PhraseTests}

-- ---- up to where it can be skipped

pub skip-Nothing : (doc : ℕ) (part : Span) → skip_of N.Nothing doc part ≡ Some 0
unfolding skip_of
skip-Nothing doc part = refl

pub skip-Phrase : (variants : Vec (Vec WordTerms Global) Global) (doc : ℕ) (part : Span) → skip_of (N.Phrase variants) doc part ≡ vectors_skip doc part variants.items
unfolding skip_of
skip-Phrase variants doc part = refl

pub skip-OneOf : (sides : Box NeededSides Global) (doc : ℕ) (part : Span)
    → skip_of (N.OneOf sides) doc part ≡ sooner (skip_of sides.value.left doc part) (skip_of sides.value.right doc part)
unfolding skip_of
skip-OneOf sides doc part = refl

pub skip-AllOf : (sides : Box NeededSides Global) (doc : ℕ) (part : Span)
    → skip_of (N.AllOf sides) doc part ≡ later (skip_of sides.value.left doc part) (skip_of sides.value.right doc part)
unfolding skip_of
skip-AllOf sides doc part = refl

-- ---- what looks the same is skipped up to the same places

pub same-Phrase : (old new : Vec (Vec WordTerms Global) Global) → map variant_words new.items ≡ map variant_words old.items → skip_of (N.Phrase new) ≡ skip_of (N.Phrase old)
unfolding skip_of
same-Phrase old new same =
    λ i doc part. (ap soonest (sym (map-map (variant_skip doc part) variant_words new.items))
    ∙ ap (variants_skip doc part) same
    ∙ ap soonest (map-map (variant_skip doc part) variant_words old.items)) i

module _ (old new : Box NeededSides Global) (left : skip_of new.value.left ≡ skip_of old.value.left) (right : skip_of new.value.right ≡ skip_of old.value.right) where
  pub same-OneOf : skip_of (N.OneOf new) ≡ skip_of (N.OneOf old)
  unfolding skip_of
  same-OneOf = λ i doc part. sooner (left i doc part) (right i doc part)

  pub same-AllOf : skip_of (N.AllOf new) ≡ skip_of (N.AllOf old)
  unfolding skip_of
  same-AllOf = λ i doc part. later (left i doc part) (right i doc part)

-- ---- what is needed

module _ (looks : Looks) (stems : List Stem) (version : List Numbered) where
  abbrev opened : OperatorPlan → ℕ → Span → Option ℕ
  opened plan = opened_skip looks stems version plan

  pub needs-Phrase : (variants : Vec (Vec WordTerms Global) Global) (found : PhraseTests)
      → map variant_words variants.items ≡ needed_variants looks stems version found.variants → skip_of (N.Phrase variants) ≡ opened (O.Phrase found)
  unfolding skip_of opened_skip
  needs-Phrase variants found are =
      λ i doc part. (ap soonest (sym (map-map (variant_skip doc part) variant_words variants.items)) ∙ ap (variants_skip doc part) are) i

  module _ (needed : Box NeededSides Global) (sides : Box OperatorSides Global)
      (left : skip_of needed.value.left ≡ opened sides.value.left) (right : skip_of needed.value.right ≡ opened sides.value.right) where
    pub needs-Choice : skip_of (N.OneOf needed) ≡ opened (O.Choice sides)
    unfolding skip_of opened_skip
    needs-Choice = λ i doc part. sooner (left i doc part) (right i doc part)

    pub needs-Both : skip_of (N.AllOf needed) ≡ opened (O.Both sides)
    unfolding skip_of opened_skip
    needs-Both = λ i doc part. later (left i doc part) (right i doc part)

  pub needs-MildNot : (sides : Box OperatorSides Global) → opened (O.MildNot sides) ≡ opened sides.value.left
  unfolding opened_skip
  needs-MildNot sides = refl

  pub needs-Negated : (own : Box NegatedPlan Global) → skip_of N.Nothing ≡ opened (O.Negated own)
  unfolding skip_of opened_skip
  needs-Negated own = refl

  pub needs-Filtered : (own : Box FilteredPlan Global) → opened (O.Filtered own) ≡ opened own.value.operand
  unfolding opened_skip
  needs-Filtered own = refl
