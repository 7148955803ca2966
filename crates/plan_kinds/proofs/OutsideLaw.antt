-- The plans that are recognized as asking for a phrase outside another one.
use Rattle.std.proofs.Common.{◌≡◌, refl, sym, ap, subst, ◌∙◌, ℕ, true, ◌&&◌, Option, Some, None}
use Rattle.std.specs.Option.{option_or}
use Rattle.std.proofs.lemmas.Bool.{and_parts}
use Rattle.std.proofs.lemmas.Option.{cond_some, none-some, same_Some}
use Rattle.ft_base.specs.declared.filter.Filter.{Filter}
use Rattle.ft_base.specs.declared.filter.Filter.TheVariants as F
use Rattle.ft_base.specs.declared.unit.TextUnit.TheVariants as Unit
use Rattle.spot_merges.specs.declared.outside.Outside.{Outside}
use Rattle.spot_merges.specs.declared.outside.Outside.TheVariants.{Cover, Window}
use Rattle.plan_compiler.specs.declared.operator_plan.OperatorPlan.{OperatorPlan, Phrase, Choice', Both', MildNot', Negated', Filtered'}
use Rattle.plan_compiler.specs.declared.operator_plan.PhraseTests.{PhraseTests}
use Rattle.plan_compiler.specs.CheapPlans.{is_word}
use Rattle.plan_kinds.specs.steps.JoinedPhrases.{negated_phrase, phrase_of}
use Rattle.plan_kinds.specs.steps.OutsidePhrases.{filter_outside, found_outside, outside_of, phrase_without, when_words, word_without}
use Rattle.plan_kinds.specs.steps.PlacedPhrases.{both_of}
use Rattle.plan_kinds.proofs.PlacedLaw.{both_found, phrase_is}

-- what is so of each plan that negates a phrase is so of one that negates this one
negation_is : (P : OperatorPlan → Type 0) (found : PhraseTests) → ((p : _) → P (Negated' p (Phrase found))) → (plan : OperatorPlan) → negated_phrase plan ≡ Some found → P plan
negation_is P found each (Phrase own) h = absurd (none-some found h)
negation_is P found each (Choice' p left right) h = absurd (none-some found h)
negation_is P found each (Both' p left right) h = absurd (none-some found h)
negation_is P found each (MildNot' p left right) h = absurd (none-some found h)
negation_is P found each (Negated' p operand) h = subst (λ (own : OperatorPlan). P (Negated' p own)) (sym (phrase_is operand found h)) (each p)
negation_is P found each (Filtered' p operand kind) h = absurd (none-some found h)

-- a window in words
record IsWindow (kind : Filter) (outside : Outside) : Type 0 where
  size : ℕ
  kind_is : kind ≡ F.Window size Unit.Words
  outside_is : outside ≡ Window size

window_is : (kind : Filter) (outside : Outside) → filter_outside kind ≡ Some outside → IsWindow kind outside
window_is F.Ordered outside h = absurd (none-some outside h)
window_is (F.Window size Unit.Words) outside h = record { size = size; kind_is = refl; outside_is = sym (same_Some (Window size) outside h) }
window_is (F.Window size Unit.Sentences) outside h = absurd (none-some outside h)
window_is (F.Window size Unit.Paragraphs) outside h = absurd (none-some outside h)
window_is (F.Distance range unit) outside h = absurd (none-some outside h)
window_is F.SameSentence outside h = absurd (none-some outside h)
window_is F.SameParagraph outside h = absurd (none-some outside h)
window_is F.DifferentSentence outside h = absurd (none-some outside h)
window_is F.DifferentParagraph outside h = absurd (none-some outside h)
window_is F.AtStart outside h = absurd (none-some outside h)
window_is F.AtEnd outside h = absurd (none-some outside h)
window_is F.EntireContent outside h = absurd (none-some outside h)

-- two phrases that were found are single words
record AreWords (found : Option (PhraseTests × PhraseTests)) (word other : PhraseTests) : Type 0 where
  found_are : found ≡ Some (word, other)
  one : is_word word ≡ true
  two : is_word other ≡ true

words_are : (found : Option (PhraseTests × PhraseTests)) (word other : PhraseTests) → when_words found ≡ Some (word, other) → AreWords found word other
words_are None word other h = absurd (none-some (word, other) h)
words_are (Some pair) word other h =
    let parts = cond_some (is_word pair.0 && is_word pair.1) pair (word, other) h in
    let words = and_parts (is_word pair.0) (is_word pair.1) parts.0 in
    record {
      found_are = ap Some parts.1;
      one = sym (ap (λ (found : PhraseTests × PhraseTests). is_word found.0) parts.1) ∙ words.0;
      two = sym (ap (λ (found : PhraseTests × PhraseTests). is_word found.1) parts.1) ∙ words.1;
    }

-- two phrases and how the first has to stand outside the second
found_are : (kind : Option Outside) (found : Option (PhraseTests × PhraseTests)) (outside : Outside) (left right : PhraseTests)
    → found_outside kind found ≡ Some (outside, left, right) → (kind ≡ Some outside) × (found ≡ Some (left, right))
found_are None found outside left right h = absurd (none-some (outside, left, right) h)
found_are (Some own) None outside left right h = absurd (none-some (outside, left, right) h)
found_are (Some own) (Some pair) outside left right h =
    let same = same_Some (own, pair.0, pair.1) (outside, left, right) h in
    (ap (λ q. Some q.0) same, ap (λ q. Some (q.1, q.2)) same)

module _ (word other : PhraseTests) (P : OperatorPlan → Type 0) (last : (p : _) (q : _) → P (Both' p (Phrase word) (Negated' q (Phrase other))))
    (first : (p : _) (q : _) → P (Both' p (Negated' q (Phrase other)) (Phrase word))) where
  sides_are : (p : _) (a b : OperatorPlan) (found : Option (PhraseTests × PhraseTests)) → both_of (phrase_of a) (negated_phrase b) ≡ found
      → option_or found (both_of (phrase_of b) (negated_phrase a)) ≡ Some (word, other) → P (Both' p a b)
  sides_are p a b None is h =
      let parts = both_found (phrase_of b) (negated_phrase a) word other h in
      negation_is (λ (own : OperatorPlan). P (Both' p own b)) other
      (λ q. subst (λ (own : OperatorPlan). P (Both' p (Negated' q (Phrase other)) own)) (sym (phrase_is b word parts.0)) (first p q)) a parts.1
  sides_are p a b (Some found) is h =
      let parts = both_found (phrase_of a) (negated_phrase b) word other (is ∙ h) in
      negation_is (λ (own : OperatorPlan). P (Both' p a own)) other
      (λ q. subst (λ (own : OperatorPlan). P (Both' p own (Negated' q (Phrase other)))) (sym (phrase_is a word parts.0)) (last p q)) b parts.1

  -- what is so of a phrase joined by `ftand` with another one that is negated, last or first, is so of a plan that is this
  without_is : (operand : OperatorPlan) → phrase_without operand ≡ Some (word, other) → P operand
  without_is (Phrase own) h = absurd (none-some (word, other) h)
  without_is (Choice' p a b) h = absurd (none-some (word, other) h)
  without_is (Both' p a b) h = sides_are p a b (both_of (phrase_of a) (negated_phrase b)) refl h
  without_is (MildNot' p a b) h = absurd (none-some (word, other) h)
  without_is (Negated' p operand) h = absurd (none-some (word, other) h)
  without_is (Filtered' p operand kind) h = absurd (none-some (word, other) h)

-- what is so of the plans that are recognized: `not in` over two phrases, and a window in words over a single word and another one that is
-- negated, which comes last or first
pub record IsOfEach (holds : OperatorPlan → Outside → PhraseTests → PhraseTests → Type 0) : Type 0 where
  pub not_in : (p : _) (left right : PhraseTests) → holds (MildNot' p (Phrase left) (Phrase right)) Cover left right
  pub negated_last : (p : _) (q : _) (r : _) (size : ℕ) (word other : PhraseTests) → is_word word ≡ true → is_word other ≡ true
      → holds (Filtered' p (Both' q (Phrase word) (Negated' r (Phrase other))) (F.Window size Unit.Words)) (Window size) word other
  pub negated_first : (p : _) (q : _) (r : _) (size : ℕ) (word other : PhraseTests) → is_word word ≡ true → is_word other ≡ true
      → holds (Filtered' p (Both' q (Negated' r (Phrase other)) (Phrase word)) (F.Window size Unit.Words)) (Window size) word other

module _ (holds : OperatorPlan → Outside → PhraseTests → PhraseTests → Type 0) (each : IsOfEach holds) where
  pub outside_law : (plan : OperatorPlan) (outside : Outside) (left right : PhraseTests) → outside_of plan ≡ Some (outside, left, right) → holds plan outside left right
  outside_law (Phrase own) outside left right h = absurd (none-some (outside, left, right) h)
  outside_law (Choice' p a b) outside left right h = absurd (none-some (outside, left, right) h)
  outside_law (Both' p a b) outside left right h = absurd (none-some (outside, left, right) h)
  outside_law (MildNot' p a b) outside left right h =
      let found = found_are (Some Cover) (both_of (phrase_of a) (phrase_of b)) outside left right h in
      let parts = both_found (phrase_of a) (phrase_of b) left right found.1 in
      subst (λ (own : Outside). holds (MildNot' p a b) own left right) (same_Some Cover outside found.0)
      (subst (λ (own : OperatorPlan). holds (MildNot' p own b) Cover left right) (sym (phrase_is a left parts.0))
      (subst (λ (own : OperatorPlan). holds (MildNot' p (Phrase left) own) Cover left right) (sym (phrase_is b right parts.1)) (each.not_in p left right)))
  outside_law (Negated' p operand) outside left right h = absurd (none-some (outside, left, right) h)
  outside_law (Filtered' p operand kind) outside left right h =
      let found = found_are (filter_outside kind) (word_without operand) outside left right h in
      let window = window_is kind outside found.0 in
      let words = words_are (phrase_without operand) left right found.1 in
      subst (λ (own : Filter). holds (Filtered' p operand own) outside left right) (sym window.kind_is)
      (subst (λ (own : Outside). holds (Filtered' p operand (F.Window window.size Unit.Words)) own left right) (sym window.outside_is)
      (without_is left right (λ (own : OperatorPlan). holds (Filtered' p own (F.Window window.size Unit.Words)) (Window window.size) left right)
      (λ q r. each.negated_last p q r window.size left right words.one words.two) (λ q r. each.negated_first p q r window.size left right words.one words.two)
      operand words.found_are))
