-- What is cheap is decided by a merge.
use Rattle.std.proofs.Common.{◌≡◌, refl, sym, ap, ◌∙◌, ℕ, ◌-◌, ◌==◌, Bool, true, false, true≢false, ◌&&◌, cond, Option, Some, None}
use Rattle.std.specs.Prelude.{is_some, option_map}
use Rattle.std.proofs.lemmas.Bool.{and_parts}
use Rattle.std.proofs.lemmas.Option.{none-some, same_Some}
use Rattle.ft_base.specs.declared.filter.Filter.{Filter}
use Rattle.ft_base.specs.declared.filter.Filter.TheVariants as F
use Rattle.ft_base.specs.declared.unit.TextUnit.TheVariants as Unit
use Rattle.plan_compiler.specs.CheapPlans.{is_cheap_operator, is_word, last_word, number_after, word_number}
use Rattle.plan_compiler.specs.CheapSelections.{is_cheap_filter}
use Rattle.plan_compiler.specs.declared.operator_plan.OperatorPlan.{OperatorPlan, Phrase, Choice', Both', MildNot', Negated', Filtered'}
use Rattle.plan_compiler.specs.declared.operator_plan.PhraseTests.{PhraseTests}
use Rattle.plan_kinds.specs.steps.JoinedPhrases.{alone, joined_of, kind_over, one_more, phrase_of}
use Rattle.plan_kinds.specs.steps.MergeKinds.{merge_kind, merge_of, words_kind}
use Rattle.plan_kinds.specs.declared.joined.Joined.{Joined}
use Rattle.plan_kinds.specs.declared.merge_kind.MergeKind.{MergeKind}

-- ---- words

record IsWordOf (plan : OperatorPlan) (number : ℕ) : Type 0 where
  found : PhraseTests
  is : phrase_of plan ≡ Some found
  at : found.number ≡ number
  word : is_word found ≡ true

word_of : (plan : OperatorPlan) (number : ℕ) → word_number plan ≡ Some number → IsWordOf plan number
word_of (Phrase found) number h = by_test (is_word found) refl h
  where
    by_test : (b : Bool) → is_word found ≡ b → cond b (Some found.number) None ≡ Some number → IsWordOf (Phrase found) number
    by_test true word is = record { found = found; is = refl; at = same_Some found.number number is; word = word }
    by_test false word is = absurd (none-some number is)
word_of (Choice' p left right) number h = absurd (none-some number h)
word_of (Both' p left right) number h = absurd (none-some number h)
word_of (MildNot' p left right) number h = absurd (none-some number h)
word_of (Negated' p operand) number h = absurd (none-some number h)
word_of (Filtered' p operand kind) number h = absurd (none-some number h)

record Follows (before next : Option ℕ) (number : ℕ) : Type 0 where
  last : ℕ
  before_is : before ≡ Some last
  next_is : next ≡ Some number
  after : (number - last == 1) ≡ true

follows : (before next : Option ℕ) (number : ℕ) → number_after before next ≡ Some number → Follows before next number
follows None next number h = absurd (none-some number h)
follows (Some last) None number h = absurd (none-some number h)
follows (Some last) (Some next) number h = by_test (next - last == 1) refl h
  where
    by_test : (b : Bool) → (next - last == 1) ≡ b → cond b (Some next) None ≡ Some number → Follows (Some last) (Some next) number
    by_test true after is =
        let same = same_Some next number is in
        record { last = last; before_is = refl; next_is = ap Some same; after = ap (λ n. n - last == 1) (sym same) ∙ after }
    by_test false after is = absurd (none-some number is)

-- words that are joined are joined phrases
record AreJoined (plan : OperatorPlan) (number : ℕ) : Type 0 where
  joined : Joined
  is : joined_of plan ≡ Some joined
  last : joined.last ≡ number
  words : joined.are_words ≡ true

joined_words : (plan : OperatorPlan) (number : ℕ) → last_word plan ≡ Some number → AreJoined plan number
unfolding last_word joined_of
joined_words (Phrase found) number h =
    let word = word_of (Phrase found) number h in
    let same : found ≡ word.found = same_Some found word.found word.is in
    record { joined = alone found; is = refl; last = ap (λ (f : PhraseTests). f.number) same ∙ word.at; words = ap is_word same ∙ word.word }
joined_words (Choice' p left right) number h = absurd (none-some number h)
joined_words (Both' p left right) number h =
    let step = follows (last_word left) (word_number right) number h in
    let before = joined_words left step.last step.before_is in
    let word = word_of right number step.next_is in
    let made : Joined = record { first = before.joined.first; last = word.found.number; are_words = before.joined.are_words && is_word word.found } in
    record {
      joined = made;
      is = (λ i. one_more (before.is i) (word.is i))
          ∙ ap (λ b. cond b (Some made) None) ((λ i. word.at i - before.last i == 1) ∙ step.after);
      last = word.at;
      words = λ i. before.words i && word.word i;
    }
joined_words (MildNot' p left right) number h = absurd (none-some number h)
joined_words (Negated' p operand) number h = absurd (none-some number h)
joined_words (Filtered' p operand kind) number h = absurd (none-some number h)

-- ---- filters

cheap_kind : (filter : Filter) (joined : Joined) → is_cheap_filter filter ≡ true → is_some (words_kind filter joined) ≡ true
cheap_kind F.Ordered joined h = refl
cheap_kind (F.Window size Unit.Words) joined h = refl
cheap_kind (F.Window size Unit.Sentences) joined h = absurd (true≢false (sym h))
cheap_kind (F.Window size Unit.Paragraphs) joined h = absurd (true≢false (sym h))
cheap_kind (F.Distance range unit) joined h = absurd (true≢false (sym h))
cheap_kind F.SameSentence joined h = absurd (true≢false (sym h))
cheap_kind F.SameParagraph joined h = absurd (true≢false (sym h))
cheap_kind F.DifferentSentence joined h = absurd (true≢false (sym h))
cheap_kind F.DifferentParagraph joined h = absurd (true≢false (sym h))
cheap_kind F.AtStart joined h = absurd (true≢false (sym h))
cheap_kind F.AtEnd joined h = absurd (true≢false (sym h))
cheap_kind F.EntireContent joined h = absurd (true≢false (sym h))

kept_some : {X Y : Type 0} (f : X → Y) (o : Option X) → is_some (option_map f o) ≡ is_some o
kept_some f None = refl
kept_some f (Some x) = refl

cheap_merge : (plan : OperatorPlan) → is_cheap_operator plan ≡ true → is_some (merge_of plan) ≡ true
cheap_merge (Phrase found) h = absurd (true≢false (sym h))
cheap_merge (Choice' p left right) h = absurd (true≢false (sym h))
cheap_merge (Both' p left right) h = absurd (true≢false (sym h))
cheap_merge (MildNot' p left right) h = absurd (true≢false (sym h))
cheap_merge (Negated' p operand) h = absurd (true≢false (sym h))
cheap_merge (Filtered' p operand kind) h =
    let parts = and_parts (is_cheap_filter kind) (is_some (last_word operand)) h in
    by_last (last_word operand) refl parts.0 parts.1
  where
    by_last : (last : Option ℕ) → last_word operand ≡ last → is_cheap_filter kind ≡ true → is_some last ≡ true → is_some (merge_of (Filtered' p operand kind)) ≡ true
    by_last None is cheap h = absurd (true≢false (sym h))
    by_last (Some number) is cheap h =
        let words = joined_words operand number is in
        let joined = words.joined in
        ap (λ found. is_some (kind_over merge_kind (record { operand = operand; kind = kind }) found)) words.is
        ∙ kept_some (λ (own : MergeKind). (own, operand)) (merge_kind kind joined)
        ∙ ap (λ b. is_some (cond b (words_kind kind joined) None)) words.words
        ∙ cheap_kind kind joined cheap

-- what no merge decides isn't cheap
pub unmerged : (plan : OperatorPlan) → merge_of plan ≡ None → is_cheap_operator plan ≡ false
unmerged plan none = by_test (is_cheap_operator plan) refl
  where
    by_test : (b : Bool) → is_cheap_operator plan ≡ b → b ≡ false
    by_test true is = absurd (true≢false (sym (cheap_merge plan is) ∙ ap is_some none))
    by_test false is = refl
