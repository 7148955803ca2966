-- Single words that are numbered one after the other, and what is joined of them.
use Rattle.std.proofs.Common.{◌≡◌, refl, sym, ap, ◌∙◌, ℕ, ◌+◌, ◌-◌, ◌<◌, ◌==◌, true, cond, List, [], ◌∷◌, ◌++◌, length, get_or, Option, Some, None, arith}
use Rattle.std.specs.Prelude.{is_some}
use Rattle.std.proofs.lemmas.Option.{none-some}
use Rattle.plan_compiler.specs.CheapPlans.{last_word, number_after, word_number}
use Rattle.plan_compiler.specs.declared.joining.Join.{Join}
use Rattle.plan_compiler.specs.declared.joining.Join.TheVariants.{Both}
use Rattle.plan_compiler.specs.declared.operator_plan.OperatorPlan.{OperatorPlan, Phrase, Choice', Both', MildNot', Negated', Filtered'}
use Rattle.plan_compiler.specs.steps.Joins.{AreWordsFrom, EndsBefore, joined_last, last_after}

-- a single word is the last one of itself
pub word_last : (plan : OperatorPlan) (number : ℕ) → word_number plan ≡ Some number → last_word plan ≡ Some number
unfolding last_word
word_last (Phrase found) number is = is
word_last (Choice' p left right) number is = absurd (none-some number is)
word_last (Both' p left right) number is = absurd (none-some number is)
word_last (MildNot' p left right) number is = absurd (none-some number is)
word_last (Negated' p operand) number is = absurd (none-some number is)
word_last (Filtered' p operand kind) number is = absurd (none-some number is)

-- ---- words in a row

pub row_length : (first next : ℕ) (plans : List OperatorPlan) → AreWordsFrom first next plans → next ≡ first + length plans
row_length first next [] h = omega (arith, h)
row_length first next (plan ∷ rest) h = let more = row_length (first + 1) next rest h.1 in omega (arith, more)

pub row_push : (first middle next : ℕ) (before : List OperatorPlan) (plan : OperatorPlan) → AreWordsFrom first middle before → word_number plan ≡ Some middle → next ≡ middle + 1
    → AreWordsFrom first next (before ++ plan ∷ [])
row_push first middle next [] plan h is past = (is ∙ ap Some h, omega (arith, h, past))
row_push first middle next (one ∷ before) plan h is past = (h.0, row_push (first + 1) middle next before plan h.1 is past)

-- the last word of a row, and those before it
pub record Parted (first next : ℕ) (before : List OperatorPlan) (plan : OperatorPlan) : Type 0 where
  pub middle : ℕ
  pub words : AreWordsFrom first middle before
  pub is : word_number plan ≡ Some middle
  pub past : next ≡ middle + 1

pub row_parted : (first next : ℕ) (before : List OperatorPlan) (plan : OperatorPlan) → AreWordsFrom first next (before ++ plan ∷ []) → Parted first next before plan
row_parted first next [] plan h = record { middle = first; words = refl; is = h.0; past = h.1 }
row_parted first next (one ∷ before) plan h =
    let rest = row_parted (first + 1) next before plan h.1 in
    record { middle = rest.middle; words = (h.0, rest.words); is = rest.is; past = rest.past }

-- a row of one word
pub record Alone (first : ℕ) (plans : List OperatorPlan) : Type 0 where
  pub one : OperatorPlan
  pub is : plans ≡ one ∷ []
  pub word : word_number one ≡ Some first

pub row_alone : (first next : ℕ) (plans : List OperatorPlan) → AreWordsFrom first next plans → next ≡ first + 1 → Alone first plans
row_alone first next [] h past = absurd (omega (arith, h, past))
row_alone first next (one ∷ []) h past = record { one = one; is = refl; word = h.0 }
row_alone first next (one ∷ other ∷ rest) h past = let many = row_length first next (one ∷ other ∷ rest) h in absurd (omega (arith, many, past))

-- ---- what is joined of them

after_number : (first middle : ℕ) → first < middle → number_after (Some (middle - 1)) (Some middle) ≡ Some middle
after_number first middle h = let one : middle - (middle - 1) ≡ 1 = omega (arith, h) in ap (λ n. cond (n == 1) (Some middle) None) one

pub ends_more : (join : Join) (first next : ℕ) (joined : Option OperatorPlan) (before : List OperatorPlan) (plan made : OperatorPlan) → join ≡ Both
    → ((from to : ℕ) → join ≡ Both → AreWordsFrom from to before → EndsBefore from to joined) → last_word made ≡ last_after join joined plan
    → AreWordsFrom first next (before ++ plan ∷ []) → EndsBefore first next (Some made)
ends_more join first next joined before plan made both ends last words =
    let parted = row_parted first next before plan words in
    by_joined joined parted (ends first parted.middle both parted.words) last
  where
    by_joined : (option : Option OperatorPlan) → (parted : Parted first next before plan) → EndsBefore first parted.middle option → last_word made ≡ last_after join option plan → EndsBefore first next (Some made)
    by_joined None parted h is =
        let past = parted.past in
        let at : parted.middle ≡ next - 1 = omega (arith, past) in
        (is ∙ word_last plan parted.middle parted.is ∙ ap Some at, omega (arith, h, past))
    by_joined (Some left) parted h is =
        let past = parted.past in
        let at : parted.middle ≡ next - 1 = omega (arith, past) in
        let below = h.1 in (
          is
              ∙ ap (λ (j : Join). joined_last j (last_word left) (word_number plan)) both
              ∙ (λ i. number_after (h.0 i) (parted.is i))
              ∙ after_number first parted.middle below
              ∙ ap Some at,
          omega (arith, below, past),
        )

pub length_after : {X : Type 0} (xs : List X) (x : X) → length (xs ++ x ∷ []) ≡ length xs + 1
length_after [] x = refl
length_after (y ∷ xs) x = let more = length_after xs x in omega (arith, more)

pub some_after : {X : Type 0} (xs : List X) (x : X) → xs ++ x ∷ [] ≡ [] → ⊥
some_after xs x h = let many = ap length h in let more = length_after xs x in omega (arith, many, more)

-- one element after others is the only one where there are none
pub only_one : {X : Type 0} (before : List X) (x one : X) → before ++ x ∷ [] ≡ one ∷ [] → (before ≡ []) × (x ≡ one)
only_one [] x one h = (refl, ap (λ xs. get_or xs 0 x) h)
only_one (y ∷ before) x one h = let many = ap length h in let more = length_after before x in absurd (omega (arith, many, more))
