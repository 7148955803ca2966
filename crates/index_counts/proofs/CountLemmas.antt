-- How counts change where the terms of a document come or go, one after the other.
use Rattle.std.proofs.Common.{◌≡◌, ℕ, ◌+◌, ◌-◌, ◌<◌, ◌≤◌, suc, zero, Bool, true, false, ◌&&◌, ◌||◌, ◌==◌, cond, List, [], ◌∷◌, ◌++◌, length, get_or, take, filter, refl, ap, sym, ◌∙◌, arith, inl, inr, true≢false, append_assoc}
use Rattle.std.proofs.lemmas.Bool.{eqb-true, or_cases, or_right, false_from_ne_true}
use Rattle.std.proofs.lemmas.List.{take_all, take_more}
use Rattle.std.proofs.lemmas.List.Elements.{filter-append}
use Rattle.std.proofs.lemmas.List.Folds.{list_any_more}
use Rattle.ft_base.specs.Places.{is_ascending}
use Rattle.index_document.specs.Terms.{has, terms_of}
use Rattle.ft_base.proofs.PlacesLemmas.{rest-ascending}
use Rattle.index_document.proofs.TermLemmas.{first-below, has-at, has-head, has-terms_of}
use Rattle.index_document.proofs.WideningLemmas.{has-filter}
use Rattle.index_counts.specs.Counts.{count_of, count_with, count_without, fallen}

-- of ascending terms those before one are less
pub prefix-below : (terms : List ℕ) (k t : ℕ) → is_ascending terms ≡ true → k < length terms → has t (take k terms) ≡ true → t < get_or terms k 0
prefix-below [] k t up there h = absurd (omega arith)
prefix-below (x ∷ terms) zero t up there h = absurd (true≢false (sym h))
prefix-below (x ∷ terms) (suc k) t up there h = elim (or_cases (x == t) (has t (take k terms)) h) [
  | inl here ↦ omega (arith, eqb-true x t here, first-below x terms up (get_or terms k 0) (has-at terms k (omega arith)))
  | inr further ↦ prefix-below terms k t (rest-ascending x terms up) (omega arith) further
]

filter-same : (p q : ℕ → Bool) (terms : List ℕ) → ((t : ℕ) → has t terms ≡ true → p t ≡ q t) → filter p terms ≡ filter q terms
filter-same p q [] same = refl
filter-same p q (x ∷ terms) same =
    let rest = filter-same p q terms (λ t there. same t (or_right (x == t) (has t terms) there)) in
    λ i. cond (same x (has-head x x terms refl) i) (x ∷ rest i) (rest i)

one_or_none : (a b : Bool) → (a ≡ true → b ≡ true → ⊥) → cond (a || b) 1 0 ≡ cond a 1 0 + cond b 1 0
one_or_none true true apart = absurd (apart refl refl)
one_or_none true false apart = refl
one_or_none false b apart = omega arith

less_none : (b : Bool) (m n : ℕ) → (b ≡ true → ⊥) → m ≡ n - cond b 1 0 → n ≡ m
less_none true m n none is = absurd (none refl)
less_none false m n none is = omega arith

module _ (terms : List ℕ) (k term : ℕ) (up : is_ascending terms ≡ true) (there : k < length terms) (is : term ≡ get_or terms k 0) where
  done-more : (t : ℕ) → cond (has t (take (k + 1) terms)) 1 0 ≡ cond (has t (take k terms)) 1 0 + cond (term == t) 1 0
  done-more t =
      ap (λ b. cond b 1 0) (list_any_more (λ other. other == t) terms k 0 there ∙ ap (λ u. has t (take k terms) || (u == t)) (sym is))
      ∙ one_or_none (has t (take k terms)) (term == t) (λ prefix here. omega (arith, prefix-below terms k t up there prefix, eqb-true term t here, is))

  pub shifted-more : (old now new : List ℕ) → ((t : ℕ) → count_of now t ≡ count_with old (take k terms) t) → ((t : ℕ) → count_of new t ≡ count_of now t + cond (term == t) 1 0) →
      (t : ℕ) → count_of new t ≡ count_with old (take (k + 1) terms) t
  shifted-more old now new before step t = omega (arith, step t, before t, done-more t)

  pub lowered-more : (old now new : List ℕ) → ((t : ℕ) → count_of now t ≡ count_without old (take k terms) t) → ((t : ℕ) → count_of new t ≡ count_of now t - cond (term == t) 1 0) →
      (t : ℕ) → count_of new t ≡ count_without old (take (k + 1) terms) t
  lowered-more old now new before step t = omega (arith, step t, before t, done-more t)

  -- the next term wasn't lowered yet
  pub next-counted : (old now words : List ℕ) → terms ≡ terms_of words → ((t : ℕ) → has t words ≡ true → 0 < count_of old t) → ((t : ℕ) → count_of now t ≡ count_without old (take k terms) t) →
      0 < count_of now term
  next-counted old now words are counted before =
      let had : has term words ≡ true =
      sym (has-terms_of term words) ∙ ap (has term) (sym are) ∙ ap (λ t. has t terms) is ∙ has-at terms k there in
      let not_done : has term (take k terms) ≡ false = false_from_ne_true (has term (take k terms)) (λ prefix. omega (arith, prefix-below terms k term up there prefix, is)) in
      omega (arith, counted term had, before term, ap {B = ℕ} (λ b. cond b 1 0) not_done)

  pub fallen-more : (now new gone more : List ℕ) (count : ℕ) → ((t : ℕ) → count_of new t ≡ count_of now t - cond (term == t) 1 0) → count ≡ count_of new term →
      more ≡ (gone ++ filter (λ t. count_of now t == 0) (take k terms)) ++ cond (count == 0) (term ∷ []) [] → more ≡ gone ++ filter (λ t. count_of new t == 0) (take (k + 1) terms)
  fallen-more now new gone more count step is_count is_more =
      let p = λ (t : ℕ). count_of now t == 0 in
      let q = λ (t : ℕ). count_of new t == 0 in
      let kept : filter p (take k terms) ≡ filter q (take k terms) =
      filter-same p q (take k terms) (λ t prefix. ap (λ n. n == 0)
      (less_none (term == t) (count_of new t) (count_of now t) (λ here. omega (arith, prefix-below terms k t up there prefix, eqb-true term t here, is)) (step t))) in
      let last : cond (count == 0) (term ∷ []) [] ≡ filter q (get_or terms k 0 ∷ []) =
      ap (λ n. cond (n == 0) (term ∷ []) []) is_count ∙ ap (λ t. filter q (t ∷ [])) is in
      is_more ∙ append_assoc gone (filter p (take k terms)) (cond (count == 0) (term ∷ []) [])
      ∙ ap (λ ts. gone ++ ts) ((λ i. kept i ++ last i) ∙ sym (ap (filter q) (take_more terms k 0 there) ∙ filter-append q (take k terms) (get_or terms k 0 ∷ [])))

-- the fallen terms are those of the document whose count is 0
pub fallen-members : (counts words gone : List ℕ) → gone ≡ fallen counts words → (t : ℕ) → has t gone ≡ (has t words && (count_of counts t == 0))
fallen-members counts words gone is t =
    ap (has t) is ∙ has-filter (λ u. count_of counts u == 0) (terms_of words) t ∙ ap (λ b. b && (count_of counts t == 0)) (has-terms_of t words)

-- once all terms are done
pub all-shifted : (old new words : List ℕ) (k : ℕ) → length (terms_of words) ≤ k → ((t : ℕ) → count_of new t ≡ count_with old (take k (terms_of words)) t) →
    (t : ℕ) → count_of new t ≡ count_with old words t
all-shifted old new words k end done t =
    done t ∙ ap (λ b. count_of old t + cond b 1 0) (ap (has t) (take_all k (terms_of words) end) ∙ has-terms_of t words)

pub all-lowered : (old new words : List ℕ) (k : ℕ) → length (terms_of words) ≤ k → ((t : ℕ) → count_of new t ≡ count_without old (take k (terms_of words)) t) →
    (t : ℕ) → count_of new t ≡ count_without old words t
all-lowered old new words k end done t =
    done t ∙ ap (λ b. count_of old t - cond b 1 0) (ap (has t) (take_all k (terms_of words) end) ∙ has-terms_of t words)
