-- Of Matches without excludes some choice of so many are the first ones; Not of none needs nothing.
use Rattle.std.proofs.Common.{◌≡◌, refl, ap, sym, subst, ◌∙◌, ℕ, zero, suc, ◌≤◌, ◌<◌, List, [], ◌∷◌, ◌++◌, ◌⊎◌, inl, inr, Bool, true, false, true≢false, not, ◌||◌, length, take, append-nil, arith}
use Rattle.std.specs.Prelude.{map, nat_lt, cond, Option, Some, None}
use Rattle.std.proofs.lemmas.Bool.{and_parts, not-true}
use Rattle.ft_base.specs.declared.hit.Match.{Match}
use Rattle.ft_base.specs.declared.range.Range.{Range}
use Rattle.ft_base.specs.declared.range.Range.TheVariants.{Exactly, AtLeast, AtMost, FromTo}
use Rattle.all_matches.specs.Boolean.{both, ft_and, ft_not, is_clean, satisfied}
use Rattle.all_matches.specs.Times.{at_least, between, occurring}
use Rattle.all_matches.proofs.BooleanLaws.{satisfied-and, satisfied-not}
use Rattle.counted_shapes.specs.Shapes.{least_times}
use Rattle.best_hits.specs.Best.{Gives, SomeOf, includes_of}
use Rattle.best_hits.proofs.CleanLemmas.{are_clean}
use Rattle.best_hits.proofs.SomeLemmas.{gives-both, some-and, some-left, some-map, some-right, some-satisfied}

le_or_more : (k n : ℕ) → (k ≤ n) ⊎ (n < k)
le_or_more k n = grind arith

too-few : (k : ℕ) (ms : List Match) → length ms < k → at_least k ms ≡ []
too-few zero ms h = absurd (omega (arith, h))
too-few (suc k) [] h = refl
too-few (suc k) (m ∷ rest) h = λ i. map (both m) (too-few k rest (omega (arith, h)) i) ++ too-few (suc k) rest (omega (arith, h)) i

none-chosen : (ms : List Match) → SomeOf (Gives []) (at_least 0 ms)
none-chosen [] = inl (record { clean = refl; same = refl })
none-chosen (m ∷ rest) = some-right (Gives []) (map (both m) (at_least 0 rest)) (at_least 0 rest) (none-chosen rest)

first-chosen : (k : ℕ) (ms : List Match) → k ≤ length ms → are_clean ms ≡ true → SomeOf (Gives (includes_of (take k ms))) (at_least k ms)
first-chosen zero [] h c = none-chosen []
first-chosen zero (m ∷ rest) h c = none-chosen (m ∷ rest)
first-chosen (suc k) [] h c = absurd (omega (arith, h))
first-chosen (suc k) (m ∷ rest) h c =
    let parts = and_parts (is_clean m) (are_clean rest) c in
    some-left (Gives (m.includes ++ includes_of (take k rest))) (map (both m) (at_least k rest)) (at_least (suc k) rest)
    (some-map (both m) (Gives (includes_of (take k rest))) (Gives (m.includes ++ includes_of (take k rest)))
    (λ n g. gives-both m.includes (includes_of (take k rest)) m n (record { clean = parts.0; same = refl }) g)
    (at_least k rest) (first-chosen k rest (omega (arith, h)) parts.1))

chosen : (k : ℕ) (ms : List Match) → are_clean ms ≡ true → satisfied (at_least k ms) ≡ true → SomeOf (Gives (includes_of (take k ms))) (at_least k ms)
chosen k ms c h = elim (le_or_more k (length ms)) [
  | inl enough ↦ first-chosen k ms enough c
  | inr few ↦ absurd (true≢false (sym h ∙ ap satisfied (too-few k ms few)))
]

no-more : (k : ℕ) (ms : List Match) → are_clean ms ≡ true → satisfied (at_least k ms) ≡ false → at_least k ms ≡ []
no-more k ms c h = elim (le_or_more k (length ms)) [
  | inl enough ↦ absurd (true≢false (sym (some-satisfied (includes_of (take k ms)) (at_least k ms) (first-chosen k ms enough c)) ∙ h))
  | inr few ↦ too-few k ms few
]

between-chosen : (low high : ℕ) (ms : List Match) → are_clean ms ≡ true → satisfied (between low high ms) ≡ true → SomeOf (Gives (includes_of (take low ms))) (between low high ms)
between-chosen low high ms c h = by (nat_lt high low) h
  where
    inside : satisfied (ft_and (at_least low ms) (ft_not (at_least (suc high) ms))) ≡ true → SomeOf (Gives (includes_of (take low ms))) (ft_and (at_least low ms) (ft_not (at_least (suc high) ms)))
    inside k =
        let parts = and_parts (satisfied (at_least low ms)) (satisfied (ft_not (at_least (suc high) ms))) (sym (satisfied-and (at_least low ms) (ft_not (at_least (suc high) ms))) ∙ k) in
        let none : at_least (suc high) ms ≡ [] = no-more (suc high) ms c (not-true (satisfied (at_least (suc high) ms)) (sym (satisfied-not (at_least (suc high) ms)) ∙ parts.1)) in
        subst (λ hits. SomeOf (Gives hits) (ft_and (at_least low ms) (ft_not (at_least (suc high) ms)))) (append-nil (includes_of (take low ms)))
        (some-and (includes_of (take low ms)) [] (at_least low ms) (ft_not (at_least (suc high) ms)) (chosen low ms c parts.0)
        (subst (λ l. SomeOf (Gives []) (ft_not l)) (sym none) (inl (record { clean = refl; same = refl }))))

    by : (b : Bool) → satisfied (cond b [] (ft_and (at_least low ms) (ft_not (at_least (suc high) ms)))) ≡ true
        → SomeOf (Gives (includes_of (take low ms))) (cond b [] (ft_and (at_least low ms) (ft_not (at_least (suc high) ms))))
    by true k = absurd (true≢false (sym k))
    by false k = inside k

first-one : (m : Match) (rest : List Match) → includes_of (take 1 (m ∷ rest)) ≡ m.includes
first-one m [] = append-nil m.includes
first-one m (n ∷ rest) = append-nil m.includes

once : (ms : List Match) → are_clean ms ≡ true → satisfied ms ≡ true → SomeOf (Gives (includes_of (take 1 ms))) ms
once [] c h = absurd (true≢false (sym h))
once (m ∷ rest) c h = inl (record { clean = (and_parts (is_clean m) (are_clean rest) c).0; same = sym (first-one m rest) })

pub times-chosen : (times : Option Range) (ms : List Match) → are_clean ms ≡ true → satisfied (occurring times ms) ≡ true
    → SomeOf (Gives (includes_of (take (least_times times) ms))) (occurring times ms)
times-chosen None ms c h = once ms c h
times-chosen (Some (Exactly n)) ms c h = between-chosen n n ms c h
times-chosen (Some (AtLeast n)) ms c h = chosen n ms c h
times-chosen (Some (AtMost n)) ms c h = between-chosen 0 n ms c h
times-chosen (Some (FromTo low high)) ms c h = between-chosen low high ms c h

-- Not of a selection without excludes
pub not-chosen : (ms : List Match) → are_clean ms ≡ true → satisfied (ft_not ms) ≡ true → SomeOf (Gives []) (ft_not ms)
not-chosen [] c h = inl (record { clean = refl; same = refl })
not-chosen (m ∷ rest) c h =
    let first = (and_parts (is_clean m) (are_clean rest) c).0 in
    absurd (true≢false (sym h ∙ satisfied-not (m ∷ rest) ∙ ap (λ b. not (b || satisfied rest)) first))
