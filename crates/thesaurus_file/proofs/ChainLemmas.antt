-- The levels by chains of lines.
use Rattle.std.proofs.Common.{◌≡◌, ◌∙◌, sym, ap, subst, refl, ℕ, zero, suc, ◌<◌, ◌↔◌, Bool, true, false, not, ◌&&◌, ◌||◌, List, [], ◌∷◌, Option, Contains, true≢false, arith, ◌⊎◌, inl, inr, ◌≤◌}
use Rattle.std.specs.List.{list_any}
use Rattle.std.specs.Cmp.{eq_by_cmp_equiv}
use Rattle.std.proofs.lemmas.Bool.{cases_lt, and_parts, not-true}
use Rattle.std.proofs.lemmas.Map.Views.{Contains-from_any, list_any-from_Contains}
use Rattle.std.proofs.Math.Bool.{or-true, or-false}
use Rattle.thesaurus_file.specs.Chains.{IsChain, IsLevel}
use Rattle.thesaurus_file.specs.Phrases.{Phrase, phrase_eq}
use Rattle.thesaurus_file.specs.Links.{Links}
use Rattle.thesaurus_file.specs.Expansion.{next, ends, is_nearer, level}
use Rattle.thesaurus_file.proofs.OrderLemmas.{phrase_total, same_from_eq}
use Rattle.thesaurus_file.proofs.LevelLemmas.{among_level, any_held, ends_suc}

-- one that passes, from a list in which one does
pub some_passes : {X : Type 0} (t : X → Bool) (xs : List X) → list_any t xs ≡ true → (x : X) × (t x ≡ true) × Contains xs x
some_passes t [] h = absurd (true≢false (sym h))
some_passes t (x ∷ xs) h =
    elim (t x) as (λ b. t x ≡ b → (b || list_any t xs) ≡ true → (y : _) × (t y ≡ true) × Contains (x ∷ xs) y) [
      | true ↦ λ e _. (x, e, (0, omega arith, refl))
      | false ↦ λ e rest. let r = some_passes t xs rest in (r.0, r.1, (suc r.2.0, omega (arith, r.2.1), r.2.2))
    ] refl h

pub is_among : (q : Phrase) (xs : List Phrase) → list_any (phrase_eq q) xs ≡ true → Contains xs q
is_among q xs h = Contains-from_any same_from_eq q xs h

pub among : (q : Phrase) (xs : List Phrase) → Contains xs q → list_any (phrase_eq q) xs ≡ true
among q xs h = list_any-from_Contains (eq_by_cmp_equiv phrase_total) q xs h

cases_below : (m n : ℕ) → m < suc n → (m < n) ⊎ (m ≡ n)
cases_below m n h = by (cases_lt m n)
  where
    by : (m < n) ⊎ (n ≤ m) → (m < n) ⊎ (m ≡ n)
    by (inl less) = inl less
    by (inr more) = inr (omega (arith, h, more))

module _ (thesaurus : Links) (relation : Option (List ℕ)) (start : Phrase) where
  pub chain_from_ends : (n : ℕ) (q : Phrase) → list_any (phrase_eq q) (ends thesaurus relation n start) ≡ true → IsChain thesaurus relation n start q
  unfolding IsChain ends
  chain_from_ends zero q h = same_from_eq q start (sym (or-false (phrase_eq q start)) ∙ h)
  chain_from_ends (suc n) q h =
      let r = some_passes (λ p. list_any (phrase_eq q) (next thesaurus relation p)) (ends thesaurus relation n start) (sym (ends_suc thesaurus relation start n q) ∙ h) in
      (r.0, chain_from_ends n r.0 (among r.0 (ends thesaurus relation n start) r.2), is_among q (next thesaurus relation r.0) r.1)

  pub ends_from_chain : (n : ℕ) (q : Phrase) → IsChain thesaurus relation n start q → list_any (phrase_eq q) (ends thesaurus relation n start) ≡ true
  unfolding IsChain ends
  ends_from_chain zero q h = ap (λ b. b || false) (subst (λ p. phrase_eq q p ≡ true) h ((eq_by_cmp_equiv phrase_total).refl q))
  ends_from_chain (suc n) q h =
      ends_suc thesaurus relation start n q
      ∙ any_held (λ p. list_any (phrase_eq q) (next thesaurus relation p)) h.0 (ends thesaurus relation n start) (among q (next thesaurus relation h.0) h.2) (ends_from_chain n h.0 h.1)

  -- a phrase to which fewer lines lead is nearer
  nearer_from_chain : (n fewer : ℕ) (q : Phrase) → fewer < n → IsChain thesaurus relation fewer start q → is_nearer thesaurus relation n start q ≡ true
  unfolding is_nearer
  nearer_from_chain zero fewer q below h = absurd (omega (arith, below))
  nearer_from_chain (suc n) fewer q below h =
      elim (cases_below fewer n (omega (arith, below))) [
        | inl less ↦ ap (λ b. b || list_any (phrase_eq q) (ends thesaurus relation n start)) (nearer_from_chain n fewer q less h)
        | inr same ↦ ap (λ b. is_nearer thesaurus relation n start q || b) (ends_from_chain n q (subst (λ k. IsChain thesaurus relation k start q) same h)) ∙ or-true (is_nearer thesaurus relation n start q)
      ]

  chain_from_nearer : (n : ℕ) (q : Phrase) → is_nearer thesaurus relation n start q ≡ true → (fewer : ℕ) × (fewer < n) × IsChain thesaurus relation fewer start q
  unfolding is_nearer
  chain_from_nearer zero q h = absurd (true≢false (sym h))
  chain_from_nearer (suc n) q h =
      elim (is_nearer thesaurus relation n start q) as (λ b. is_nearer thesaurus relation n start q ≡ b → (b || list_any (phrase_eq q) (ends thesaurus relation n start)) ≡ true → (fewer : ℕ) × (fewer < suc n) × IsChain thesaurus relation fewer start q) [
        | true ↦ λ e _. let r = chain_from_nearer n q e in (r.0, omega (arith, r.1), r.2)
        | false ↦ λ e last. (n, omega arith, chain_from_ends n q last)
      ] refl h

  pub level_from_among : (n : ℕ) (q : Phrase) → list_any (phrase_eq q) (level thesaurus relation n start) ≡ true → IsLevel thesaurus relation n start q
  level_from_among n q h =
      let both : (not (is_nearer thesaurus relation n start q) && list_any (phrase_eq q) (ends thesaurus relation n start)) ≡ true = sym (among_level thesaurus relation start n q) ∙ h in
      let far : is_nearer thesaurus relation n start q ≡ false = not-true (is_nearer thesaurus relation n start q) (and_parts (not (is_nearer thesaurus relation n start q)) (list_any (phrase_eq q) (ends thesaurus relation n start)) both).0 in
      record {
        chain = chain_from_ends n q (and_parts (not (is_nearer thesaurus relation n start q)) (list_any (phrase_eq q) (ends thesaurus relation n start)) both).1;
        shortest = λ fewer below h. true≢false (sym (nearer_from_chain n fewer q below h) ∙ far);
      }

  pub among_from_level : (n : ℕ) (q : Phrase) → IsLevel thesaurus relation n start q → list_any (phrase_eq q) (level thesaurus relation n start) ≡ true
  among_from_level n q h =
      among_level thesaurus relation start n q
      ∙ (λ i. not (far i) && ends_from_chain n q h.chain i)
    where
      far_by : (b : Bool) → is_nearer thesaurus relation n start q ≡ b → b ≡ false
      far_by true e = let r = chain_from_nearer n q e in absurd (h.shortest r.0 r.1 r.2)
      far_by false e = refl

      far : is_nearer thesaurus relation n start q ≡ false
      far = far_by (is_nearer thesaurus relation n start q) refl

pub level_by_chains : (thesaurus : Links) (relation : Option (List ℕ)) (n : ℕ) (start phrase : Phrase)
    → Contains (level thesaurus relation n start) phrase ↔ IsLevel thesaurus relation n start phrase
level_by_chains thesaurus relation n start phrase = (
  λ h. level_from_among thesaurus relation start n phrase (among phrase (level thesaurus relation n start) h),
  λ h. is_among phrase (level thesaurus relation n start) (among_from_level thesaurus relation start n phrase h),
)
