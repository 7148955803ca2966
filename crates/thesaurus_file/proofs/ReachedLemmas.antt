-- What is reached, by chains of lines: no level is higher than the number of phrases that lines begin with, since each level but
-- the last has one of them that no lower level has.
use Rattle.std.proofs.Common.{◌≡◌, ◌∙◌, sym, ap, subst, refl, ℕ, zero, suc, ◌+◌, ◌<◌, ◌≤◌, ◌↔◌, Bool, true, false, cond, not, ◌&&◌, ◌||◌, List, [], ◌∷◌, map, filter, length, Option, Some, None, Contains, true≢false, arith, inl, inr}
use Rattle.std.specs.Prelude.{unwrap_or}
use Rattle.std.specs.List.{list_any, range_with_len}
use Rattle.std.specs.Map.{lookup}
use Rattle.std.specs.Cmp.{eq_by_cmp_equiv}
use Rattle.std.proofs.lemmas.Bool.{cases_lt, and_parts, not-true}
use Rattle.std.proofs.Math.Bool.{or-true}
use Rattle.thesaurus_file.specs.Chains.{IsChain, IsLevel, IsReached, itself, at_level}
use Rattle.thesaurus_file.specs.Expansion.{next, ends, is_nearer, level, asked_level, expanded, reached}
use Rattle.thesaurus_file.specs.Levels.{in_range}
use Rattle.thesaurus_file.specs.Links.{Links, is_wanted}
use Rattle.thesaurus_file.specs.Phrases.{Phrase, phrase_eq}
use Rattle.thesaurus_file.specs.declared.levels.Levels.{Levels}
use Rattle.thesaurus_file.specs.declared.link.Link.{Link}
use Rattle.thesaurus_file.proofs.OrderLemmas.{phrase_total, same_from_eq}
use Rattle.thesaurus_file.proofs.LevelLemmas.{among_level, any_flat_map, ends_suc, leads_from_level, nearer_suc}
use Rattle.thesaurus_file.proofs.ChainLemmas.{among, among_from_level, is_among, level_from_among, some_passes}

-- ---- lists

any_weaker : {X : Type 0} (t u : X → Bool) (xs : List X) → ((x : X) → t x ≡ true → u x ≡ true) → list_any t xs ≡ true → list_any u xs ≡ true
any_weaker t u [] each h = h
any_weaker t u (x ∷ xs) each h =
    elim (t x) as (λ b. t x ≡ b → (b || list_any t xs) ≡ true → (u x || list_any u xs) ≡ true) [
      | true ↦ λ e _. ap (λ b. b || list_any u xs) (each x e)
      | false ↦ λ e rest. ap (λ b. u x || b) (any_weaker t u xs each rest) ∙ or-true (u x)
    ] refl h

module _ {X : Type 0} (p q : X → Bool) (sub : (x : X) → q x ≡ true → p x ≡ true) where
  no_more : (xs : List X) → length (filter q xs) ≤ length (filter p xs)
  no_more [] = omega arith
  no_more (x ∷ xs) =
      let rest = no_more xs in
      elim (q x) as (λ b. q x ≡ b → length (cond b (x ∷ filter q xs) (filter q xs)) ≤ length (filter p (x ∷ xs))) [
        | true ↦ λ e. subst (λ a. length (x ∷ filter q xs) ≤ length (cond a (x ∷ filter p xs) (filter p xs))) (sym (sub x e)) (omega (arith, rest))
        | false ↦ λ e. elim (p x) as (λ a. length (filter q xs) ≤ length (cond a (x ∷ filter p xs) (filter p xs))) [ true ↦ omega (arith, rest) | false ↦ rest ]
      ] refl

  fewer : (xs : List X) → list_any (λ x. p x && not (q x)) xs ≡ true → length (filter q xs) < length (filter p xs)
  fewer [] h = absurd (true≢false (sym h))
  fewer (x ∷ xs) h =
      elim (q x) as (λ b. q x ≡ b → ((p x && not b) || list_any (λ x. p x && not (q x)) xs) ≡ true → length (cond b (x ∷ filter q xs) (filter q xs)) < length (filter p (x ∷ xs))) [
        | true ↦ λ e. subst (λ a. ((a && false) || list_any (λ x. p x && not (q x)) xs) ≡ true → length (x ∷ filter q xs) < length (cond a (x ∷ filter p xs) (filter p xs))) (sym (sub x e))
            (λ k. let rest = fewer xs k in omega (arith, rest))
        | false ↦ λ e. elim (p x) as (λ a. ((a && true) || list_any (λ x. p x && not (q x)) xs) ≡ true → length (filter q xs) < length (cond a (x ∷ filter p xs) (filter p xs)))
            [ true ↦ λ k. let rest = no_more xs in omega (arith, rest) | false ↦ λ k. fewer xs k ]
      ] refl h

within : {X : Type 0} (p : X → Bool) (xs : List X) → length (filter p xs) ≤ length xs
within p [] = omega arith
within p (x ∷ xs) =
    let rest = within p xs in
    elim (p x) as (λ b. length (cond b (x ∷ filter p xs) (filter p xs)) ≤ length (x ∷ xs)) [ true ↦ omega (arith, rest) | false ↦ omega (arith, rest) ]

any_range : (t : ℕ → Bool) (first count n : ℕ) → first ≤ n → n < first + count → t n ≡ true → list_any t (range_with_len first count) ≡ true
any_range t first zero n low high h = absurd (omega (arith, low, high))
any_range t first (suc count) n low high h =
    elim (cases_lt first n) [
      | inl less ↦ ap (λ b. t first || b) (any_range t (first + 1) count n (omega (arith, less)) (omega (arith, high)) h) ∙ or-true (t first)
      | inr more ↦ let e : n ≡ first = omega (arith, low, more) in ap (λ b. b || list_any t (range_with_len (first + 1) count)) (ap t (sym e) ∙ h)
    ]

-- ---- a phrase from which a line leads is one that lines begin with

not_there : (test : Phrase → Bool) (t : Links) → list_any (λ e. test e.0) t ≡ false → lookup test t ≡ None
not_there test [] h = refl
not_there test (e ∷ es) h =
    elim (test e.0) as (λ b. (b || list_any (λ e. test e.0) es) ≡ false → cond b (Some e.1) (lookup test es) ≡ None)
    [ true ↦ λ k. absurd (true≢false k) | false ↦ λ k. not_there test es k ] h

begins_lines : (thesaurus : Links) (relation : Option (List ℕ)) (r q : Phrase) → list_any (phrase_eq q) (next thesaurus relation r) ≡ true → list_any (λ e. phrase_eq r e.0) thesaurus ≡ true
begins_lines thesaurus relation r q h = by (list_any (λ e. phrase_eq r e.0) thesaurus) refl
  where
    by : (b : Bool) → list_any (λ e. phrase_eq r e.0) thesaurus ≡ b → list_any (λ e. phrase_eq r e.0) thesaurus ≡ true
    by true e = e
    by false e =
        let none = not_there (phrase_eq r) thesaurus e in
        absurd (true≢false (sym h ∙ ap (λ o. list_any (phrase_eq q) (map (λ link. link.to) (filter (is_wanted relation) (unwrap_or o [])))) none))

-- ---- levels

module _ (thesaurus : Links) (relation : Option (List ℕ)) (start : Phrase) where
  abbrev nearer : ℕ → Phrase → Bool
  nearer n q = is_nearer thesaurus relation n start q

  -- how many phrases that lines begin with have no lower level
  abbrev far_count : ℕ → ℕ
  far_count n = length (filter (λ e. not (nearer n e.0)) thesaurus)

  -- a phrase of the level before, from which a line leads
  abbrev Before : ℕ → Phrase → Type 0
  Before n q = (r : Phrase) × (list_any (phrase_eq r) (level thesaurus relation n start) ≡ true) × (list_any (phrase_eq q) (next thesaurus relation r) ≡ true)

  one_before : (n : ℕ) (q : Phrase) → list_any (phrase_eq q) (level thesaurus relation (suc n) start) ≡ true → Before n q
  one_before n q h =
      let both = sym (among_level thesaurus relation start (suc n) q) ∙ h in
      let far = not-true (nearer (suc n) q) (and_parts (not (nearer (suc n) q)) (list_any (phrase_eq q) (ends thesaurus relation (suc n) start)) both).0 in
      let led = sym (ends_suc thesaurus relation start n q) ∙ (and_parts (not (nearer (suc n) q)) (list_any (phrase_eq q) (ends thesaurus relation (suc n) start)) both).1 in
      let r = some_passes (λ p. list_any (phrase_eq q) (next thesaurus relation p)) (level thesaurus relation n start) (leads_from_level thesaurus relation start n q far ∙ led) in
      (r.0, among r.0 (level thesaurus relation n start) r.2, r.1)

  stays_near : (n : ℕ) (k : Phrase) → not (nearer (suc n) k) ≡ true → not (nearer n k) ≡ true
  stays_near n k h = by (nearer n k) (list_any (phrase_eq k) (ends thesaurus relation n start)) (ap not (sym (nearer_suc thesaurus relation start n k)) ∙ h)
    where
      by : (a b : Bool) → not (a || b) ≡ true → not a ≡ true
      by true b e = e
      by false b e = refl

  fewer_far : (n : ℕ) (q : Phrase) → Before n q → far_count (suc n) < far_count n
  fewer_far n q before =
      let r = before.0 in
      let both = sym (among_level thesaurus relation start n r) ∙ before.1 in
      let far : nearer n r ≡ false = not-true (nearer n r) (and_parts (not (nearer n r)) (list_any (phrase_eq r) (ends thesaurus relation n start)) both).0 in
      let near : nearer (suc n) r ≡ true = nearer_suc thesaurus relation start n r ∙ ap (λ b. nearer n r || b) (and_parts (not (nearer n r)) (list_any (phrase_eq r) (ends thesaurus relation n start)) both).1 ∙ or-true (nearer n r) in
      fewer (λ (e : Phrase × List Link). not (nearer n e.0)) (λ (e : Phrase × List Link). not (nearer (suc n) e.0)) (λ e. stays_near n e.0) thesaurus
      (any_weaker (λ (e : Phrase × List Link). phrase_eq r e.0) (λ (e : Phrase × List Link). not (nearer n e.0) && not (not (nearer (suc n) e.0))) thesaurus
      (λ e same. let k = same_from_eq r e.0 same in subst (λ p. (not (nearer n p) && not (not (nearer (suc n) p))) ≡ true) k (λ i. not (far i) && not (not (near i))))
      (begins_lines thesaurus relation r q before.2))

  level_within : (n : ℕ) (q : Phrase) → list_any (phrase_eq q) (level thesaurus relation n start) ≡ true → n + far_count n ≤ length thesaurus
  level_within zero q h = let w = within (λ (e : Phrase × List Link). not (nearer zero e.0)) thesaurus in omega (arith, w)
  level_within (suc n) q h =
      let before = one_before n q h in
      let rest = level_within n before.0 before.1 in
      let less = fewer_far n q before in
      omega (arith, rest, less)

  -- ---- what is reached

  among_expanded : (levels : Levels) (q : Phrase) → list_any (phrase_eq q) (expanded thesaurus relation levels start)
      ≡ (phrase_eq q start || list_any (λ n. list_any (phrase_eq q) (asked_level thesaurus relation levels start n)) (range_with_len 1 (length thesaurus)))
  unfolding reached
  among_expanded levels q = ap (λ b. phrase_eq q start || b) (any_flat_map (phrase_eq q) (asked_level thesaurus relation levels start) (range_with_len 1 (length thesaurus)))

  reached_if_asked : (levels : Levels) (n : ℕ) (q : Phrase) → list_any (phrase_eq q) (asked_level thesaurus relation levels start n) ≡ true → IsReached thesaurus relation levels start q
  reached_if_asked levels n q h =
      elim (in_range levels n) as (λ b. in_range levels n ≡ b → list_any (phrase_eq q) (cond b (level thesaurus relation n start) []) ≡ true → IsReached thesaurus relation levels start q) [
        | true ↦ λ e k. at_level n e (level_from_among thesaurus relation start n q k)
        | false ↦ λ e k. absurd (true≢false (sym k))
      ] refl h

  reached_if_among : (levels : Levels) (q : Phrase) → Contains (expanded thesaurus relation levels start) q → IsReached thesaurus relation levels start q
  reached_if_among levels q h =
      elim (phrase_eq q start) as (λ b. phrase_eq q start ≡ b → (b || list_any (λ n. list_any (phrase_eq q) (asked_level thesaurus relation levels start n)) (range_with_len 1 (length thesaurus))) ≡ true
      → IsReached thesaurus relation levels start q) [
        | true ↦ λ e _. itself (same_from_eq q start e)
        | false ↦ λ e k. let r = some_passes (λ n. list_any (phrase_eq q) (asked_level thesaurus relation levels start n)) (range_with_len 1 (length thesaurus)) k in reached_if_asked levels r.0 q r.1
      ] refl (sym (among_expanded levels q) ∙ among q (expanded thesaurus relation levels start) h)

  start_among : (levels : Levels) (q : Phrase) → q ≡ start → list_any (phrase_eq q) (expanded thesaurus relation levels start) ≡ true
  start_among levels q is =
      among_expanded levels q
      ∙ ap (λ b. b || list_any (λ n. list_any (phrase_eq q) (asked_level thesaurus relation levels start n)) (range_with_len 1 (length thesaurus))) (subst (λ p. phrase_eq q p ≡ true) is ((eq_by_cmp_equiv phrase_total).refl q))

  level_among : (levels : Levels) (n : ℕ) (q : Phrase) → in_range levels n ≡ true → IsLevel thesaurus relation n start q → list_any (phrase_eq q) (expanded thesaurus relation levels start) ≡ true
  unfolding IsChain
  level_among levels zero q asked is = start_among levels q is.chain
  level_among levels (suc n) q asked is =
      let held = among_from_level thesaurus relation start (suc n) q is in
      let bound = level_within (suc n) q held in
      among_expanded levels q
      ∙ ap (λ b. phrase_eq q start || b) (any_range (λ n. list_any (phrase_eq q) (asked_level thesaurus relation levels start n)) 1 (length thesaurus) (suc n) (omega arith) (omega (arith, bound))
      (ap (λ b. list_any (phrase_eq q) (cond b (level thesaurus relation (suc n) start) [])) asked ∙ held))
      ∙ or-true (phrase_eq q start)

  among_if_reached : (levels : Levels) (q : Phrase) → IsReached thesaurus relation levels start q → Contains (expanded thesaurus relation levels start) q
  among_if_reached levels q (itself is) = is_among q (expanded thesaurus relation levels start) (start_among levels q is)
  among_if_reached levels q (at_level n asked is) = is_among q (expanded thesaurus relation levels start) (level_among levels n q asked is)

pub reached_by_chains : (thesaurus : Links) (relation : Option (List ℕ)) (levels : Levels) (start phrase : Phrase)
    → Contains (expanded thesaurus relation levels start) phrase ↔ IsReached thesaurus relation levels start phrase
reached_by_chains thesaurus relation levels start phrase = (reached_if_among thesaurus relation start levels phrase, among_if_reached thesaurus relation start levels phrase)
