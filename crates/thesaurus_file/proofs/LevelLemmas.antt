-- A level from the one before: what one line leads to from there, but for what is seen.
use Rattle.std.proofs.Common.{◌≡◌, ◌∙◌, sym, ap, refl, ℕ, zero, suc, ◌+◌, ◌<◌, ◌≤◌, Bool, true, false, cond, not, ◌&&◌, ◌||◌, List, [], ◌∷◌, ◌++◌, filter, Option, nat_lt, true≢false, arith}
use Rattle.std.specs.List.{list_any, fold, flat_map, range_with_len}
use Rattle.std.specs.BTreeSet.{insert_key}
use Rattle.std.proofs.lemmas.List.Folds.{list_any-append}
use Rattle.std.proofs.lemmas.List.Elements.{filter-append}
use Rattle.std.proofs.lemmas.Map.Views.{any-filter_same}
use Rattle.std.proofs.Math.Bool.{or-true}
use Rattle.thesaurus_file.specs.Phrases.{Phrase, phrase_cmp, phrase_eq}
use Rattle.thesaurus_file.specs.Levels.{in_range, is_up_to}
use Rattle.thesaurus_file.specs.Links.{Links, links_from}
use Rattle.thesaurus_file.specs.steps.Walks.{is_unseen, unseen_ends, level_after}
use Rattle.thesaurus_file.specs.Expansion.{next, ends, is_nearer, level, asked_level}
use Rattle.thesaurus_file.specs.declared.levels.Levels.{Levels}
use Rattle.thesaurus_file.proofs.OrderLemmas.{any_fold, any_in_order, in_order_same, same_from_eq}

-- ---- lists

pub any_flat_map : {X : Type 0} (t : Phrase → Bool) (f : X → List Phrase) (xs : List X) → list_any t (flat_map f xs) ≡ list_any (λ x. list_any t (f x)) xs
any_flat_map t f [] = refl
any_flat_map t f (x ∷ xs) = list_any-append t (f x) (flat_map f xs) ∙ ap (λ b. list_any t (f x) || b) (any_flat_map t f xs)

filter_flat_map : {X : Type 0} (p : Phrase → Bool) (f : X → List Phrase) (xs : List X) → flat_map (λ x. filter p (f x)) xs ≡ filter p (flat_map f xs)
filter_flat_map p f [] = refl
filter_flat_map p f (x ∷ xs) = ap (λ l. filter p (f x) ++ l) (filter_flat_map p f xs) ∙ sym (filter-append p (f x) (flat_map f xs))

-- one that passes is among them
pub any_held : (t : Phrase → Bool) (r : Phrase) (xs : List Phrase) → t r ≡ true → list_any (phrase_eq r) xs ≡ true → list_any t xs ≡ true
any_held t r [] h held = held
any_held t r (x ∷ xs) h held =
    elim (phrase_eq r x) as (λ b. phrase_eq r x ≡ b → (b || list_any (phrase_eq r) xs) ≡ true → (t x || list_any t xs) ≡ true) [
      | true ↦ λ e _. ap (λ b. b || list_any t xs) (ap t (sym (same_from_eq r x e)) ∙ h)
      | false ↦ λ e rest. ap (λ b. t x || b) (any_held t r xs h rest) ∙ or-true (t x)
    ] refl held

either_way : (a b : Bool) → (a ≡ false → b ≡ true) → (a || b) ≡ true
either_way true b h = refl
either_way false b h = h refl

module _ (thesaurus : Links) (relation : Option (List ℕ)) (start : Phrase) where
  abbrev nearer : ℕ → Phrase → Bool
  nearer n q = is_nearer thesaurus relation n start q

  abbrev ends_at : ℕ → List Phrase
  ends_at n = ends thesaurus relation n start

  abbrev level_at : ℕ → List Phrase
  level_at n = level thesaurus relation n start

  -- whether a line leads from a phrase to that one
  abbrev leads_to : Phrase → Phrase → Bool
  leads_to q phrase = list_any (phrase_eq q) (next thesaurus relation phrase)

  pub nearer_suc : (n : ℕ) (q : Phrase) → nearer (suc n) q ≡ (nearer n q || list_any (phrase_eq q) (ends_at n))
  unfolding is_nearer
  nearer_suc n q = refl

  pub ends_suc : (n : ℕ) (q : Phrase) → list_any (phrase_eq q) (ends_at (suc n)) ≡ list_any (leads_to q) (ends_at n)
  unfolding ends
  ends_suc n q = any_flat_map (phrase_eq q) (next thesaurus relation) (ends_at n)

  -- what a line leads to from a phrase that is nearer is no farther
  nearer_next : (n : ℕ) (r q : Phrase) → nearer n r ≡ true → leads_to q r ≡ true → nearer (suc n) q ≡ true
  unfolding is_nearer
  nearer_next zero r q near leads = absurd (true≢false (sym near))
  nearer_next (suc m) r q near leads =
      elim (nearer m r) as (λ b. nearer m r ≡ b → (b || list_any (phrase_eq r) (ends_at m)) ≡ true → nearer (suc (suc m)) q ≡ true) [
        | true ↦ λ e _. ap (λ b. b || list_any (phrase_eq q) (ends_at (suc m))) (nearer_next m r q e leads)
        | false ↦ λ e held. either_way (nearer (suc m) q) (list_any (phrase_eq q) (ends_at (suc m))) (λ _. ends_suc m q ∙ any_held (leads_to q) r (ends_at m) leads held)
      ] refl near

  -- ---- what is among the phrases of a level

  any_level : (t : Phrase → Bool) (n : ℕ) → list_any t (level_at n) ≡ list_any t (filter (λ q. not (nearer n q)) (ends_at n))
  unfolding level
  any_level t n = any_in_order t (filter (λ q. not (nearer n q)) (ends_at n))

  pub among_level : (n : ℕ) (q : Phrase) → list_any (phrase_eq q) (level_at n) ≡ (not (nearer n q) && list_any (phrase_eq q) (ends_at n))
  among_level n q =
      any_level (phrase_eq q) n
      ∙ any-filter_same (phrase_eq q) (λ q. not (nearer n q)) (not (nearer n q)) (λ k h. ap (λ x. not (nearer n x)) (sym (same_from_eq q k h))) (ends_at n)

  -- lines that lead to what isn't nearer begin in the level
  pub leads_from_level : (n : ℕ) (q : Phrase) → nearer (suc n) q ≡ false → list_any (leads_to q) (level_at n) ≡ list_any (leads_to q) (ends_at n)
  leads_from_level n q far =
      any_level (leads_to q) n
      ∙ any-filter_same (leads_to q) (λ q. not (nearer n q)) true (λ k h. not_nearer k h (nearer n k) refl) (ends_at n)
    where
      not_nearer : (k : Phrase) → leads_to q k ≡ true → (b : Bool) → nearer n k ≡ b → not (nearer n k) ≡ true
      not_nearer k h true e = absurd (true≢false (sym (nearer_next n k q e h) ∙ far))
      not_nearer k h false e = ap not e

  -- ---- the next level

  module _ (n : ℕ) (seen : List Phrase) (known : (q : Phrase) → list_any (phrase_eq q) seen ≡ nearer (suc n) q) where
    led_to : (q : Phrase) → list_any (phrase_eq q) (flat_map (λ phrase. unseen_ends relation seen (links_from thesaurus phrase)) (level_at n)) ≡ (not (nearer (suc n) q) && list_any (leads_to q) (level_at n))
    led_to q =
        ap (list_any (phrase_eq q)) (filter_flat_map (is_unseen seen) (next thesaurus relation) (level_at n))
        ∙ any-filter_same (phrase_eq q) (is_unseen seen) (not (nearer (suc n) q)) (λ k h. ap (λ x. not (list_any (phrase_eq x) seen)) (sym (same_from_eq q k h)) ∙ ap not (known q)) (flat_map (next thesaurus relation) (level_at n))
        ∙ ap (λ b. not (nearer (suc n) q) && b) (any_flat_map (phrase_eq q) (next thesaurus relation) (level_at n))

    same_ends : (q : Phrase) (b : Bool) → nearer (suc n) q ≡ b → (not b && list_any (leads_to q) (level_at n)) ≡ (not b && list_any (leads_to q) (ends_at n))
    same_ends q true e = refl
    same_ends q false e = leads_from_level n q e

    alike : (q : Phrase) → list_any (phrase_eq q) (flat_map (λ phrase. unseen_ends relation seen (links_from thesaurus phrase)) (level_at n)) ≡ list_any (phrase_eq q) (filter (λ q. not (nearer (suc n) q)) (ends_at (suc n)))
    alike q =
        led_to q
        ∙ same_ends q (nearer (suc n) q) refl
        ∙ ap (λ b. not (nearer (suc n) q) && b) (sym (ends_suc n q))
        ∙ sym (among_level (suc n) q)
        ∙ any_level (phrase_eq q) (suc n)

    pub level_suc : level_after thesaurus relation seen (level_at n) ≡ level_at (suc n)
    unfolding level
    level_suc = in_order_same (flat_map (λ phrase. unseen_ends relation seen (links_from thesaurus phrase)) (level_at n)) (filter (λ q. not (nearer (suc n) q)) (ends_at (suc n))) alike

    -- what is seen after it
    pub known_next : (q : Phrase) → list_any (phrase_eq q) (fold (insert_key phrase_cmp) seen (level_at (suc n))) ≡ nearer (suc (suc n)) q
    known_next q =
        any_fold (phrase_eq q) (level_at (suc n)) seen
        ∙ (λ i. among_level (suc n) q i || known q i)
        ∙ joined (nearer (suc n) q) (list_any (phrase_eq q) (ends_at (suc n)))
        ∙ sym (nearer_suc (suc n) q)
      where
        joined : (a b : Bool) → ((not a && b) || a) ≡ (a || b)
        joined true b = refl
        joined false true = refl
        joined false false = refl

  -- ---- where a level is empty

  pub none_asked : (levels : Levels) (count n : ℕ) (seen : List Phrase) → ((q : Phrase) → list_any (phrase_eq q) seen ≡ nearer (suc n) q) → level_at n ≡ []
      → flat_map (asked_level thesaurus relation levels start) (range_with_len (suc n) count) ≡ []
  none_asked levels zero n seen known none = refl
  none_asked levels (suc count) n seen known none =
      let empty : level_at (suc n) ≡ [] = sym (level_suc n seen known) ∙ ap (level_after thesaurus relation seen) none in
      let rest = none_asked levels count (suc n) (fold (insert_key phrase_cmp) seen (level_at (suc n))) (known_next n seen known) empty in
      ap (λ l. l ++ flat_map (asked_level thesaurus relation levels start) (range_with_len (suc n + 1) count)) (not_asked (in_range levels (suc n)) (suc n) empty) ∙ ap (λ k. flat_map (asked_level thesaurus relation levels start) (range_with_len k count)) (omega arith) ∙ rest
    where
      not_asked : (b : Bool) (n : ℕ) → level_at n ≡ [] → cond b (level_at n) [] ≡ []
      not_asked true n e = e
      not_asked false n e = refl

  -- ---- above the range
  pub none_above : (levels : Levels) (count first : ℕ) → ((n : ℕ) → first ≤ n → n < first + count → is_up_to levels.to n ≡ false)
      → flat_map (asked_level thesaurus relation levels start) (range_with_len first count) ≡ []
  none_above levels zero first above = refl
  none_above levels (suc count) first above =
      ap (λ l. l ++ flat_map (asked_level thesaurus relation levels start) (range_with_len (first + 1) count))
      (ap (λ b. cond (not (nat_lt first levels.from) && b) (level_at first) []) (above first (omega arith) (omega arith)) ∙ never (not (nat_lt first levels.from)))
      ∙ none_above levels count (first + 1) (λ n low high. above n (omega (arith, low)) (omega (arith, high)))
    where
      never : (a : Bool) → cond (a && false) (level_at first) [] ≡ []
      never true = refl
      never false = refl

  -- ---- the first level

  pub level_0 : level_at 0 ≡ start ∷ []
  unfolding level ends is_nearer
  level_0 = refl

  pub known_0 : (q : Phrase) → list_any (phrase_eq q) (start ∷ []) ≡ nearer 1 q
  unfolding ends is_nearer
  known_0 q = refl
