-- One source: the first hit from a place on, and the hits after it.
use Rattle.std.proofs.Common.{◌≡◌, ℕ, zero, suc, ◌+◌, ◌<◌, ◌≤◌, min, Bool, true, false, cond, ◌||◌, ◌==◌, nat_lt, IsTrue, List, [], ◌∷◌, map, length, drop, Option, Some, None, slice_get, option_map, refl, sym, ap, subst, ◌∙◌, arith, inl, inr, one-add, drop-drop, length-drop}
use Rattle.std.specs.List.{list_all, prefix_len}
use Rattle.std.proofs.lemmas.Bool.{cases_lt, lt-ltb, le-ltb, eq-eqb, ne_eqb, and_parts, or_left}
use Rattle.std.proofs.lemmas.Bool.Decides.{nat_tests}
use Rattle.std.proofs.lemmas.List.Folds.{length-prefix_len}
use Rattle.std.proofs.lemmas.List.{length-map}
use Rattle.ft_base.specs.declared.hit.Hit.{Hit}
use Rattle.ft_base.specs.Hits.{HitPlace, hit_at, hits_passed, sought, is_sorted, comes_before}
use Rattle.place_merges.specs.Sources.{places_left}
use Rattle.place_merges.specs.steps.Searching.{Leads, SameFrom, Moved, has, shown_source}

-- how many hits are before a place, of those up to the first that isn't
abbrev count_before : ℕ → List Hit → ℕ
count_before place xs = prefix_len (λ hit. nat_lt hit.from place) xs

abbrev froms : List Hit → List ℕ
froms xs = map (λ hit. hit.from) xs

slice_drop : {X : Type 0} (xs : List X) (n k : ℕ) → slice_get xs (n + k) ≡ slice_get (drop n xs) k
slice_drop xs zero k = let e : 0 + k ≡ k = omega arith in ap (slice_get xs) e
slice_drop [] (suc n) k = refl
slice_drop (x ∷ xs) (suc n) k = let e : suc n + k ≡ suc (n + k) = omega arith in ap (slice_get (x ∷ xs)) e ∙ slice_drop xs n k

sorted_drop : (xs : List Hit) (n : ℕ) → is_sorted xs ≡ true → is_sorted (drop n xs) ≡ true
sorted_drop xs zero h = h
sorted_drop [] (suc n) h = refl
sorted_drop (x ∷ xs) (suc n) h = sorted_drop xs n (and_parts (list_all (comes_before x) xs) (is_sorted xs) h).1

-- ---- the hits from a place on

drop_same : (place : ℕ) (xs : List Hit) (other : ℕ) → place ≤ other → has (froms (drop (count_before place xs) xs)) other ≡ has (froms xs) other
drop_same place [] other h = refl
drop_same place (x ∷ xs) other h = elim (cases_lt x.from place) [
  | inl less ↦
      let prefix : count_before place (x ∷ xs) ≡ suc (count_before place xs) = ap (λ b. cond b (1 + count_before place xs) 0) (lt-ltb x.from place less) ∙ one-add (count_before place xs) in
      let not_here : (x.from == other) ≡ false = ne_eqb x.from other (λ e. absurd (omega (arith, e))) in
      ap (λ n. has (froms (drop n (x ∷ xs))) other) prefix ∙ drop_same place xs other h ∙ sym (ap (λ b. b || has (froms xs) other) not_here)
  | inr le ↦ ap (λ b. has (froms (drop (cond b (1 + count_before place xs) 0) (x ∷ xs))) other) (le-ltb x.from place le)
]

-- none of the hits after a hit begins before it
none_below : (x : Hit) (xs : List Hit) (other : ℕ) → list_all (comes_before x) xs ≡ true → other < x.from → has (froms xs) other ≡ false
none_below x [] other h less = refl
none_below x (y ∷ xs) other h less =
    let parts = and_parts (comes_before x y) (list_all (comes_before x) xs) h in
    let not_here : (y.from == other) ≡ false = ne_eqb y.from other (λ e. before y parts.0 (omega (arith, e))) in
    ap (λ b. b || has (froms xs) other) not_here ∙ none_below x xs other parts.1 less
  where
    before : (y : Hit) → comes_before x y ≡ true → y.from < x.from → ⊥
    before y b l = grind (arith, nat_tests, b, l)

-- the first of them, or the limit
limited : ℕ → Option Hit → ℕ
limited limit None = limit
limited limit (Some hit) = min hit.from limit

first_leads : (place limit : ℕ) → place < limit → (xs : List Hit) → is_sorted xs ≡ true → Leads (has (froms xs)) place limit (limited limit (slice_get xs (count_before place xs)))
unfolding limited
first_leads place limit h [] sorted = record { from = omega arith; to = omega arith; there = λ e. absurd (omega (arith, e)); none = λ other a b. refl }
first_leads place limit h (x ∷ xs) sorted = elim (cases_lt x.from place) [
  | inl less ↦
      let parts = and_parts (list_all (comes_before x) xs) (is_sorted xs) sorted in
      let prefix : suc (count_before place xs) ≡ count_before place (x ∷ xs) = sym (ap (λ b. cond b (1 + count_before place xs) 0) (lt-ltb x.from place less) ∙ one-add (count_before place xs)) in
      subst (λ n. Leads (has (froms (x ∷ xs))) place limit (limited limit (slice_get (x ∷ xs) n))) prefix (past less (first_leads place limit h xs parts.1))
  | inr le ↦
      let parts = and_parts (list_all (comes_before x) xs) (is_sorted xs) sorted in
      let prefix : 0 ≡ count_before place (x ∷ xs) = sym (ap (λ b. cond b (1 + count_before place xs) 0) (le-ltb x.from place le)) in
      subst (λ n. Leads (has (froms (x ∷ xs))) place limit (limited limit (slice_get (x ∷ xs) n))) prefix (here le parts.0)
]
  where
    past : x.from < place → Leads (has (froms xs)) place limit (limited limit (slice_get xs (count_before place xs)))
        → Leads (has (froms (x ∷ xs))) place limit (limited limit (slice_get xs (count_before place xs)))
    past less rest = record {
      from = rest.from;
      to = rest.to;
      there = λ e. or_true (x.from == place) (has (froms xs) place) (rest.there e);
      none = λ other a b. ap (λ t. t || has (froms xs) other) (ne_eqb x.from other (λ e. absurd (omega (arith, e)))) ∙ rest.none other a b;
    }
      where
        or_true : (a b : Bool) → b ≡ true → (a || b) ≡ true
        or_true true b h = refl
        or_true false b h = h

    here : place ≤ x.from → list_all (comes_before x) xs ≡ true → Leads (has (froms (x ∷ xs))) place limit (min x.from limit)
    here le all = record {
      from = omega arith;
      to = omega arith;
      there = λ e. ap (λ t. t || has (froms xs) place) (eq-eqb x.from place (omega (arith, e)));
      none = λ other a b.
          ap (λ t. t || has (froms xs) other) (ne_eqb x.from other (λ e. absurd (omega (arith, e)))) ∙ none_below x xs other all (omega arith);
    }

-- ---- a source

passed_is : (place : ℕ) (at : HitPlace) → hits_passed place at ≡ count_before place (drop at.place at.hits)
passed_is place at = length-prefix_len (λ hit. nat_lt hit.from place) (drop at.place at.hits)

left_is : (place : ℕ) (at : HitPlace) → places_left (sought place at) ≡ froms (drop (count_before place (drop at.place at.hits)) (drop at.place at.hits))
left_is place at =
    ap (λ n. froms (drop (at.place + n) at.hits)) (passed_is place at)
    ∙ ap froms (sym (drop-drop (count_before place (drop at.place at.hits)) at.place at.hits))

read_is : (place : ℕ) (at : HitPlace) → hit_at (sought place at) ≡ slice_get (drop at.place at.hits) (count_before place (drop at.place at.hits))
read_is place at = ap (λ n. slice_get at.hits (at.place + n)) (passed_is place at) ∙ slice_drop at.hits at.place (count_before place (drop at.place at.hits))

pub source_same : (place : ℕ) (at after : HitPlace) → after ≡ sought place at → SameFrom place (has (places_left after)) (has (places_left at))
source_same place at after e = record {
  same = λ other h. ap (λ a. has (places_left a) other) e ∙ ap (λ l. has l other) (left_is place at) ∙ drop_same place (drop at.place at.hits) other h;
}

module _ (place limit : ℕ) (order : place < limit) (at after : HitPlace) (reached : after ≡ sought place at) (sorted : is_sorted after.hits ≡ true) where
  source_leads : (o : Option Hit) → o ≡ hit_at after → Leads (has (places_left at)) place limit (limited limit o)
  source_leads o e =
      let read : o ≡ slice_get (drop at.place at.hits) (count_before place (drop at.place at.hits)) = e ∙ ap hit_at reached ∙ read_is place at in
      let hits : after.hits ≡ at.hits = ap (λ a. a.hits) reached in
      let rest = sorted_drop at.hits at.place (sym (ap is_sorted hits) ∙ sorted) in
      subst (λ r. Leads (has (places_left at)) place limit (limited limit r)) (sym read) (first_leads place limit order (drop at.place at.hits) rest)

  pub leads_at_hit : (hit : Hit) → Some hit ≡ hit_at after → (result : ℕ) → result ≡ min hit.from limit → Leads (has (places_left at)) place limit result
  unfolding limited
  leads_at_hit hit e result is = subst (λ r. Leads (has (places_left at)) place limit r) (sym is) (source_leads (Some hit) e)

  pub leads_at_end : None ≡ hit_at after → Leads (has (places_left at)) place limit limit
  unfolding limited
  leads_at_end e = source_leads None e

-- ---- the hit at the place, of which only the first word is told

pub record Told (at : HitPlace) (first : ℕ) : Type 0 where
  pub hit : Hit
  pub is : Some hit ≡ hit_at at
  pub from : hit.from ≡ first

pub known : (at : HitPlace) (first : ℕ) → Some first ≡ option_map (λ hit. hit.from) (hit_at at) → Told at first
known at first e = by (hit_at at) refl e
  where
    by : (o : Option Hit) → o ≡ hit_at at → Some first ≡ option_map (λ hit. hit.from) o → Told at first
    by None same e = cc
    by (Some hit) same e = record { hit = hit; is = same; from = cc }

pub none_told : (at : HitPlace) → None ≡ option_map (λ hit. hit.from) (hit_at at) → None ≡ hit_at at
none_told at e = by (hit_at at) refl e
  where
    by : (o : Option Hit) → o ≡ hit_at at → None ≡ option_map (λ (hit : Hit). hit.from) o → None ≡ hit_at at
    by None same e = same
    by (Some hit) same e = cc

-- ---- moves

-- a source that stands after the place is where it is sought
stays : (place : ℕ) (at : HitPlace) → hits_passed place at ≡ 0 → at ≡ sought place at
stays place at e = let sum : at.place ≡ at.place + hits_passed place at = omega (arith, e) in λ i. record { hits = at.hits; place = sum i }

none_before : (place : ℕ) (xs : List Hit) (hit : Hit) → slice_get xs 0 ≡ Some hit → place ≤ hit.from → count_before place xs ≡ 0
none_before place [] hit e h = refl
none_before place (x ∷ xs) hit e h = let same : x ≡ hit = cc in ap (λ b. cond b (1 + count_before place xs) 0) (le-ltb x.from place (subst (λ y. place ≤ y.from) (sym same) h))

one_before : (place : ℕ) (xs : List Hit) (hit : Hit) → slice_get xs 0 ≡ Some hit → hit.from < place → 0 < count_before place xs
one_before place [] hit e h = cc
one_before place (x ∷ xs) hit e h =
    let same : x ≡ hit = cc in
    let prefix = ap (λ b. cond b (1 + count_before place xs) 0) (lt-ltb x.from place (subst (λ y. y.from < place) (sym same) h)) in
    omega (arith, prefix)

read_prefix : (at : HitPlace) → slice_get (drop at.place at.hits) 0 ≡ hit_at at
read_prefix at = let sum : at.place + 0 ≡ at.place = omega arith in sym (slice_drop at.hits at.place 0) ∙ ap (slice_get at.hits) sum

pub stays_at_hit : (place : ℕ) (at : HitPlace) (hit : Hit) → Some hit ≡ hit_at at → place ≤ hit.from → at ≡ sought place at
stays_at_hit place at hit e h = stays place at (passed_is place at ∙ none_before place (drop at.place at.hits) hit (read_prefix at ∙ sym e) h)

fewer_left : (place : ℕ) (at : HitPlace) → length (places_left (sought place at)) + hits_passed place at ≡ length (places_left at)
fewer_left place at =
    let rest = drop at.place at.hits in
    let short = ap length (left_is place at) ∙ length-map (drop (count_before place rest) rest) (λ hit. hit.from) ∙ length-drop (count_before place rest) rest in
    let all = length-map rest (λ hit. hit.from) in
    let passed = passed_is place at in
    let most = at_most place rest in
    omega (arith, short, all, passed, most)
  where
    at_most : (place : ℕ) (xs : List Hit) → count_before place xs ≤ length xs
    at_most place [] = omega arith
    at_most place (x ∷ xs) = one (nat_lt x.from place) (at_most place xs)
      where
        one : (b : Bool) → count_before place xs ≤ length xs → cond b (1 + count_before place xs) 0 ≤ suc (length xs)
        one true h = omega arith
        one false h = omega arith

pub source_sought : {H : Type 0} (stand : H → HitPlace) (plain : H → Bool) (before after : H) (place start end : ℕ) (hit : Hit)
    → Some hit ≡ hit_at (stand before) → hit.from < place
    → stand after ≡ sought place (stand before) → plain after ≡ plain before
    → (IsTrue (plain before) → end ≤ start + hits_passed place (stand before) + 1) → start ≤ end
    → Moved (shown_source stand plain before) (shown_source stand plain after) start end
source_sought stand plain before after place start end hit e less moved same counted grown = record {
  lists = ap (λ a. a.hits) moved;
  plain = same;
  counted = λ h.
      let steps = counted h in
      let left = ap (λ a. length (places_left a)) moved in
      let fewer = fewer_left place (stand before) in
      let some = one_before place (drop (stand before).place (stand before).hits) hit (read_prefix (stand before) ∙ sym e) less in
      let passed = passed_is place (stand before) in
      omega (arith, steps, left, fewer, some, passed);
  grown = grown;
}

-- ---- a hit that is found

there_at_hit : (at : HitPlace) (hit : Hit) → Some hit ≡ hit_at at → has (places_left at) hit.from ≡ true
there_at_hit at hit e = first (drop at.place at.hits) (read_prefix at ∙ sym e)
  where
    first : (xs : List Hit) → slice_get xs 0 ≡ Some hit → has (froms xs) hit.from ≡ true
    first [] none = cc
    first (x ∷ xs) some =
        let same : x ≡ hit = cc in
        or_left (x.from == hit.from) (has (froms xs) hit.from) (eq-eqb x.from hit.from (ap (λ h. h.from) same))

pub found_at_hit : (place limit : ℕ) (at after : HitPlace) → after ≡ sought place at → (hit : Hit) → Some hit ≡ hit_at after → (result : ℕ) → result ≡ min hit.from limit
    → place ≤ result → result < limit → has (places_left at) result ≡ true
found_at_hit place limit at after reached hit e result is from below =
    let first : result ≡ hit.from = omega (arith, is) in
    sym ((source_same place at after reached).same result from) ∙ ap (has (places_left after)) first ∙ there_at_hit after hit e
