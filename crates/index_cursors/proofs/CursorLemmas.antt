-- A cursor that has passed some hits of its span: what it reads, and where it goes.
use Rattle.std.proofs.Common.{◌≡◌, ℕ, ◌+◌, ◌-◌, ◌<◌, ◌≤◌, suc, zero, Bool, true, false, cond, ◌&&◌, List, [], ◌∷◌, length, drop, Option, refl, sym, ap, ◌∙◌, arith, length-drop}
use Rattle.std.specs.Prelude.{nat_lt, take_while, map, slice_get, option_map, Some, None}
use Rattle.std.specs.List.{prefix_len}
use Rattle.std.proofs.lemmas.Bool.{lt-ltb}
use Rattle.std.proofs.lemmas.List.{drop-map, drop-drop}
use Rattle.std.proofs.lemmas.List.Sums.{take_while-cons}
use Rattle.std.proofs.lemmas.List.Folds.{length-prefix_len}
use Rattle.ft_base.specs.declared.hit.Hit.{Hit}
use Rattle.ft_base.specs.declared.places.Breaks.{Breaks}
use Rattle.ft_base.specs.Hits.{hit_place, hit_at, hits_passed, sought}
use Rattle.index_cursors.specs.SpanHits.{word_hit, places_up_to, cursor_place, is_before_both}

prefix-left : (p : ℕ → Bool) (ys : List ℕ) (k : ℕ) → k ≤ prefix_len p ys → drop k (take_while p ys) ≡ take_while p (drop k ys)
prefix-left p ys zero h = refl
prefix-left p [] (suc k) h = absurd (omega arith)
prefix-left p (y ∷ ys) (suc k) h = by (p y) (λ g. prefix-left p ys k g) refl h
  where
    by : (b : Bool) → (k ≤ prefix_len p ys → drop k (take_while p ys) ≡ take_while p (drop k ys)) → p y ≡ b → suc k ≤ cond b (1 + prefix_len p ys) 0 → drop (suc k) (take_while p (y ∷ ys)) ≡ take_while p (drop (suc k) (y ∷ ys))
    by true rest e h = ap (drop (suc k)) (take_while-cons p y ys ∙ ap (λ b. cond b (y ∷ take_while p ys) []) e) ∙ rest (omega arith)
    by false rest e h = absurd (omega arith)

slice-drop : {X : Type 0} (xs : List X) (k : ℕ) → slice_get xs k ≡ slice_get (drop k xs) 0
slice-drop xs zero = refl
slice-drop [] (suc k) = refl
slice-drop (x ∷ xs) (suc k) = slice-drop xs k

first-mapped : {X Y : Type 0} (f : X → Y) (xs : List X) → slice_get (map f xs) 0 ≡ option_map f (slice_get xs 0)
first-mapped f [] = refl
first-mapped f (x ∷ xs) = refl

module _ (breaks : Breaks) (to first at : ℕ) (xs : List ℕ) (order : first ≤ at) (within : at - first ≤ length (places_up_to to first xs)) where
  -- what is left of the places of the span
  left-places : drop (at - first) (places_up_to to first xs) ≡ places_up_to to at xs
  left-places =
      let size = length-prefix_len (λ p. nat_lt p to) (drop first xs) in
      let sum : first + (at - first) ≡ at = omega arith in
      prefix-left (λ p. nat_lt p to) (drop first xs) (at - first) (omega arith)
      ∙ ap (take_while (λ p. nat_lt p to)) (drop-drop (at - first) first xs ∙ ap (λ n. drop n xs) sum)

  left-hits : drop (at - first) (map (word_hit breaks) (places_up_to to first xs)) ≡ map (word_hit breaks) (places_up_to to at xs)
  left-hits = drop-map (word_hit breaks) (at - first) (places_up_to to first xs) ∙ ap (map (word_hit breaks)) left-places

  reads-slice : hit_at (cursor_place breaks to first at xs) ≡ slice_get (map (word_hit breaks) (places_up_to to at xs)) 0
  reads-slice = slice-drop (map (word_hit breaks) (places_up_to to first xs)) (at - first) ∙ ap (λ l. slice_get l 0) left-hits

  -- it reads the hit of the first place that is left
  pub reads : (found : Option ℕ) → found ≡ slice_get (places_up_to to at xs) 0 → option_map (word_hit breaks) found ≡ hit_at (cursor_place breaks to first at xs)
  reads found is = ap (option_map (word_hit breaks)) is ∙ (sym (first-mapped (word_hit breaks) (places_up_to to at xs)) ∙ sym reads-slice)

  pub reads-first : (found : Option ℕ) → found ≡ slice_get (places_up_to to at xs) 0 → found ≡ option_map (λ (hit : Hit). hit.from) (hit_at (cursor_place breaks to first at xs))
  reads-first found is = words-from found ∙ ap (option_map (λ (hit : Hit). hit.from)) (reads found is)
    where
      words-from : (o : Option ℕ) → o ≡ option_map (λ (hit : Hit). hit.from) (option_map (word_hit breaks) o)
      words-from None = refl
      words-from (Some x) = refl

-- ---- the first place that is left

pub first-place : (end at : ℕ) (xs : List ℕ) (place : ℕ) → Some place ≡ slice_get xs at → place < end → Some place ≡ slice_get (places_up_to end at xs) 0
first-place end at xs place is less = front (drop at xs) (is ∙ slice-drop xs at)
  where
    front : (ys : List ℕ) → Some place ≡ slice_get ys 0 → Some place ≡ slice_get (take_while (λ p. nat_lt p end) ys) 0
    front [] is = is
    front (y ∷ ys) is =
        let below : y < end = grind (arith, is, less) in
        is ∙ ap (λ l. slice_get l 0) (sym (take_while-cons (λ p. nat_lt p end) y ys ∙ ap (λ b. cond b (y ∷ take_while (λ p. nat_lt p end) ys) []) (lt-ltb y end below)))

-- hits before a word are as many as places before it and of the span's end
both-prefix : (breaks : Breaks) (from to : ℕ) (ys : List ℕ) →
    length (take_while (λ hit. nat_lt hit.from from) (map (word_hit breaks) (take_while (λ p. nat_lt p to) ys))) ≡ prefix_len (is_before_both from to) ys
both-prefix breaks from to [] = refl
both-prefix breaks from to (y ∷ ys) = by (nat_lt y from) (nat_lt y to) refl refl (both-prefix breaks from to ys)
  where
    by : (b c : Bool) → nat_lt y from ≡ b → nat_lt y to ≡ c
        → length (take_while (λ hit. nat_lt hit.from from) (map (word_hit breaks) (take_while (λ p. nat_lt p to) ys))) ≡ prefix_len (is_before_both from to) ys
        → length (take_while (λ hit. nat_lt hit.from from) (map (word_hit breaks) (take_while (λ p. nat_lt p to) (y ∷ ys)))) ≡ cond (b && c) (1 + prefix_len (is_before_both from to) ys) 0
    by b false e d h =
        ap (λ l. length (take_while (λ hit. nat_lt hit.from from) (map (word_hit breaks) l))) (take_while-cons (λ p. nat_lt p to) y ys ∙ ap (λ t. cond t (y ∷ take_while (λ p. nat_lt p to) ys) []) d)
        ∙ none b
      where
        none : (b : Bool) → 0 ≡ cond (b && false) (1 + prefix_len (is_before_both from to) ys) 0
        none true = refl
        none false = refl
    by b true e d h =
        ap (λ l. length (take_while (λ hit. nat_lt hit.from from) (map (word_hit breaks) l))) (take_while-cons (λ p. nat_lt p to) y ys ∙ ap (λ t. cond t (y ∷ take_while (λ p. nat_lt p to) ys) []) d)
        ∙ ap length (take_while-cons (λ (hit : Hit). nat_lt hit.from from) (word_hit breaks y) (map (word_hit breaks) (take_while (λ p. nat_lt p to) ys)))
        ∙ ap (λ t. length (cond t (word_hit breaks y ∷ take_while (λ (hit : Hit). nat_lt hit.from from) (map (word_hit breaks) (take_while (λ p. nat_lt p to) ys))) [])) e
        ∙ last b h
      where
        last : (b : Bool) → length (take_while (λ hit. nat_lt hit.from from) (map (word_hit breaks) (take_while (λ p. nat_lt p to) ys))) ≡ prefix_len (is_before_both from to) ys
            → length (cond b (word_hit breaks y ∷ take_while (λ (hit : Hit). nat_lt hit.from from) (map (word_hit breaks) (take_while (λ p. nat_lt p to) ys))) []) ≡ cond (b && true) (1 + prefix_len (is_before_both from to) ys) 0
        last true h = omega (arith, h)
        last false h = refl

both-shorter : (from to : ℕ) (ys : List ℕ) → prefix_len (is_before_both from to) ys ≤ prefix_len (λ p. nat_lt p to) ys
both-shorter from to [] = omega arith
both-shorter from to (y ∷ ys) = by (nat_lt y from) (nat_lt y to) (both-shorter from to ys)
  where
    by : (b c : Bool) → prefix_len (is_before_both from to) ys ≤ prefix_len (λ p. nat_lt p to) ys
        → cond (b && c) (1 + prefix_len (is_before_both from to) ys) 0 ≤ cond c (1 + prefix_len (λ p. nat_lt p to) ys) 0
    by true true h = omega arith
    by true false h = omega arith
    by false true h = omega arith
    by false false h = omega arith

module _ (breaks : Breaks) (from to first at : ℕ) (xs : List ℕ) (order : first ≤ at) (within : at - first ≤ length (places_up_to to first xs)) where
  pub passed-is : hits_passed from (cursor_place breaks to first at xs) ≡ prefix_len (is_before_both from to) (drop at xs)
  passed-is = ap (λ l. length (take_while (λ hit. nat_lt hit.from from) l)) (left-hits breaks to first at xs order within) ∙ both-prefix breaks from to (drop at xs)

  pub sought-within : (reached : ℕ) → reached ≡ at + prefix_len (is_before_both from to) (drop at xs) → reached - first ≤ length (places_up_to to first xs)
  sought-within reached e =
      let shorter = both-shorter from to (drop at xs) in
      let size = length-prefix_len (λ p. nat_lt p to) (drop at xs) in
      let left : length (drop (at - first) (places_up_to to first xs)) ≡ length (places_up_to to at xs) = ap length (left-places breaks to first at xs order within) in
      let less = length-drop (at - first) (places_up_to to first xs) in
      omega arith

  pub sought-is : (reached : ℕ) → reached ≡ at + prefix_len (is_before_both from to) (drop at xs) →
      cursor_place breaks to first reached xs ≡ sought from (cursor_place breaks to first at xs)
  sought-is reached e =
      let sum : reached - first ≡ (at - first) + hits_passed from (cursor_place breaks to first at xs) = omega (arith, e, passed-is) in
      ap (hit_place (map (word_hit breaks) (places_up_to to first xs))) sum
