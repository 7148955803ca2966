-- Places up to which a part of a document can be skipped: the first and the last of several, and a term of which no place is in a span.
use Rattle.std.proofs.Common.{◌≡◌, refl, sym, ap, subst, ◌∙◌, ℕ, ◌+◌, ◌-◌, ◌≤◌, ◌<◌, Bool, true, false, ◌&&◌, ◌||◌, cond, true≢false, List, [], ◌∷◌, map, filter, fold, min, max, Option, Some, None, option_map, length, drop, get_or, arith, inl, inr}
use Rattle.std.specs.Prelude.{nat_le, nat_lt, slice_get}
use Rattle.std.specs.List.{list_all, list_any}
use Rattle.std.proofs.Math.Bool.{and-true, or-false, and_assoc, or_assoc}
use Rattle.std.proofs.Math.Nat.{min-le_left, min-le_right, le-min, le-max_left, le-max_right, max-le}
use Rattle.std.specs.Cmp.{both_ways}
use Rattle.std.proofs.lemmas.Bool.{and_parts, and_from, or_cases, or_left, or_right, cases_lt, ltb-true, leb-true, lt-ltb, le-ltb, le-leb}
use Rattle.std.proofs.lemmas.List.{drop_more}
use Rattle.std.proofs.lemmas.List.Folds.{list_all-map}
use Rattle.ft_base.specs.Hits.{hit_at, hit_place}
use Rattle.ft_base.specs.declared.hit.Hit.{Hit}
use Rattle.ft_base.specs.declared.places.Breaks.{Breaks}
use Rattle.ft_base.specs.declared.span.Span.{Span}
use Rattle.all_matches.proofs.ListTests.{list_any-map}
use Rattle.index_cursors.specs.SpanHits.{is_inside, word_hit}
use Rattle.index_meaning.specs.Documents.{breaks_of, document_at, words_of}
use Rattle.index_meaning.specs.Postings.{places, places_from, same_word}
use Rattle.index_phrases.specs.declared.word_terms.WordTerms.{WordTerms}
use Rattle.index_versions.specs.FirstPlaces.{sooner, soonest}
use Rattle.index_versions.specs.Terms.{VersionTerm, first_in}
use Rattle.index_versions.specs.Versions.{term_at}
use Rattle.plan_runs.specs.steps.Skips.{IsWithin, ends_before, later, latest, variant_skip, variants_skip, word_skip}

-- ---- the first and the last of several

pub nothing_before : (to : ℕ) → ends_before to (Some 0) ≡ false
nothing_before to = le-ltb (to - 1) 0 (omega arith)

min_prefix : (n a b : ℕ) → nat_lt n (min a b) ≡ (nat_lt n a && nat_lt n b)
min_prefix n a b = both_ways (nat_lt n (min a b)) (nat_lt n a && nat_lt n b) from to
  where
    from : nat_lt n (min a b) ≡ true → (nat_lt n a && nat_lt n b) ≡ true
    from h =
        let less = ltb-true n (min a b) h in
        and_from (nat_lt n a) (nat_lt n b) (lt-ltb n a (omega (arith, less, min-le_left a b))) (lt-ltb n b (omega (arith, less, min-le_right a b)))

    to : (nat_lt n a && nat_lt n b) ≡ true → nat_lt n (min a b) ≡ true
    to h =
        let parts = and_parts (nat_lt n a) (nat_lt n b) h in
        let one : n + 1 ≤ a = omega (arith, ltb-true n a parts.0) in
        let other : n + 1 ≤ b = omega (arith, ltb-true n b parts.1) in
        lt-ltb n (min a b) (omega (arith, le-min {k = n + 1} {a = a} {b = b} one other))

max_prefix : (n a b : ℕ) → nat_lt n (max a b) ≡ (nat_lt n a || nat_lt n b)
max_prefix n a b = both_ways (nat_lt n (max a b)) (nat_lt n a || nat_lt n b) from to
  where
    from : nat_lt n (max a b) ≡ true → (nat_lt n a || nat_lt n b) ≡ true
    from h = elim (cases_lt n a) [
      | inl less ↦ or_left (nat_lt n a) (nat_lt n b) (lt-ltb n a less)
      | inr le ↦ elim (cases_lt n b) [
        | inl less ↦ or_right (nat_lt n a) (nat_lt n b) (lt-ltb n b less)
        | inr also ↦ absurd (omega (arith, ltb-true n (max a b) h, max-le {a = a} {b = b} {k = n} le also))
      ]
    ]

    to : (nat_lt n a || nat_lt n b) ≡ true → nat_lt n (max a b) ≡ true
    to h = elim (or_cases (nat_lt n a) (nat_lt n b) h) [
      | inl one ↦ lt-ltb n (max a b) (omega (arith, ltb-true n a one, le-max_left a b))
      | inr other ↦ lt-ltb n (max a b) (omega (arith, ltb-true n b other, le-max_right a b))
    ]

module _ (to : ℕ) where
  pub ends_sooner : (a b : Option ℕ) → ends_before to (sooner a b) ≡ (ends_before to a && ends_before to b)
  ends_sooner None b = refl
  ends_sooner (Some a) None = sym (and-true (nat_lt (to - 1) a))
  ends_sooner (Some a) (Some b) = min_prefix (to - 1) a b

  pub ends_later : (a b : Option ℕ) → ends_before to (later a b) ≡ (ends_before to a || ends_before to b)
  ends_later None b = refl
  ends_later (Some a) None = sym (or_right (nat_lt (to - 1) a) true refl)
  ends_later (Some a) (Some b) = max_prefix (to - 1) a b

  pub ends_all : (a : Option ℕ) (xs : List (Option ℕ)) → ends_before to (fold sooner a xs) ≡ (ends_before to a && list_all (ends_before to) xs)
  ends_all a [] = sym (and-true (ends_before to a))
  ends_all a (x ∷ xs) =
      ends_all (sooner a x) xs
      ∙ ap (λ b. b && list_all (ends_before to) xs) (ends_sooner a x)
      ∙ and_assoc (ends_before to a) (ends_before to x) (list_all (ends_before to) xs)

  pub ends_any : (a : Option ℕ) (xs : List (Option ℕ)) → ends_before to (fold later a xs) ≡ (ends_before to a || list_any (ends_before to) xs)
  ends_any a [] = sym (or-false (ends_before to a))
  ends_any a (x ∷ xs) =
      ends_any (later a x) xs
      ∙ ap (λ b. b || list_any (ends_before to) xs) (ends_later a x)
      ∙ or_assoc (ends_before to a) (ends_before to x) (list_any (ends_before to) xs)

  module _ {X : Type 0} (f : X → Option ℕ) (xs : List X) where
    pub ends_soonest : ends_before to (soonest (map f xs)) ≡ list_all (λ x. ends_before to (f x)) xs
    ends_soonest = ends_all None (map f xs) ∙ list_all-map (ends_before to) f xs

    pub ends_latest : ends_before to (latest (map f xs)) ≡ list_any (λ x. ends_before to (f x)) xs
    ends_latest =
        ends_any (Some 0) (map f xs)
        ∙ ap (λ b. b || list_any (ends_before to) (map f xs)) (nothing_before to)
        ∙ list_any-map (ends_before to) f xs

-- where one of several has no place, they have none together
pub none_latest : (xs : List (Option ℕ)) → None ≡ fold later None xs
none_latest [] = refl
none_latest (x ∷ xs) = none_latest xs

one_none : {X : Type 0} (f : X → Option ℕ) (xs : List X) (i : ℕ) (x : X) (last : Option ℕ) → i < length xs → x ≡ get_or xs i x → f x ≡ None
    → fold later last (map f (drop i xs)) ≡ latest (map f xs) → None ≡ latest (map f xs)
one_none f xs i x last there is none so_far =
    none_latest (map f (drop (i + 1) xs))
    ∙ sym (ap (λ o. fold later o (map f (drop (i + 1) xs))) (ap (later last) none ∙ after last))
    ∙ ap (λ y. fold later (later last (f y)) (map f (drop (i + 1) xs))) is
    ∙ sym (ap (λ ys. fold later last (map f ys)) (drop_more xs i x there))
    ∙ so_far
  where
    after : (o : Option ℕ) → later o None ≡ None
    after None = refl
    after (Some a) = refl

pub one_is_none : {X : Type 0} (f : X → Option ℕ) (xs ys : List X) (i : ℕ) (x : X) (last : Option ℕ) → ys ≡ xs → i < length ys → x ≡ get_or ys i x → f x ≡ None
    → fold later last (map f (drop i xs)) ≡ latest (map f xs) → None ≡ latest (map f xs)
one_is_none f xs ys i x last same there is none so_far =
    one_none f xs i x last (subst (λ zs. i < length zs) same there) (is ∙ ap (λ zs. get_or zs i x) same) none so_far

-- a loop that reads one more of several
pub fold_more : {X : Type 0} (op : Option ℕ → Option ℕ → Option ℕ) (f : X → Option ℕ) (xs ys : List X) (i : ℕ) (x : X) (last new all : Option ℕ) → ys ≡ xs → i < length ys → x ≡ get_or ys i x
    → new ≡ op last (f x) → fold op last (map f (drop i xs)) ≡ all → fold op new (map f (drop (i + 1) xs)) ≡ all
fold_more op f xs ys i x last new all same there is then so_far =
    ap (λ o. fold op o (map f (drop (i + 1) xs))) then
    ∙ ap (λ y. fold op (op last (f y)) (map f (drop (i + 1) xs))) (is ∙ ap (λ zs. get_or zs i x) same)
    ∙ sym (ap (λ ys. fold op last (map f ys)) (drop_more xs i x (subst (λ zs. i < length zs) same there)))
    ∙ so_far

-- ---- words and variants

module _ (doc : ℕ) (part : Span) (to : ℕ) where
  -- whether a word has no term there
  abbrev pub is_missing : WordTerms → Bool
  is_missing word = ends_before to (word_skip doc part word)

  abbrev pub are_missing : List (List WordTerms) → Bool
  are_missing variants = list_all (λ words. list_any is_missing words) variants

  pub ends_variants : (variants : List (List WordTerms)) → ends_before to (variants_skip doc part variants) ≡ are_missing variants
  ends_variants variants =
      ends_soonest to (variant_skip doc part) variants
      ∙ (λ i. list_all (λ words. ends_latest to (word_skip doc part) words i) variants)

-- ---- a term has no place in a span of the part that ends before its first one there

module _ (word : List ℕ) (part span : Span) (within : IsWithin part span) where
  apart : (place : ℕ) → span.to ≤ place → is_inside span place ≡ false
  apart place past = ap (λ b. nat_le span.from place && b) (le-ltb place span.to past) ∙ and_none (nat_le span.from place)
    where
      and_none : (b : Bool) → (b && false) ≡ false
      and_none true = refl
      and_none false = refl

  outside : (place : ℕ) → is_inside part place ≡ false → is_inside span place ≡ false
  outside place out = by (is_inside span place) refl
    where
      by : (b : Bool) → is_inside span place ≡ b → is_inside span place ≡ false
      by false is = is
      by true is =
          let parts = and_parts (nat_le span.from place) (nat_lt place span.to) is in
          let from = leb-true span.from place parts.0 in
          let end = ltb-true place span.to parts.1 in
          let inside = and_from (nat_le part.from place) (nat_lt place part.to)
          (le-leb part.from place (omega (arith, from, within.0))) (lt-ltb place part.to (omega (arith, end, within.1))) in
          absurd (true≢false (sym inside ∙ out))

  none_after : (place : ℕ) (ws : List (List ℕ)) → span.to ≤ place → filter (is_inside span) (places_from word place ws) ≡ []
  none_after place [] past = refl
  none_after place (w ∷ ws) past = by (same_word w word) (none_after (place + 1) ws (omega (arith, past)))
    where
      by : (b : Bool) → filter (is_inside span) (places_from word (place + 1) ws) ≡ []
          → filter (is_inside span) (cond b (place ∷ places_from word (place + 1) ws) (places_from word (place + 1) ws)) ≡ []
      by false rest = rest
      by true rest = ap (λ b. cond b (place ∷ filter (is_inside span) (places_from word (place + 1) ws)) (filter (is_inside span) (places_from word (place + 1) ws))) (apart place past) ∙ rest

  none_inside : (place : ℕ) (ws : List (List ℕ)) → ends_before span.to (slice_get (filter (is_inside part) (places_from word place ws)) 0) ≡ true
      → filter (is_inside span) (places_from word place ws) ≡ []
  none_inside place [] h = refl
  none_inside place (w ∷ ws) h = by (same_word w word) h (none_inside (place + 1) ws)
    where
      rest : List ℕ
      rest = places_from word (place + 1) ws

      here : (b : Bool) → is_inside part place ≡ b → ends_before span.to (slice_get (cond b (place ∷ filter (is_inside part) rest) (filter (is_inside part) rest)) 0) ≡ true
          → (ends_before span.to (slice_get (filter (is_inside part) rest) 0) ≡ true → filter (is_inside span) rest ≡ [])
          → cond (is_inside span place) (place ∷ filter (is_inside span) rest) (filter (is_inside span) rest) ≡ []
      here true is h then =
          let past : span.to ≤ place = omega (arith, ltb-true (span.to - 1) place h) in
          ap (λ b. cond b (place ∷ filter (is_inside span) rest) (filter (is_inside span) rest)) (apart place past)
          ∙ none_after (place + 1) ws (omega (arith, past))
      here false is h then = ap (λ b. cond b (place ∷ filter (is_inside span) rest) (filter (is_inside span) rest)) (outside place is) ∙ then h

      by : (b : Bool) → ends_before span.to (slice_get (filter (is_inside part) (cond b (place ∷ rest) rest)) 0) ≡ true
          → (ends_before span.to (slice_get (filter (is_inside part) rest) 0) ≡ true → filter (is_inside span) rest ≡ [])
          → filter (is_inside span) (cond b (place ∷ rest) rest) ≡ []
      by false h then = then h
      by true h then = here (is_inside part place) refl h then

-- the places of a term in a document of its version
abbrev pub places_there : ℕ → VersionTerm → List ℕ
places_there doc source = places (term_at source.term source.version).word (document_at doc source.version)

pub first_found : (breaks : Breaks) (found : List ℕ) → option_map (λ (hit : Hit). hit.from) (hit_at (hit_place (map (word_hit breaks) found) 0)) ≡ slice_get found 0
first_found breaks [] = refl
first_found breaks (place ∷ found) = refl

pub none_there : (doc : ℕ) (part span : Span) → IsWithin part span → (source : VersionTerm) → ends_before span.to (first_in doc part source) ≡ true
    → filter (is_inside span) (places_there doc source) ≡ []
none_there doc part span within source h =
    let document = document_at doc source.version in
    none_inside (term_at source.term source.version).word part span within 1 (words_of document)
    (sym (ap (ends_before span.to) (first_found (breaks_of document) (filter (is_inside part) (places_there doc source)))) ∙ h)
