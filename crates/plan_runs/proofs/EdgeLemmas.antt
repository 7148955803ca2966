-- A word stands at a place of a span where one of its terms has its first place from there on right there.
use Rattle.std.proofs.Common.{◌≡◌, refl, sym, ap, ◌∙◌, ℕ, suc, ◌+◌, ◌<◌, ◌≤◌, ◌==◌, Bool, true, false, cond, ◌&&◌, ◌||◌, List, [], ◌∷◌, map, filter, fold, length, drop, get_or, Option, Some, None, arith, inl, inr}
use Rattle.std.specs.Prelude.{is_some, nat_le, nat_lt, slice_get}
use Rattle.std.specs.List.{All, list_any}
use Rattle.std.proofs.Math.Bool.{or-false}
use Rattle.std.proofs.lemmas.Bool.{and_from, and_left, and_right, cases_lt, eqb-true, or_left}
use Rattle.std.proofs.lemmas.Bool.Decides.{nat_tests}
use Rattle.std.proofs.lemmas.List.{drop_all, drop_more}
use Rattle.ft_base.specs.declared.hit.Hit.{Hit}
use Rattle.ft_base.specs.declared.places.Breaks.{Breaks}
use Rattle.ft_base.specs.declared.span.Span.{Span}
use Rattle.index_cursors.specs.SpanHits.{is_inside, word_hit}
use Rattle.index_meaning.specs.Documents.{Numbered, breaks_of, document_at}
use Rattle.index_phrases.specs.Phrases.{wanted_at}
use Rattle.index_phrases.specs.declared.word_terms.WordTerms.TheVariants as Terms
use Rattle.index_versions.specs.FirstPlaces.{sooner, soonest}
use Rattle.index_versions.specs.Terms.{VersionTerm, first_in}
use Rattle.index_versions.specs.Versions.{term_hits}
use Rattle.place_merges.specs.Places.{Wanted, fits, stands_at}
use Rattle.plan_runs.proofs.SkipLemmas.{first_found, places_there}

-- ---- one after the other

module _ {X : Type 0} (test : X → Bool) (xs : List X) (n : ℕ) where
  next_any : (x : X) → n < length xs → x ≡ get_or xs n x → list_any test (drop n xs) ≡ list_any test xs → (test x || list_any test (drop (n + 1) xs)) ≡ list_any test xs
  next_any x there is so_far =
      ap (λ y. test y || list_any test (drop (n + 1) xs)) is ∙ sym (ap (list_any test) (drop_more xs n x there)) ∙ so_far

  pub any_here : (x : X) → n < length xs → x ≡ get_or xs n x → list_any test (drop n xs) ≡ list_any test xs → test x ≡ true → true ≡ list_any test xs
  any_here x there is so_far h = sym (or_left (test x) (list_any test (drop (n + 1) xs)) h) ∙ next_any x there is so_far

  pub any_later : (x : X) → n < length xs → x ≡ get_or xs n x → list_any test (drop n xs) ≡ list_any test xs → test x ≡ false
      → list_any test (drop (n + 1) xs) ≡ list_any test xs
  any_later x there is so_far h = sym (ap (λ b. b || list_any test (drop (n + 1) xs)) h) ∙ next_any x there is so_far

  pub any_nowhere : length xs ≤ n → list_any test (drop n xs) ≡ list_any test xs → false ≡ list_any test xs
  any_nowhere past so_far = sym (ap (list_any test) (drop_all n xs past)) ∙ so_far

module _ {X : Type 0} (want : X → Wanted) (xs : List X) (first n : ℕ) where
  abbrev left : ℕ → Bool
  left k = stands_at (first + k) (map want (drop k xs))

  next_stands : (x : X) → n < length xs → x ≡ get_or xs n x → left n ≡ (fits (first + n) (want x) && left (n + 1))
  next_stands x there is =
      let next : first + n + 1 ≡ first + (n + 1) = omega arith in
      ap (λ ys. stands_at (first + n) (map want ys)) (drop_more xs n x there)
      ∙ (λ i. fits (first + n) (want (sym is i)) && stands_at (next i) (map want (drop (n + 1) xs)))

  pub stands_not : (x : X) → n < length xs → x ≡ get_or xs n x → left n ≡ stands_at first (map want xs) → fits (first + n) (want x) ≡ false
      → false ≡ stands_at first (map want xs)
  stands_not x there is so_far h = sym (next_stands x there is ∙ and_left (fits (first + n) (want x)) (left (n + 1)) h) ∙ so_far

  pub stands_more : (x : X) → n < length xs → x ≡ get_or xs n x → left n ≡ stands_at first (map want xs) → fits (first + n) (want x) ≡ true
      → left (n + 1) ≡ stands_at first (map want xs)
  stands_more x there is so_far h = sym (next_stands x there is ∙ ap (λ b. b && left (n + 1)) h) ∙ so_far

  pub stands_whole : length xs ≤ n → left n ≡ stands_at first (map want xs) → true ≡ stands_at first (map want xs)
  stands_whole past so_far = sym (ap (λ ys. stands_at (first + n) (map want ys)) (drop_all n xs past)) ∙ so_far

-- ---- one of several is there

there_sooner : (a b : Option ℕ) → is_some (sooner a b) ≡ (is_some a || is_some b)
there_sooner None b = refl
there_sooner (Some a) None = refl
there_sooner (Some a) (Some b) = refl

there_all : (a : Option ℕ) (xs : List (Option ℕ)) → is_some (fold sooner a xs) ≡ (is_some a || list_any is_some xs)
there_all a [] = sym (or-false (is_some a))
there_all a (x ∷ xs) = there_all (sooner a x) xs ∙ by a x
  where
    by : (a x : Option ℕ) → (is_some (sooner a x) || list_any is_some xs) ≡ (is_some a || (is_some x || list_any is_some xs))
    by None x = refl
    by (Some a) None = refl
    by (Some a) (Some x) = refl

module _ (at : ℕ) where
  -- the place alone
  abbrev pub only : Span
  only = record { from = at; to = at + 1 }

  -- ---- a term

  module _ (breaks : Breaks) (span : Span) (from : span.from ≤ at) (to : at < span.to) where
    is_here : Hit → Bool
    is_here hit = hit.from == at

    one_there : (xs : List ℕ)
        → is_some (slice_get (filter (is_inside only) xs) 0) ≡ list_any (λ other. other == at) (map (λ (hit : Hit). hit.from) (map (word_hit breaks) (filter (is_inside span) xs)))
    one_there [] = refl
    one_there (x ∷ xs) = by (x == at) refl (one_there xs)
      where
        rest : List ℕ
        rest = filter (is_inside span) xs

        listed : List ℕ → Bool
        listed ys = list_any (λ other. other == at) (map (λ (hit : Hit). hit.from) (map (word_hit breaks) ys))

        by : (b : Bool) → (x == at) ≡ b → is_some (slice_get (filter (is_inside only) xs) 0) ≡ listed rest
            → is_some (slice_get (cond (is_inside only x) (x ∷ filter (is_inside only) xs) (filter (is_inside only) xs)) 0) ≡ listed (cond (is_inside span x) (x ∷ rest) rest)
        by true is same =
            let place = eqb-true x at is in
            let alone : is_inside only x ≡ true =
            and_from (nat_le at x) (nat_lt x (at + 1)) (grind (arith, nat_tests, place)) (grind (arith, nat_tests, place)) in
            let inside : is_inside span x ≡ true =
            and_from (nat_le span.from x) (nat_lt x span.to) (grind (arith, nat_tests, place, from)) (grind (arith, nat_tests, place, to)) in
            ap (λ b. is_some (slice_get (cond b (x ∷ filter (is_inside only) xs) (filter (is_inside only) xs)) 0)) alone
            ∙ sym (ap (λ b. listed (cond b (x ∷ rest) rest)) inside ∙ ap (λ b. b || listed rest) is)
        by false is same =
            ap (λ b. is_some (slice_get (cond b (x ∷ filter (is_inside only) xs) (filter (is_inside only) xs)) 0)) alone
            ∙ same
            ∙ sym (other (is_inside span x))
          where
            alone : is_inside only x ≡ false
            alone = elim (cases_lt x at) [
              | inl less ↦ and_left (nat_le at x) (nat_lt x (at + 1)) (grind (arith, nat_tests, less))
              | inr le ↦ and_right (nat_le at x) (nat_lt x (at + 1)) (grind (arith, nat_tests, le, is))
            ]

            other : (b : Bool) → listed (cond b (x ∷ rest) rest) ≡ listed rest
            other true = ap (λ b. b || listed rest) is
            other false = refl

  -- ---- the terms of a word

  module _ (version : List Numbered) (doc : ℕ) (span : Span) (from : span.from ≤ at) (to : at < span.to) where
    abbrev stands : VersionTerm → Bool
    stands source = list_any (λ other. other == at) (map (λ (hit : Hit). hit.from) (term_hits source.term doc span version))

    term_there : (source : VersionTerm) → source.version ≡ version → is_some (first_in doc only source) ≡ stands source
    term_there source own =
        let document = document_at doc source.version in
        ap is_some (first_found (breaks_of document) (filter (is_inside only) (places_there doc source)))
        ∙ one_there (breaks_of document) span from to (places_there doc source)
        ∙ ap (λ v. list_any (λ other. other == at) (map (λ (hit : Hit). hit.from) (term_hits source.term doc span v))) own

    terms_there : (sources : List VersionTerm) → All (λ source. source.version ≡ version) sources
        → list_any is_some (map (first_in doc only) sources) ≡ fits at (wanted_at version doc span (Terms.Of sources))
    terms_there [] own = refl
    terms_there (source ∷ sources) own =
        λ i. term_there source (own 0 source (omega arith)) i || terms_there sources (λ k d lt. own (suc k) d (omega (arith, lt))) i

    pub word_there : (sources : List VersionTerm) → All (λ source. source.version ≡ version) sources
        → is_some (soonest (map (first_in doc only) sources)) ≡ fits at (wanted_at version doc span (Terms.Of sources))
    word_there sources own = there_all None (map (first_in doc only) sources) ∙ terms_there sources own
