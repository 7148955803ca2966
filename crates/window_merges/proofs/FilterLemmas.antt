-- Words that are joined by `ftand` under a filter, as choices of their hits.
use Rattle.std.proofs.Common.{◌≡◌, refl, sym, ap, ◌∙◌, ℕ, ◌+◌, ◌<◌, Bool, true, false, cond, ◌&&◌, ◌||◌, eqb, List, [], ◌∷◌, ◌++◌, map, length, arith, append-nil, append_assoc}
use Rattle.std.specs.Prelude.{nat_le, nat_lt, fold}
use Rattle.std.specs.List.{list_any, list_all}
use Rattle.std.proofs.lemmas.Bool.{and_from, and_parts, and_right, eqb-true, le-leb, lt-leb, lt-ltb}
use Rattle.ft_base.specs.declared.filter.Filter.{Filter}
use Rattle.ft_base.specs.declared.filter.Filter.TheVariants as F
use Rattle.ft_base.specs.declared.hit.Hit.{Hit}
use Rattle.ft_base.specs.declared.span.Span.{Span}
use Rattle.ft_base.specs.declared.unit.TextUnit.TheVariants.{Words}
use Rattle.all_matches.specs.Boolean.{is_clean, satisfied}
use Rattle.all_matches.specs.Filters.{passes, choices}
use Rattle.all_matches.specs.Join.{greatest, least}
use Rattle.all_matches.specs.Operators.{together_of}
use Rattle.all_matches.specs.Positions.{agree_in_order}
use Rattle.all_matches.specs.Ways.{Operator, Way, phrase, together, one_hit, two_ways, by_filter, bare_match, filtered_ways, matches_of, way_includes, ways_of, without_negation}
use Rattle.all_matches.proofs.BareWays.{bare_matches}
use Rattle.all_matches.proofs.ListTests.{list_any-alike, list_any-flat_map, list_any-map}
use Rattle.all_matches.proofs.SomeWindow.{some_window}
use Rattle.window_merges.specs.Choices.{are_close, are_in_order, some_choice}
use Rattle.window_merges.specs.Words.{are_numbered, are_single, filtered_words, first_words}
use Rattle.window_merges.proofs.ChoiceTests.{any_on, choice_map, choice_on, choice_same}

-- ---- ways

some_in : {A : Type 0} (xs : List A) → list_any (λ x. true) xs ≡ nat_lt 0 (length xs)
some_in [] = refl
some_in (x ∷ xs) = sym (lt-ltb 0 (length (x ∷ xs)) (omega arith))

-- where a filter keeps the includes there is a way through it
pub some_through : (kind : Filter) (includes : List Hit) (item : Span) → passes kind includes item ≡ true → list_any (λ choice. true) (choices kind includes) ≡ true
some_through F.Ordered includes item h = refl
some_through (F.Window size kind) includes item h =
    some_in (choices (F.Window size kind) includes) ∙ sym (some_window size kind includes item) ∙ h
some_through (F.Distance range kind) includes item h = refl
some_through F.SameSentence includes item h = refl
some_through F.SameParagraph includes item h = refl
some_through F.DifferentSentence includes item h = refl
some_through F.DifferentParagraph includes item h = refl
some_through F.AtStart includes item h = refl
some_through F.AtEnd includes item h = refl
some_through F.EntireContent includes item h = refl

through_one : (kind : Filter) (item : Span) (way : Way) → list_any (λ w. true) (filtered_ways kind item way) ≡ passes kind (way_includes way) item
through_one kind item way = by (passes kind (way_includes way) item) refl
  where
    by : (kept : Bool) → passes kind (way_includes way) item ≡ kept
        → list_any (λ (w : Way). true) (cond kept (map (by_filter way kind) (choices kind (way_includes way))) []) ≡ kept
    by true h = list_any-map (λ w. true) (by_filter way kind) (choices kind (way_includes way)) ∙ some_through kind (way_includes way) item h
    by false h = refl

-- whether a way can be made longer by a choice of hits
abbrev longer : (List Hit → Bool) → List (List Hit) → Way → Bool
longer test words way = some_choice (λ chosen. test (way_includes way ++ chosen)) words

-- the ways of words that are joined to an operator
joined_ways : (item : Span) (test : List Hit → Bool) (operator : Operator) (words : List (List Hit))
    → list_any (λ way. test (way_includes way)) (ways_of item (fold together operator (map phrase words)))
    ≡ list_any (λ way. some_choice (λ chosen. test (way_includes way ++ chosen)) words) (ways_of item operator)
unfolding ways_of
joined_ways item test operator [] = list_any-alike (λ way. test (way_includes way)) (λ way. test (way_includes way ++ [])) (ways_of item operator) (λ way. ap test (sym (append-nil (way_includes way))))
joined_ways item test operator (hits ∷ words) =
    joined_ways item test (together operator (phrase hits)) words
    ∙ list_any-flat_map (longer test words) (λ a. map (two_ways a) (map one_hit hits)) (ways_of item operator)
    ∙ list_any-alike (λ a. list_any (longer test words) (map (two_ways a) (map one_hit hits))) (λ a. list_any (λ hit. some_choice (λ chosen. test (way_includes a ++ hit ∷ chosen)) words) hits) (ways_of item operator)
    (λ a. list_any-map (longer test words) (two_ways a) (map one_hit hits) ∙ list_any-map (λ b. longer test words (two_ways a b)) one_hit hits
    ∙ list_any-alike (λ hit. longer test words (two_ways a (one_hit hit))) (λ hit. some_choice (λ chosen. test (way_includes a ++ hit ∷ chosen)) words) hits
    (λ hit. choice_same (λ chosen. test ((way_includes a ++ hit ∷ []) ++ chosen)) (λ chosen. test (way_includes a ++ hit ∷ chosen)) words (λ chosen. ap test (append_assoc (way_includes a) (hit ∷ []) chosen))))

unnegated : (operator : Operator) (words : List (List Hit)) → without_negation operator ≡ true → without_negation (fold together operator (map phrase words)) ≡ true
unnegated operator [] h = h
unnegated operator (hits ∷ words) h = unnegated (together operator (phrase hits)) words (and_from (without_negation operator) true h refl)

pub filtered_choices : (kind : Filter) (item : Span) (hits : List Hit) (words : List (List Hit))
    → satisfied (matches_of item (filtered_words kind (hits ∷ words))) ≡ some_choice (λ includes. passes kind includes item) (hits ∷ words)
unfolding ways_of
filtered_choices kind item hits words =
    ap satisfied (bare_matches item (filtered_words kind (hits ∷ words)) (unnegated (phrase hits) words refl))
    ∙ list_any-map is_clean bare_match (ways_of item (filtered_words kind (hits ∷ words)))
    ∙ list_any-flat_map (λ way. true) (filtered_ways kind item) (ways_of item (together_of (map phrase (hits ∷ words))))
    ∙ list_any-alike (λ way. list_any (λ w. true) (filtered_ways kind item way)) (λ way. passes kind (way_includes way) item) (ways_of item (together_of (map phrase (hits ∷ words)))) (through_one kind item)
    ∙ joined_ways item (λ includes. passes kind includes item) (phrase hits) words
    ∙ list_any-map (λ way. some_choice (λ chosen. passes kind (way_includes way ++ chosen) item) words) one_hit hits

-- ---- a window

abbrev pub is_single : Hit → Bool
is_single hit = eqb hit.to hit.from

last_words : (hits : List Hit) → list_all is_single hits ≡ true → map (λ hit. hit.to) hits ≡ map (λ hit. hit.from) hits
last_words [] h = refl
last_words (hit ∷ hits) h =
    let parts = and_parts (is_single hit) (list_all is_single hits) h in
    λ i. eqb-true hit.to hit.from parts.0 i ∷ last_words hits parts.1 i

window_is : (size : ℕ) (item : Span) (chosen : List Hit) → list_all is_single chosen ≡ true → passes (F.Window size Words) chosen item ≡ are_close size (map (λ hit. hit.from) chosen)
window_is size item [] h = refl
window_is size item (hit ∷ hits) h =
    let parts = and_parts (is_single hit) (list_all is_single hits) h in
    λ i. nat_lt (greatest (eqb-true hit.to hit.from parts.0 i) (last_words hits parts.1 i)) (least hit.from (map (λ other. other.from) hits) + size)

pub window_choices : (size : ℕ) (item : Span) (hits : List Hit) (words : List (List Hit)) → are_single (hits ∷ words) ≡ true
    → satisfied (matches_of item (filtered_words (F.Window size Words) (hits ∷ words))) ≡ some_choice (are_close size) (first_words (hits ∷ words))
window_choices size item hits words h =
    filtered_choices (F.Window size Words) item hits words
    ∙ choice_on is_single (λ chosen. passes (F.Window size Words) chosen item) (λ chosen. are_close size (map (λ hit. hit.from) chosen)) (hits ∷ words) h (window_is size item)
    ∙ choice_map (λ hit. hit.from) (are_close size) (hits ∷ words)

-- ---- order

-- whether the hits of a choice have the numbers from one on
abbrev rise : ℕ → List Hit → Bool
rise number [] = true
rise number (hit ∷ hits) = eqb hit.query number && rise (number + 1) hits

numbered_choice : (p q : List Hit → Bool) (number : ℕ) (words : List (List Hit)) → are_numbered number words ≡ true → ((chosen : List Hit) → rise number chosen ≡ true → p chosen ≡ q chosen)
    → some_choice p words ≡ some_choice q words
numbered_choice p q number [] h same = same [] refl
numbered_choice p q number (hits ∷ words) h same =
    let parts = and_parts (list_all (λ hit. eqb hit.query number) hits) (are_numbered (number + 1) words) h in
    any_on (λ hit. eqb hit.query number) (λ hit. some_choice (λ chosen. p (hit ∷ chosen)) words) (λ hit. some_choice (λ chosen. q (hit ∷ chosen)) words) hits parts.0
    (λ hit one. numbered_choice (λ chosen. p (hit ∷ chosen)) (λ chosen. q (hit ∷ chosen)) (number + 1) words parts.1
    (λ chosen all. same (hit ∷ chosen) (and_from (eqb hit.query number) (rise (number + 1) chosen) one all)))

or_none : (b : Bool) → ((b && true) || false) ≡ b
or_none true = refl
or_none false = refl

-- a hit with a smaller number agrees with another one where it isn't after it
agrees : (a b : Hit) → a.query < b.query → agree_in_order a b ≡ nat_le a.from b.from
agrees a b h =
    (λ i. (nat_le a.from b.from && le-leb a.query b.query (omega (arith, h)) i) || and_right (nat_le b.from a.from) (nat_le b.query a.query) (lt-leb b.query a.query h) i)
    ∙ or_none (nat_le a.from b.from)

agrees_all : (a : Hit) (number : ℕ) (hits : List Hit) → a.query < number → rise number hits ≡ true → list_all (agree_in_order a) hits ≡ list_all (nat_le a.from) (map (λ hit. hit.from) hits)
agrees_all a number [] less h = refl
agrees_all a number (hit ∷ hits) less h =
    let parts = and_parts (eqb hit.query number) (rise (number + 1) hits) h in
    let is = eqb-true hit.query number parts.0 in
    λ i. agrees a hit (omega (arith, less, is)) i && agrees_all a (number + 1) hits (omega (arith, less)) parts.1 i

order_is : (number : ℕ) (item : Span) (chosen : List Hit) → rise number chosen ≡ true → passes F.Ordered chosen item ≡ are_in_order (map (λ hit. hit.from) chosen)
order_is number item [] h = refl
order_is number item (hit ∷ hits) h =
    let parts = and_parts (eqb hit.query number) (rise (number + 1) hits) h in
    let is = eqb-true hit.query number parts.0 in
    λ i. agrees_all hit (number + 1) hits (omega (arith, is)) parts.1 i && order_is (number + 1) item hits parts.1 i

pub ordered_choices : (number : ℕ) (item : Span) (hits : List Hit) (words : List (List Hit)) → are_numbered number (hits ∷ words) ≡ true
    → satisfied (matches_of item (filtered_words F.Ordered (hits ∷ words))) ≡ some_choice are_in_order (first_words (hits ∷ words))
ordered_choices number item hits words h =
    filtered_choices F.Ordered item hits words
    ∙ numbered_choice (λ chosen. passes F.Ordered chosen item) (λ chosen. are_in_order (map (λ hit. hit.from) chosen)) number (hits ∷ words) h (order_is number item)
    ∙ choice_map (λ hit. hit.from) are_in_order (hits ∷ words)
