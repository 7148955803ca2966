-- The ways of the right side of a mild not that lie in bounds tell whether hits stand out of each.
use Rattle.std.proofs.Common.{◌≡◌, refl, ap, sym, ◌∙◌, ℕ, zero, suc, ◌+◌, ◌-◌, ◌≤◌, List, [], ◌∷◌, Bool, true, false, not, ◌&&◌, ◌||◌, cond, length, arith}
use Rattle.std.specs.Prelude.{nat_le, fold, Option, Some, None}
use Rattle.std.specs.List.{list_any, list_all, range_with_len}
use Rattle.std.proofs.lemmas.Bool.{and_parts, leb-true, or_parts}
use Rattle.std.proofs.lemmas.Bool.Decides.{nat_tests}
use Rattle.ft_base.specs.Lists.{is_not_empty}
use Rattle.ft_base.specs.declared.hit.Hit.{Hit}
use Rattle.ft_base.specs.declared.span.Span.{Span}
use Rattle.all_matches.specs.MildNot.{stands_out}
use Rattle.all_matches.specs.Positions.{covers, places_from_to}
use Rattle.all_matches.specs.Ways.{Way, way_includes}
use Rattle.ft_operators.specs.Bounds.{all_numbers, everywhere, fit_together, lies_between, lies_in, numbers_round}
use Rattle.ft_operators.specs.declared.bounds.Bounds.{Bounds}
use Rattle.ft_operators.specs.declared.bounds.UnitBounds.{UnitBounds}
use Rattle.ft_operators.specs.declared.course.Course.{Course}
use Rattle.ft_base.specs.declared.unit.TextUnit.TheVariants.{Words}
use Rattle.ft_operators.specs.declared.extent.Extent.{Extent}
use Rattle.ft_operators.specs.Course.{admitted, course_out, every, round_words, without_bounds}
use Rattle.ft_operators.specs.Extents.{lone_size}
use Rattle.ft_operators.proofs.BoundLemmas.{all_lie, all_pass, between_beside}
use Rattle.ft_operators.proofs.SpreadLemmas.{are_few, is_short}
use Rattle.ft_operators.proofs.TellingLemmas.{any_more}

-- ---- bounds that are not narrowed

same_both : {X : Type 0} (b : Bool) (x : X) → cond b x x ≡ x
same_both true x = refl
same_both false x = refl

-- where the words of the includes are not known
unknown_words : (hits : List Hit) (bounds : UnitBounds) → fold (round_words None) bounds hits ≡ bounds
unknown_words [] bounds = refl
unknown_words (hit ∷ rest) bounds = ap (λ b. fold (round_words None) b rest) (same_both (nat_le hit.from hit.to) bounds) ∙ unknown_words rest bounds

pub out_still : (item : Span) (hits : List Hit) → course_out (every item) hits ≡ every item
out_still item hits = ap (λ (words : UnitBounds). record (every item) { bounds = record everywhere { words = words } }) (unknown_words hits all_numbers)

-- whether some hit has a word
abbrev pub has_word : List Hit → Bool
has_word hits = list_any (λ hit. nat_le hit.from hit.to) hits

no_words : (words : Option ℕ) (hits : List Hit) (bounds : UnitBounds) → has_word hits ≡ false → fold (round_words words) bounds hits ≡ bounds
no_words words [] bounds none = refl
no_words words (hit ∷ rest) bounds none =
    let parts = or_parts (nat_le hit.from hit.to) (has_word rest) none in
    ap (λ (b : Bool). fold (round_words words) (cond b (numbers_round words hit.from hit.to bounds) bounds) rest) parts.0 ∙ no_words words rest bounds parts.1

pub out_wordless : (course : Course) (hits : List Hit) → has_word hits ≡ false → course_out course hits ≡ without_bounds course
out_wordless course hits none =
    ap (λ (words : UnitBounds). record (without_bounds course) { bounds = record everywhere { words = words } }) (no_words (lone_size course.beside) hits all_numbers none)

-- ---- an include that covers the words of hits

fails_not : (a : Bool) → not a ≡ false → a ≡ true
fails_not true h = refl
fails_not false h = cc

ends_pass : (test : ℕ → Bool) (start more : ℕ) → list_any (λ place. not (test place)) (range_with_len start (suc more)) ≡ false → (test start ≡ true) × (test (start + more) ≡ true)
ends_pass test start zero h =
    let same : start + 0 ≡ start = omega arith in
    let first = fails_not (test start) (or_parts (not (test start)) false h).0 in
    (first, ap test same ∙ first)
ends_pass test start (suc more) h =
    let same : start + suc more ≡ (start + 1) + more = omega arith in
    let parts = or_parts (not (test start)) (list_any (λ place. not (test place)) (range_with_len (start + 1) (suc more))) h in
    (fails_not (test start) parts.0, ap test same ∙ (ends_pass test (start + 1) more parts.1).1)

-- a hit that covers each word of another one
covering : (hit other : Hit) → nat_le hit.from hit.to ≡ true → list_any (λ place. not (covers other place || false)) (places_from_to hit.from hit.to) ≡ false
    → (other.from ≤ hit.from) × (hit.to ≤ other.to)
covering hit other some none =
    let less = leb-true hit.from hit.to some in
    let size : suc hit.to - hit.from ≡ suc (hit.to - hit.from) = omega (arith, less) in
    let ends = ends_pass (λ place. covers other place || false) hit.from (hit.to - hit.from) (ap (λ n. list_any (λ place. not (covers other place || false)) (range_with_len hit.from n)) (sym size) ∙ none) in
    let last : hit.from + (hit.to - hit.from) ≡ hit.to = omega (arith, less) in
    let end = ap (λ place. covers other place || false) (sym last) ∙ ends.1 in
    (from hit.from ends.0, to hit.to end)
  where
    from : (place : ℕ) → (covers other place || false) ≡ true → other.from ≤ place
    from place h = grind (arith, nat_tests)

    to : (place : ℕ) → (covers other place || false) ≡ true → place ≤ other.to
    to place h = grind (arith, nat_tests)

fits : (hit other : Hit) (words : ℕ) → other.from ≤ hit.from → hit.to ≤ other.to → is_short Words words other ≡ true → fit_together (Some words) hit.from hit.to other.from other.to ≡ true
fits hit other words from to short = grind (arith, nat_tests)

lies_round : (words : ℕ) (other : Hit) → is_short Words words other ≡ true → (hits : List Hit) (bounds : UnitBounds) → lies_between bounds other.from other.to ≡ true → stands_out hits (other ∷ []) ≡ false
    → lies_between (fold (round_words (Some words)) bounds hits) other.from other.to ≡ true
lies_round words other short [] bounds h none = h
lies_round words other short (hit ∷ rest) bounds h none =
    let parts = or_parts (list_any (λ place. not (covers other place || false)) (places_from_to hit.from hit.to)) (stands_out rest (other ∷ [])) none in
    lies_round words other short rest (round_words (Some words) bounds hit) (by_test parts.0 (nat_le hit.from hit.to) refl) parts.1
  where
    by_test : list_any (λ place. not (covers other place || false)) (places_from_to hit.from hit.to) ≡ false → (b : Bool) → nat_le hit.from hit.to ≡ b
        → lies_between (cond b (numbers_round (Some words) hit.from hit.to bounds) bounds) other.from other.to ≡ true
    by_test covered true some =
        let ends = covering hit other some covered in
        between_beside (Some words) hit.from hit.to bounds other.from other.to h (fits hit other words ends.0 ends.1 short)
    by_test covered false some = h

-- the bounds round hits
abbrev pub out_bounds : Option Extent → List Hit → Bounds
out_bounds beside hits = record everywhere { words = fold (round_words (lone_size beside)) all_numbers hits }

lies_out : (beside : Option Extent) (hits includes : List Hit) → are_few Words beside includes ≡ true → stands_out hits includes ≡ false → list_all (lies_in (out_bounds beside hits)) includes ≡ true
lies_out None hits includes few none =
    ap (λ (words : UnitBounds). list_all (lies_in (record everywhere { words = words })) includes) (unknown_words hits all_numbers) ∙ all_pass (lies_in everywhere) all_lie includes
lies_out (Some extent) hits includes few none = by_test (nat_le extent.includes 1) refl includes few none
  where
    by_test : (b : Bool) → nat_le extent.includes 1 ≡ b → (includes : List Hit) → are_few Words (Some extent) includes ≡ true → stands_out hits includes ≡ false
        → list_all (lies_in (record everywhere { words = fold (round_words (cond b (Some extent.size) None)) all_numbers hits })) includes ≡ true
    by_test false is includes few none =
        ap (λ (words : UnitBounds). list_all (lies_in (record everywhere { words = words })) includes) (unknown_words hits all_numbers) ∙ all_pass (lies_in everywhere) all_lie includes
    by_test true is [] few none = refl
    by_test true is (other ∷ []) few none =
        let parts = and_parts (nat_le 1 extent.includes) (is_short Words extent.size other && true) few in
        let short = (and_parts (is_short Words extent.size other) true parts.1).0 in
        let all = all_lie other in
        let others = (and_parts (lies_between all_numbers other.from other.to) _ all).1 in
        λ i. (lies_round extent.size other short hits all_numbers (and_parts (lies_between all_numbers other.from other.to) _ all).0 none i && others i) && true
    by_test true is (other ∷ another ∷ more) few none =
        let parts = and_parts (nat_le (length (other ∷ another ∷ more)) extent.includes) (list_all (is_short Words extent.size) (other ∷ another ∷ more)) few in
        let sizes = leb-true (length (other ∷ another ∷ more)) extent.includes parts.0 in
        absurd (omega (arith, sizes, leb-true extent.includes 1 is))

pub lies_beside_all : (beside : Option Extent) (hits includes : List Hit) → are_few Words beside includes ≡ true → not (stands_out hits includes) ≡ true → list_all (lies_in (out_bounds beside hits)) includes ≡ true
lies_beside_all beside hits includes few bars = lies_out beside hits includes few (is_false (stands_out hits includes) bars)
  where
    is_false : (b : Bool) → not b ≡ true → b ≡ false
    is_false true h = cc
    is_false false h = refl

-- ---- where some hit has a word, they stand out of a way without includes

word_there : (start more : ℕ) → list_any (λ place. true) (range_with_len start (suc more)) ≡ true
word_there start more = refl

some_place : (hit : Hit) → nat_le hit.from hit.to ≡ true → list_any (λ place. true) (places_from_to hit.from hit.to) ≡ true
some_place hit some =
    let less = leb-true hit.from hit.to some in
    let size : suc hit.to - hit.from ≡ suc (hit.to - hit.from) = omega (arith, less) in
    ap (λ n. list_any (λ place. true) (range_with_len hit.from n)) size ∙ word_there hit.from (hit.to - hit.from)

out_of_none : (hits : List Hit) → has_word hits ≡ true → stands_out hits [] ≡ true
out_of_none hits some = any_more (λ hit. nat_le hit.from hit.to) (λ hit. list_any (λ place. true) (places_from_to hit.from hit.to)) some_place hits some

all_out : (hits : List Hit) → has_word hits ≡ true → (ways : List Way) → list_any (λ way. is_not_empty (way_includes way)) ways ≡ false → list_all (λ way. stands_out hits (way_includes way)) ways ≡ true
all_out hits some [] none = refl
all_out hits some (way ∷ rest) none =
    let parts = or_parts (is_not_empty (way_includes way)) (list_any (λ way. is_not_empty (way_includes way)) rest) none in
    λ i. out (way_includes way) parts.0 i && all_out hits some rest parts.1 i
  where
    out : (includes : List Hit) → is_not_empty includes ≡ false → stands_out hits includes ≡ true
    out [] e = out_of_none hits some
    out (include ∷ more) e = cc

pub admitted_out : (hits : List Hit) → has_word hits ≡ true → (ways : List Way) → admitted ways hits ≡ list_all (λ way. stands_out hits (way_includes way)) ways
admitted_out hits some ways = by_test (list_any (λ way. is_not_empty (way_includes way)) ways) refl
  where
    by_test : (b : Bool) → list_any (λ way. is_not_empty (way_includes way)) ways ≡ b → (not b || list_all (λ way. stands_out hits (way_includes way)) ways) ≡ list_all (λ way. stands_out hits (way_includes way)) ways
    by_test true is = refl
    by_test false is = sym (all_out hits some ways is)
