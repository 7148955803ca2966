-- The places that fit variants of one word each, and those of the sources of their words.
use Rattle.std.proofs.Common.{◌≡◌, sym, ap, ◌∙◌, ℕ, zero, suc, ◌+◌, ◌-◌, ◌<◌, Bool, ◌&&◌, ◌||◌, eqb, List, map, arith}
use Rattle.std.specs.Prelude.{nat_le, nat_lt, filter, flat_map}
use Rattle.std.specs.List.{list_any, range_with_len}
use Rattle.std.proofs.Math.Bool.{and_comm}
use Rattle.std.proofs.lemmas.Bool.Decides.{nat_tests}
use Rattle.ft_base.specs.Hits.{HitPlace}
use Rattle.ft_base.specs.declared.span.Span.{Span}
use Rattle.all_matches.proofs.ListTests.{list_any-alike, list_any-flat_map, list_any-map}
use Rattle.place_merges.specs.Places.{Wanted, fits, one_of}
use Rattle.place_merges.specs.Sources.{places_left}
use Rattle.place_merges.specs.steps.Searching.{has}
use Rattle.window_merges.specs.Rows.{places_in}
use Rattle.window_merges.proofs.WordLemmas.{inside, of_filtered}

in_range : (first count place : ℕ) → has (range_with_len first count) place ≡ (nat_le first place && nat_lt place (first + count))
in_range first zero place = grind (arith, nat_tests)
in_range first (suc count) place =
    ap (λ b. eqb first place || b) (in_range (first + 1) count place) ∙ one_more (first + 1 + count) (first + suc count) (omega arith) (omega arith)
  where
    one_more : (last other : ℕ) → last ≡ other → first < last → (eqb first place || (nat_le (first + 1) place && nat_lt place last)) ≡ (nat_le first place && nat_lt place other)
    one_more last other e h = grind (arith, nat_tests, e, h)

span_range : (span : Span) (place : ℕ) → has (range_with_len span.from (span.to - span.from)) place ≡ inside span place
span_range span place = in_range span.from (span.to - span.from) place ∙ same
  where
    same : (nat_le span.from place && nat_lt place (span.from + (span.to - span.from))) ≡ inside span place
    same = grind (arith, nat_tests)

module _ {H : Type 0} (stand : H → HitPlace) (span : Span) where
  abbrev wants : List (List H) → List Wanted
  wants variants = map (λ sources. one_of (map (λ source. places_left (stand source)) sources)) variants

  abbrev some_source : ℕ → List H → Bool
  some_source place sources = list_any (λ source. has (places_left (stand source)) place) sources

  wants_fit : (variants : List (List H)) (place : ℕ) → list_any (fits place) (wants variants) ≡ some_source place (flat_map (λ sources. sources) variants)
  wants_fit variants place =
      list_any-map (fits place) (λ sources. one_of (map (λ source. places_left (stand source)) sources)) variants
      ∙ list_any-alike (λ sources. fits place (one_of (map (λ source. places_left (stand source)) sources))) (some_source place) variants
      (λ sources. list_any-map (λ places. has places place) (λ source. places_left (stand source)) sources)
      ∙ sym (list_any-flat_map (λ source. has (places_left (stand source)) place) (λ sources. sources) variants)

  pub wanted_places : (variants : List (List H)) (place : ℕ)
      → has (filter (λ other. list_any (fits other) (wants variants)) (range_with_len span.from (span.to - span.from))) place
      ≡ has (places_in stand span (flat_map (λ sources. sources) variants)) place
  wanted_places variants place =
      of_filtered (λ other. list_any (fits other) (wants variants)) (range_with_len span.from (span.to - span.from)) place
      ∙ (λ i. wants_fit variants place i && span_range span place i)
      ∙ and_comm (some_source place (flat_map (λ sources. sources) variants)) (inside span place)
      ∙ ap (λ b. inside span place && b) (sym (list_any-flat_map (λ other. eqb other place) (λ source. places_left (stand source)) (flat_map (λ sources. sources) variants)))
      ∙ sym (of_filtered (inside span) (flat_map (λ source. places_left (stand source)) (flat_map (λ sources. sources) variants)) place)
