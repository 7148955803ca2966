-- From one spot to the next at which one of the variants stands.
use Rattle.std.proofs.Common.{◌≡◌, refl, sym, ap, ◌∙◌, ℕ, ◌==◌, Bool, true, false, cond, ◌&&◌, nat_lt, List, ◌∷◌, map, filter, length, arith}
use Rattle.std.proofs.lemmas.Bool.Decides.{nat_tests}
use Rattle.std.proofs.lemmas.List.{length-map}
use Rattle.ft_base.specs.Hits.{HitPlace}
use Rattle.ft_base.proofs.Truth.{and_swap}
use Rattle.all_matches.proofs.ListTests.{list_any-alike}
use Rattle.place_merges.specs.declared.item.Variant.{Variant}
use Rattle.place_merges.specs.declared.spot.Spot.{Spot}
use Rattle.place_merges.specs.Places.{Wanted, stands_before}
use Rattle.place_merges.specs.Sources.{wanted, wanted_words}
use Rattle.place_merges.specs.Spots.{from_lead, some_at, spots_after, spots_left}
use Rattle.place_merges.specs.steps.Spotting.{LeadsAfter, SameAfter, one_at, variant_at}
use Rattle.place_merges.proofs.CountLemmas.{any_that_counts}
use Rattle.place_merges.proofs.MoveLemmas.{any_map}
use Rattle.place_merges.proofs.SpotLemmas.{left_found, left_jumps, left_same}
use Rattle.place_merges.proofs.SpotSearch.{before_trans}

module _ {H : Type 0} (stands : H → HitPlace) (to : ℕ) where
  as_words : (variants : List (Variant H)) (at : Spot) → some_at to (wanted_words stands variants) at ≡ one_at stands to variants at
  as_words variants at =
      let words = λ (v : Variant H). map (wanted stands) v.items.items in
      let is_at = λ (ws : List Wanted). (length ws == at.words) && stands_before to at.place ws in
      any_map is_at words (filter (λ variant. variant.counts) variants)
      ∙ any_that_counts (λ variant. is_at (words variant)) variants
      ∙ list_any-alike (λ variant. variant.counts && is_at (words variant)) (λ variant. variant_at stands to variant at) variants
      (λ variant. ap (λ n. variant.counts && ((n == at.words) && stands_before to at.place (words variant))) (length-map variant.items.items (wanted stands))
      ∙ and_swap variant.counts (length variant.items.items == at.words) (stands_before to at.place (words variant)))

  left_words : (variants : List (Variant H)) (at : Spot) → spots_left to (wanted_words stands variants) at ≡ filter (one_at stands to variants) (spots_after to at)
  left_words variants at = λ i. filter (λ other. as_words variants other i) (spots_after to at)

  -- one step leads to the first of those that were left, or to a place before which there are none
  pub lead_is : (old now : List (Variant H)) (past next : Spot) → LeadsAfter (one_at stands to old) past to next → SameAfter past (one_at stands to now) (one_at stands to old)
      → spots_left to (wanted_words stands old) past ≡ from_lead (spots_left to (wanted_words stands now)) next
  lead_is old now past next leads same = by (nat_lt 0 next.words) refl
    where
      same_next : filter (one_at stands to old) (spots_after to next) ≡ spots_left to (wanted_words stands now) next
      same_next =
          sym (left_same to next (one_at stands to now) (one_at stands to old) (record { same = λ other a. same.same other (before_trans past next other leads.ahead a) }))
          ∙ sym (left_words now next)

      by : (b : Bool) → nat_lt 0 next.words ≡ b
          → spots_left to (wanted_words stands old) past ≡ cond b (next ∷ spots_left to (wanted_words stands now) next) (spots_left to (wanted_words stands now) next)
      by true is =
          left_words old past
          ∙ left_found (one_at stands to old) to past next leads (grind (arith, nat_tests, is))
          ∙ ap (λ rest. next ∷ rest) same_next
      by false is =
          left_words old past
          ∙ left_jumps (one_at stands to old) to past next leads (grind (arith, nat_tests, is))
          ∙ same_next
