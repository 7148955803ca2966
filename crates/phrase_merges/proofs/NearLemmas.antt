-- Distances of at most so much: what is left after the farthest of the places at which the phrases begin.
use Rattle.std.proofs.Common.{◌≡◌, refl, ℕ, suc, ◌+◌, ◌-◌, ◌<◌, ◌≤◌, Bool, true, ◌&&◌, List, [], ◌∷◌, map, length, arith}
use Rattle.std.specs.Prelude.{nat_le, nat_lt}
use Rattle.std.specs.List.{list_all}
use Rattle.std.proofs.lemmas.Bool.{and_from, and_parts, le-leb, leb-true, ltb-true}
use Rattle.all_matches.specs.Join.{greatest, least}
use Rattle.all_matches.specs.Positions.{start_in, end_in}
use Rattle.ft_base.specs.declared.hit.Hit.{Hit}
use Rattle.ft_base.specs.declared.unit.TextUnit.{TextUnit}
use Rattle.window_merges.proofs.ChoiceLemmas.{least_first}
use Rattle.phrase_merges.specs.Choices.{are_near}
use Rattle.phrase_merges.proofs.AheadLemmas.{latest}
use Rattle.phrase_merges.proofs.WithinLemmas.{all_from_least, greatest_is, least_from_all}

abbrev pub ends_from : TextUnit → ℕ → Hit → Bool
ends_from unit place hit = nat_le place (end_in unit hit)

-- hits that end at a place or after it and begin near it are near one another
pub found_near : (size : ℕ) (unit : TextUnit) (low far : ℕ) (chosen : List Hit) → far ≤ low + (size + 1) → (list_all (ends_from unit low) chosen && nat_lt 0 (length chosen)) ≡ true
    → nat_le (latest (λ hit. start_in unit hit) chosen) far ≡ true → are_near size unit chosen ≡ true
found_near size unit low far [] near good short = absurd (empty (ltb-true 0 0 (and_parts true (nat_lt 0 0) good).1))
  where
    empty : 0 < 0 → ⊥
    empty h = omega (arith, h)
found_near size unit low far (hit ∷ hits) near good short =
    let parts = and_parts (list_all (ends_from unit low) (hit ∷ hits)) (nat_lt 0 (length (hit ∷ hits))) good in
    let ends = and_parts (ends_from unit low hit) (list_all (ends_from unit low) hits) parts.0 in
    let first = leb-true low (end_in unit hit) ends.0 in
    let from = least_from_all (λ other. end_in unit other) low (end_in unit hit) hits first ends.1 in
    let last = greatest_is (λ other. start_in unit other) (start_in unit hit) hits in
    let to = leb-true (latest (λ other. start_in unit other) (hit ∷ hits)) far short in
    le-leb (greatest (start_in unit hit) (map (λ other. start_in unit other) hits)) (suc (least (end_in unit hit) (map (λ other. end_in unit other) hits) + size))
    (omega (arith, near, from, last, to))

-- hits that are near one another and begin as far on end near that place
pub ends_near : (size : ℕ) (unit : TextUnit) (far : ℕ) (chosen : List Hit) → nat_le far (latest (λ hit. start_in unit hit) chosen) ≡ true → are_near size unit chosen ≡ true
    → list_all (ends_from unit (far - (size + 1))) chosen ≡ true
ends_near size unit far [] reaches near = refl
ends_near size unit far (hit ∷ hits) reaches near =
    let low = far - (size + 1) in
    let to = leb-true far (latest (λ other. start_in unit other) (hit ∷ hits)) reaches in
    let last = greatest_is (λ other. start_in unit other) (start_in unit hit) hits in
    let fits = leb-true (greatest (start_in unit hit) (map (λ other. start_in unit other) hits)) (suc (least (end_in unit hit) (map (λ other. end_in unit other) hits) + size)) near in
    let from : low ≤ least (end_in unit hit) (map (λ other. end_in unit other) hits) = omega (arith, to, last, fits) in
    let own = least_first (end_in unit hit) (map (λ other. end_in unit other) hits) in
    and_from (ends_from unit low hit) (list_all (ends_from unit low) hits) (le-leb low (end_in unit hit) (omega (arith, from, own)))
    (all_from_least (λ other. end_in unit other) low (end_in unit hit) hits from)
