-- Windows: which hits one window has room for.
use Rattle.std.proofs.Common.{◌≡◌, refl, ◌∙◌, ℕ, ◌+◌, ◌<◌, ◌≤◌, min, max, Bool, true, ◌&&◌, List, [], ◌∷◌, map, length, arith}
use Rattle.std.specs.Prelude.{nat_le, nat_lt}
use Rattle.std.specs.List.{list_all}
use Rattle.std.proofs.lemmas.Bool.{and_from, and_parts, le-leb, leb-true, lt-ltb, ltb-true}
use Rattle.all_matches.specs.Join.{greatest, join, least}
use Rattle.all_matches.specs.Positions.{start_in, end_in}
use Rattle.all_matches.specs.Window.{fits_window}
use Rattle.ft_base.specs.declared.hit.Hit.{Hit}
use Rattle.ft_base.specs.declared.unit.TextUnit.{TextUnit}
use Rattle.ft_base.specs.declared.unit.TextUnit.TheVariants.{Paragraphs, Sentences, Words}
use Rattle.window_merges.proofs.ChoiceLemmas.{least_first}
use Rattle.phrase_merges.proofs.AheadLemmas.{latest}

-- whether a window of this size can hold all hits
abbrev pub are_within : ℕ → TextUnit → List Hit → Bool
are_within size unit hits = fits_window size unit (join hits)

-- ---- one choice

abbrev pub begins_from : TextUnit → ℕ → Hit → Bool
begins_from unit place hit = nat_le place (start_in unit hit)

pub within_is : (size : ℕ) (unit : TextUnit) (hit : Hit) (hits : List Hit) → are_within size unit (hit ∷ hits)
    ≡ nat_lt (greatest (end_in unit hit) (map (λ other. end_in unit other) hits)) (least (start_in unit hit) (map (λ other. start_in unit other) hits) + size)
within_is size Words hit hits = refl
within_is size Sentences hit hits = refl
within_is size Paragraphs hit hits = refl

pub greatest_is : (number : Hit → ℕ) (first : ℕ) (hits : List Hit) → greatest first (map number hits) ≡ max first (latest number hits)
greatest_is number first [] = omega arith
greatest_is number first (hit ∷ hits) = let rest = greatest_is number (max first (number hit)) hits in omega (arith, rest)

pub least_from_all : (number : Hit → ℕ) (low first : ℕ) (hits : List Hit) → low ≤ first → list_all (λ hit. nat_le low (number hit)) hits ≡ true → low ≤ least first (map number hits)
least_from_all number low first [] h all = h
least_from_all number low first (hit ∷ hits) h all =
    let parts = and_parts (nat_le low (number hit)) (list_all (λ other. nat_le low (number other)) hits) all in
    let own = leb-true low (number hit) parts.0 in
    least_from_all number low (min first (number hit)) hits (omega (arith, h, own)) parts.1

pub all_from_least : (number : Hit → ℕ) (low first : ℕ) (hits : List Hit) → low ≤ least first (map number hits) → list_all (λ hit. nat_le low (number hit)) hits ≡ true
all_from_least number low first [] h = refl
all_from_least number low first (hit ∷ hits) h =
    let own = least_first (min first (number hit)) (map number hits) in
    and_from (nat_le low (number hit)) (list_all (λ other. nat_le low (number other)) hits) (le-leb low (number hit) (omega (arith, h, own)))
    (all_from_least number low (min first (number hit)) hits h)

-- hits that begin at a place or after it and end near it are in one window
pub found_within : (size : ℕ) (unit : TextUnit) (low far : ℕ) (chosen : List Hit) → far < low + size → (list_all (begins_from unit low) chosen && nat_lt 0 (length chosen)) ≡ true
    → nat_le (latest (λ hit. end_in unit hit) chosen) far ≡ true → are_within size unit chosen ≡ true
found_within size unit low far [] near good short = absurd (empty (ltb-true 0 0 (and_parts true (nat_lt 0 0) good).1))
  where
    empty : 0 < 0 → ⊥
    empty h = omega (arith, h)
found_within size unit low far (hit ∷ hits) near good short =
    let parts = and_parts (list_all (begins_from unit low) (hit ∷ hits)) (nat_lt 0 (length (hit ∷ hits))) good in
    let begins = and_parts (begins_from unit low hit) (list_all (begins_from unit low) hits) parts.0 in
    let first = leb-true low (start_in unit hit) begins.0 in
    let from = least_from_all (λ other. start_in unit other) low (start_in unit hit) hits first begins.1 in
    let last = greatest_is (λ other. end_in unit other) (end_in unit hit) hits in
    let to = leb-true (latest (λ other. end_in unit other) (hit ∷ hits)) far short in
    within_is size unit hit hits
    ∙ lt-ltb (greatest (end_in unit hit) (map (λ other. end_in unit other) hits)) (least (start_in unit hit) (map (λ other. start_in unit other) hits) + size)
    (omega (arith, near, from, last, to))
