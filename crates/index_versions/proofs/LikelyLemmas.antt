-- Where a number stands in an ascending list, as many are smaller as stand before it.
use Rattle.std.proofs.Common.{◌≡◌, ℕ, ◌<◌, zero, suc, false, true, ◌==◌, List, [], ◌∷◌, length, get_or, arith}
use Rattle.std.specs.Prelude.{slice_get}
use Rattle.std.specs.Option.{option_map_or}
use Rattle.std.proofs.lemmas.Bool.{eqb-true}
use Rattle.ft_base.specs.Places.{is_ascending}
use Rattle.ft_base.proofs.PlacesLemmas.{rest-ascending}
use Rattle.index_cursors.specs.SpanHits.{below}
use Rattle.index_cursors.proofs.AscendingLemmas.{head-less, below-holds, below-fails}

-- the number is in the list, at that place
pub record Standing (xs : List ℕ) (at number : ℕ) : Type 0 where
  pub there : at < length xs
  pub is : get_or xs at 0 ≡ number

pub standing : (xs : List ℕ) (at number : ℕ) → option_map_or (λ (n : ℕ). n == number) (slice_get xs at) false ≡ true → Standing xs at number
standing [] at number h = cc
standing (x ∷ xs) zero number h = record { there = omega arith; is = eqb-true x number h }
standing (x ∷ xs) (suc at) number h = let rest = standing xs at number h in record { there = omega (arith, rest.there); is = rest.is }

next-greater : (xs : List ℕ) (at : ℕ) → is_ascending xs ≡ true → suc at < length xs → get_or xs at 0 < get_or xs (suc at) 0
next-greater [] at up there = absurd (omega (arith, there))
next-greater (x ∷ []) at up there = absurd (omega (arith, there))
next-greater (x ∷ y ∷ rest) zero up there = head-less x y rest up
next-greater (x ∷ y ∷ rest) (suc at) up there = next-greater (y ∷ rest) at (rest-ascending x (y ∷ rest) up) (omega (arith, there))

pub below-at : (xs : List ℕ) (at number : ℕ) → is_ascending xs ≡ true → at < length xs → get_or xs at 0 ≡ number → below number xs ≡ at
below-at xs zero number up there is =
    let most = below-fails number xs zero up there (omega (arith, is)) in
    omega (arith, most)
below-at xs (suc at) number up there is =
    let most = below-fails number xs (suc at) up there (omega (arith, is)) in
    let less = next-greater xs at up there in
    let more = below-holds number xs at up (omega (arith, there)) (omega (arith, less, is)) in
    omega (arith, most, more)
