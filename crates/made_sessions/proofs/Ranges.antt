-- What is made of the numbers of a range, with one number more.
use Rattle.std.proofs.Common.{◌≡◌, ◌≤◌, ap, ◌∙◌, ℕ, zero, suc, ◌+◌, ◌-◌, List, [], ◌∷◌, ◌++◌, arith}
use Rattle.std.specs.Prelude.{flat_map}
use Rattle.std.specs.List.{range_with_len}
use Rattle.std.proofs.lemmas.Grind.{flat_map-append}
use Rattle.std.proofs.lemmas.List.{append-nil}

range_more : (a n j : ℕ) → a + n ≡ j → range_with_len a (suc n) ≡ range_with_len a n ++ j ∷ []
range_more a zero j e = ap (λ k. k ∷ []) (let is : a ≡ j = omega (arith, e) in is)
range_more a (suc n) j e = ap (λ numbers. a ∷ numbers) (range_more (a + 1) n j (omega (arith, e)))

made_of_more : (f : ℕ → List ℕ) (a n j : ℕ) → a + n ≡ j → flat_map f (range_with_len a (suc n)) ≡ flat_map f (range_with_len a n) ++ f j
made_of_more f a n j e =
    ap (flat_map f) (range_more a n j e)
    ∙ flat_map-append f (range_with_len a n) (j ∷ [])
    ∙ ap (λ bytes. flat_map f (range_with_len a n) ++ bytes) (append-nil (f j))

-- the numbers from one on, up to another and with it
pub made_more : (f : ℕ → List ℕ) (a j : ℕ) → a ≤ j → flat_map f (range_with_len a (j + 1 - a)) ≡ flat_map f (range_with_len a (j - a)) ++ f j
made_more f a j e =
    ap (λ n. flat_map f (range_with_len a n)) (let one : j + 1 - a ≡ suc (j - a) = omega (arith, e) in one)
    ∙ made_of_more f a (j - a) j (omega (arith, e))

pub made_from_zero : (f : ℕ → List ℕ) (j : ℕ) → flat_map f (range_with_len 0 (j + 1)) ≡ flat_map f (range_with_len 0 j) ++ f j
made_from_zero f j = ap (λ n. flat_map f (range_with_len 0 n)) (let one : j + 1 ≡ suc j = omega arith in one) ∙ made_of_more f 0 j j (omega arith)
