-- What the classes of characters tell of one another.
use Rattle.std.proofs.Common.{◌≡◌, ℕ, ◌≤◌, Bool, true, false, ◌⊎◌, inl, inr, List, [], ◌∷◌, refl, sym, ◌∙◌, ap, arith}
use Rattle.std.proofs.lemmas.Bool.{eqb-true, leb-true, and_parts, or_cases}
use Rattle.std.proofs.lemmas.Bool.Decides.{nat_tests}
use Rattle.std.specs.Prelude.{◌==◌, nat_le}
use Rattle.std.specs.List.{list_all}
use Rattle.ft_base.specs.Characters.{is_within, is_in, is_char, is_space, is_name_start, is_name_char}

-- a character of a class isn't one outside it
pub differs : (p : ℕ → Bool) (c k : ℕ) → p c ≡ true → p k ≡ false → (c == k) ≡ false
differs p c k h n = go (c == k) refl
  where
    go : (b : Bool) → (c == k) ≡ b → b ≡ false
    go false e = refl
    go true e = let same : c ≡ k = eqb-true c k e in let t : p k ≡ true = ap p (sym same) ∙ h in cc

-- a class of which each range ends at k or before has no character above k
pub in_below : (ranges : List (ℕ × ℕ)) (k c : ℕ) → list_all (λ (r : ℕ × ℕ). nat_le r.1 k) ranges ≡ true → is_in ranges c ≡ true → c ≤ k
in_below [] k c small h = cc
in_below (r ∷ ranges) k c small h = go (or_cases _ _ h) (in_below ranges k c (and_parts _ _ small).1)
  where
    go : ((is_within c r ≡ true) ⊎ (is_in ranges c ≡ true)) → (is_in ranges c ≡ true → c ≤ k) → c ≤ k
    go (inl g) rest = omega (arith, leb-true r.1 k (and_parts _ _ small).0, leb-true c r.1 (and_parts _ _ g).1)
    go (inr g) rest = rest g

pub char_le : (c : ℕ) → is_char c ≡ true → c ≤ 0x10_FFFF
unfolding is_char
char_le c h = in_below ((0x9, 0xA) ∷ (0xD, 0xD) ∷ (0x20, 0xD7FF) ∷ (0xE000, 0xFFFD) ∷ (0x1_0000, 0x10_FFFF) ∷ []) 0x10_FFFF c refl h

-- the four characters of white space
pub space_is : (c : ℕ) → is_space c ≡ true → (c ≡ 32) ⊎ ((c ≡ 9) ⊎ ((c ≡ 10) ⊎ (c ≡ 13)))
unfolding is_space
space_is c h = grind (arith, nat_tests)

-- what fails at each of them fails at white space
pub space_fails : (p : ℕ → Bool) → p 32 ≡ false → p 9 ≡ false → p 10 ≡ false → p 13 ≡ false → (c : ℕ) → is_space c ≡ true → p c ≡ false
space_fails p a b d e c h = go (space_is c h)
  where
    go : ((c ≡ 32) ⊎ ((c ≡ 9) ⊎ ((c ≡ 10) ⊎ (c ≡ 13)))) → p c ≡ false
    go (inl x) = ap p x ∙ a
    go (inr (inl x)) = ap p x ∙ b
    go (inr (inr (inl x))) = ap p x ∙ d
    go (inr (inr (inr x))) = ap p x ∙ e

pub space-start : (c : ℕ) → is_space c ≡ true → is_name_start c ≡ false
unfolding is_name_start
space-start c h = space_fails is_name_start refl refl refl refl c h

pub space-name : (c : ℕ) → is_space c ≡ true → is_name_char c ≡ false
unfolding is_name_char is_name_start
space-name c h = space_fails is_name_char refl refl refl refl c h

pub space-is : (k : ℕ) → (32 == k) ≡ false → (9 == k) ≡ false → (10 == k) ≡ false → (13 == k) ≡ false → (c : ℕ) → is_space c ≡ true → (c == k) ≡ false
space-is k = space_fails (λ c. c == k)

pub start-is : (c k : ℕ) → is_name_start c ≡ true → is_name_start k ≡ false → (c == k) ≡ false
start-is = differs is_name_start
