-- Classes of characters: none of ASCII is in ranges that begin above it, and what may begin a name may stand inside one.
use Rattle.std.proofs.Common.{◌≡◌, ℕ, ◌<◌, true, false, ◌||◌, List, [], ◌∷◌, refl, ◌∙◌, ap, arith}
use Rattle.std.proofs.lemmas.Bool.Decides.{nat_tests}
use Rattle.std.specs.Prelude.{nat_lt}
use Rattle.std.specs.List.{list_all}
use Rattle.std.proofs.lemmas.Bool.{and_parts}
use Rattle.ft_base.specs.Characters.{is_within, is_in, is_ascii_name_start, is_name_start, is_only_inside, is_name_char}
use Rattle.ft_base.proofs.Truth.{or_false}

outside : (range : ℕ × ℕ) (c : ℕ) → (nat_lt 127 range.0) ≡ true → c < 128 → is_within c range ≡ false
outside range c above below = grind (arith, nat_tests)

pub above_ascii : (ranges : List (ℕ × ℕ)) (c : ℕ) → list_all (λ (r : ℕ × ℕ). nat_lt 127 r.0) ranges ≡ true → c < 128 → is_in ranges c ≡ false
above_ascii [] c above below = refl
above_ascii (r ∷ ranges) c above below =
    ap (λ b. b || is_in ranges c) (outside r c (and_parts _ _ above).0 below) ∙ above_ascii ranges c (and_parts _ _ above).1 below

-- a name begins with an ASCII character where that is one of these
pub ascii_name_start : (c : ℕ) → c < 128 → is_name_start c ≡ is_ascii_name_start c
unfolding is_name_start
ascii_name_start c below = or_false _ _ (above_ascii ((0xC0, 0xD6) ∷ (0xD8, 0xF6) ∷ (0xF8, 0x2FF) ∷ (0x370, 0x37D) ∷ (0x37F, 0x1FFF)
    ∷ (0x200C, 0x200D) ∷ (0x2070, 0x218F) ∷ (0x2C00, 0x2FEF) ∷ (0x3001, 0xD7FF) ∷ (0xF900, 0xFDCF) ∷ (0xFDF0, 0xFFFD) ∷ (0x1_0000, 0xE_FFFF) ∷ []) c refl below)

pub start_is_inside : (c : ℕ) → is_name_start c ≡ true → is_name_char c ≡ true
unfolding is_name_char
start_is_inside c h = ap (λ b. b || is_only_inside c) h
