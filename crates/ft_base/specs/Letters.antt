-- Characters as digits and numbers, and the texts of characters.
use Rattle.std.specs.Prelude.{ℕ, ◌+◌, ◌*◌, ◌-◌, min, Bool, false, ◌&&◌, ◌==◌, nat_le, List, [], ◌∷◌, fold}
use Rattle.ft_base.specs.Limits.{max_number}

abbrev pub is_digit : ℕ → Bool
is_digit c = nat_le 48 c && nat_le c 57

-- the number that digits stand for; past the greatest one it is the one after that
abbrev pub number_of : List ℕ → ℕ
number_of digits = fold (λ n d. min (n * 10 + (d - 48)) (max_number + 1)) 0 digits

abbrev pub begins_with : ℕ → List ℕ → Bool
begins_with first [] = false
begins_with first (c ∷ rest) = c == first
