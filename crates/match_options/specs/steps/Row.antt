-- A row of places in a text, one before each character and one at the end, each with whether what stands after it is covered.
use Rattle.std.specs.Prelude.{◌≡◌, ℕ, suc, ◌+◌, ◌≤◌, Bool, false, ◌&&◌, nat_lt, List, length, drop, get_or, Option}
use Rattle.std.specs.List.{position_or_len}
use Rattle.match_options.specs.declared.atom.Atom.{Atom}
use Rattle.match_options.specs.Wildcards.{covers, fits_gap}

-- false past the end
abbrev pub at_place : List Bool → ℕ → Bool
at_place row place = get_or row place false

pub record IsRow (row : List Bool) (atoms : List Atom) (letters : List ℕ) : Type 0 where
  pub size : length row ≡ suc (length letters)
  pub known : (place : ℕ) → place ≤ length letters → at_place row place ≡ covers atoms (drop place letters)

-- the number of places up to the first one that is true
abbrev pub nearest : List Bool → ℕ
nearest row = position_or_len (λ (b : Bool). b) row

-- whether a gap reaches such a place, where `low` characters of it are passed already
abbrev pub reaches : ℕ → Option ℕ → List Bool → Bool
reaches low high row = nat_lt (nearest row) (length row) && fits_gap low high (low + nearest row)
