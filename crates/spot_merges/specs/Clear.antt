-- Places that have a window round them with none of some others in it.
use Rattle.std.specs.Prelude.{ℕ, suc, ◌+◌, Bool, not, ◌&&◌, nat_le, nat_lt, List, map}
use Rattle.std.specs.List.{list_all, list_any, range_with_len}
use Rattle.place_merges.specs.declared.spot.Spot.{Spot}

-- whether a place is one of the `size` places before `after`
abbrev pub lies_before : ℕ → ℕ → ℕ → Bool
lies_before size after place = nat_lt place after && nat_le after (place + size)

-- whether some window of `size` places that holds a place holds none of the others: of `b x a b`, `x a` has no `b`, but three words with `a` have one
abbrev pub has_clear_window : ℕ → List ℕ → ℕ → Bool
has_clear_window size others place = list_any (λ n. list_all (λ other. not (lies_before size (suc place + n) other)) others) (range_with_len 0 size)

-- whether one of the places has such a window
abbrev pub some_clear : ℕ → List ℕ → List ℕ → Bool
some_clear size places others = list_any (has_clear_window size others) places

-- the places at which spots begin
abbrev pub begins : List Spot → List ℕ
begins spots = map (λ at. at.place) spots
