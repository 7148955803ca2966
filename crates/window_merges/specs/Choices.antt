-- Choices of one element of each of some lists, and what is asked of the places that are chosen.
use Rattle.std.specs.Prelude.{ℕ, ◌+◌, Bool, true, false, ◌&&◌, ◌==◌, nat_le, nat_lt, List, [], ◌∷◌}
use Rattle.std.specs.List.{list_any, list_all}
use Rattle.all_matches.specs.Join.{least, greatest}

-- whether some choice of one element of each list passes a test
abbrev pub some_choice : {A : Type 0} → (List A → Bool) → List (List A) → Bool
some_choice test [] = test []
some_choice test (xs ∷ lists) = list_any (λ x. some_choice (λ chosen. test (x ∷ chosen)) lists) xs

-- whether all places are among so many that follow one another: 1 and 3 are among three, and not among two
abbrev pub are_close : ℕ → List ℕ → Bool
are_close size [] = false
are_close size (first ∷ rest) = nat_lt (greatest first rest) (least first rest + size)

-- whether no place stands before one that comes earlier in the list
abbrev pub are_in_order : List ℕ → Bool
are_in_order [] = true
are_in_order (first ∷ rest) = list_all (nat_le first) rest && are_in_order rest

-- whether all places lie in one unit, each told by the number of the unit round it
abbrev pub are_in_one : (ℕ → ℕ) → List ℕ → Bool
are_in_one unit [] = true
are_in_one unit (first ∷ rest) = list_all (λ place. unit place == unit first) rest
