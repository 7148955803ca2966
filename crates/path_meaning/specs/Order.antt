-- Document order.
use Rattle.std.specs.Prelude.{◌≡◌, ℕ, ◌==◌, nat_lt, Bool, true, false, ◌&&◌, ◌||◌, List, [], ◌∷◌}
use Rattle.path_meaning.specs.Elements.{Element}

-- Whether a place stands before another: a place stands before those below it, and what is at or below a child before what is at or
-- below a later child.
abbrev pub precedes : List ℕ → List ℕ → Bool
precedes [] [] = false
precedes [] (b ∷ more) = true
precedes (a ∷ rest) [] = false
precedes (a ∷ rest) (b ∷ more) = nat_lt a b || (a == b && precedes rest more)

abbrev pub Before : Element → Element → Type 0
Before e f = precedes e.place f.place ≡ true
