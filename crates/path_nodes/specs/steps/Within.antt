-- Elements that are at or below another.
use Rattle.std.specs.Prelude.{◌≡◌, ℕ, ◌==◌, Bool, true, false, ◌&&◌, List, [], ◌∷◌, ◌++◌}
use Rattle.path_meaning.specs.Elements.{Element}
use Rattle.path_meaning.specs.Order.{Before}

-- whether a place is another one or stands below it: whether that one is its prefix
abbrev pub is_prefix : List ℕ → List ℕ → Bool
is_prefix [] place = true
is_prefix (a ∷ prefix) [] = false
is_prefix (a ∷ prefix) (b ∷ place) = (a == b) && is_prefix prefix place

abbrev pub AtOrBelow : Element → Element → Type 0
AtOrBelow base e = is_prefix base.place e.place ≡ true

-- The element stands below the other, not at its place.
abbrev pub IsBelow : Element → Element → Type 0
IsBelow base e = (k : ℕ) × (r : List ℕ) × (e.place ≡ base.place ++ k ∷ r)

-- The element is on the preceding axis of the other (XQuery 3.0, section 3.3.2.1): it stands before it, and not above it.
abbrev pub Precedes : Element → Element → Type 0
Precedes e f = Before e f × (is_prefix e.place f.place ≡ false)

-- whether an element stands at or below the last of others
abbrev pub stands_below_last : List Element → Element → Bool
stands_below_last [] e = false
stands_below_last (base ∷ []) e = is_prefix base.place e.place
stands_below_last (first ∷ second ∷ rest) e = stands_below_last (second ∷ rest) e
