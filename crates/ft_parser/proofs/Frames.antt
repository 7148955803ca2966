-- A stack is seen with its last item first, so that what is pushed comes first.
use Rattle.std.proofs.Common.{◌≡◌, List, [], ◌∷◌, ◌++◌, map, reverse, ap}
use Rattle.std.proofs.lemmas.List.{reverse-append}

pub pushed_first : {A B : Type 0} (view : A → B) (items : List A) (item : A) → map view (reverse (items ++ item ∷ [])) ≡ view item ∷ map view (reverse items)
pushed_first view items item = ap (map view) (reverse-append items (item ∷ []))
