-- Texts that stand one after the other, by the places at which they end.
use Rattle.std.specs.Prelude.{◌≡◌, ◌≤◌, ℕ, List, [], ◌∷◌, zero, suc, length, slice_range, IsCharBoundary}

-- the texts that end there, of which the first starts at that place
unfoldable pub texts : ℕ → List ℕ → List ℕ → List (List ℕ)
texts start [] bytes = []
texts start (end ∷ ends) bytes = slice_range bytes start end ∷ texts end ends bytes

-- where the text of that number starts
unfoldable pub start_at : ℕ → List ℕ → ℕ → ℕ
start_at start ends zero = start
start_at start [] (suc number) = start
start_at start (end ∷ ends) (suc number) = start_at end ends number

-- the ends rise to that of the bytes, which may be cut at each of them
unfoldable pub AreEnds : ℕ → List ℕ → List ℕ → Type 0
AreEnds start [] bytes = start ≡ length bytes
AreEnds start (end ∷ ends) bytes = (start ≤ end) × IsCharBoundary bytes end × AreEnds end ends bytes
