-- What went and what came between two lists of lines.
use Rattle.std.specs.Prelude.{ℕ, Bool, not, List, [], ◌∷◌, ◌++◌, filter, map, bytes_eq}
use Rattle.std.specs.List.{list_any}

abbrev pub is_among : List (List ℕ) → List ℕ → Bool
is_among lines line = list_any (bytes_eq line) lines

-- the lines that aren't among the others, in their order
abbrev pub not_among : List (List ℕ) → List (List ℕ) → List (List ℕ)
not_among others lines = filter (λ line. not (is_among others line)) lines

abbrev pub behind : List ℕ → List (List ℕ) → List (List ℕ)
behind mark lines = map (λ line. mark ++ line) lines

-- `- ` and each kept line that isn't among the lines of now, in the kept order; then `+ ` and each line of now that isn't among the kept
-- ones, in their order
abbrev pub changes : List (List ℕ) → List (List ℕ) → List (List ℕ)
changes kept now = behind (45 ∷ 32 ∷ []) (not_among now kept) ++ behind (43 ∷ 32 ∷ []) (not_among kept now)
