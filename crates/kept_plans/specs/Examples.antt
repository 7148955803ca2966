-- Short names for what is kept in examples.
use Rattle.std.specs.Prelude.{ℕ, List, [], ◌∷◌, map}
use Rattle.std.specs.List.{range_with_len}
use Rattle.kept_plans.specs.Kept.{Kept}

abbrev pub kept : List (List ℕ) → ℕ → Kept
kept texts hits = record { texts = texts; hits = hits }

-- so many texts, each of one byte that counts up
abbrev pub many : ℕ → ℕ → List (List ℕ)
many from count = map (λ n. n ∷ []) (range_with_len from count)
