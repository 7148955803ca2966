-- The bytes that a sink holds.
use Rattle.std.specs.Prelude.{ℕ, List, ◌++◌, take, Option, option_map, Result, Ok, Err}
use Rattle.ft_io.specs.declared.failed.Failed.{Failed}

-- What a write leaves: the bytes before, and after them those that it took. What isn't known stays unknown.
abbrev pub written_after : Option (List ℕ) → List ℕ → Result ℕ Failed → Option (List ℕ)
written_after before from (Ok count) = option_map (λ bytes. bytes ++ take count from) before
written_after before from (Err _) = before
