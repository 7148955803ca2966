-- Ranges of levels.
use Rattle.std.specs.Prelude.{ℕ, Bool, true, not, ◌&&◌, nat_lt, Option, Some, None}
use Rattle.thesaurus_file.specs.declared.levels.Levels.{Levels}

-- whether a level is not above the end, where there is one
abbrev pub is_up_to : Option ℕ → ℕ → Bool
is_up_to None level = true
is_up_to (Some end) level = not (nat_lt end level)

abbrev pub in_range : Levels → ℕ → Bool
in_range levels level = not (nat_lt level levels.from) && is_up_to levels.to level
