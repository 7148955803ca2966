-- Symbols for examples.
use Rattle.std.specs.Prelude.{ℕ, List, Option}
