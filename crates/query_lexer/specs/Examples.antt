-- Symbols for examples.
use Rattle.std.specs.Prelude.{ℕ, List, Some, None}
use Rattle.selection_grammar.specs.declared.symbol.Symbol.{Symbol}
use Rattle.selection_grammar.specs.declared.symbol.Placed.{Placed}
use Rattle.selection_grammar.specs.declared.symbol.Symbols.{Symbols}

-- a symbol from a place to another
abbrev pub from_to : ℕ → ℕ → Symbol → Placed
from_to from to symbol = record { symbol = symbol; from = from; to = to }

-- symbols that make up the whole text
abbrev pub whole : List Placed → Symbols
whole placed = record { placed = placed; bad = None }

-- symbols before a place at which none begins
abbrev pub bad_at : ℕ → List Placed → Symbols
bad_at place placed = record { placed = placed; bad = Some place }
