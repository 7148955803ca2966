-- What is read of symbols one after the other.
use Rattle.std.specs.Prelude.{ℕ, ◌+◌, List, length}
use Rattle.query_lexer.specs.Symbols.{before, symbols_within}
use Rattle.ft_syntax.specs.OptionSymbols.{string_symbol}
use Rattle.selection_grammar.specs.declared.symbol.Symbol.{Symbol}
use Rattle.selection_grammar.specs.declared.symbol.Symbol.TheVariants.{Text}
use Rattle.selection_grammar.specs.declared.symbol.Symbols.{Symbols}

-- a symbol at a place, as many bytes long as these, and what is left after it
abbrev pub with_symbol : ℕ → ℕ → Symbol → List ℕ → List ℕ → Symbols
with_symbol bound place symbol bytes left =
    before (record { symbol = symbol; from = place; to = place + length bytes }) (symbols_within bound (place + length bytes) left)

-- a text at a place, as long as its printed form is
abbrev pub with_string : ℕ → ℕ → List ℕ → List ℕ → Symbols
with_string bound place text left = with_symbol bound place (Text text) (string_symbol text) left
