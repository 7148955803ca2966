-- Parts of the paths of the examples.
use Rattle.std.specs.Prelude.{ℕ, List, [], ◌∷◌}
use Rattle.selection_grammar.specs.Grammar as grammar
use Rattle.selection_grammar.specs.Grammar.{Spot, string, Value, Moded, Timed, Negation, Options, Selection}
use Rattle.path_grammar.specs.Spellings.{quoted}

pub selection : (p : Spot) (s : List ℕ) → Selection (string p s ∷ []) (quoted p s)
selection p s =
    grammar.plain (grammar.first_or (grammar.first_and (grammar.first_mild (grammar.unary Negation.none (grammar.words (Value.one p s) Moded.unwritten Timed.always) Options.none))))
