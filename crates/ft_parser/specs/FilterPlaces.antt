-- Where a filter too many begins.
use Rattle.std.specs.Prelude.{◌≡◌, true, false, nat_le, List, [], ◌∷◌, ◌++◌}
use Rattle.ft_base.specs.Limits.{max_filters}
use Rattle.selection_grammar.specs.declared.symbol.Symbol.TheVariants.{OpenParenthesis}
use Rattle.selection_grammar.specs.declared.symbol.Placed.{Placed}
use Rattle.selection_grammar.specs.Grammar.{Selection, Spot, at}
use Rattle.selection_grammar.specs.Tree.{Tree}
use Rattle.ft_parser.specs.Limits.{filters_round}
use Rattle.ft_parser.specs.Selected.{is_deep_after}

-- no symbol begins a filter too many
abbrev pub NoneIsDeep : List Placed → Type 0
NoneIsDeep symbols = (before : List Placed) (p : Placed) (rest : List Placed) → symbols ≡ before ++ p ∷ rest → is_deep_after before p.symbol ≡ false

-- what stands before a selection, up to the last parenthesis that is open
pub data Opened : List Placed → Type 0 where
  nothing : Opened []
  suffix : (u : List Placed) (p : Spot) → Opened (u ++ at p OpenParenthesis ∷ [])

-- The symbols from the last open parenthesis on, or all of them, spell a selection with as many filters directly round one another as may stand so.
pub record HasAllFilters (symbols : List Placed) : Type 0 where
  pub outside : List Placed
  pub inside : List Placed
  pub tree : Tree
  pub split : symbols ≡ outside ++ inside
  pub opened : Opened outside
  pub spells : Selection inside tree
  pub full : nat_le max_filters (filters_round tree) ≡ true
