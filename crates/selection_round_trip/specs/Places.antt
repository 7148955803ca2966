-- Symbols without their places, and the same selection spelled at other places.
use Rattle.std.specs.Prelude.{◌≡◌, List, map}
use Rattle.std.specs.Option.{is_some}
use Rattle.ft_parser.specs.FilterLimit.{are_filters_within}
use Rattle.selection_grammar.specs.Form.{form_of}
use Rattle.selection_grammar.specs.Grammar.{Selection}
use Rattle.selection_grammar.specs.Tree.{Tree}
use Rattle.selection_grammar.specs.declared.symbol.Placed.{Placed}
use Rattle.selection_grammar.specs.declared.symbol.Symbol.{Symbol}
use Rattle.selection_faults.specs.Faults.{fault_of}

abbrev pub symbols_in : List Placed → List Symbol
symbols_in placed = map (λ (p : Placed). p.symbol) placed

-- Symbols spell a selection of the form of another; it has a fault where that one has, and its filters are within the limit where those are.
pub record SpelledThere (symbols : List Placed) (other : Tree) : Type 0 where
  pub tree : Tree
  pub spells : Selection symbols tree
  pub is : form_of tree ≡ form_of other
  pub faults : is_some (fault_of tree) ≡ is_some (fault_of other)
  pub filters : are_filters_within tree ≡ are_filters_within other
