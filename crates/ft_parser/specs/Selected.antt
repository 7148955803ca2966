-- Which selection a text spells, and why a text is refused.
use Rattle.std.specs.Prelude.{◌≡◌, ℕ, Bool, true, false, ◌||◌, nat_le, List, [], ◌∷◌, ◌++◌, length, Option, Some, None}
use Rattle.ft_base.specs.Limits.{max_open}
use Rattle.ft_base.specs.Selection.{Form}
use Rattle.ft_base.specs.declared.fault.QueryFault.{QueryFault}
use Rattle.ft_base.specs.declared.fault.QueryFault.TheVariants as Q
use Rattle.selection_grammar.specs.declared.symbol.Symbol.{Symbol}
use Rattle.selection_grammar.specs.declared.symbol.Placed.{Placed}
use Rattle.selection_grammar.specs.Form.{form_of}
use Rattle.selection_grammar.specs.Grammar.{Selection}
use Rattle.selection_grammar.specs.steps.Machine.{State, read}
use Rattle.selection_grammar.specs.Shapes.{Shape, is_mark, open_parenthesis, number_of}
use Rattle.selection_grammar.specs.Texts.{Begins}
use Rattle.selection_grammar.specs.Tree.{Tree}
use Rattle.selection_faults.specs.Faults.{fault_of}
use Rattle.ft_parser.specs.FilterLimit.{are_filters_within}
use Rattle.ft_parser.specs.Limits.{is_great, depth_after, exceeds, is_deep_filter}
use Rattle.query_lexer.specs.Symbols.{symbols_of}

-- how many parentheses are open after symbols
abbrev pub open_after : ℕ → List Placed → ℕ
open_after depth [] = depth
open_after depth (p ∷ rest) = open_after (depth_after depth p.symbol) rest

abbrev pub open_in : List Placed → ℕ
open_in symbols = open_after 0 symbols

-- whether a symbol begins a filter too many, where the machine has read the symbols before it
abbrev pub is_deep_there : Option (Shape State) → Symbol → Bool
is_deep_there None symbol = false
is_deep_there (Some shape) symbol = is_deep_filter shape symbol

abbrev pub is_deep_after : List Placed → Symbol → Bool
is_deep_after before symbol = is_deep_there (read before) symbol

-- whether a symbol exceeds a limit where it stands after others: of numbers, of parentheses, or of filters
abbrev pub exceeds_limit : List Placed → Symbol → Bool
exceeds_limit before symbol = exceeds (open_in before) symbol || is_deep_after before symbol

-- Symbols that may stand at the beginning of a selection: they begin one, and none of them exceeds a limit.
pub record MayStand (symbols : List Placed) : Type 0 where
  pub begins : Begins symbols
  pub limits : (before : List Placed) (p : Placed) (rest : List Placed) → symbols ≡ before ++ p ∷ rest → exceeds_limit before p.symbol ≡ false

-- The symbols are this selection, within all limits.
pub record IsWhole (symbols : List Placed) (tree : Tree) : Type 0 where
  pub spells : Selection symbols tree
  pub limits : (before : List Placed) (p : Placed) (rest : List Placed) → symbols ≡ before ++ p ∷ rest → exceeds (open_in before) p.symbol ≡ false
  pub filters : are_filters_within tree ≡ true

-- The symbols make up the whole text and are a selection without a fault, and this is the selection.
pub record Selects (symbols : List Placed) (bad : Option ℕ) (form : Form) : Type 0 where
  pub tree : Tree
  pub all : bad ≡ None
  pub whole : IsWhole symbols tree
  pub faultless : fault_of tree ≡ None
  pub is : form ≡ form_of tree

-- Why symbols are refused, in a text of so many bytes that has a character that begins no symbol, or none. The symbols before the fault may stand.
pub data Refuses (symbols : List Placed) (bad : Option ℕ) (size : ℕ) : QueryFault → Type 0 where
  -- a number is too great
  number : (before : List Placed) (p : Placed) (rest : List Placed) → symbols ≡ before ++ p ∷ rest → MayStand before
      → is_great (number_of p.symbol) ≡ true → Refuses symbols bad size (Q.Number p.from)
  -- a parenthesis opens where as many are open as may be
  parenthesis : (before : List Placed) (p : Placed) (rest : List Placed) → symbols ≡ before ++ p ∷ rest → MayStand before
      → is_mark open_parenthesis p.symbol ≡ true → nat_le max_open (open_in before) ≡ true → Refuses symbols bad size (Q.Deep p.from)
  -- a filter begins whose operand has as many filters directly round one another as may stand so
  filter : (before : List Placed) (p : Placed) (rest : List Placed) → symbols ≡ before ++ p ∷ rest → MayStand before
      → is_deep_after before p.symbol ≡ true → Refuses symbols bad size (Q.Deep p.from)
  -- with the symbol there they begin no selection
  symbol : (before : List Placed) (p : Placed) (rest : List Placed) → symbols ≡ before ++ p ∷ rest → MayStand before
      → exceeds_limit before p.symbol ≡ false → (Begins (before ++ p ∷ []) → ⊥) → Refuses symbols bad size (Q.Syntax p.from)
  -- a character after all symbols begins none
  character : (at : ℕ) → bad ≡ Some at → MayStand symbols → Refuses symbols bad size (Q.Syntax at)
  -- the text ends before the selection does
  end : bad ≡ None → MayStand symbols → ((tree : Tree) → Selection symbols tree → ⊥) → Refuses symbols bad size (Q.Syntax size)
  -- the symbols are a selection that has a fault
  selection : (tree : Tree) (fault : QueryFault) → bad ≡ None → IsWhole symbols tree → fault_of tree ≡ Some fault → Refuses symbols bad size fault

-- the same of texts
abbrev pub SpellsSelection : List ℕ → Form → Type 0
SpellsSelection text form = Selects (symbols_of text).placed (symbols_of text).bad form

abbrev pub IsFaultOf : List ℕ → QueryFault → Type 0
IsFaultOf text fault = Refuses (symbols_of text).placed (symbols_of text).bad (length text) fault
