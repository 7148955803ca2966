-- What going through symbols comes to, as data.
use Rattle.std.specs.Prelude.{◌≡◌, ◌≤◌, ℕ, Bool, true, false, ◌&&◌, List, [], ◌∷◌, length, drop, Option, Some, None, option_map, Result, Ok, Err}
use Rattle.std.specs.Option.{is_none}
use Rattle.ft_base.specs.Lists.{is_empty}
use Rattle.ft_base.specs.Selection.{Form}
use Rattle.ft_base.specs.declared.fault.QueryFault.{QueryFault}
use Rattle.ft_syntax.specs.View.{form}
use Rattle.selection_faults.specs.Faults.{fault_of}
use Rattle.selection_grammar.specs.declared.symbol.Placed.{Placed}
use Rattle.selection_grammar.specs.steps.Machine.{Left, State}
use Rattle.selection_grammar.specs.Shapes.{whole}
use Rattle.selection_grammar.specs.Tree.{Tree}
use Rattle.selection_grammar.specs.View.{tree}
use Rattle.ft_parser.specs.declared.scan.Scan.{Scan}
use Rattle.ft_parser.specs.Answer.{Answered, ended, faultless, symbols_read, symbols_with}
use Rattle.ft_parser.specs.Limits.{is_deep_filter, symbol_fault}
use Rattle.ft_parser.specs.Prefix.{numbered_form, run_read, with_number}

-- whether nothing stands to the left of an operand
abbrev pub stands_first : Left → Bool
stands_first left = is_empty left.ors && is_empty left.ands && is_none left.mild

-- whether the first of these symbols begins a filter too many
abbrev pub begins_deep_filter : State → List Placed → Bool
begins_deep_filter s [] = false
begins_deep_filter s (p ∷ rest) = is_deep_filter (whole s) p.symbol

-- what a text is read as, where these symbols are left after the run, and so many parentheses are open before them
abbrev pub read_to_end : ℕ → List Placed → Option ℕ → ℕ → Option Tree → Result Form QueryFault
read_to_end depth [] bad size o = ended bad size o
read_to_end depth (p ∷ rest) bad size o = Err (symbol_fault depth p)

-- what the run is read as by itself: the selection that it is, and else as if it went on to the end
abbrev pub read_alone : ℕ → List Placed → Option ℕ → ℕ → Option Tree → Result Form QueryFault
read_alone depth left bad size None = read_to_end depth left bad size None
read_alone depth left bad size (Some t) = faultless t (fault_of t)

-- So many symbols are the run, and this selection or none. None of them exceeds a limit, and so many parentheses are open after them.
pub record Stops (symbols : List Placed) (count depth : ℕ) (o : Option Tree) : Type 0 where
  pub within : count ≤ length symbols
  pub to_end : (bad : Option ℕ) (size : ℕ) → symbols_read (symbols_with symbols bad) size ≡ read_to_end depth (drop count symbols) bad size o
  pub alone : (bad : Option ℕ) (size : ℕ) → run_read symbols bad size ≡ with_number count (read_alone depth (drop count symbols) bad size o)

-- Symbols have this fault, whatever stands after them, unless it is want of memory.
pub record Fails (symbols : List Placed) (fault : QueryFault) : Type 0 where
  pub to_end : (bad : Option ℕ) (size : ℕ) → Answered form (symbols_read (symbols_with symbols bad) size) (Err fault)
  pub alone : (bad : Option ℕ) (size : ℕ) → Answered numbered_form (run_read symbols bad size) (Err fault)

abbrev pub Scans : List Placed → Result Scan QueryFault → Type 0
Scans symbols (Ok scan) = Stops symbols scan.count scan.depth (option_map tree scan.whole)
Scans symbols (Err fault) = Fails symbols fault

-- symbols that stop before that number, where so many parentheses are open or a limit was passed before
abbrev pub stopped : ℕ → Result ℕ QueryFault → Result Scan QueryFault
stopped end (Ok depth) = Ok (record { count = end; depth = depth; whole = None })
stopped end (Err fault) = Err fault
