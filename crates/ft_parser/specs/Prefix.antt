-- The run: the longest prefix of symbols that begins a selection. What it is read as, limits and what stands after it included.
use Rattle.std.specs.Prelude.{ℕ, suc, Bool, true, false, List, [], ◌∷◌, length, take, Option, Some, None, Result, Ok, Err}
use Rattle.std.specs.Option.{is_some}
use Rattle.ft_base.specs.Selection.{Form}
use Rattle.ft_base.specs.declared.fault.QueryFault.{QueryFault}
use Rattle.selection_grammar.specs.declared.symbol.Placed.{Placed}
use Rattle.selection_grammar.specs.steps.Machine.{State, start, advance, read, finished}
use Rattle.selection_grammar.specs.Shapes.{Shape, whole}
use Rattle.ft_parser.specs.Answer.{symbols_read, symbols_with}
use Rattle.ft_syntax.specs.View.{form}
use Rattle.ft_syntax.specs.declared.selection.Selection.{Selection}
use Rattle.query_lexer.specs.Symbols.{symbols_from}

-- a symbol that leads somewhere, and those that lead on from there
abbrev pub one_and : Option (Shape State) → (Shape State → ℕ) → ℕ
one_and None further = 0
one_and (Some shape) further = suc (further shape)

-- how many symbols lead on from where the machine stands, up to the first that leads nowhere
unfoldable pub leading_from : Shape State → List Placed → ℕ
leading_from shape [] = 0
leading_from shape (p ∷ rest) = one_and (advance shape p) (λ s. leading_from s rest)

-- the number of symbols in the run
abbrev pub run_length : List Placed → ℕ
run_length symbols = leading_from (whole start) symbols

-- whether these symbols are a whole selection, limits and faults aside
abbrev pub is_whole : List Placed → Bool
is_whole symbols = is_some (finished (read symbols))

-- What a run of so many symbols is read as: alone where it is a whole selection, and
-- else with the symbol after it, which can't stand there, or with the end of the text.
abbrev pub read_with_end : Bool → ℕ → List Placed → Option ℕ → ℕ → Result Form QueryFault
read_with_end true count symbols bad size = symbols_read (symbols_with (take count symbols) None) size
read_with_end false count symbols bad size = symbols_read (symbols_with (take (suc count) symbols) bad) size

-- a selection and a number
abbrev pub with_number : ℕ → Result Form QueryFault → Result (Form × ℕ) QueryFault
with_number n (Ok form) = Ok (form, n)
with_number n (Err fault) = Err fault

unfoldable pub counted : Bool → ℕ → List Placed → Option ℕ → ℕ → Result (Form × ℕ) QueryFault
counted is_all count symbols bad size = with_number count (read_with_end is_all count symbols bad size)

-- the selection that the run is, and the number of its symbols, or the first fault
unfoldable pub run_read : List Placed → Option ℕ → ℕ → Result (Form × ℕ) QueryFault
run_read symbols bad size = counted (is_whole (take (run_length symbols) symbols)) (run_length symbols) symbols bad size

-- the place after symbols that stand from a place on
abbrev pub place_after : ℕ → List Placed → ℕ
place_after from [] = from
place_after from (p ∷ rest) = place_after p.to rest

-- the place in the number's stead
abbrev pub with_place : ℕ → List Placed → Result (Form × ℕ) QueryFault → Result (Form × ℕ) QueryFault
with_place from symbols (Ok (form, count)) = Ok (form, place_after from (take count symbols))
with_place from symbols (Err fault) = Err fault

-- what is read of a text from a place on: the selection with which it begins there and the place after it, or the first fault
unfoldable pub prefix_read : ℕ → List ℕ → Result (Form × ℕ) QueryFault
prefix_read from text = with_place from (symbols_from from text).placed (run_read (symbols_from from text).placed (symbols_from from text).bad (length text))

-- a selection and a number, as plain data
abbrev pub numbered_form : Selection × ℕ → Form × ℕ
numbered_form (selection, n) = (form selection, n)
