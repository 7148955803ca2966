-- What a text is read as: a path with its selections, or its first fault.
use Rattle.std.specs.Prelude.{ℕ, zero, suc, if◌then◌else◌, List, [], ◌∷◌, ◌++◌, length, take, Option, Some, None, option_map, Result, Ok, Err}
use Rattle.ft_base.specs.Selection.{Form}
use Rattle.ft_base.specs.declared.fault.QueryFault.{QueryFault}
use Rattle.ft_base.specs.declared.fault.QueryFault.TheVariants as Q
use Rattle.selection_grammar.specs.declared.symbol.Placed.{Placed}
use Rattle.selection_grammar.specs.declared.symbol.Symbols.{Symbols}
use Rattle.ft_parser.specs.Prefix.{run_read}
use Rattle.query_lexer.specs.Symbols.{symbols_of}
use Rattle.path_grammar.specs.Form as form
use Rattle.path_grammar.specs.steps.Machine.{State, Stage, nothing, at_root, along, stand, selecting, selected, advance, finished, open_count}
use Rattle.path_subset.specs.Limits.{exceeds, limit_fault}
use Rattle.path_subset.specs.Paths.{PlacedForm, placed_form, PathForm, path_form}

-- the steps before `contains text`, where a selection comes next
abbrev pub before_selection_at : Stage → Option (List form.Step)
before_selection_at (selecting before symbols shape) = Some before
before_selection_at other = None

abbrev pub before_selection : State → Option (List form.Step)
before_selection (at_root stage) = None
before_selection (along root s) = before_selection_at s.stage

-- after the selection of a number, in the place of what was read last
abbrev pub with_selection : State → List form.Step → ℕ → State
with_selection (at_root stage) before number = at_root stage
with_selection (along root s) before number = along root (stand s.frames s.joint s.selections (selected before number))

-- Where a symbol leads: the machine, whose own list of selections stays empty, since each is read by itself; the selections so far;
-- and how many of the symbols after it were read with it, as a selection.
pub record Led : Type 0 where
  pub state : State
  pub selections : List PlacedForm
  pub count : ℕ

abbrev pub led : State → List PlacedForm → ℕ → Led
led state selections count = record { state = state; selections = selections; count = count }

-- after what is read as a selection
abbrev pub after_run : State → List PlacedForm → List form.Step → List Placed → Result (Form × ℕ) QueryFault → Result Led QueryFault
after_run s selections before rest (Err fault) = Err fault
after_run s selections before rest (Ok (x, count)) =
    Ok (led (with_selection s before (length selections)) (selections ++ placed_form x (take count rest) ∷ []) count)

abbrev pub with_run : State → List PlacedForm → Option (List form.Step) → List Placed → Option ℕ → ℕ → Result Led QueryFault
with_run s selections None rest bad size = Ok (led s selections 0)
with_run s selections (Some before) rest bad size = after_run s selections before rest (run_read rest bad size)

abbrev pub led_by : Placed → Option State → List PlacedForm → List Placed → Option ℕ → ℕ → Result Led QueryFault
led_by p None selections rest bad size = Err (Q.Syntax p.from)
led_by p (Some s) selections rest bad size = with_run s selections (before_selection s) rest bad size

-- Where a symbol leads that has these symbols after it, in a text of so many bytes, which has a character after them all that begins
-- no symbol, or none. After `contains text` it leads through a selection.
unfoldable pub turned : State → List PlacedForm → Placed → List Placed → Option ℕ → ℕ → Result Led QueryFault
turned s selections p rest bad size = if exceeds (open_count s) p.symbol then Err (limit_fault p) else led_by p (advance s p) selections rest bad size

-- after all symbols: a character that begins none, or the end of the text, which is too soon for a path that isn't whole
abbrev pub ended_by : Option ℕ → ℕ → List PlacedForm → Option form.Path → Result PathForm QueryFault
ended_by (Some bad) size selections whole = Err (Q.Syntax bad)
ended_by None size selections None = Err (Q.Syntax size)
ended_by None size selections (Some path) = Ok (path_form path selections)

-- the path, if the symbols so far may end here
abbrev pub finished_path : State → Option form.Path
finished_path s = option_map (λ whole. whole.0) (finished s)

abbrev pub further : Result Led QueryFault → (Led → Result PathForm QueryFault) → Result PathForm QueryFault
further (Err fault) on = Err fault
further (Ok there) on = on there

-- What symbols are read as from where the machine stands, after so many of them that are read already. The first one that exceeds a
-- limit or can't stand there, or the first fault of a selection, whichever comes first, is their fault.
unfoldable pub read_from : State → List PlacedForm → ℕ → List Placed → Option ℕ → ℕ → Result PathForm QueryFault
read_from s selections count [] bad size = ended_by bad size selections (finished_path s)
read_from s selections (suc count) (p ∷ rest) bad size = read_from s selections count rest bad size
read_from s selections zero (p ∷ rest) bad size = further (turned s selections p rest bad size) (λ l. read_from l.state l.selections l.count rest bad size)

abbrev pub symbols_read : Symbols → ℕ → Result PathForm QueryFault
symbols_read symbols size = read_from (at_root nothing) [] 0 symbols.placed symbols.bad size

-- what a text is read as
unfoldable pub path_read : List ℕ → Result PathForm QueryFault
path_read text = symbols_read (symbols_of text) (length text)
