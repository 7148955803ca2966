-- What a text is read as: a selection, or its first fault.
use Rattle.std.specs.Prelude.{◌≡◌, ℕ, if◌then◌else◌, List, [], ◌∷◌, length, Option, Some, None, Result, Ok, Err}
use Rattle.ft_base.specs.Selection.{Form}
use Rattle.ft_base.specs.declared.fault.QueryFault.{QueryFault}
use Rattle.ft_base.specs.declared.fault.QueryFault.TheVariants as Q
use Rattle.selection_grammar.specs.declared.symbol.Placed.{Placed}
use Rattle.selection_grammar.specs.declared.symbol.Symbols.{Symbols}
use Rattle.selection_grammar.specs.Form.{form_of}
use Rattle.selection_grammar.specs.steps.Machine.{State, start, advance, finished_at}
use Rattle.selection_grammar.specs.Shapes.{Shape, whole}
use Rattle.selection_grammar.specs.Tree.{Tree}
use Rattle.selection_faults.specs.Faults.{fault_of}
use Rattle.ft_parser.specs.Limits.{before_limit, from_limit, limit_fault, is_deep_filter}
use Rattle.query_lexer.specs.Symbols.{symbols_of}

-- where a symbol leads, and what is read from there on
abbrev pub scanned_on : Placed → Option (Shape State) → (Shape State → Result (Option Tree) QueryFault) → Result (Option Tree) QueryFault
scanned_on p None further = Err (Q.Syntax p.from)
scanned_on p (Some shape) further = further shape

-- What symbols are from where the machine stands: the selection, if they are a whole one. The first one that can't stand there, or begins one filter more than
-- may stand directly round one another, is their fault.
unfoldable pub scanned_from : Shape State → List Placed → Result (Option Tree) QueryFault
scanned_from shape [] = Ok (finished_at shape)
scanned_from shape (p ∷ rest) = if is_deep_filter shape p.symbol then Err (Q.Deep p.from) else scanned_on p (advance shape p) (λ s. scanned_from s rest)

abbrev pub scanned : List Placed → Result (Option Tree) QueryFault
scanned symbols = scanned_from (whole start) symbols

-- a whole selection, unless something is wrong with it
abbrev pub faultless : Tree → Option QueryFault → Result Form QueryFault
faultless tree None = Ok (form_of tree)
faultless tree (Some fault) = Err fault

-- after all symbols: a character that begins none, or the end of the text, which is too soon for a selection that isn't whole
abbrev pub ended : Option ℕ → ℕ → Option Tree → Result Form QueryFault
ended (Some bad) size x = Err (Q.Syntax bad)
ended None size None = Err (Q.Syntax size)
ended None size (Some tree) = faultless tree (fault_of tree)

-- after the symbols before the first that exceeds a limit
abbrev pub limited : List Placed → Option ℕ → ℕ → Option Tree → Result Form QueryFault
limited [] bad size x = ended bad size x
limited (p ∷ rest) bad size x = Err (limit_fault p)

abbrev pub read_as : Result (Option Tree) QueryFault → List Placed → Option ℕ → ℕ → Result Form QueryFault
read_as (Err fault) passing bad size = Err fault
read_as (Ok x) passing bad size = limited passing bad size x

-- what symbols are read as, in a text of so many bytes
abbrev pub symbols_read : Symbols → ℕ → Result Form QueryFault
symbols_read symbols size = read_as (scanned (before_limit 0 symbols.placed)) (from_limit 0 symbols.placed) symbols.bad size

abbrev pub symbols_with : List Placed → Option ℕ → Symbols
symbols_with placed bad = record { placed = placed; bad = bad }

-- what a text is read as
unfoldable pub selection_read : List ℕ → Result Form QueryFault
selection_read text = symbols_read (symbols_of text) (length text)

-- What is answered is what is expected; want of memory is free.
abbrev pub Answered : {A B : Type 0} → (A → B) → Result B QueryFault → Result A QueryFault → Type 0
Answered view expected (Ok a) = Ok (view a) ≡ expected
Answered view expected (Err Q.Memory) = Unit {0}
Answered view expected (Err fault) = Err fault ≡ expected
