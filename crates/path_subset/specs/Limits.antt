-- The limits of a path outside its selections: how great numbers are, and how many brackets and parentheses are open at once.
use Rattle.std.specs.Prelude.{◌≡◌, ◌≤◌, ℕ, Bool, true, false, nat_lt, nat_le, if◌then◌else◌, List, ◌∷◌, ◌++◌, Some}
use Rattle.std.specs.Option.{is_some}
use Rattle.ft_base.specs.Limits.{max_number, max_open}
use Rattle.ft_base.specs.declared.fault.QueryFault.{QueryFault}
use Rattle.ft_base.specs.declared.fault.QueryFault.TheVariants as Q
use Rattle.selection_grammar.specs.steps.Machine as selection
use Rattle.selection_grammar.specs.declared.symbol.Placed.{Placed}
use Rattle.selection_grammar.specs.declared.symbol.Symbol.{Symbol}
use Rattle.selection_grammar.specs.declared.symbol.Symbol.TheVariants as S
use Rattle.path_grammar.specs.steps.Machine.{State, Stage, at_root, along, selecting, read, run_on, open_count}

abbrev pub opens : Symbol → Bool
opens S.OpenBracket = true
opens S.OpenParenthesis = true
opens other = false

-- Whether a symbol exceeds a limit where so many brackets and parentheses are open: it opens one more than may be, or is a number
-- that is too great.
abbrev pub exceeds : ℕ → Symbol → Bool
exceeds depth S.OpenBracket = nat_le max_open depth
exceeds depth S.OpenParenthesis = nat_le max_open depth
exceeds depth (S.Number n) = nat_lt max_number n
exceeds depth other = false

abbrev pub limit_fault : Placed → QueryFault
limit_fault p = if opens p.symbol then Q.Deep p.from else Q.Number p.from

-- whether a symbol goes on with the selection that the machine has read so far
abbrev pub goes_on_at : Stage → Placed → Bool
goes_on_at (selecting steps symbols shape) p = is_some (selection.advance shape p)
goes_on_at other p = false

abbrev pub goes_on : State → Placed → Bool
goes_on (at_root stage) p = false
goes_on (along root s) p = goes_on_at s.stage p

-- Outside of all selections none of the symbols exceeds a limit, from where the machine stands.
abbrev pub WithinFrom : State → List Placed → Type 0
WithinFrom s symbols = (before : List Placed) (p : Placed) (rest : List Placed) (t : State) → symbols ≡ before ++ p ∷ rest
    → run_on (Some s) before ≡ Some t → goes_on t p ≡ false → exceeds (open_count t) p.symbol ≡ false

abbrev pub Within : List Placed → Type 0
Within symbols = (before : List Placed) (p : Placed) (rest : List Placed) (t : State) → symbols ≡ before ++ p ∷ rest → read before ≡ Some t
    → goes_on t p ≡ false → exceeds (open_count t) p.symbol ≡ false

-- Outside of all selections no number is too great.
abbrev pub AreNumbersWithin : List Placed → Type 0
AreNumbersWithin symbols = (before : List Placed) (p : Placed) (rest : List Placed) (t : State) (n : ℕ) → symbols ≡ before ++ p ∷ rest
    → read before ≡ Some t → goes_on t p ≡ false → p.symbol ≡ S.Number n → n ≤ max_number
