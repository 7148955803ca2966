-- The limits of a query: how great numbers are, how many parentheses are open at once, and how many filters stand directly round one another.
use Rattle.std.specs.Prelude.{ℕ, zero, suc, ◌+◌, ◌-◌, Bool, false, ◌||◌, ◌&&◌, nat_lt, nat_le, if◌then◌else◌}
use Rattle.std.specs.Prelude.{List, [], ◌∷◌, codes, Option, Some, None, Result, Ok, Err}
use Rattle.ft_base.specs.Limits.{max_filters, max_number, max_open}
use Rattle.ft_base.specs.declared.fault.QueryFault.{QueryFault}
use Rattle.ft_base.specs.declared.fault.QueryFault.TheVariants as Q
use Rattle.selection_grammar.specs.declared.symbol.Symbol.{Symbol}
use Rattle.selection_grammar.specs.declared.symbol.Placed.{Placed}
use Rattle.selection_grammar.specs.steps.Machine.{State, selection_at}
use Rattle.selection_grammar.specs.Shapes.{Shape, whole, is_mark, is_word, open_parenthesis, close_parenthesis, number_of}
use Rattle.selection_grammar.specs.Tree as tree
use Rattle.selection_grammar.specs.Tree.{Tree}

-- a number that is too great
abbrev pub is_great : Option ℕ → Bool
is_great None = false
is_great (Some n) = nat_lt max_number n

-- how many parentheses are open after a symbol
abbrev pub depth_after : ℕ → Symbol → ℕ
depth_after depth symbol = if is_mark open_parenthesis symbol then depth + 1 else if is_mark close_parenthesis symbol then depth - 1 else depth

-- whether a symbol exceeds a limit where so many parentheses are open: it opens one more than may be, or is a number that is too great
abbrev pub exceeds : ℕ → Symbol → Bool
exceeds depth symbol = is_great (number_of symbol) || (nat_le max_open depth && is_mark open_parenthesis symbol)

-- the symbols before the first that exceeds a limit, and that one with those after it
abbrev pub before_limit : ℕ → List Placed → List Placed
before_limit depth [] = []
before_limit depth (p ∷ rest) = if exceeds depth p.symbol then [] else p ∷ before_limit (depth_after depth p.symbol) rest

abbrev pub from_limit : ℕ → List Placed → List Placed
from_limit depth [] = []
from_limit depth (p ∷ rest) = if exceeds depth p.symbol then p ∷ rest else from_limit (depth_after depth p.symbol) rest

abbrev pub limit_fault : Placed → QueryFault
limit_fault p = if is_mark open_parenthesis p.symbol then Q.Deep p.from else Q.Number p.from

-- how many parentheses are open after symbols where so many are open before them, or the fault of the first of them that exceeds a limit
abbrev pub open_within : ℕ → List Placed → Result ℕ QueryFault
open_within depth [] = Ok depth
open_within depth (p ∷ rest) = if exceeds depth p.symbol then Err (limit_fault p) else open_within (depth_after depth p.symbol) rest

-- the fault of a symbol that can't stand where so many parentheses are open: a limit that it exceeds counts first
abbrev pub symbol_fault : ℕ → Placed → QueryFault
symbol_fault depth p = if exceeds depth p.symbol then limit_fault p else Q.Syntax p.from

-- how many filters stand directly round one another
abbrev pub filters_round : Tree → ℕ
filters_round (tree.filtered operand filter) = suc (filters_round operand)
filters_round (tree.words w) = zero
filters_round (tree.or_of trees) = zero
filters_round (tree.and_of trees) = zero
filters_round (tree.mild_not left right) = zero
filters_round (tree.not_of at operand) = zero
filters_round (tree.with_options operand options) = zero

abbrev pub has_all_filters : Option Tree → Bool
has_all_filters None = false
has_all_filters (Some t) = nat_le max_filters (filters_round t)

-- the keywords with which filters begin
abbrev pub is_filter_word : Symbol → Bool
is_filter_word symbol =
    is_word (codes "ordered") symbol || is_word (codes "window") symbol || is_word (codes "distance") symbol || is_word (codes "same") symbol
    || is_word (codes "different") symbol || is_word (codes "entire") symbol || is_word (codes "at") symbol

-- whether a symbol begins a filter whose operand has as many filters directly round one another as may stand so
abbrev pub is_deep_filter : Shape State → Symbol → Bool
is_deep_filter (whole s) symbol = is_filter_word symbol && has_all_filters (selection_at s.left s.stage)
is_deep_filter other symbol = false
