-- Where hits are sought, and what the filters round an operand say of every two of its includes.
use Rattle.std.specs.Prelude.{ℕ, suc, ◌+◌, ◌-◌, min, max, Bool, true, false, ◌&&◌, ◌||◌, nat_le, nat_lt, List, fold, Option, Some, None}
use Rattle.std.specs.List.{list_all}
use Rattle.ft_base.specs.declared.filter.Filter.{Filter}
use Rattle.ft_base.specs.declared.filter.Filter.TheVariants as F
use Rattle.ft_base.specs.declared.hit.Hit.{Hit}
use Rattle.ft_base.specs.declared.unit.TextUnit.{TextUnit}
use Rattle.ft_base.specs.declared.unit.TextUnit.TheVariants.{Words, Sentences, Paragraphs}
use Rattle.ft_operators.specs.Extents.{extent_in, greatest_value, spread}
use Rattle.ft_operators.specs.declared.bounds.Bounds.{Bounds}
use Rattle.ft_operators.specs.declared.bounds.UnitBounds.{UnitBounds}
use Rattle.ft_operators.specs.declared.bounds.OrderBound.{OrderBound}
use Rattle.ft_operators.specs.declared.course.Windows.{Windows}
use Rattle.ft_operators.specs.declared.course.Windows.TheVariants.{Each, Telling, First}
use Rattle.ft_operators.specs.declared.extent.UnitExtents.{UnitExtents}
use Rattle.ft_operators.specs.declared.reach.Reach.{Reach}

-- ---- hits in bounds

-- whether a number is before the end, where there is one
abbrev pub is_before : Option ℕ → ℕ → Bool
is_before None number = true
is_before (Some end) number = nat_lt number end

-- whether what begins with the first number and ends with the last one lies in the bounds
abbrev pub lies_between : UnitBounds → ℕ → ℕ → Bool
lies_between bounds first last = nat_le bounds.from first && is_before bounds.to last

-- whether a hit is none of a later phrase, or begins late enough
abbrev pub is_allowed : OrderBound → Hit → Bool
is_allowed order hit = nat_le order.from hit.from || nat_le hit.query order.query

-- whether a hit lies in the bounds
abbrev pub lies_in : Bounds → Hit → Bool
lies_in bounds hit =
    lies_between bounds.words hit.from hit.to
    && (lies_between bounds.sentences hit.sent_from hit.sent_to && (lies_between bounds.paragraphs hit.para_from hit.para_to && is_allowed bounds.order hit))

-- the bounds in which each hit lies
abbrev pub all_numbers : UnitBounds
all_numbers = record { from = 0; to = None }

abbrev pub any_order : OrderBound
any_order = record { query = 0; from = 0 }

abbrev pub everywhere : Bounds
everywhere = record { words = all_numbers; sentences = all_numbers; paragraphs = all_numbers; order = any_order }

-- ---- what filters say of every two includes

-- whether a window of the size, where there is one, has room for both
abbrev pub fit_together : Option ℕ → ℕ → ℕ → ℕ → ℕ → Bool
fit_together None first last other_first other_last = true
fit_together (Some size) first last other_first other_last = nat_lt last (other_first + size) && nat_lt other_last (first + size)

-- whether the other hit, where order is asked for, is none of a later phrase, or begins no earlier
abbrev pub stands_behind : Bool → Hit → Hit → Bool
stands_behind false hit other = true
stands_behind true hit other = nat_le hit.from other.from || nat_le other.query hit.query

-- whether two includes stand to one another as the filters round them say
abbrev pub agrees : Reach → Hit → Hit → Bool
agrees reach hit other =
    fit_together reach.words hit.from hit.to other.from other.to
    && (fit_together reach.sentences hit.sent_from hit.sent_to other.sent_from other.sent_to
    && (fit_together reach.paragraphs hit.para_from hit.para_to other.para_from other.para_to && stands_behind reach.ordered hit other))

-- whether hits lie in the bounds, and every two of them agree
abbrev pub are_within : Bounds → Reach → List Hit → Bool
are_within bounds reach hits = list_all (lies_in bounds) hits && list_all (λ hit. list_all (agrees reach hit) hits) hits

-- where nothing is said
abbrev pub no_reach : Reach
no_reach = record { words = None; sentences = None; paragraphs = None; ordered = false }

-- what ordered says, and nothing else
abbrev pub order_reach : Reach
order_reach = record no_reach { ordered = true }

-- ---- narrower bounds

-- the bounds in which a window of the size that has room for this one lies
abbrev pub earlier_end : Option ℕ → ℕ → ℕ
earlier_end None other = other
earlier_end (Some end) other = min end other

abbrev pub numbers_round : Option ℕ → ℕ → ℕ → UnitBounds → UnitBounds
numbers_round None first last bounds = bounds
numbers_round (Some size) first last bounds = record { from = max bounds.from (suc last - size); to = Some (earlier_end bounds.to (first + size)) }

abbrev pub order_behind : Bool → Hit → OrderBound → OrderBound
order_behind false hit order = order
order_behind true hit order = record { query = max order.query hit.query; from = max order.from hit.from }

-- where further includes may lie beside one, and beside several
abbrev pub round_hit : Reach → Bounds → Hit → Bounds
round_hit reach bounds hit = record {
  words = numbers_round reach.words hit.from hit.to bounds.words;
  sentences = numbers_round reach.sentences hit.sent_from hit.sent_to bounds.sentences;
  paragraphs = numbers_round reach.paragraphs hit.para_from hit.para_to bounds.paragraphs;
  order = order_behind reach.ordered hit bounds.order;
}

abbrev pub round_hits : Reach → Bounds → List Hit → Bounds
round_hits reach bounds hits = fold (round_hit reach) bounds hits

-- ---- inside a filter

-- no larger than either
abbrev pub smaller : Option ℕ → ℕ → ℕ
smaller None size = size
smaller (Some other) size = min other size

-- a window of the size, if there is one, in one unit alone
abbrev pub unit_reach : TextUnit → Option ℕ → Reach
unit_reach Words size = record no_reach { words = size }
unit_reach Sentences size = record no_reach { sentences = size }
unit_reach Paragraphs size = record no_reach { paragraphs = size }

abbrev pub window_reach : ℕ → TextUnit → Reach
window_reach size kind = unit_reach kind (Some size)

-- what a filter, and those round it, say of every two includes before it, which are no more and no larger than the extents say.
-- Those round a filter that joins see its joined hit
abbrev pub filter_reach : UnitExtents → Filter → Reach → Reach
filter_reach extents F.Ordered reach = record reach { ordered = true }
filter_reach extents (F.Window size kind) reach = window_reach size kind
filter_reach extents (F.Distance range kind) reach = unit_reach kind (spread (extent_in kind extents) (greatest_value range))
filter_reach extents F.SameSentence reach = record reach { sentences = Some (smaller reach.sentences 1) }
filter_reach extents F.SameParagraph reach = record reach { paragraphs = Some (smaller reach.paragraphs 1) }
filter_reach extents F.DifferentSentence reach = reach
filter_reach extents F.DifferentParagraph reach = reach
filter_reach extents F.AtStart reach = reach
filter_reach extents F.AtEnd reach = reach
filter_reach extents F.EntireContent reach = reach

-- the bounds of the includes before a filter: where the joined hit lies in them, all do, but for the order, which is that of the
-- joined hit's own phrase
abbrev pub before_joining : Bounds → Bounds
before_joining bounds = record bounds { order = any_order }

abbrev pub filter_bounds : Filter → Bounds → Bounds
filter_bounds F.Ordered bounds = bounds
filter_bounds (F.Window size kind) bounds = before_joining bounds
filter_bounds (F.Distance range kind) bounds = before_joining bounds
filter_bounds F.SameSentence bounds = bounds
filter_bounds F.SameParagraph bounds = bounds
filter_bounds F.DifferentSentence bounds = bounds
filter_bounds F.DifferentParagraph bounds = bounds
filter_bounds F.AtStart bounds = bounds
filter_bounds F.AtEnd bounds = bounds
filter_bounds F.EntireContent bounds = bounds

-- where each window is gone through no way is left out
abbrev pub reach_inside : Windows → UnitExtents → Filter → Reach → Reach
reach_inside Each extents kind reach = reach
reach_inside Telling extents kind reach = filter_reach extents kind reach
reach_inside First extents kind reach = filter_reach extents kind reach

abbrev pub bounds_inside : Windows → Filter → Bounds → Bounds
bounds_inside Each kind bounds = bounds
bounds_inside Telling kind bounds = filter_bounds kind bounds
bounds_inside First kind bounds = filter_bounds kind bounds
