-- How many includes the ways of an operator have at most, and how large an include is at most in a unit: how many words, sentences or
-- paragraphs it has.
use Rattle.std.specs.Prelude.{ℕ, suc, ◌+◌, ◌-◌, ◌*◌, ◌^◌, max, nat_le, nat_lt, if◌then◌else◌, List, fold, Option, Some, None}
use Rattle.ft_base.specs.declared.filter.Filter.{Filter}
use Rattle.ft_base.specs.declared.filter.Filter.TheVariants as F
use Rattle.ft_base.specs.declared.hit.Hit.{Hit}
use Rattle.ft_base.specs.declared.range.Range.{Range}
use Rattle.ft_base.specs.declared.range.Range.TheVariants.{Exactly, AtLeast, AtMost, FromTo}
use Rattle.ft_base.specs.declared.unit.TextUnit.{TextUnit}
use Rattle.ft_base.specs.declared.unit.TextUnit.TheVariants.{Words, Sentences, Paragraphs}
use Rattle.all_matches.specs.Positions.{start_in, end_in}
use Rattle.all_matches.specs.Ways.{Operator, phrase, either, together, apart, negated, through_filter}
use Rattle.ft_operators.specs.declared.extent.Extent.{Extent}
use Rattle.ft_operators.specs.declared.extent.UnitExtents.{UnitExtents}

-- a number that is known where it is below 2^32
abbrev pub small : ℕ → Option ℕ
small number = if nat_lt number (2 ^ 32) then Some number else None

-- the size of the largest hit of a phrase
abbrev pub longer : TextUnit → ℕ → Hit → ℕ
longer kind size hit = max size (suc (end_in kind hit) - start_in kind hit)

abbrev pub longest : TextUnit → List Hit → ℕ
longest kind hits = fold (longer kind) 0 hits

-- how much lies from the first to the last of so many includes of a size, with so much between neighbours
abbrev pub size_of : ℕ → ℕ → ℕ → ℕ
size_of includes size gap = includes * size + (includes - 1) * gap

-- the greatest value of a range: the most that a distance leaves between neighbours
abbrev pub greatest_value : Range → Option ℕ
greatest_value (Exactly n) = Some n
greatest_value (AtLeast n) = None
greatest_value (AtMost n) = Some n
greatest_value (FromTo low high) = Some high

-- what is said in one unit, where it is asked for in the same one
abbrev pub in_same : TextUnit → TextUnit → Option ℕ → Option ℕ
in_same Words Words number = number
in_same Words Sentences number = None
in_same Words Paragraphs number = None
in_same Sentences Words number = None
in_same Sentences Sentences number = number
in_same Sentences Paragraphs number = None
in_same Paragraphs Words number = None
in_same Paragraphs Sentences number = None
in_same Paragraphs Paragraphs number = number

-- how much lies from the first to the last include before a distance
abbrev pub spread : Option Extent → Option ℕ → Option ℕ
spread None gap = None
spread (Some extent) None = None
spread (Some extent) (Some gap) = small (size_of extent.includes extent.size gap)

-- ---- ways

abbrev pub no_include : Option Extent
no_include = Some record { includes = 0; size = 0 }

-- one include, where its size is known
abbrev pub one_include : Option ℕ → Option Extent
one_include None = None
one_include (Some size) = Some record { includes = 1; size = size }

-- the ways of one side or the other
abbrev pub extent_of_either : Option Extent → Option Extent → Option Extent
extent_of_either None right = None
extent_of_either (Some left) None = None
extent_of_either (Some left) (Some right) = Some record { includes = max left.includes right.includes; size = max left.size right.size }

-- so many includes, where that is known
abbrev pub some_includes : Option ℕ → ℕ → Option Extent
some_includes None size = None
some_includes (Some includes) size = Some record { includes = includes; size = size }

-- a way of the one side with a way of the other
abbrev pub extent_of_both : Option Extent → Option Extent → Option Extent
extent_of_both None right = None
extent_of_both (Some left) None = None
extent_of_both (Some left) (Some right) = some_includes (small (left.includes + right.includes)) (max left.size right.size)

-- what ways have behind a filter: behind a window or a distance the joined hit alone
abbrev pub extent_behind : TextUnit → Filter → Option Extent → Option Extent
extent_behind kind F.Ordered extent = extent
extent_behind kind (F.Window size unit) extent = one_include (in_same kind unit (Some size))
extent_behind kind (F.Distance range unit) extent = one_include (in_same kind unit (spread extent (greatest_value range)))
extent_behind kind F.SameSentence extent = extent
extent_behind kind F.SameParagraph extent = extent
extent_behind kind F.DifferentSentence extent = extent
extent_behind kind F.DifferentParagraph extent = extent
extent_behind kind F.AtStart extent = extent
extent_behind kind F.AtEnd extent = extent
extent_behind kind F.EntireContent extent = extent

-- what the ways of an operator have
abbrev pub extent_of : TextUnit → Operator → Option Extent
extent_of kind (phrase found) = one_include (small (longest kind found))
extent_of kind (either left right) = extent_of_either (extent_of kind left) (extent_of kind right)
extent_of kind (together left right) = extent_of_both (extent_of kind left) (extent_of kind right)
extent_of kind (apart left right) = extent_of kind left
extent_of kind (negated operand) = no_include
extent_of kind (through_filter operand filter) = extent_behind kind filter (extent_of kind operand)

-- ---- before distances

-- what matters of what ways have before a filter: where it is a distance in the unit that is limited, all
abbrev pub where_limited : Option ℕ → Option Extent → Option Extent
where_limited None extent = no_include
where_limited (Some gap) extent = extent

abbrev pub extent_before : TextUnit → Filter → Option Extent → Option Extent
extent_before kind F.Ordered extent = no_include
extent_before kind (F.Window size unit) extent = no_include
extent_before kind (F.Distance range unit) extent = where_limited (in_same kind unit (greatest_value range)) extent
extent_before kind F.SameSentence extent = no_include
extent_before kind F.SameParagraph extent = no_include
extent_before kind F.DifferentSentence extent = no_include
extent_before kind F.DifferentParagraph extent = no_include
extent_before kind F.AtStart extent = no_include
extent_before kind F.AtEnd extent = no_include
extent_before kind F.EntireContent extent = no_include

-- what the ways have before any such distance of an operator
abbrev pub extent_inside : TextUnit → Operator → Option Extent
extent_inside kind (phrase found) = no_include
extent_inside kind (either left right) = extent_of_either (extent_inside kind left) (extent_inside kind right)
extent_inside kind (together left right) = extent_of_either (extent_inside kind left) (extent_inside kind right)
extent_inside kind (apart left right) = extent_of_either (extent_inside kind left) (extent_inside kind right)
extent_inside kind (negated operand) = extent_inside kind operand
extent_inside kind (through_filter operand filter) = extent_of_either (extent_inside kind operand) (extent_before kind filter (extent_of kind operand))

-- what the ways of the right side of any mild not of an operator have
abbrev pub extent_beside : TextUnit → Operator → Option Extent
extent_beside kind (phrase found) = no_include
extent_beside kind (either left right) = extent_of_either (extent_beside kind left) (extent_beside kind right)
extent_beside kind (together left right) = extent_of_either (extent_beside kind left) (extent_beside kind right)
extent_beside kind (apart left right) = extent_of_either (extent_of kind right) (extent_of_either (extent_beside kind left) (extent_beside kind right))
extent_beside kind (negated operand) = extent_beside kind operand
extent_beside kind (through_filter operand filter) = extent_beside kind operand

-- the size of the one include that a way has, where it has no more
abbrev pub lone_size : Option Extent → Option ℕ
lone_size None = None
lone_size (Some extent) = if nat_le extent.includes 1 then Some extent.size else None

-- ---- in each unit

-- where nothing is told
abbrev pub untold : UnitExtents
untold = record { words = None; sentences = None; paragraphs = None }

abbrev pub extent_in : TextUnit → UnitExtents → Option Extent
extent_in Words extents = extents.words
extent_in Sentences extents = extents.sentences
extent_in Paragraphs extents = extents.paragraphs
