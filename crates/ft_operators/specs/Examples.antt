-- Small walks and chains, for the examples.
use Rattle.std.specs.Prelude.{ℕ, ℤ, Bool, true, List, [], ◌∷◌, nat_lt, Option, Some, None}
use Rattle.ft_base.specs.declared.hit.Hit.{Hit}
use Rattle.ft_base.specs.declared.span.Span.{Span}
use Rattle.ft_base.specs.declared.filter.Filter.{Filter}
use Rattle.ft_base.specs.declared.filter.Filter.TheVariants as F
use Rattle.ft_base.specs.declared.range.Range.TheVariants.{AtMost}
use Rattle.ft_base.specs.declared.unit.TextUnit.TheVariants.{Words, Sentences}
use Rattle.all_matches.specs.declared.window.Window.{Window}
use Rattle.all_matches.specs.Chain.{Link}
use Rattle.all_matches.specs.Hits.{match_of_hit}
use Rattle.all_matches.specs.Ways.{Operator, phrase, together, Way, one_hit, two_ways, turned_about, by_filter}
use Rattle.all_matches.specs.Window.{window_at}
use Rattle.ft_operators.specs.declared.bounds.Bounds.{Bounds}
use Rattle.ft_operators.specs.declared.bounds.UnitBounds.{UnitBounds}
use Rattle.ft_operators.specs.declared.chain.ChainLink.{ChainLink}
use Rattle.ft_operators.specs.declared.course.Course.{Course}
use Rattle.ft_operators.specs.declared.extent.Extent.{Extent}
use Rattle.ft_operators.specs.Bounds.{everywhere}
use Rattle.ft_operators.specs.Course.{course_inside, tellings, ways_on}
use Rattle.ft_operators.specs.Extents.{untold}
use Rattle.ft_operators.specs.declared.extent.UnitExtents.{UnitExtents}
use Rattle.ft_operators.specs.Standing.{phrase_aims}
use Rattle.ft_operators.specs.Walk.{Walk, before_first, walk_at}

abbrev pub span : ℕ → ℕ → Span
span from to = record { from = from; to = to }

-- the hit of the phrase of that number at the word of that number
abbrev pub at : ℕ → Hit
at number = record { query = number; from = number; to = number; sent_from = 1; sent_to = 1; para_from = 1; para_to = 1; whole = true }

-- `a` at the first word; `a b`
abbrev pub a : Way
a = one_hit (at 1)

abbrev pub a_and_b : Way
a_and_b = two_ways a (one_hit (at 2))

abbrev pub ordered : Way → Way
ordered way = by_filter way F.Ordered None

-- before the first way of a phrase that has no hit
abbrev pub unmoved : Walk
unmoved = before_first (span 1 3) (phrase_aims (record { may = λ doc place. true; hits = λ doc place. [] })) (phrase [])

-- at the first of two ways
abbrev pub moved : Walk
moved = walk_at (a ∷ ordered a_and_b ∷ []) unmoved

-- `ftnot "a"` where `a` stands at the first word
abbrev pub not_a : Way
not_a = turned_about (match_of_hit (at 1) ∷ [])

-- whether a hit begins after the first word
abbrev pub is_after : Hit → Bool
is_after hit = nat_lt 1 hit.from

-- two words from that one on, as a window, and chosen by a window filter
abbrev pub two_from : ℤ → Window
two_from number = window_at 2 number

abbrev pub within : Way → ℤ → Way
within way number = by_filter way (F.Window 2 Words) (Some (two_from number))

-- the choice of a window filter of that size, from that number on
abbrev pub round_from : ℕ → ℤ → Option Window
round_from size number = Some (window_at size number)

-- a filter of a chain, with so many includes before its own, and with these
abbrev pub put : Filter → Option Window → ℕ → ChainLink
put kind window start = record { kind = kind; window = window; start = start }

abbrev pub link : Filter → Option Window → List Hit → Link
link kind window includes = record { kind = kind; includes = includes; choice = window }

-- bounds in one unit, from one number on up to another
abbrev pub between : ℕ → ℕ → UnitBounds
between from to = record { from = from; to = Some to }

-- bounds of words alone
abbrev pub words_between : ℕ → ℕ → Bounds
words_between from to = record everywhere { words = between from to }

-- the hit of the first phrase from one word to another
abbrev pub from_to : ℕ → ℕ → Hit
from_to first last = record (at 1) { from = first; to = last }

-- the hits of the phrase of that number at two words
abbrev pub hit_of : ℕ → ℕ → Hit
hit_of number place = record (at place) { query = number }

abbrev pub two_hits : ℕ → ℕ → ℕ → Operator
two_hits number first second = phrase (hit_of number first ∷ hit_of number second ∷ [])

-- the course inside a filter
abbrev pub inside : Filter → Course
inside kind = course_inside kind (tellings (span 1 9) untold None)

-- the ways of an And of two hits each on that course
abbrev pub pairs_on : Course → List Way
pairs_on course = ways_on course (together (two_hits 1 1 5) (two_hits 2 2 4))

-- a hit of each
abbrev pub pair : ℕ → ℕ → Way
pair first second = two_ways (one_hit (hit_of 1 first)) (one_hit (hit_of 2 second))

-- so many includes of a size
abbrev pub extent : ℕ → ℕ → Option Extent
extent includes size = Some record { includes = includes; size = size }

-- told of words alone, and of sentences alone
abbrev pub in_words : Option Extent → UnitExtents
in_words extent = record untold { words = extent }

abbrev pub in_sentences : Option Extent → UnitExtents
in_sentences extent = record untold { sentences = extent }

-- at most so many words between neighbours
abbrev pub at_most : ℕ → Filter
at_most words = F.Distance (AtMost words) Words

-- the course inside a filter, before which ways have two includes of one word
abbrev pub inside_few : Filter → Course
inside_few kind = course_inside kind (tellings (span 1 9) (in_words (extent 2 1)) None)

-- the hit at a word of that sentence; the course inside a distance of at most one sentence, before which ways have two includes of one sentence
abbrev pub in_sentence : ℕ → ℕ → Hit
in_sentence number sentence = record (at number) { sent_from = sentence; sent_to = sentence }

abbrev pub inside_near : Course
inside_near = course_inside (F.Distance (AtMost 1) Sentences) (tellings (span 1 9) (in_sentences (extent 2 1)) None)

-- the course where the ways of right sides of mild nots have one include of so many words
abbrev pub beside : ℕ → Course
beside words = tellings (span 1 9) untold (extent 1 words)

-- a phrase that has a hit of two words and one of one; those of one word each
abbrev pub two_words : Operator
two_words = phrase (from_to 1 2 ∷ at 4 ∷ [])

abbrev pub one_word : Operator
one_word = phrase (at 4 ∷ at 5 ∷ at 6 ∷ [])
