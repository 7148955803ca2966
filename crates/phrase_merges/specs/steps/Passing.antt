-- One pass through the ends of hits: before a place each phrase, window and scope keeps the latest start of what ends before it.
use Rattle.std.specs.Prelude.{◌≡◌, ℕ, ◌+◌, max, Bool, nat_le, nat_lt, if◌then◌else◌, List, [], ◌∷◌, ◌++◌, map, flat_map, fold, Option, Some, None, option_map}
use Rattle.ft_base.specs.declared.hit.Hit.{Hit}
use Rattle.ft_base.specs.declared.span.Span.{Span}
use Rattle.ft_base.specs.declared.unit.TextUnit.{TextUnit}
use Rattle.ft_base.specs.declared.unit.TextUnit.TheVariants.{Words, Sentences, Paragraphs}
use Rattle.all_matches.specs.Ways.{Operator, phrase, either, together, through_filter}
use Rattle.ft_operators.specs.Phrases.{PhraseState, aimed_at, first_hit}
use Rattle.phrase_merges.specs.Near.{Units, hulls_of}
use Rattle.phrase_merges.specs.NearTrees.{Passage, lists_at, either_at, both_at, within_at, filter_of}
use Rattle.phrase_merges.specs.declared.edge.Edge.TheVariants.{End}
use Rattle.phrase_merges.specs.declared.field.Field.{Field}
use Rattle.phrase_merges.specs.declared.field.Field.TheVariants.{Window, SameSentence, SameParagraph}
use Rattle.phrase_merges.specs.declared.passed.Passed.{Passed}
use Rattle.phrase_merges.specs.declared.position.Position.{Position}
use Rattle.phrase_merges.specs.steps.Ahead.{from_on}

-- ---- positions

abbrev pub start_of : Hit → Position
start_of hit = record { word = hit.from; sentence = hit.sent_from; paragraph = hit.para_from }

abbrev pub end_of : Hit → Position
end_of hit = record { word = hit.to; sentence = hit.sent_to; paragraph = hit.para_to }

abbrev pub number_in : TextUnit → Position → ℕ
number_in Words position = position.word
number_in Sentences position = position.sentence
number_in Paragraphs position = position.paragraph

-- the position of a word
abbrev pub position_in : Units → ℕ → Position
position_in units word = record { word = word; sentence = units.sentence word; paragraph = units.paragraph word }

-- the later of two, or the one that there is; the earlier, where there are both; and the earlier, or the one that there is
abbrev pub later : Option Position → Option Position → Option Position
later None second = second
later (Some a) None = Some a
later (Some a) (Some b) = if nat_le b.word a.word then Some a else Some b

abbrev pub earlier : Option Position → Option Position → Option Position
earlier None second = None
earlier (Some a) None = None
earlier (Some a) (Some b) = if nat_le a.word b.word then Some a else Some b

abbrev pub soonest : Option Position → Option Position → Option Position
soonest None second = second
soonest (Some a) None = Some a
soonest (Some a) (Some b) = if nat_le a.word b.word then Some a else Some b

-- ---- windows and scopes

abbrev pub size_of : Field → ℕ
size_of (Window size unit) = size
size_of SameSentence = 1
size_of SameParagraph = 1

abbrev pub unit_of : Field → TextUnit
unit_of (Window size unit) = unit
unit_of SameSentence = Sentences
unit_of SameParagraph = Paragraphs

-- whether what begins and ends there lies in a window of that size
abbrev pub has_room : Field → Position → Position → Bool
has_room field start end = nat_lt (number_in (unit_of field) end) (number_in (unit_of field) start + size_of field)

-- ---- a tree before a place

-- the larger of two numbers, or the one that there is
abbrev pub greater : Option ℕ → Option ℕ → Option ℕ
greater None second = second
greater (Some a) None = Some a
greater (Some a) (Some b) = Some (max a b)

-- the latest first word of those hits that end before a place
abbrev pub latest_before : ℕ → List Hit → Option ℕ
latest_before place [] = None
latest_before place (hit ∷ hits) = if nat_lt hit.to place then greater (Some hit.from) (latest_before place hits) else latest_before place hits

-- the operator of the hits at which the lists are aimed, and all lists
unfoldable pub operator_at : Passage → Operator
operator_at (lists_at states start) = phrase (flat_map (λ s. s.hits) states)
operator_at (either_at left right) = either (operator_at left) (operator_at right)
operator_at (both_at left right) = together (operator_at left) (operator_at right)
operator_at (within_at operand field start) = through_filter (operator_at operand) (filter_of field)

unfoldable pub states_at : Passage → List PhraseState
states_at (lists_at states start) = states
states_at (either_at left right) = states_at left ++ states_at right
states_at (both_at left right) = states_at left ++ states_at right
states_at (within_at operand field start) = states_at operand

-- the latest start of what an operator has before a place
abbrev pub start_before : Units → ℕ → Operator → Option Position
start_before units place operator = option_map (position_in units) (latest_before place (hulls_of operator))

-- a list whose hits before a place were passed
abbrev pub list_before : ℕ → PhraseState → PhraseState
list_before place s = record { aims = s.aims; hits = s.hits; rest = from_on End Words place s.hits }

-- a tree that passed all that ends before a place
unfoldable pub before : Units → ℕ → Passage → Passage
before units place (lists_at states start) = lists_at (map (list_before place) states) (start_before units place (operator_at (lists_at states start)))
before units place (either_at left right) = either_at (before units place left) (before units place right)
before units place (both_at left right) = both_at (before units place left) (before units place right)
before units place (within_at operand field start) =
    within_at (before units place operand) field (start_before units place (operator_at (within_at operand field start)))

-- ---- one step, as it goes

-- what is left of a list behind an end, and the latest start of what was passed
abbrev pub left_behind : Position → List Hit → List Hit
left_behind end [] = []
left_behind end (hit ∷ hits) = if nat_lt end.word hit.to then hit ∷ hits else left_behind end hits

abbrev pub start_behind : Position → Option Position → List Hit → Option Position
start_behind end start [] = start
start_behind end start (hit ∷ hits) = if nat_lt end.word hit.to then start else start_behind end (later start (Some (start_of hit))) hits

abbrev pub list_behind : Position → PhraseState → PhraseState
list_behind end s = record { aims = s.aims; hits = s.hits; rest = left_behind end s.rest }

-- the same of all lists of a phrase
abbrev pub start_of_lists : Position → Option Position → List PhraseState → Option Position
start_of_lists end start states = fold (λ so_far s. start_behind end so_far s.rest) start states

-- the first end of what some lists have left
abbrev pub next_of_lists : List PhraseState → Option Position
next_of_lists [] = None
next_of_lists (s ∷ states) = soonest (option_map end_of (first_hit s.rest)) (next_of_lists states)

-- the start that a window or scope has from its operand's
abbrev pub start_within : Field → Position → Option Position → Option Position
start_within field end None = None
start_within field end (Some start) = if has_room field start end then Some start else None

-- the start that a tree tells, and the first end of what its lists have left
unfoldable pub start_at : Passage → Option Position
start_at (lists_at states start) = start
start_at (either_at left right) = later (start_at left) (start_at right)
start_at (both_at left right) = earlier (start_at left) (start_at right)
start_at (within_at operand field start) = start

unfoldable pub next_at : Passage → Option Position
next_at (lists_at states start) = next_of_lists states
next_at (either_at left right) = soonest (next_at left) (next_at right)
next_at (both_at left right) = soonest (next_at left) (next_at right)
next_at (within_at operand field start) = next_at operand

abbrev pub telling : Passage → Passed
telling passage = record { start = start_at passage; next = next_at passage }

-- a tree that passed what ends there or before
unfoldable pub behind : Position → Passage → Passage
behind end (lists_at states start) = lists_at (map (list_behind end) states) (start_of_lists end start states)
behind end (either_at left right) = either_at (behind end left) (behind end right)
behind end (both_at left right) = both_at (behind end left) (behind end right)
behind end (within_at operand field start) =
    within_at (behind end operand) field (later start (start_within field end (start_at (behind end operand))))

-- a tree whose lists were aimed
unfoldable pub aimed : ℕ → Span → Passage → Passage
aimed doc span (lists_at states start) = lists_at (map (aimed_at doc span) states) None
aimed doc span (either_at left right) = either_at (aimed doc span left) (aimed doc span right)
aimed doc span (both_at left right) = both_at (aimed doc span left) (aimed doc span right)
aimed doc span (within_at operand field start) = within_at (aimed doc span operand) field None

-- how large a tree is
unfoldable pub weight : Passage → ℕ
weight (lists_at states start) = 1
weight (either_at left right) = weight left + weight right + 1
weight (both_at left right) = weight left + weight right + 1
weight (within_at operand field start) = weight operand + 1

-- a tree that was changed so, with what it tells
pub record IsMoved (wanted now : Passage) (answer : Passed) : Type 0 where
  pub stands : now ≡ wanted
  pub tells : answer ≡ telling now

-- a tree that was aimed, with its first end
pub record IsAimed (wanted now : Passage) (next : Option Position) : Type 0 where
  pub stands : now ≡ wanted
  pub first : next ≡ next_at now
