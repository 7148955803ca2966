-- Filters that are decided by going through the hits of words: `window` in words, `ordered`, `same sentence` and `same paragraph`, over
-- single words that are joined by `ftand`, and over two of them a distance of at most so many words.
use Rattle.std.specs.Prelude.{ℕ, ◌+◌, Bool, ◌&&◌, nat_lt, cond, List, Option, Some, None}
use Rattle.ft_base.specs.declared.filter.Filter.{Filter}
use Rattle.ft_base.specs.declared.filter.Filter.TheVariants as F
use Rattle.ft_base.specs.declared.places.Breaks.{Breaks}
use Rattle.ft_base.specs.declared.range.Range.{Range}
use Rattle.ft_base.specs.declared.range.Range.TheVariants as R
use Rattle.ft_base.specs.declared.unit.TextUnit.{TextUnit}
use Rattle.ft_base.specs.declared.unit.TextUnit.TheVariants as Unit
use Rattle.index_cursors.specs.SpanHits.{started}
use Rattle.window_merges.specs.Choices.{are_close, are_in_one, are_in_order, some_choice}
use Rattle.plan_compiler.specs.declared.operator_plan.OperatorPlan.{OperatorPlan}
use Rattle.plan_kinds.specs.steps.JoinedPhrases.{are_two, filtered_of, kind_under}
use Rattle.plan_kinds.specs.declared.joined.Joined.{Joined}
use Rattle.plan_kinds.specs.declared.merge_kind.MergeKind.{MergeKind}
use Rattle.plan_kinds.specs.declared.merge_kind.MergeKind.TheVariants.{Close, InOrder, InSentence, InParagraph}

-- whether one place of each word can be chosen so that they stand like this in a text with these breaks
abbrev pub stand_as : Breaks → MergeKind → List (List ℕ) → Bool
stand_as breaks (Close size) places = some_choice (are_close size) places
stand_as breaks InOrder places = some_choice are_in_order places
stand_as breaks InSentence places = some_choice (are_in_one (started breaks.sentences)) places
stand_as breaks InParagraph places = some_choice (are_in_one (started breaks.paragraphs)) places

-- two words at most so far apart stand among two words more, which is a number of 32 bits
abbrev pub pair_kind : ℕ → Joined → Option MergeKind
pair_kind size joined = cond (are_two joined && nat_lt size 4294967294) (Some (Close (size + 2))) None

abbrev pub distance_kind : Range → TextUnit → Joined → Option MergeKind
distance_kind (R.Exactly size) unit joined = None
distance_kind (R.AtLeast size) unit joined = None
distance_kind (R.AtMost size) Unit.Words joined = pair_kind size joined
distance_kind (R.AtMost size) Unit.Sentences joined = None
distance_kind (R.AtMost size) Unit.Paragraphs joined = None
distance_kind (R.FromTo low high) unit joined = None

-- how single words have to stand by a filter, where it asks for nothing but this
abbrev pub words_kind : Filter → Joined → Option MergeKind
words_kind F.Ordered joined = Some InOrder
words_kind (F.Window size Unit.Words) joined = Some (Close size)
words_kind (F.Window size Unit.Sentences) joined = None
words_kind (F.Window size Unit.Paragraphs) joined = None
words_kind (F.Distance range unit) joined = distance_kind range unit joined
words_kind F.SameSentence joined = Some InSentence
words_kind F.SameParagraph joined = Some InParagraph
words_kind F.DifferentSentence joined = None
words_kind F.DifferentParagraph joined = None
words_kind F.AtStart joined = None
words_kind F.AtEnd joined = None
words_kind F.EntireContent joined = None

abbrev pub merge_kind : Filter → Joined → Option MergeKind
merge_kind filter joined = cond joined.are_words (words_kind filter joined) None

-- how words have to stand by a filter, and the plan that joins them
abbrev pub merge_of : OperatorPlan → Option (MergeKind × OperatorPlan)
merge_of plan = kind_under merge_kind (filtered_of plan)
