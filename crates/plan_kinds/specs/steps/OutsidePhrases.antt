-- `not in` over two phrases, and a window in words over a single word and another one that is negated.
use Rattle.std.specs.Prelude.{◌&&◌, cond, Option, Some, None}
use Rattle.std.specs.Option.{option_or}
use Rattle.ft_base.specs.declared.filter.Filter.{Filter}
use Rattle.ft_base.specs.declared.filter.Filter.TheVariants as F
use Rattle.ft_base.specs.declared.unit.TextUnit.TheVariants as Unit
use Rattle.spot_merges.specs.declared.outside.Outside.{Outside}
use Rattle.spot_merges.specs.declared.outside.Outside.TheVariants.{Cover, Window}
use Rattle.plan_compiler.specs.declared.operator_plan.FilteredPlan.{FilteredPlan}
use Rattle.plan_compiler.specs.declared.operator_plan.OperatorPlan.{OperatorPlan, Phrase, Choice', Both', MildNot', Negated', Filtered'}
use Rattle.plan_compiler.specs.declared.operator_plan.PhraseTests.{PhraseTests}
use Rattle.plan_compiler.specs.CheapPlans.{is_word}
use Rattle.plan_kinds.specs.steps.JoinedPhrases.{negated_phrase, phrase_of}
use Rattle.plan_kinds.specs.steps.PlacedPhrases.{both_of}

-- two phrases and how the first has to stand outside the second, where both are known
abbrev pub found_outside : Option Outside → Option (PhraseTests × PhraseTests) → Option (Outside × PhraseTests × PhraseTests)
found_outside None found = None
found_outside (Some outside) None = None
found_outside (Some outside) (Some found) = Some (outside, found.0, found.1)

-- a phrase that another one doesn't cover
abbrev pub uncovered : OperatorPlan → OperatorPlan → Option (Outside × PhraseTests × PhraseTests)
uncovered left right = found_outside (Some Cover) (both_of (phrase_of left) (phrase_of right))

-- how a filter asks a word to stand outside one that is negated
abbrev pub filter_outside : Filter → Option Outside
filter_outside F.Ordered = None
filter_outside (F.Window size Unit.Words) = Some (Window size)
filter_outside (F.Window size Unit.Sentences) = None
filter_outside (F.Window size Unit.Paragraphs) = None
filter_outside (F.Distance range unit) = None
filter_outside F.SameSentence = None
filter_outside F.SameParagraph = None
filter_outside F.DifferentSentence = None
filter_outside F.DifferentParagraph = None
filter_outside F.AtStart = None
filter_outside F.AtEnd = None
filter_outside F.EntireContent = None

-- a phrase and another one that is negated, joined by `ftand`, whichever comes first
abbrev pub sides_without : OperatorPlan → OperatorPlan → Option (PhraseTests × PhraseTests)
sides_without left right = option_or (both_of (phrase_of left) (negated_phrase right)) (both_of (phrase_of right) (negated_phrase left))

abbrev pub phrase_without : OperatorPlan → Option (PhraseTests × PhraseTests)
phrase_without (Phrase found) = None
phrase_without (Choice' p left right) = None
phrase_without (Both' p left right) = sides_without left right
phrase_without (MildNot' p left right) = None
phrase_without (Negated' p operand) = None
phrase_without (Filtered' p operand kind) = None

-- the two, where each is a single word
abbrev pub when_words : Option (PhraseTests × PhraseTests) → Option (PhraseTests × PhraseTests)
when_words None = None
when_words (Some found) = cond (is_word found.0 && is_word found.1) (Some found) None

abbrev pub word_without : OperatorPlan → Option (PhraseTests × PhraseTests)
word_without plan = when_words (phrase_without plan)

abbrev pub filtered_outside : FilteredPlan → Option (Outside × PhraseTests × PhraseTests)
filtered_outside plan = found_outside (filter_outside plan.kind) (word_without plan.operand)

-- how the first of two phrases has to stand outside the second
abbrev pub outside_of : OperatorPlan → Option (Outside × PhraseTests × PhraseTests)
outside_of (Phrase found) = None
outside_of (Choice' p left right) = None
outside_of (Both' p left right) = None
outside_of (MildNot' p left right) = uncovered left right
outside_of (Negated' p operand) = None
outside_of (Filtered' p operand kind) = filtered_outside (record { operand = operand; kind = kind })
