-- Phrases that are joined by `ftand` and numbered one after the other.
use Rattle.std.specs.Prelude.{◌-◌, ◌==◌, Bool, ◌&&◌, cond, List, [], ◌∷◌, ◌++◌, Option, Some, None, option_map}
use Rattle.ft_base.specs.declared.filter.Filter.{Filter}
use Rattle.plan_compiler.specs.CheapPlans.{is_word}
use Rattle.plan_compiler.specs.declared.operator_plan.FilteredPlan.{FilteredPlan}
use Rattle.plan_compiler.specs.declared.operator_plan.OperatorPlan.{OperatorPlan, Phrase, Choice', Both', MildNot', Negated', Filtered'}
use Rattle.plan_compiler.specs.declared.operator_plan.PhraseTests.{PhraseTests}
use Rattle.plan_kinds.specs.declared.joined.Joined.{Joined}

-- the phrase that a plan is
abbrev pub phrase_of : OperatorPlan → Option PhraseTests
phrase_of (Phrase found) = Some found
phrase_of (Choice' p left right) = None
phrase_of (Both' p left right) = None
phrase_of (MildNot' p left right) = None
phrase_of (Negated' p operand) = None
phrase_of (Filtered' p operand kind) = None

-- the phrase that a plan negates
abbrev pub negated_phrase : OperatorPlan → Option PhraseTests
negated_phrase (Phrase found) = None
negated_phrase (Choice' p left right) = None
negated_phrase (Both' p left right) = None
negated_phrase (MildNot' p left right) = None
negated_phrase (Negated' p operand) = phrase_of operand
negated_phrase (Filtered' p operand kind) = None

-- the filter that a plan is, with its operand
abbrev pub filtered_of : OperatorPlan → Option FilteredPlan
filtered_of (Phrase found) = None
filtered_of (Choice' p left right) = None
filtered_of (Both' p left right) = None
filtered_of (MildNot' p left right) = None
filtered_of (Negated' p operand) = None
filtered_of (Filtered' p operand kind) = Some (record { operand = operand; kind = kind })

abbrev pub alone : PhraseTests → Joined
alone found = record { first = found.number; last = found.number; are_words = is_word found }

-- the phrases with one more, if it has the number after theirs
abbrev pub next_to : Joined → PhraseTests → Option Joined
next_to before found =
    cond (found.number - before.last == 1)
    (Some (record { first = before.first; last = found.number; are_words = before.are_words && is_word found })) None

abbrev pub one_more : Option Joined → Option PhraseTests → Option Joined
one_more None next = None
one_more (Some before) None = None
one_more (Some before) (Some found) = next_to before found

-- the phrases that are joined, if a plan is nothing but phrases, numbered one after the other
unfoldable pub joined_of : OperatorPlan → Option Joined
joined_of (Phrase found) = Some (alone found)
joined_of (Choice' p left right) = None
joined_of (Both' p left right) = one_more (joined_of left) (phrase_of right)
joined_of (MildNot' p left right) = None
joined_of (Negated' p operand) = None
joined_of (Filtered' p operand kind) = None

-- the kind that a filter has over phrases that are joined, with their plan
abbrev pub kind_over : {K : Type 0} → (Filter → Joined → Option K) → FilteredPlan → Option Joined → Option (K × OperatorPlan)
kind_over kind_of plan None = None
kind_over kind_of plan (Some joined) = option_map (λ kind. (kind, plan.operand)) (kind_of plan.kind joined)

abbrev pub kind_under : {K : Type 0} → (Filter → Joined → Option K) → Option FilteredPlan → Option (K × OperatorPlan)
kind_under kind_of None = None
kind_under kind_of (Some plan) = kind_over kind_of plan (joined_of plan.operand)

-- whether they are two
abbrev pub are_two : Joined → Bool
are_two joined = joined.last - joined.first == 1

-- the phrases themselves
unfoldable pub joined_phrases : OperatorPlan → List PhraseTests
joined_phrases (Phrase found) = found ∷ []
joined_phrases (Choice' p left right) = []
joined_phrases (Both' p left right) = joined_phrases left ++ joined_phrases right
joined_phrases (MildNot' p left right) = []
joined_phrases (Negated' p operand) = []
joined_phrases (Filtered' p operand kind) = []
