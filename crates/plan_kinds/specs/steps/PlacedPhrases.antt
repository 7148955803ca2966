-- Filters at the edges of a text over one phrase.
use Rattle.std.specs.Prelude.{Option, Some, None}
use Rattle.ft_base.specs.declared.filter.Filter.{Filter}
use Rattle.ft_base.specs.declared.filter.Filter.TheVariants as F
use Rattle.spot_merges.specs.declared.edge.Edge.{Edge}
use Rattle.spot_merges.specs.declared.edge.Edge.TheVariants.{Start, End, Both}
use Rattle.plan_compiler.specs.declared.operator_plan.FilteredPlan.{FilteredPlan}
use Rattle.plan_compiler.specs.declared.operator_plan.OperatorPlan.{OperatorPlan}
use Rattle.plan_compiler.specs.declared.operator_plan.PhraseTests.{PhraseTests}
use Rattle.plan_kinds.specs.steps.JoinedPhrases.{filtered_of, phrase_of}

-- two values, where both are there
abbrev pub both_of : {A B : Type 0} → Option A → Option B → Option (A × B)
both_of None second = None
both_of (Some a) None = None
both_of (Some a) (Some b) = Some (a, b)

-- the edge of the text at which a filter asks for a hit
abbrev pub filter_edge : Filter → Option Edge
filter_edge F.Ordered = None
filter_edge (F.Window size unit) = None
filter_edge (F.Distance range unit) = None
filter_edge F.SameSentence = None
filter_edge F.SameParagraph = None
filter_edge F.DifferentSentence = None
filter_edge F.DifferentParagraph = None
filter_edge F.AtStart = Some Start
filter_edge F.AtEnd = Some End
filter_edge F.EntireContent = Some Both

-- an edge, and the phrase that has to stand there
abbrev pub filtered_edge : FilteredPlan → Option (Edge × PhraseTests)
filtered_edge plan = both_of (filter_edge plan.kind) (phrase_of plan.operand)

abbrev pub edge_under : Option FilteredPlan → Option (Edge × PhraseTests)
edge_under None = None
edge_under (Some plan) = filtered_edge plan

abbrev pub edge_of : OperatorPlan → Option (Edge × PhraseTests)
edge_of plan = edge_under (filtered_of plan)
