-- Filters that are decided by one pass through the hits of phrases: `ordered` over phrases that are joined by `ftand`, and a distance over
-- two of them.
use Rattle.std.specs.Prelude.{Bool, cond, List, Option, Some, None}
use Rattle.ft_base.specs.declared.filter.Filter.{Filter}
use Rattle.ft_base.specs.declared.filter.Filter.TheVariants as F
use Rattle.ft_base.specs.declared.hit.Hit.{Hit}
use Rattle.ft_base.specs.declared.range.Range.{Range}
use Rattle.ft_base.specs.declared.unit.TextUnit.{TextUnit}
use Rattle.phrase_merges.specs.Choices.{are_apart, begin_in_order}
use Rattle.plan_compiler.specs.declared.operator_plan.OperatorPlan.{OperatorPlan}
use Rattle.plan_kinds.specs.steps.JoinedPhrases.{are_two, filtered_of, kind_under}
use Rattle.plan_kinds.specs.declared.joined.Joined.{Joined}
use Rattle.plan_kinds.specs.declared.pass_kind.PassKind.{PassKind}
use Rattle.plan_kinds.specs.declared.pass_kind.PassKind.TheVariants.{Apart, InOrder}

-- whether hits, one of each phrase, stand like this
abbrev pub hits_stand : PassKind → List Hit → Bool
hits_stand (Apart range unit) hits = are_apart range unit hits
hits_stand InOrder hits = begin_in_order hits

abbrev pub apart_kind : Range → TextUnit → Joined → Option PassKind
apart_kind range unit joined = cond (are_two joined) (Some (Apart range unit)) None

-- how phrases have to stand by a filter
abbrev pub pass_kind : Filter → Joined → Option PassKind
pass_kind F.Ordered joined = Some InOrder
pass_kind (F.Window size unit) joined = None
pass_kind (F.Distance range unit) joined = apart_kind range unit joined
pass_kind F.SameSentence joined = None
pass_kind F.SameParagraph joined = None
pass_kind F.DifferentSentence joined = None
pass_kind F.DifferentParagraph joined = None
pass_kind F.AtStart joined = None
pass_kind F.AtEnd joined = None
pass_kind F.EntireContent joined = None

-- how phrases have to stand by a filter, and the plan that joins them
abbrev pub pass_of : OperatorPlan → Option (PassKind × OperatorPlan)
pass_of plan = kind_under pass_kind (filtered_of plan)
