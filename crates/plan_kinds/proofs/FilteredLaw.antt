-- Plans that are a filter over phrases that are joined.
use Rattle.std.proofs.Common.{◌≡◌, refl, sym, ap, ◌∙◌, Bool, true, false, cond, Option, Some, None}
use Rattle.std.specs.Prelude.{option_map}
use Rattle.std.proofs.lemmas.Option.{none-some, same_Some}
use Rattle.ft_base.specs.declared.filter.Filter.{Filter}
use Rattle.plan_compiler.specs.declared.operator_plan.FilteredPlan.{FilteredPlan}
use Rattle.plan_compiler.specs.declared.operator_plan.OperatorPlan.{OperatorPlan, Phrase, Choice', Both', MildNot', Negated', Filtered'}
use Rattle.plan_kinds.specs.steps.JoinedPhrases.{filtered_of, joined_of, kind_over, kind_under}
use Rattle.plan_kinds.specs.steps.MergeKinds.{merge_kind, words_kind}
use Rattle.plan_kinds.specs.declared.joined.Joined.{Joined}
use Rattle.plan_kinds.specs.declared.merge_kind.MergeKind.{MergeKind}

-- what is told of a filter by what is told of its operand is told of a plan that is one
pub filtered_law : {X : Type 0} (known : OperatorPlan → X) (under : X → Filter → X) → ((p : _) (operand : OperatorPlan) (kind : Filter) → known (Filtered' p operand kind) ≡ under (known operand) kind)
    → (plan : OperatorPlan) (own : FilteredPlan) → filtered_of plan ≡ Some own → known plan ≡ under (known own.operand) own.kind
filtered_law known under each (Phrase found) own h = absurd (none-some own h)
filtered_law known under each (Choice' p left right) own h = absurd (none-some own h)
filtered_law known under each (Both' p left right) own h = absurd (none-some own h)
filtered_law known under each (MildNot' p left right) own h = absurd (none-some own h)
filtered_law known under each (Negated' p operand) own h = absurd (none-some own h)
filtered_law known under each (Filtered' p operand kind) own h =
    each p operand kind ∙ ap (λ (plan : FilteredPlan). under (known plan.operand) plan.kind) (same_Some (record { operand = operand; kind = kind }) own h)

-- a filter over phrases, by which they have to stand like this
pub record IsFiltered {K : Type 0} (kind_of : Filter → Joined → Option K) (plan : OperatorPlan) (kind : K) (operand : OperatorPlan) : Type 0 where
  pub filter : Filter
  pub joined : Joined
  pub phrases : joined_of operand ≡ Some joined
  pub kinds : kind_of filter joined ≡ Some kind
  pub is : filtered_of plan ≡ Some (record { operand = operand; kind = filter })

module _ {K : Type 0} (kind_of : Filter → Joined → Option K) (plan : OperatorPlan) (kind : K) (operand : OperatorPlan) where
  by_kind : (own : FilteredPlan) (joined : Joined) (found : Option K) → filtered_of plan ≡ Some own → joined_of own.operand ≡ Some joined → kind_of own.kind joined ≡ found
      → option_map {U = K × OperatorPlan} (λ k. (k, own.operand)) found ≡ Some (kind, operand) → IsFiltered kind_of plan kind operand
  by_kind own joined None is phrases kinds h = absurd (none-some (kind, operand) h)
  by_kind own joined (Some other) is phrases kinds h =
      let pair = same_Some (other, own.operand) (kind, operand) h in
      let kind_is = ap (λ q. q.0) pair in
      let operand_is = ap (λ q. q.1) pair in
      record {
        filter = own.kind;
        joined = joined;
        phrases = ap joined_of (sym operand_is) ∙ phrases;
        kinds = kinds ∙ ap Some kind_is;
        is = is ∙ ap (λ (o : OperatorPlan). Some (record { operand = o; kind = own.kind })) operand_is;
      }

  by_phrases : (own : FilteredPlan) (joined : Option Joined) → filtered_of plan ≡ Some own → joined_of own.operand ≡ joined → kind_over kind_of own joined ≡ Some (kind, operand)
      → IsFiltered kind_of plan kind operand
  by_phrases own None is phrases h = absurd (none-some (kind, operand) h)
  by_phrases own (Some joined) is phrases h = by_kind own joined (kind_of own.kind joined) is phrases refl h

  by_plan : (own : Option FilteredPlan) → filtered_of plan ≡ own → kind_under kind_of own ≡ Some (kind, operand) → IsFiltered kind_of plan kind operand
  by_plan None is h = absurd (none-some (kind, operand) h)
  by_plan (Some own) is h = by_phrases own (joined_of own.operand) is refl h

  pub filtered_kind : kind_under kind_of (filtered_of plan) ≡ Some (kind, operand) → IsFiltered kind_of plan kind operand
  filtered_kind h = by_plan (filtered_of plan) refl h

-- a merge goes through single words
pub words_law : (filter : Filter) (joined : Joined) (kind : MergeKind) → merge_kind filter joined ≡ Some kind → (joined.are_words ≡ true) × (words_kind filter joined ≡ Some kind)
words_law filter joined kind h = of_words joined.are_words (words_kind filter joined) h
  where
    of_words : (are_words : Bool) (found : Option MergeKind) → cond are_words found None ≡ Some kind → (are_words ≡ true) × (found ≡ Some kind)
    of_words true found h = (refl, h)
    of_words false found h = absurd (none-some kind h)
