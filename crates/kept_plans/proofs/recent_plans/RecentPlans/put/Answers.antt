-- The plan comes to the front, and there was one where its text was found.
use Rattle.std.proofs.Common.{◌≡◌, ◌∙◌, sym, ap, subst, is_some}
use Rattle.std.specs.Map.{values_of}
use Rattle.kept_plans.specs.Kept.{is_kept}
use Rattle.kept_plans.specs.PlanOf.{PlanOf}
use Rattle.kept_plans.specs.Preparation.{texts_of}
use Rattle.kept_plans.specs.steps.Recent.{with_first, IsRecent}
use Rattle.kept_plans.proofs.CacheLemmas.{has-lookup, put_plans, put_recent}
use Rattle.kept_plans.proofs.recent_plans.RecentPlans.put.Goals as goal

pub invariant_of-self-2 : goal.invariant_of-self-2
invariant_of-self-2 c =
    let plans = c.self.inside.plans in
    let key = c.in_ok-text.text in
    let plan = c.in_ok-share.field-0 in
    let by : key.items ≡ plan.text = c.in_ok-text.ensures.items ∙ (c.text.ensures ∙ sym (ap (λ (p : PlanOf). p.text) c.in_ok-share.ensures)) in
    subst IsRecent (sym c.in_ok-old.ensures.entries) (put_recent plans key plan c.self.invariant by)

pub returns-clause-had : goal.returns-clause-had
returns-clause-had c =
    let plans = c.self.inside.plans in
    let key = c.in_ok-text.text in
    let by : key.items ≡ c.args.plan.now.text = c.in_ok-text.ensures.items ∙ c.text.ensures in
    c.is_some.ensures ∙ (ap is_some c.in_ok-old.ensures.old ∙ (has-lookup key.items plans.entries c.self.invariant.by_text
    ∙ ((λ i. is_kept (by i) (texts_of (values_of plans.entries))) ∙ ap (λ ps. is_kept c.args.plan.now.text (texts_of ps)) c.self.view_is)))

pub returns-clause-plans : goal.returns-clause-plans
returns-clause-plans c =
    let plans = c.self.inside.plans in
    let key = c.in_ok-text.text in
    let plan = c.in_ok-share.field-0 in
    let by : key.items ≡ plan.text = c.in_ok-text.ensures.items ∙ (c.text.ensures ∙ sym (ap (λ (p : PlanOf). p.text) c.in_ok-share.ensures)) in
    ap (λ cache. values_of cache.entries) c.in_ok-old.ensures.entries
    ∙ (put_plans plans key plan c.self.invariant by ∙ (λ i. with_first (c.in_ok-share.ensures i) (c.self.view_is i)))
