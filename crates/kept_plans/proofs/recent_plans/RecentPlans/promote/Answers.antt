-- The plan of that text comes to the front.
use Rattle.std.proofs.Common.{◌≡◌, ◌∙◌, sym, ap, subst, true, List}
use Rattle.std.specs.Map.{values_of}
use Rattle.kept_plans.specs.Kept.{is_kept}
use Rattle.kept_plans.specs.PlanOf.{PlanOf}
use Rattle.kept_plans.specs.Preparation.{texts_of}
use Rattle.kept_plans.specs.steps.Recent.{ComesFirst, IsRecent}
use Rattle.kept_plans.proofs.CacheLemmas.{promotes}
use Rattle.kept_plans.proofs.recent_plans.RecentPlans.promote.Goals as goal

pub invariant_of-self : goal.invariant_of-self
invariant_of-self c =
    let plans = c.self.inside.plans in
    let has : is_kept c.args.text.now (texts_of (values_of plans.entries)) ≡ true = ap (λ ps. is_kept c.args.text.now (texts_of ps)) c.self.view_is ∙ c.requires in
    subst IsRecent (sym c.promote.ensures.entries) (promotes c.args.text.now plans c.self.invariant has).valid

pub returns : goal.returns
returns c =
    let text = c.args.text.now in
    let plans = c.self.inside.plans in
    let has : is_kept text (texts_of (values_of plans.entries)) ≡ true = ap (λ ps. is_kept text (texts_of ps)) c.self.view_is ∙ c.requires in
    subst (λ (ps : List PlanOf). ComesFirst text ps (values_of c.promote.new.self.entries)) c.self.view_is
    (subst (λ cache. ComesFirst text (values_of plans.entries) (values_of cache.entries)) (sym c.promote.ensures.entries)
    (promotes text plans c.self.invariant has).first)
