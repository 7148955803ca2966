-- A plan of that text and these numbers is of the selection, and the kept ones were made under the lists.
use Rattle.std.proofs.Common.{◌≡◌, ◌∙◌, sym, ap}
use Rattle.ft_syntax.specs.View.{form}
use Rattle.plan_compiler.specs.Missing.{first_missing}
use Rattle.kept_plans.specs.PlanOf.{PlanOf}
use Rattle.kept_plans.proofs.PlanLemmas.{plan_among}
use Rattle.kept_plans.proofs.prepared.Prepared.plan.Goals as goal

pub returns-in_ok-share-in-Some-clause-plan : goal.returns-in_ok-share-in-Some-clause-plan
returns-in_ok-share-in-Some-clause-plan c =
    c.in_ok-share-in-Some.ensures
    ∙ plan_among c.self.inside.plans c.in-Some.plan.now c.args.text.now (form c.args.selection.now) c.self.inside.lists c.args.self.now.lists
    c.self.invariant (ap (λ p. p.lists) c.self.view_is) c.in-Some.ensures.among c.in-Some.ensures.text
    (c.in-Some.ensures.numbers ∙ (c.as_slice.ensures ∙ c.in_ok-numbers.ensures))

pub returns-in_ok-share-in-Some-clause-there : goal.returns-in_ok-share-in-Some-clause-there
returns-in_ok-share-in-Some-clause-there c =
    let same = plan_among c.self.inside.plans c.in-Some.plan.now c.args.text.now (form c.args.selection.now) c.self.inside.lists c.args.self.now.lists
    c.self.invariant (ap (λ p. p.lists) c.self.view_is) c.in-Some.ensures.among c.in-Some.ensures.text
    (c.in-Some.ensures.numbers ∙ (c.as_slice.ensures ∙ c.in_ok-numbers.ensures)) in
    sym (ap (λ (p : PlanOf). first_missing p.lists p.form) same) ∙ c.in-Some.ensures.there
