-- What is found is one of the plans, and has that text.
use Rattle.std.proofs.Common.{◌≡◌, sym, subst, Bor, IfSome, List, Option, Some, None}
use Rattle.std.specs.Prelude.{Contains, option_copied}
use Rattle.kept_plans.specs.PlanOf.{PlanOf}
use Rattle.kept_plans.proofs.CacheLemmas.{finds, Finds}
use Rattle.kept_plans.proofs.recent_plans.RecentPlans.find_text.Goals as goal

found : (r : Option (Bor PlanOf)) (o : Option PlanOf) (P Q : PlanOf → Type 0) → option_copied r ≡ o → IfSome o P → ((p : PlanOf) → P p → Q p)
    → IfSome r (λ plan. Q plan.now)
found None o P Q e h so = tt
found (Some plan) o P Q e h so = so plan.now (subst (λ o. IfSome o P) (sym e) h)

pub returns-clause-among : goal.returns-clause-among
returns-clause-among c =
    let plans = c.self.inside.plans in
    found c.peek.result _ (Finds c.args.text.now plans.entries) (Contains c.args.self.now) c.peek.ensures (finds c.args.text.now plans c.self.invariant)
    (λ p h. subst (λ (ps : List PlanOf). Contains ps p) c.self.view_is h.among)

pub returns-clause-text : goal.returns-clause-text
returns-clause-text c =
    let plans = c.self.inside.plans in
    found c.peek.result _ (Finds c.args.text.now plans.entries) (λ p. p.text ≡ c.args.text.now) c.peek.ensures (finds c.args.text.now plans c.self.invariant)
    (λ p h. h.its_text)
