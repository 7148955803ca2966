-- The plan that comes to the front was made under the lists, as the others were.
use Rattle.std.proofs.Common.{◌≡◌, ◌∙◌, sym, ap, subst, ◌+◌, true}
use Rattle.std.specs.Prelude.{All, if◌then◌else◌}
use Rattle.std.proofs.lemmas.List.Elements.{All-contains}
use Rattle.kept_plans.specs.Kept.{is_kept, used, Kept}
use Rattle.kept_plans.specs.PlanOf.{PlanOf}
use Rattle.kept_plans.specs.Preparation.{texts_of, with_kept, Preparation}
use Rattle.kept_plans.specs.steps.Recent.{kept_of, with_first}
use Rattle.kept_plans.proofs.OrderLemmas.{first_under, first_used}
use Rattle.kept_plans.proofs.prepared.Prepared.use_text.Goals as goal

pub invariant_of-self : goal.invariant_of-self
invariant_of-self c =
    let plans = c.self.inside.plans in
    let lists = c.self.inside.lists in
    let promoted = c.promote.ensures in
    subst (All (λ (p : PlanOf). p.lists ≡ lists)) (sym promoted.first)
    (first_under lists promoted.plan plans (All-contains (λ (p : PlanOf). p.lists ≡ lists) plans promoted.plan c.self.invariant promoted.among)
    c.self.invariant)

pub returns-clause-used : goal.returns-clause-used
returns-clause-used c =
    let text = c.args.text.now in
    let plans = c.self.inside.plans in
    let hits = c.self.inside.hits in
    let promoted = c.promote.ensures in
    let has : is_kept promoted.plan.text (texts_of plans) ≡ true =
    ap (λ t. is_kept t (texts_of plans)) promoted.same
    ∙ (ap (λ (p : Preparation). is_kept text p.kept.texts) c.self.view_is ∙ c.requires.kept) in
    let kept : kept_of c.promote.new.self (hits + 1) ≡ used text (kept_of plans hits) =
    ap (λ ps. kept_of ps (hits + 1)) promoted.first
    ∙ (ap (λ b. kept_of (with_first promoted.plan plans) (if b then hits + 1 else hits)) (sym has)
    ∙ (first_used promoted.plan plans hits ∙ ap (λ t. used t (kept_of plans hits)) promoted.same)) in
    let after : Kept → Preparation = λ k. record { lists = c.self.inside.lists; kept = k } in
    ap after kept ∙ ap (λ (p : Preparation). with_kept (used text p.kept) p) c.self.view_is

pub returns-clause-stay : goal.returns-clause-stay
returns-clause-stay c = λ other h. c.promote.ensures.stay other (ap (λ (p : Preparation). is_kept other p.kept.texts) c.self.view_is ∙ h)
