-- One plan more was used.
use Rattle.std.proofs.Common.{◌≡◌, ◌∙◌, sym, ap, subst, ◌+◌, ◌∷◌, drop, arith}
use Rattle.std.specs.Prelude.{All, if◌then◌else◌}
use Rattle.std.proofs.lemmas.List.{drop_more}
use Rattle.kept_plans.specs.Kept.{all_used, is_kept}
use Rattle.kept_plans.specs.PlanOf.{PlanOf}
use Rattle.kept_plans.specs.Preparation.{texts_of}
use Rattle.kept_plans.specs.steps.Recent.{kept_of, with_first}
use Rattle.kept_plans.proofs.OrderLemmas.{first_under, first_used, hits_used}
use Rattle.kept_plans.proofs.recent_plans.RecentPlans.put_all.Goals as goal

pub loop-plan-preserved : goal.loop-plan-preserved
loop-plan-preserved c =
    let old = c.loop-plan.self in
    let hits = c.loop-plan.after in
    let number = c.loop-plan.plan-index in
    let plan = c.plan-item.result in
    let rest = drop (number + 1) c.args.used.now in
    let so_far = c.loop-plan.invariant in
    let next : drop number c.args.used.now ≡ plan ∷ rest =
    drop_more c.args.used.now number plan c.loop-plan-test.true ∙ ap (λ (p : PlanOf). p ∷ rest) (sym c.plan-item.is) in
    let put : c.put.new.self ≡ with_first plan old = c.in_ok-had.ensures.plans in
    let counted : c.hits_after-after.result ≡ (if is_kept plan.text (texts_of old) then hits + 1 else hits) =
    c.hits_after-after.ensures ∙ ap (λ b. if b then hits + 1 else hits) c.in_ok-had.ensures.had in
    record {
      kept = ap (all_used (texts_of rest)) ((λ i. kept_of (put i) (counted i)) ∙ first_used plan old hits)
          ∙ (ap (λ ps. all_used (texts_of ps) (kept_of old hits)) (sym next) ∙ so_far.kept);
      counted = omega (arith, so_far.counted, counted, hits_used (is_kept plan.text (texts_of old)) hits);
      under = λ lists all before.
          subst (All (λ (p : PlanOf). p.lists ≡ lists)) (sym put)
          (first_under lists plan old (ap (λ (p : PlanOf). p.lists) c.plan-item.is ∙ all number plan c.loop-plan-test.true) (so_far.under lists all before));
    }
