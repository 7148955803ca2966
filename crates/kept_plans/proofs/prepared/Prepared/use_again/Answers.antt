-- One text more was used, and the others are kept still.
use Rattle.std.proofs.Common.{◌≡◌, ◌∙◌, sym, ap, subst, ℕ, ◌+◌, ◌<◌, true, List, ◌∷◌, drop, length, arith}
use Rattle.std.specs.Prelude.{if◌then◌else◌, slice_index_or}
use Rattle.std.proofs.lemmas.List.{drop_more}
use Rattle.std.proofs.lemmas.List.Elements.{All-head, All-tail, All-weaker}
use Rattle.kept_plans.specs.Kept.{all_used, is_kept, used}
use Rattle.kept_plans.specs.PlanOf.{PlanOf}
use Rattle.kept_plans.specs.Preparation.{texts_of, with_kept, Preparation}
use Rattle.kept_plans.specs.steps.Recent.{AllKept}
use Rattle.kept_plans.proofs.prepared.Prepared.use_again.Goals as goal

next_plan : (plans : List PlanOf) (number : ℕ) (plan : PlanOf) → number < length plans → plan ≡ slice_index_or plans number plan
    → drop number plans ≡ plan ∷ drop (number + 1) plans
next_plan plans number plan within is = drop_more plans number plan within ∙ ap (λ (p : PlanOf). p ∷ drop (number + 1) plans) (sym is)

next_kept : (plans : List PlanOf) (number : ℕ) (plan : PlanOf) (texts : List (List ℕ)) → number < length plans → plan ≡ slice_index_or plans number plan
    → AllKept (texts_of (drop number plans)) texts → (is_kept plan.text texts ≡ true) × AllKept (texts_of (drop (number + 1) plans)) texts
next_kept plans number plan texts within is kept =
    let all = subst (λ ps. AllKept (texts_of ps) texts) (next_plan plans number plan within is) kept in
    let test : List ℕ → Type 0 = λ t. is_kept t texts ≡ true in
    (All-head test plan.text (texts_of (drop (number + 1) plans)) all, All-tail test plan.text (texts_of (drop (number + 1) plans)) all)

pub loop-plan-preserved : goal.loop-plan-preserved
loop-plan-preserved c =
    let old = c.loop-plan.self in
    let number = c.loop-plan.plan-index in
    let plan = c.plan-item.result in
    let rest = drop (number + 1) c.args.used.now in
    let so_far = c.loop-plan.invariant in
    let next = next_plan c.args.used.now number plan c.loop-plan-test.true c.plan-item.is in
    let kept = next_kept c.args.used.now number plan old.kept.texts c.loop-plan-test.true c.plan-item.is so_far.kept in
    let new : c.use_text.new.self ≡ with_kept (used plan.text old.kept) old =
    c.use_text.ensures.used ∙ ap (λ t. with_kept (used t old.kept) old) c.text.ensures in
    let counted : c.use_text.new.self.kept.hits ≡ old.kept.hits + 1 =
    ap (λ (s : Preparation). s.kept.hits) new ∙ ap (λ b. if b then old.kept.hits + 1 else old.kept.hits) kept.0 in
    record {
      used = ap (λ (s : Preparation). with_kept (all_used (texts_of rest) s.kept) s) new
          ∙ (ap (λ ps. with_kept (all_used (texts_of ps) old.kept) old) (sym next) ∙ so_far.used);
      kept = All-weaker (λ t. is_kept t old.kept.texts ≡ true) (λ t. is_kept t c.use_text.new.self.kept.texts ≡ true) c.use_text.ensures.stay (texts_of rest) kept.1;
      counted = omega (arith, counted, so_far.counted);
    }

pub use_text-requires-clause-kept : goal.use_text-requires-clause-kept
use_text-requires-clause-kept c =
    let texts = c.loop-plan.self.kept.texts in
    ap (λ t. is_kept t texts) c.text.ensures
    ∙ (next_kept c.args.used.now c.loop-plan.plan-index c.plan-item.result texts c.loop-plan-test.true c.plan-item.is c.loop-plan.invariant.kept).0
