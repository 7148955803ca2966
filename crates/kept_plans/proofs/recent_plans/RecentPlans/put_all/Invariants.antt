-- The plans so far were used.
use Rattle.std.proofs.Common.{◌≡◌, ◌+◌, ◌≤◌, drop}
use Rattle.std.specs.Prelude.{All}
use Rattle.plan_compiler.specs.NamedLists.{NamedLists}
use Rattle.kept_plans.specs.Kept.{all_used}
use Rattle.kept_plans.specs.Preparation.{texts_of}
use Rattle.kept_plans.specs.steps.Recent.{kept_of}
use Rattle.kept_plans.proofs.recent_plans.RecentPlans.put_all.Given as goal

abbrev pub invariant-loop-plan : goal.invariant-loop-plan
invariant-loop-plan l = record {
  kept : all_used (texts_of (drop l.plan-index l.used)) (kept_of l.self l.after) ≡ all_used (texts_of l.used) (kept_of l.fn.self l.fn.hits);
  counted : l.after ≤ l.fn.hits + l.plan-index;
  under : (lists : NamedLists) → All (λ plan. plan.lists ≡ lists) l.used → All (λ plan. plan.lists ≡ lists) l.fn.self
      → All (λ plan. plan.lists ≡ lists) l.self;
}
