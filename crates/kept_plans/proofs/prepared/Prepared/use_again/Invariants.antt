-- The texts so far were used, and the others are kept still.
use Rattle.std.proofs.Common.{◌≡◌, ◌+◌, drop}
use Rattle.kept_plans.specs.Kept.{all_used}
use Rattle.kept_plans.specs.Preparation.{texts_of, with_kept}
use Rattle.kept_plans.specs.steps.Recent.{AllKept}
use Rattle.kept_plans.proofs.prepared.Prepared.use_again.Given as goal

abbrev pub invariant-loop-plan : goal.invariant-loop-plan
invariant-loop-plan l = record {
  used : with_kept (all_used (texts_of (drop l.plan-index l.used)) l.self.kept) l.self ≡ with_kept (all_used (texts_of l.used) l.fn.self.kept) l.fn.self;
  kept : AllKept (texts_of (drop l.plan-index l.used)) l.self.kept.texts;
  counted : l.self.kept.hits ≡ l.fn.self.kept.hits + l.plan-index;
}
