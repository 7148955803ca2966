-- There is no plan.
use Rattle.std.proofs.Common.{◌∙◌, sym, ap, subst, []}
use Rattle.lru.specs.LruCache.{lru_cache}
use Rattle.kept_plans.specs.steps.Recent.{IsRecent}
use Rattle.kept_plans.proofs.CacheLemmas.{none_recent}
use Rattle.kept_plans.proofs.recent_plans.RecentPlans.new.Goals as goal

pub invariant_of-result : goal.invariant_of-result
invariant_of-result c =
    subst IsRecent (sym (c.in_ok-plans.ensures ∙ ap (lru_cache []) c.most.ensures)) none_recent
