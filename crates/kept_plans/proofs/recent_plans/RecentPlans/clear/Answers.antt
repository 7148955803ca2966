-- There is no plan any more.
use Rattle.std.proofs.Common.{◌∙◌, sym, ap, subst, []}
use Rattle.lru.specs.LruCache.{lru_cache}
use Rattle.kept_plans.specs.steps.Recent.{IsRecent}
use Rattle.kept_plans.proofs.CacheLemmas.{none_recent}
use Rattle.kept_plans.proofs.recent_plans.RecentPlans.clear.Goals as goal

pub invariant_of-self : goal.invariant_of-self
invariant_of-self c = subst IsRecent (sym (c.clear.ensures ∙ ap (lru_cache []) c.self.invariant.most)) none_recent
