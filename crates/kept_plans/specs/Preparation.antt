-- Lists, and the texts of the selections whose plans are kept under them.
use Rattle.std.specs.Prelude.{◌≡◌, ℕ, ◌+◌, ◌^◌, ◌<◌, List, length, map, All}
use Rattle.plan_compiler.specs.NamedLists.{NamedLists, no_lists}
use Rattle.kept_plans.specs.Kept.{Kept, emptied, nothing_kept}
use Rattle.kept_plans.specs.PlanOf.{PlanOf}

pub record Preparation : Type 0 where
  pub lists : NamedLists
  pub kept : Kept

abbrev pub nothing_prepared : Preparation
nothing_prepared = record { lists = no_lists; kept = nothing_kept }

-- the texts of plans
abbrev pub texts_of : List PlanOf → List (List ℕ)
texts_of plans = map (λ plan. plan.text) plans

abbrev pub prepared : NamedLists → List PlanOf → ℕ → Preparation
prepared lists plans hits = record { lists = lists; kept = record { texts = texts_of plans; hits = hits } }

-- where a list comes, no plan is kept
abbrev pub with_new_lists : NamedLists → Preparation → Preparation
with_new_lists lists old = record { lists = lists; kept = emptied old.kept }

abbrev pub with_kept : Kept → Preparation → Preparation
with_kept kept old = record { lists = old.lists; kept = kept }

-- Plans may be kept that were made under the lists which are there, where as many hits can be counted.
pub record CanKeep (old : Preparation) (plans : List PlanOf) : Type 0 where
  pub lists : All (λ plan. plan.lists ≡ old.lists) plans
  pub counted : old.kept.hits + length plans < 2 ^ 64
