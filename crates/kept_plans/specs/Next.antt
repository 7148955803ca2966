-- What was made ready for a command that uses plans.
use Rattle.std.specs.Prelude.{◌≡◌, ℕ, List, All}
use Rattle.kept_plans.specs.Kept.{all_used}
use Rattle.kept_plans.specs.PlanOf.{PlanOf}
use Rattle.kept_plans.specs.Preparation.{texts_of, CanKeep, Preparation}
use Rattle.kept_plans.specs.declared.next_plans.NextPlans.{NextPlans}
use Rattle.kept_plans.specs.declared.next_plans.NextPlans.TheVariants as next
use Rattle.kept_plans.specs.steps.Recent.{kept_of, AllKept}

-- Plans were made under the lists, and with so many hits they are what is kept once the texts were used.
pub record ArePlansAfter (old : Preparation) (used : List PlanOf) (plans : List PlanOf) (hits : ℕ) : Type 0 where
  pub under : All (λ plan. plan.lists ≡ old.lists) plans
  pub kept : kept_of plans hits ≡ all_used (texts_of used) old.kept

-- Either each of the plans that are used is kept already, or there is what takes the place of those that are kept.
abbrev pub IsAfter : Preparation → List PlanOf → NextPlans → Type 0
IsAfter old used next.Same = AllKept (texts_of used) old.kept.texts
IsAfter old used (next.Others plans hits) = ArePlansAfter old used plans hits

-- The plans may be kept, and what is kept then was made ready.
pub record IsNext (old : Preparation) (used : List PlanOf) (ready : NextPlans) : Type 0 where
  pub can_keep : CanKeep old used
  pub after : IsAfter old used ready
