-- Plans by their texts, the one that was used last first.
use Rattle.std.specs.Prelude.{All, ◌≡◌, ℕ, ◌≤◌, true, not, List, ◌∷◌, filter, length, take, bytes_eq, Contains, Vec}
use Rattle.std.specs.List.{AllByRecursion, IsDistinct}
use Rattle.std.specs.Map.{values_of}
use Rattle.lru.specs.LruCache.{LruCache}
use Rattle.kept_plans.specs.Kept.{is_kept, Kept}
use Rattle.kept_plans.specs.PlanOf.{PlanOf}
use Rattle.kept_plans.specs.Preparation.{texts_of}
use Rattle.kept_plans.specs.declared.limits.TheConstants.{MAX_PLANS}

-- what is kept, by plans and hits
abbrev pub kept_of : List PlanOf → ℕ → Kept
kept_of plans hits = record { texts = texts_of plans; hits = hits }

-- Each of these texts is kept.
abbrev pub AllKept : List (List ℕ) → List (List ℕ) → Type 0
AllKept used texts = All (λ text. is_kept text texts ≡ true) used

-- A plan is used: it comes to the front, in the place of one that has its text. Where there are too many, the last one goes.
abbrev pub with_first : PlanOf → List PlanOf → List PlanOf
with_first plan plans = take MAX_PLANS (plan ∷ filter (λ other. not (bytes_eq plan.text other.text)) plans)

-- A plan with that text, which is one of them, comes to the front.
pub record ComesFirst (text : List ℕ) (old new : List PlanOf) : Type 0 where
  pub plan : PlanOf
  pub same : plan.text ≡ text
  pub among : Contains old plan
  pub first : new ≡ with_first plan old
  pub stay : (other : List ℕ) → is_kept other (texts_of old) ≡ true → is_kept other (texts_of new) ≡ true

-- the key of a plan in the cache is its text
abbrev pub IsByText : {Z : Type 0} → Vec ℕ Z × PlanOf → Type 0
IsByText e = e.0.items ≡ e.1.text

-- Each plan is found by its text, there is one of each text, and they are no more than may be kept.
pub record IsRecent {Z : Type 0} (cache : LruCache (Vec ℕ Z) PlanOf) : Type 0 where
  pub by_text : AllByRecursion IsByText cache.entries
  pub distinct : IsDistinct bytes_eq (texts_of (values_of cache.entries))
  pub within : length cache.entries ≤ MAX_PLANS
  pub most : cache.cap ≡ MAX_PLANS
