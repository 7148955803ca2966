-- The texts of the selections whose plans are kept, and how often one of them was used again.
use Rattle.std.specs.Prelude.{ℕ, ◌+◌, Bool, not, if◌then◌else◌, List, [], ◌∷◌, filter, take, bytes_eq}
use Rattle.std.specs.List.{list_any}
use Rattle.kept_plans.specs.declared.limits.TheConstants.{MAX_PLANS}

-- the text that was used last comes first
pub record Kept : Type 0 where
  pub texts : List (List ℕ)
  pub hits : ℕ

abbrev pub nothing_kept : Kept
nothing_kept = record { texts = []; hits = 0 }

abbrev pub is_kept : List ℕ → List (List ℕ) → Bool
is_kept text texts = list_any (bytes_eq text) texts

abbrev pub others : List ℕ → List (List ℕ) → List (List ℕ)
others text texts = filter (λ t. not (bytes_eq text t)) texts

-- A selection's text is used: it comes to the front, which is a hit where it was kept. Where there are too many, the last one goes.
abbrev pub used : List ℕ → Kept → Kept
used text kept =
    record { texts = take MAX_PLANS (text ∷ others text kept.texts); hits = if is_kept text kept.texts then kept.hits + 1 else kept.hits }

-- texts are used one after the other
abbrev pub all_used : List (List ℕ) → Kept → Kept
all_used [] kept = kept
all_used (text ∷ rest) kept = all_used rest (used text kept)

-- no plan is kept any more; the hits stay counted
abbrev pub emptied : Kept → Kept
emptied kept = record { texts = []; hits = kept.hits }
