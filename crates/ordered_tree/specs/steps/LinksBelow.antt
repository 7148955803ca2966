-- Links that lead to slots: below a bound.
use Rattle.std.specs.Prelude.{ℕ, ◌<◌, Option, IfSome}
use Rattle.ft_base.specs.declared.ids.NodeRef.{NodeRef}
use Rattle.ordered_tree.specs.declared.slot.Slot.{Slot}

abbrev pub LeadsBelow : ℕ → Option NodeRef → Type 0
LeadsBelow bound link = IfSome link (λ r. r.0 < bound)

-- the same of the links of a slot that walks follow
pub record LinksBelow (bound : ℕ) (slot : Slot) : Type 0 where
  pub first_child : LeadsBelow bound slot.first_child
  pub next : LeadsBelow bound slot.around.next
  pub parent : LeadsBelow bound slot.around.parent
