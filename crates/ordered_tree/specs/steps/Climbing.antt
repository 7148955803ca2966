-- The child numbers that lead down to a node, found by its slot and those of the nodes above it.
use Rattle.std.specs.Prelude.{◌≡◌, ℕ, zero, suc, ◌<◌, List, [], ◌∷◌, ◌++◌, length, Option, Some, None}
use Rattle.ordered_tree.specs.Slots.{slot_at}
use Rattle.ft_base.specs.declared.ids.NodeRef.{NodeRef}
use Rattle.ordered_tree.specs.declared.slot.Slot.{Slot}

abbrev pub below_parent : (NodeRef → List ℕ) → ℕ → Option NodeRef → List ℕ
below_parent above number None = []
below_parent above number (Some parent) = above parent ++ number ∷ []

-- the numbers, where at most so many elements stand above the node
unfoldable pub climbed : ℕ → List Slot → NodeRef → List ℕ
climbed zero slots r = []
climbed (suc levels) slots r = below_parent (climbed levels slots) (slot_at slots r).around.number (slot_at slots r).around.parent

-- no more than so many elements stand above the node, and their slots are there
unfoldable pub Climbs : ℕ → List Slot → NodeRef → Type 0
Climbs zero slots r = (r.0 < length slots) × ((slot_at slots r).around.parent ≡ None)
Climbs (suc levels) slots r = (r.0 < length slots) × ((parent : NodeRef) → (slot_at slots r).around.parent ≡ Some parent → Climbs levels slots parent)
