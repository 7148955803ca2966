-- Slots as they are filled with a document whose nodes have references: an element's own slot comes after those below it.
use Rattle.std.specs.Prelude.{ℕ, ◌<◌, List, slice_set, ⊤}
use Rattle.ordered_tree.specs.Numbered.{Numbered, element_at, text_at, Children, no_children, child_then, first_of}
use Rattle.ordered_tree.specs.Slots.{slot}
use Rattle.ordered_tree.specs.Stands.{round_first, round_next}
use Rattle.ordered_tree.specs.declared.around.Around.{Around}
use Rattle.ordered_tree.specs.declared.slot.Slot.{Slot}

unfoldable mutual
  pub placed : Around → Numbered → List Slot → List Slot
  placed a (element_at r name attrs kids) slots =
      slice_set (all_placed (round_first a.before r) kids slots) r.0 (slot (record { node = element_at r name attrs kids; around = a }))
  placed a (text_at r bytes) slots = slice_set slots r.0 (slot (record { node = text_at r bytes; around = a }))

  pub all_placed : Around → Children → List Slot → List Slot
  all_placed a no_children slots = slots
  all_placed a (child_then n ns) slots = all_placed (round_next a n) ns (placed (record a { next = first_of ns }) n slots)

-- the references of a node, and of all nodes below it, are below a bound
abbrev mutual
  pub Below : ℕ → Numbered → Type 0
  Below bound (element_at r name attrs kids) = (r.0 < bound) × AllBelow bound kids
  Below bound (text_at r bytes) = r.0 < bound

  pub AllBelow : ℕ → Children → Type 0
  AllBelow bound no_children = ⊤
  AllBelow bound (child_then n ns) = Below bound n × AllBelow bound ns
