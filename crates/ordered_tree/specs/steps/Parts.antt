-- Slots in the two parts in which a tree keeps them.
use Rattle.std.specs.Prelude.{List, [], ◌∷◌}
use Rattle.ordered_tree.specs.declared.slot_core.SlotCore.{SlotCore}
use Rattle.ordered_tree.specs.declared.head.Head.{Head}
use Rattle.ordered_tree.specs.declared.slot.Slot.{Slot}
use Rattle.ordered_tree.specs.declared.slots.SlotAt.{SlotAt}

-- what a tree keeps of a slot beside its head
abbrev pub core_of : Slot → SlotCore
core_of slot = record {
  held = slot.held;
  previous = slot.around.previous;
  number = slot.around.number;
  last_child = slot.last_child;
}

-- the slot of a core and a head
abbrev pub whole : SlotCore → Head → Slot
whole core head = record {
  held = core.held;
  around = record { parent = head.parent; previous = core.previous; next = head.next; number = core.number; before = head.before };
  first_child = head.first_child;
  last_child = core.last_child;
  words = head.words;
}

-- the slots of cores and heads, one by one
abbrev pub wholes : List SlotCore → List Head → List Slot
wholes [] heads = []
wholes (core ∷ cores) [] = []
wholes (core ∷ cores) (head ∷ heads) = whole core head ∷ wholes cores heads

-- a slot, wherever its parts are in memory
abbrev pub slot_of : SlotAt → Slot
slot_of s = record { held = s.held.now; around = s.around; first_child = s.first_child; last_child = s.last_child; words = s.words }
