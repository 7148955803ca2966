-- The free slots among slots, and references that no node has.
use Rattle.std.specs.Prelude.{ℕ, zero, suc, ◌<◌, Bool, true, false, if◌then◌else◌, List, [], ◌∷◌, length, Option, Some, None, All}
use Rattle.ordered_tree.specs.Slots.{slot_at, free_from}
use Rattle.ft_base.specs.declared.ids.NodeRef.{NodeRef}
use Rattle.ordered_tree.specs.declared.slot.Held.{Held}
use Rattle.ordered_tree.specs.declared.slot.Held.TheVariants.{Element, Text, Free}
use Rattle.ordered_tree.specs.declared.slot.Slot.{Slot}

abbrev pub is_free : Held → Bool
is_free (Element name attrs) = false
is_free (Text bytes) = false
is_free Free = true

-- the numbers of those that are free, where the first has this number
abbrev pub free_numbers : ℕ → List Slot → List NodeRef
free_numbers number [] = []
free_numbers number (s ∷ slots) = if is_free s.held then record { 0 = number } ∷ free_numbers (suc number) slots else free_numbers (suc number) slots

-- the links from this one on end, and each of them names a slot
pub record Leads (slots : List Slot) (link : Option NodeRef) : Type 0 where
  pub far : ℕ
  pub ends : length (free_from far slots link) < far
  pub below : All (λ r. r.0 < length slots) (free_from far slots link)

-- so many references: those that the links name, then the numbers from this one on
unfoldable pub spare : ℕ → List Slot → Option NodeRef → ℕ → List NodeRef
spare zero slots link number = []
spare (suc count) slots None number = record { 0 = number } ∷ spare count slots None (suc number)
spare (suc count) slots (Some r) number = r ∷ spare count slots (slot_at slots r).around.next number
