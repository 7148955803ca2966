-- Slots out of their two parts.
use Rattle.std.proofs.Common.{◌≡◌, ◌<◌, ℕ, zero, suc, List, [], ◌∷◌, length, map, get_or, refl, ap, ap₂, sym, ◌∙◌, arith}
use Rattle.std.proofs.lemmas.List.{length-map}
use Rattle.ordered_tree.specs.declared.slot_core.SlotCore.{SlotCore}
use Rattle.ordered_tree.specs.declared.head.Head.{Head}
use Rattle.ordered_tree.specs.declared.slot.Slot.{Slot}
use Rattle.ordered_tree.specs.steps.Heads.{head_of}
use Rattle.ordered_tree.specs.steps.Parts.{core_of, whole, wholes}

pub length-wholes : (cores : List SlotCore) (heads : List Head) → length heads ≡ length cores → length (wholes cores heads) ≡ length cores
length-wholes [] heads even = refl
length-wholes (core ∷ cores) [] even = absurd (omega (arith, even))
length-wholes (core ∷ cores) (head ∷ heads) even = ap suc (length-wholes cores heads (omega (arith, even)))

pub get_or-wholes : (cores : List SlotCore) (heads : List Head) (at : ℕ) (d : Slot) (core : SlotCore) (head : Head) → length heads ≡ length cores → at < length cores →
    get_or (wholes cores heads) at d ≡ whole (get_or cores at core) (get_or heads at head)
get_or-wholes [] heads at d core head even there = absurd (omega (arith, there))
get_or-wholes (c ∷ cores) [] at d core head even there = absurd (omega (arith, even))
get_or-wholes (c ∷ cores) (h ∷ heads) zero d core head even there = refl
get_or-wholes (c ∷ cores) (h ∷ heads) (suc at) d core head even there = get_or-wholes cores heads at d core head (omega (arith, even)) (omega (arith, there))

-- slots that were taken apart
pub wholes-parts : (slots : List Slot) → wholes (map core_of slots) (map head_of slots) ≡ slots
wholes-parts [] = refl
wholes-parts (slot ∷ slots) = ap (λ l. slot ∷ l) (wholes-parts slots)

module _ (slots : List Slot) (cores : List SlotCore) (heads : List Head) (cores-are : cores ≡ map core_of slots) (heads-are : heads ≡ map head_of slots) where
  pub wholes-made : wholes cores heads ≡ slots
  wholes-made = ap₂ wholes cores-are heads-are ∙ wholes-parts slots

  pub even-made : length heads ≡ length cores
  even-made = omega (arith, ap length cores-are, ap length heads-are, length-map slots core_of, length-map slots head_of)

  pub headed-made : heads ≡ map head_of (wholes cores heads)
  headed-made = heads-are ∙ ap (map head_of) (sym wholes-made)
