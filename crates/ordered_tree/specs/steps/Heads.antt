-- What walks look at of a node: the links that lead on, a mark by which its name is told from most others, and where its words stand.
use Rattle.std.specs.Prelude.{ℕ, suc, min, List, [], ◌∷◌, length, slice_index_or}
use Rattle.ordered_tree.specs.declared.head.Head.{Head}
use Rattle.ordered_tree.specs.declared.slot.Held.{Held}
use Rattle.ordered_tree.specs.declared.slot.Held.TheVariants.{Element, Text, Free}
use Rattle.ordered_tree.specs.declared.slot.Slot.{Slot}

abbrev pub byte_at : List ℕ → ℕ → ℕ
byte_at name at = slice_index_or name at 0

-- the first seven bytes of a name, zeros after a shorter one, and one more than its length; 9 stands for each longer one
unfoldable pub mark_of : List ℕ → List ℕ
mark_of name =
    byte_at name 0 ∷ byte_at name 1 ∷ byte_at name 2 ∷ byte_at name 3 ∷ byte_at name 4 ∷ byte_at name 5 ∷ byte_at name 6 ∷ suc (min (length name) 8) ∷ []

abbrev pub no_mark : List ℕ
no_mark = 0 ∷ 0 ∷ 0 ∷ 0 ∷ 0 ∷ 0 ∷ 0 ∷ 0 ∷ []

abbrev pub mark_of_held : Held → List ℕ
mark_of_held (Element name attrs) = mark_of name
mark_of_held (Text bytes) = no_mark
mark_of_held Free = no_mark

abbrev pub head_of : Slot → Head
head_of slot = record {
  first_child = slot.first_child;
  next = slot.around.next;
  parent = slot.around.parent;
  mark = mark_of_held slot.held;
  before = slot.around.before;
  words = slot.words;
}
