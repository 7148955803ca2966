-- Documents for the examples.
use Rattle.std.specs.Prelude.{ℕ, List, [], ◌∷◌, Option, codes}
use Rattle.ft_base.specs.declared.ids.LeafId.{LeafId}
use Rattle.ft_base.specs.declared.ids.NodeRef.{NodeRef}
use Rattle.ordered_tree.specs.declared.leaf.LeafWords.{LeafWords}
use Rattle.ordered_tree.specs.Numbered.{Numbered, element_at, text_at, Children, no_children, child_then}
use Rattle.tree_edits.specs.declared.change.Change.{Change}
use Rattle.ordered_tree.specs.declared.texts.TextAt.{TextAt}

abbrev pub ref : ℕ → NodeRef
ref number = record { 0 = number }

abbrev pub leaf_id : ℕ → LeafId
leaf_id number = record { 0 = number }

abbrev pub children_of : List Numbered → Children
children_of [] = no_children
children_of (n ∷ ns) = child_then n (children_of ns)

abbrev pub a : ℕ → List Numbered → Numbered
a number kids = element_at (ref number) (codes "a") [] (children_of kids)

abbrev pub b : ℕ → List Numbered → Numbered
b number kids = element_at (ref number) (codes "b") [] (children_of kids)

abbrev pub c : ℕ → Numbered
c number = element_at (ref number) (codes "c") [] no_children

abbrev pub text : ℕ → List ℕ → Numbered
text number bytes = text_at (ref number) bytes

-- a text that was seen somewhere in memory
abbrev pub seen : ℕ → List ℕ → TextAt
seen number bytes = record { node = ref number; text = record { ref_ptr = (0, 0); now = bytes } }

abbrev pub put_leaf : ℕ → Option LeafId → List (List ℕ) → LeafWords
put_leaf number after words = record { leaf = leaf_id number; after = after; words = words }

abbrev pub change_of : List LeafId → List LeafWords → Change
change_of taken put = record { taken = taken; put = put }

-- `<a>x<b>y</b>z</a>`, whose nodes have references in document order
abbrev pub letters : Numbered
letters = a 0 (text 1 (codes "x") ∷ b 2 (text 3 (codes "y") ∷ []) ∷ text 4 (codes "z") ∷ [])

-- the first without `<b>`
abbrev pub without_b : Numbered
without_b = a 0 (text 1 (codes "xz") ∷ [])

-- `<a><b><c/></b><c/></a>`, likewise
abbrev pub nested : Numbered
nested = a 0 (b 1 (c 2 ∷ []) ∷ c 3 ∷ [])
