-- What an edit of elements makes of a document, where elements are known by their places (XQuery Update Facility 1.0, 2.4.1 to 2.4.3).
use Rattle.std.specs.Prelude.{ℕ, ◌+◌, Bool, if◌then◌else◌, List, [], ◌∷◌, ◌++◌, bytes_eq, Option, Some, None}
use Rattle.std.specs.List.{list_any}
use Rattle.plain_tree.specs.Document.{Node, element, text, Nodes, no_nodes, node_then}
use Rattle.plain_tree.specs.Edits.{only, append, joined, inserted}
use Rattle.plain_tree.specs.declared.place.How.{How}

-- the places that were chosen
abbrev pub is_one_of : List (List ℕ) → List ℕ → Bool
is_one_of places place = list_any (bytes_eq place) places

-- what stands where the node at a place stood, where those that `change` makes of an element stand in the place of each that was chosen;
-- what is below such an element goes with it
abbrev mutual
  pub changed_at : (List ℕ → Bool) → (Node → Nodes) → List ℕ → Node → Nodes
  changed_at chosen change place (element name attrs kids) =
      if chosen place then change (element name attrs kids) else only (element name attrs (all_changed_at chosen change place 1 kids))
  changed_at chosen change place (text bytes) = only (text bytes)

  -- the same of the children of the element at a place, the first of which has this number
  pub all_changed_at : (List ℕ → Bool) → (Node → Nodes) → List ℕ → ℕ → Nodes → Nodes
  all_changed_at chosen change above number no_nodes = no_nodes
  all_changed_at chosen change above number (node_then n ns) =
      append (changed_at chosen change (above ++ number ∷ []) n) (all_changed_at chosen change above (number + 1) ns)

-- what an edit puts in the place of an element that was chosen: the element with content inserted into it or beside it, or the content alone
abbrev pub act : Option How → Nodes → Node → Nodes
act None content n = content
act (Some how) content n = inserted how content n

-- what stands where the root stood, after the edit of the elements at these places, once neighbouring texts are joined and empty ones dropped
abbrev pub edited_nodes : Option How → Nodes → List (List ℕ) → Node → Nodes
edited_nodes how content places root = joined (changed_at (is_one_of places) (act how content) [] root)

-- the first of some nodes, of which there is one
abbrev pub first_or : Node → Nodes → Node
first_or other no_nodes = other
first_or other (node_then n ns) = n

-- the document after an edit that leaves its root in its place
abbrev pub edited : Option How → Nodes → List (List ℕ) → Node → Node
edited how content places root = first_or root (edited_nodes how content places root)
