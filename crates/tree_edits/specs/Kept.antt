-- The elements of a document with their references, and those that an edit takes away.
use Rattle.std.specs.Prelude.{ℕ, Bool, not, if◌then◌else◌, List, [], ◌∷◌, ◌++◌, filter}
use Rattle.ft_base.specs.declared.ids.NodeRef.{NodeRef}
use Rattle.ordered_tree.specs.Numbered.{Numbered, element_at, text_at, Children, no_children, child_then}
use Rattle.plain_tree.specs.declared.tree.Attr.{Attr}
use Rattle.tree_edits.specs.Edits.{only, append, is_among}

-- an element by itself: its reference, its name and its attributes
abbrev pub Element : Type 0
Element = NodeRef × List ℕ × List Attr

-- in document order
abbrev mutual
  pub elements_in : Numbered → List Element
  elements_in (element_at r name attrs kids) = (r, name, attrs) ∷ elements_of kids
  elements_in (text_at r bytes) = []

  pub elements_of : Children → List Element
  elements_of no_children = []
  elements_of (child_then n ns) = elements_in n ++ elements_of ns

-- the elements that were chosen, each with all that is below it
abbrev mutual
  pub picked : (NodeRef → Bool) → Numbered → Children
  picked chosen (element_at r name attrs kids) = if chosen r then only (element_at r name attrs kids) else all_picked chosen kids
  picked chosen (text_at r bytes) = no_children

  pub all_picked : (NodeRef → Bool) → Children → Children
  all_picked chosen no_children = no_children
  all_picked chosen (child_then n ns) = append (picked chosen n) (all_picked chosen ns)

-- the elements that have none of these references
abbrev pub elements_without : List NodeRef → List Element → List Element
elements_without refs elements = filter (λ e. not (is_among refs e.0)) elements
