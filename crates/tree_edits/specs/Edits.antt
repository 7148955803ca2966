-- What an edit makes of a document whose nodes have references: that of a plain document, where each node that stays keeps its reference.
use Rattle.std.specs.Prelude.{ℕ, Bool, false, ◌||◌, if◌then◌else◌, ◌==◌, List, [], ◌∷◌, ◌++◌}
use Rattle.std.specs.List.{list_any}
use Rattle.ft_base.specs.Lists.{is_empty}
use Rattle.ft_base.specs.declared.ids.NodeRef.{NodeRef}
use Rattle.ordered_tree.specs.Numbered.{Numbered, element_at, text_at, Children, no_children, child_then}
use Rattle.plain_tree.specs.declared.place.How.{How}
use Rattle.plain_tree.specs.declared.place.How.TheVariants as H

abbrev pub only : Numbered → Children
only n = child_then n no_children

-- nodes, and more after them
abbrev pub append : Children → Children → Children
append no_children more = more
append (child_then n ns) more = child_then n (append ns more)

-- ---- texts that come beside each other are joined

-- a text before nodes: with a text at their beginning it is one text, under its own reference
abbrev pub before : NodeRef → List ℕ → Children → Children
before r bytes no_children = only (text_at r bytes)
before r bytes (child_then (text_at q more) ns) = child_then (text_at r (bytes ++ more)) ns
before r bytes (child_then (element_at q name attrs kids) ns) = child_then (text_at r bytes) (child_then (element_at q name attrs kids) ns)

-- the same, where an empty text is dropped
abbrev pub text_then : NodeRef → List ℕ → Children → Children
text_then r bytes ns = if is_empty bytes then ns else before r bytes ns

-- the nodes, where neighbouring texts are joined and empty ones dropped, and those below them likewise
abbrev mutual
  pub joined : Children → Children
  joined no_children = no_children
  joined (child_then n ns) = joined_then n (joined ns)

  pub joined_then : Numbered → Children → Children
  joined_then (element_at r name attrs kids) ns = child_then (element_at r name attrs (joined kids)) ns
  joined_then (text_at r bytes) ns = text_then r bytes ns

-- ---- references, in document order

abbrev mutual
  pub references_in : Numbered → List NodeRef
  references_in (element_at r name attrs kids) = r ∷ references_of kids
  references_in (text_at r bytes) = r ∷ []

  pub references_of : Children → List NodeRef
  references_of no_children = []
  references_of (child_then n ns) = references_in n ++ references_of ns

-- ---- elements that were chosen by their references

abbrev pub is_same : NodeRef → NodeRef → Bool
is_same r q = q.0 == r.0

abbrev pub is_among : List NodeRef → NodeRef → Bool
is_among refs q = list_any (is_same q) refs

-- whether an element has this reference
abbrev mutual
  pub names_element : NodeRef → Numbered → Bool
  names_element r (element_at q name attrs kids) = is_same r q || any_names_element r kids
  names_element r (text_at q bytes) = false

  pub any_names_element : NodeRef → Children → Bool
  any_names_element r no_children = false
  any_names_element r (child_then n ns) = names_element r n || any_names_element r ns

-- what stands where the node stood, where those that `change` makes of an element stand in the place of each that was chosen; what is below
-- such an element goes with it
abbrev mutual
  pub changed : (NodeRef → Bool) → (Numbered → Children) → Numbered → Children
  changed chosen change (element_at r name attrs kids) =
      if chosen r then change (element_at r name attrs kids) else only (element_at r name attrs (all_changed chosen change kids))
  changed chosen change (text_at r bytes) = only (text_at r bytes)

  pub all_changed : (NodeRef → Bool) → (Numbered → Children) → Children → Children
  all_changed chosen change no_children = no_children
  all_changed chosen change (child_then n ns) = append (changed chosen change n) (all_changed chosen change ns)

-- ---- edits

abbrev pub with_children : (Children → Children) → Numbered → Numbered
with_children change (element_at r name attrs kids) = element_at r name attrs (change kids)
with_children change (text_at r bytes) = text_at r bytes

-- the nodes that stand where an element stood, once content was inserted into it or beside it
abbrev pub inserted : How → Children → Numbered → Children
inserted H.First content n = only (with_children (append content) n)
inserted H.Last content n = only (with_children (λ kids. append kids content) n)
inserted H.Before content n = append content (only n)
inserted H.After content n = child_then n content

abbrev pub nothing : Numbered → Children
nothing n = no_children

-- the nodes that stand where the root stood, after an edit of the element of that reference, or of all of these elements
abbrev pub insertion : How → Children → NodeRef → Numbered → Children
insertion how content r root = joined (changed (is_same r) (inserted how content) root)

abbrev pub replacement : Children → NodeRef → Numbered → Children
replacement content r root = joined (changed (is_same r) (λ n. content) root)

abbrev pub removal : List NodeRef → Numbered → Children
removal refs root = joined (changed (is_among refs) nothing root)
