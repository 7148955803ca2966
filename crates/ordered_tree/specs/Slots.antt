-- The slots that stand for a document: each node's slot holds what the node is and what stands round it.
use Rattle.std.specs.Prelude.{◌≡◌, ◌≢◌, ℕ, zero, suc, ◌<◌, ◌≤◌, ◌^◌, List, [], ◌∷◌, ◌++◌, length, slice_index_or, Option, Some, None, IsTrue, All, AllPairs}
use Rattle.doc_grammar.specs.Limits.{node_count, nodes_count}
use Rattle.plain_tree.specs.Document.{is_document}
use Rattle.ordered_tree.specs.Counts.{word_count, element_depth}
use Rattle.ordered_tree.specs.Numbered.{Numbered, element_at, text_at, Children, no_children, child_then}
use Rattle.ordered_tree.specs.Numbered.{plain, plain_children, reference, children, first_of, last_of}
use Rattle.ordered_tree.specs.Stands.{Stand, round_root, child_stands, stands_in, references}
use Rattle.ordered_tree.specs.declared.around.Around.{Around}
use Rattle.ft_base.specs.declared.ids.NodeRef.{NodeRef}
use Rattle.ordered_tree.specs.declared.slot.Held.{Held}
use Rattle.ordered_tree.specs.declared.slot.Held.TheVariants.{Element, Text, Free}
use Rattle.ordered_tree.specs.declared.slot.Slot.{Slot}

-- the root's slot is the first
abbrev pub root_ref : NodeRef
root_ref = record { 0 = 0 }

abbrev pub held : Numbered → Held
held (element_at r name attrs kids) = Element name attrs
held (text_at r bytes) = Text bytes

abbrev pub slot : Stand → Slot
slot s = record {
  held = held s.node;
  around = s.around;
  first_child = first_of (children s.node);
  last_child = last_of (children s.node);
  words = word_count (plain s.node);
}

-- the node's slot is among these, at the number that is its reference
pub record IsIn (slots : List Slot) (s : Stand) : Type 0 where
  pub here : (reference s.node).0 < length slots
  pub holds : (d : Slot) → slice_index_or slots (reference s.node).0 d ≡ slot s

-- ---- the document that slots stand for

-- what is read where there is no slot
abbrev pub no_slot : Slot
no_slot = record { held = Free; around = round_root; first_child = None; last_child = None; words = 0 }

abbrev pub slot_at : List Slot → NodeRef → Slot
slot_at slots r = slice_index_or slots r.0 no_slot

abbrev pub node_held : NodeRef → Held → Children → Numbered
node_held r (Element name attrs) kids = element_at r name attrs kids
node_held r (Text bytes) kids = text_at r bytes
node_held r Free kids = text_at r []

-- the node that a link names and its siblings after it, at most so many links away
unfoldable pub from_link : ℕ → List Slot → Option NodeRef → Children
from_link zero slots link = no_children
from_link (suc far) slots None = no_children
from_link (suc far) slots (Some r) =
    child_then (node_held r (slot_at slots r).held (from_link far slots (slot_at slots r).first_child))
    (from_link far slots (slot_at slots r).around.next)

abbrev pub first_child_or : Numbered → Children → Numbered
first_child_or other no_children = other
first_child_or other (child_then n ns) = n

-- the same, all of them
abbrev pub row : List Slot → Option NodeRef → Children
row slots link = from_link (length slots) slots link

-- the node that a reference names
abbrev pub node_at : List Slot → NodeRef → Numbered
node_at slots r = first_child_or (text_at r []) (row slots (Some r))

unfoldable pub root_of : List Slot → Numbered
root_of slots = node_at slots root_ref

-- A link names the first of these nodes, whose slots and those of all nodes below them are there.
pub record IsRow (slots : List Slot) (link : Option NodeRef) : Type 0 where
  pub around : Around
  pub nodes : Children
  pub first : link ≡ first_of nodes
  pub stands : All (IsIn slots) (child_stands around nodes)
  pub few : nodes_count (plain_children nodes) ≤ length slots

-- the free slots, each of which names the one after it by `next`
unfoldable pub free_from : ℕ → List Slot → Option NodeRef → List NodeRef
free_from zero slots link = []
free_from (suc far) slots None = []
free_from (suc far) slots (Some r) = r ∷ free_from far slots (slot_at slots r).around.next

-- These slots, with the free ones from a link on, stand for the document: every slot is a node's or free, and none is both or twice.
pub record IsDocument (slots : List Slot) (free : Option NodeRef) (root : Numbered) : Type 0 where
  pub document : IsTrue (is_document (plain root))
  pub rooted : reference root ≡ root_ref
  pub stands : All (IsIn slots) (stands_in root)
  pub apart : AllPairs (λ a b. a ≢ b) (references root ++ free_from (length slots) slots free)
  pub whole : length (references root ++ free_from (length slots) slots free) ≡ length slots
  pub below : All (λ r. r.0 < length slots) (free_from (length slots) slots free)
  pub few_slots : length slots < 2 ^ 31
  pub few_nodes : node_count (plain root) < 2 ^ 31
  pub few_words : word_count (plain root) < 2 ^ 31

-- the same, with the number of nodes and that of elements in one another
pub record IsCounted (slots : List Slot) (free : Option NodeRef) (nodes levels : ℕ) : Type 0 where
  pub stored : IsDocument slots free (root_of slots)
  pub nodes_are : nodes ≡ node_count (plain (root_of slots))
  pub levels_are : levels ≡ element_depth (plain (root_of slots))
