-- The elements of a document by the references of its nodes.
use Rattle.std.specs.Prelude.{◌≡◌, ◌≢◌, ℕ, ◌+◌, ◌==◌, true, List, [], ◌∷◌, ◌++◌, if◌then◌else◌, AllPairs, Contains}
use Rattle.path_meaning.specs.Elements.{Element, placed}
use Rattle.ordered_tree.specs.Numbered.{Numbered, element_at, text_at, Children, no_children, child_then, plain, reference, first_of, is_element}
use Rattle.ordered_tree.specs.Stands.{Stand, round_root, round_first, round_next, references}
use Rattle.ordered_tree.specs.declared.around.Around.{Around}
use Rattle.ft_base.specs.declared.ids.NodeRef.{NodeRef}

-- a node, its place in the document and what stands round it
pub record Spot : Type 0 where
  pub place : List ℕ
  pub stand : Stand

unfoldable mutual
  -- a node and all nodes below it, in document order
  pub spots : List ℕ → Around → Numbered → List Spot
  spots place a (element_at r name attrs kids) =
      record { place = place; stand = record { node = element_at r name attrs kids; around = a } } ∷ child_spots place 1 (round_first a.before r) kids
  spots place a (text_at r bytes) = record { place = place; stand = record { node = text_at r bytes; around = a } } ∷ []

  pub child_spots : List ℕ → ℕ → Around → Children → List Spot
  child_spots above number a no_children = []
  child_spots above number a (child_then n ns) =
      spots (above ++ number ∷ []) (record a { next = first_of ns }) n ++ child_spots above (number + 1) (round_next a n) ns

abbrev pub spots_in : Numbered → List Spot
spots_in = spots [] round_root

abbrev pub spot_reference : Spot → NodeRef
spot_reference s = reference s.stand.node

-- the node as an item of a path's meaning
abbrev pub spot_element : Spot → Element
spot_element s = placed s.place (plain s.stand.node)

abbrev pub found_in : NodeRef → Element → List Spot → Element
found_in r other [] = other
found_in r other (s ∷ rest) = if (spot_reference s).0 == r.0 then spot_element s else found_in r other rest

-- the element that a reference names, with its place
unfoldable pub element_of : Numbered → NodeRef → Element
element_of root r = found_in r (placed [] (plain root)) (spots_in root)

-- The reference names an element of a document, in which no two nodes have the same.
pub record IsElement (root : Numbered) (r : NodeRef) : Type 0 where
  pub spot : Spot
  pub among : Contains (spots_in root) spot
  pub refers : spot_reference spot ≡ r
  pub element : is_element spot.stand.node ≡ true
  pub apart : AllPairs (λ a b. a ≢ b) (references root)
