-- The elements at and below an element are those of its children's.
use Rattle.std.proofs.Common.{◌≡◌, ◌+◌, ◌<◌, ◌≤◌, ℕ, suc, true, List, [], ◌∷◌, ◌++◌, map, flat_map, take, get_or, length, refl, sym, ap, ◌∙◌, subst, arith, append-nil}
use Rattle.std.specs.List.{All, sum_by}
use Rattle.std.proofs.lemmas.Grind.{flat_map-append}
use Rattle.std.proofs.lemmas.List.Sums.{sum_by-cons}
use Rattle.std.proofs.lemmas.List.Elements.{All-nil, All-cons, All-get_or}
use Rattle.plain_tree.specs.Document.{Node, element, text, Nodes, no_nodes, node_then}
use Rattle.path_meaning.specs.Elements as elements
use Rattle.path_meaning.specs.Elements.{Element, placed, elements_among, element_children, elements_from, elements_below, kids_of}
use Rattle.std.proofs.lemmas.List.{get_or-map, length-map, take_all}
use Rattle.ordered_tree.specs.Numbered.{Numbered, element_at, text_at, plain, is_element}
use Rattle.ft_base.specs.declared.ids.NodeRef.{NodeRef}
use Rattle.path_nodes.specs.References.{element_of, IsElement}
use Rattle.path_nodes.specs.steps.Regions.{at_or_below, below}
use Rattle.path_nodes.specs.steps.Weights.{weight, weights}
use Rattle.path_nodes.proofs.PlaceLemmas.{element-is}
use Rattle.path_nodes.proofs.SpotLemmas.{of_number}

among-from : (place : List ℕ) (n : Node) → flat_map at_or_below (elements.element_at place n) ≡ elements_from place n
among-from place (element name attributes kids) = append-nil (elements_from place (element name attributes kids))
among-from place (text bytes) = refl

below-among : (above : List ℕ) (number : ℕ) (ns : Nodes) → flat_map at_or_below (elements_among above number ns) ≡ elements_below above number ns
below-among above number no_nodes = refl
below-among above number (node_then n ns) =
    flat_map-append at_or_below (elements.element_at (above ++ number ∷ []) n) (elements_among above (number + 1) ns)
    ∙ ap (λ l. l ++ flat_map at_or_below (elements_among above (number + 1) ns)) (among-from (above ++ number ∷ []) n)
    ∙ ap (λ l. elements_from (above ++ number ∷ []) n ++ l) (below-among above (number + 1) ns)

-- what is below an element is at or below its children
pub below-children : (e : Element) → flat_map at_or_below (element_children e) ≡ below e
below-children e = below-among e.place 1 (kids_of e.node)

-- ---- how deep an element's node is: each child's is less

wider : (most more : ℕ) (xs : List Element) → most < suc more → All (λ e. weight e.node < suc most) xs → All (λ e. weight e.node < suc more) xs
wider most more xs less h k d within = let a = h k d within in omega (arith, a, less)

among-light : (above : List ℕ) (number : ℕ) (ns : Nodes) → All (λ e. weight e.node < suc (weights ns)) (elements_among above number ns)
among-light above number no_nodes = All-nil (λ e. weight e.node < suc 0)
among-light above number (node_then (element name attributes kids) ns) =
    All-cons (λ e. weight e.node < suc (weight (element name attributes kids) + weights ns)) (placed (above ++ number ∷ []) (element name attributes kids)) (elements_among above (number + 1) ns)
    (omega arith)
    (wider (weights ns) (weight (element name attributes kids) + weights ns) (elements_among above (number + 1) ns) (omega arith) (among-light above (number + 1) ns))
among-light above number (node_then (text bytes) ns) =
    wider (weights ns) (1 + weights ns) (elements_among above (number + 1) ns) (omega arith) (among-light above (number + 1) ns)

kids-light : (n : Node) → weights (kids_of n) < weight n
kids-light (element name attributes kids) = omega arith
kids-light (text bytes) = omega arith

pub children-light : (e : Element) → All (λ c. weight c.node < weight e.node) (element_children e)
children-light e k d within = let a = among-light e.place 1 (kids_of e.node) k d within in omega (arith, a, kids-light e.node)

-- its children together are lighter than it
among-weigh : (above : List ℕ) (number : ℕ) (ns : Nodes) → sum_by (λ (e : Element). weight e.node) (elements_among above number ns) ≤ weights ns
among-weigh above number no_nodes = omega arith
among-weigh above number (node_then (element name attributes kids) ns) =
    let rest = among-weigh above (number + 1) ns in
    let one = sum_by-cons (λ (e : Element). weight e.node) (placed (above ++ number ∷ []) (element name attributes kids)) (elements_among above (number + 1) ns) in
    omega (arith, rest, one)
among-weigh above number (node_then (text bytes) ns) = let rest = among-weigh above (number + 1) ns in omega (arith, rest)

pub children-weigh : (e : Element) → sum_by (λ (c : Element). weight c.node) (element_children e) < weight e.node
children-weigh e = let all = among-weigh e.place 1 (kids_of e.node) in let less = kids-light e.node in omega (arith, all, less)

-- ---- the elements that references name

opened-at : (place : List ℕ) (n : Numbered) → is_element n ≡ true → at_or_below (placed place (plain n)) ≡ placed place (plain n) ∷ below (placed place (plain n))
opened-at place (element_at r name attrs kids) h = refl
opened-at place (text_at r bytes) h = cc

pub opened : (root : Numbered) (r : NodeRef) → IsElement root r → at_or_below (element_of root r) ≡ element_of root r ∷ below (element_of root r)
opened root r x = subst (λ e. at_or_below e ≡ e ∷ below e) (sym (element-is root r x)) (opened-at x.spot.place x.spot.stand.node x.element)

-- ---- the references of an element's children, as a loop goes over them

module _ (root : Numbered) (here : Element) (items children : List NodeRef) (same : items ≡ children) (are : map (element_of root) children ≡ element_children here) where
  kids : map (element_of root) items ≡ element_children here
  kids = ap (map (element_of root)) same ∙ are

  pub all-children : (i : ℕ) → length items ≤ i → map (element_of root) (take i items) ≡ element_children here
  all-children i past = ap (map (element_of root)) (take_all i items past) ∙ kids

  module _ (i : ℕ) (within : i < length items) where
    pub child-there : All (IsElement root) children → IsElement root (get_or items i (of_number 0))
    child-there all = All-get_or (IsElement root) items i (of_number 0) within (subst (All (IsElement root)) (sym same) all)

    pub child-light : weight (element_of root (get_or items i (of_number 0))).node < weight here.node
    child-light =
        let d = element_of root (of_number 0) in
        let long = length-map items (element_of root) in
        let less = subst (All (λ e. weight e.node < weight here.node)) (sym kids) (children-light here) in
        subst (λ e. weight e.node < weight here.node) (get_or-map (element_of root) items i (of_number 0) d within) (less i d (omega (arith, within, long)))
