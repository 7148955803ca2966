-- An element has no more children than there are nodes in the document.
use Rattle.std.proofs.Common.{◌+◌, ◌≤◌, ℕ, List, [], ◌∷◌, length, ap, arith}
use Rattle.std.specs.List.{All}
use Rattle.std.proofs.lemmas.List.{length-append}
use Rattle.std.proofs.lemmas.List.Elements.{All-nil, All-cons, All-append, All-contains, All-weaker}
use Rattle.doc_grammar.specs.Limits.{node_count, nodes_count}
use Rattle.plain_tree.specs.Document.{Node, element, text, Nodes, no_nodes, node_then}
use Rattle.ordered_tree.specs.Numbered.{Numbered, element_at, text_at, Children, no_children, child_then, plain, plain_children, first_of}
use Rattle.ordered_tree.specs.Stands.{round_root, round_first, round_next, stands, child_stands, stands_in}
use Rattle.ordered_tree.specs.declared.around.Around.{Around}
use Rattle.ft_base.specs.declared.ids.NodeRef.{NodeRef}
use Rattle.ordered_tree.proofs.BuildingLemmas.{node_count-some}
use Rattle.path_nodes.specs.References.{element_of, IsElement}
use Rattle.path_nodes.proofs.PlaceLemmas.{element-is}
use Rattle.path_nodes.proofs.SpotLemmas.{spot-stand}
use Rattle.element_lines.specs.LocationSteps.{listed, children}
use Rattle.element_lines.proofs.ChildLemmas.{Child}

listed-few : (ns : Nodes) → length (listed ns) ≤ nodes_count ns
listed-few no_nodes = omega arith
listed-few (node_then n ns) =
    let e : length (listed ns) ≤ nodes_count ns = listed-few ns in
    let some = node_count-some n in
    omega arith

children-few : (n : Node) → length (children n) ≤ node_count n
children-few (element name attrs kids) = let e : length (listed kids) ≤ nodes_count kids = listed-few kids in omega arith
children-few (text bytes) = omega arith

mutual
  unfolding stands child_stands

  fewer : (n : Numbered) (a : Around) → All (λ s. node_count (plain s.node) ≤ node_count (plain n)) (stands a n)
  fewer (element_at r name attrs kids) a =
      let all : ℕ = node_count (plain (element_at r name attrs kids)) in
      All-cons (λ s. node_count (plain s.node) ≤ all) (record { node = element_at r name attrs kids; around = a }) (child_stands (round_first a.before r) kids) (omega arith)
      (All-weaker (λ s. node_count (plain s.node) ≤ nodes_count (plain_children kids)) (λ s. node_count (plain s.node) ≤ all) (λ s h. omega (arith, h))
      (child_stands (round_first a.before r) kids) (fewer-children kids (round_first a.before r)))
  fewer (text_at r bytes) a =
      All-cons (λ s. node_count (plain s.node) ≤ 1) (record { node = text_at r bytes; around = a }) [] (omega arith) (All-nil (λ s. node_count (plain s.node) ≤ 1))

  fewer-children : (ns : Children) (a : Around) → All (λ s. node_count (plain s.node) ≤ nodes_count (plain_children ns)) (child_stands a ns)
  fewer-children no_children a = All-nil (λ s. node_count (plain s.node) ≤ 0)
  fewer-children (child_then n ns) a =
      let all : ℕ = node_count (plain n) + nodes_count (plain_children ns) in
      All-append (λ s. node_count (plain s.node) ≤ all) (stands (record a { next = first_of ns }) n) (child_stands (round_next a n) ns)
      (All-weaker (λ s. node_count (plain s.node) ≤ node_count (plain n)) (λ s. node_count (plain s.node) ≤ all) (λ s h. omega (arith, h))
      (stands (record a { next = first_of ns }) n) (fewer n (record a { next = first_of ns })))
      (All-weaker (λ s. node_count (plain s.node) ≤ nodes_count (plain_children ns)) (λ s. node_count (plain s.node) ≤ all) (λ s h. omega (arith, h))
      (child_stands (round_next a n) ns) (fewer-children ns (round_next a n)))

pub prefix-few : (root : Numbered) (parent c : NodeRef) (prefix : List Node) → IsElement root parent → Child root parent c prefix → length prefix + 1 ≤ node_count (plain root)
prefix-few root parent c prefix x h =
    let inner = All-contains (λ s. node_count (plain s.node) ≤ node_count (plain root)) (stands_in root) x.spot.stand (fewer root round_root) (spot-stand root x.spot x.among) in
    let few = children-few (element_of root parent).node in
    let same = ap (λ e. node_count e.node) (element-is root parent x) in
    let long = ap length h.split in
    let both = length-append prefix (plain h.n ∷ listed (plain_children h.ns)) in
    omega arith
