-- Every node of a document stands in a row with the siblings after it.
use Rattle.std.proofs.Common.{◌≡◌, ◌≤◌, List, [], Option, Some, length, sym, ap, arith, append-nil}
use Rattle.std.specs.List.{All}
use Rattle.std.proofs.lemmas.List.Elements.{All-nil, All-cons, All-append, All-same}
use Rattle.doc_grammar.specs.Limits.{node_count, nodes_count}
use Rattle.ordered_tree.specs.Numbered.{Numbered, element_at, text_at, Children, no_children, child_then, plain, plain_children, reference, first_of}
use Rattle.ordered_tree.specs.Slots.{first_child_or, node_at, IsIn, IsRow, IsDocument}
use Rattle.ordered_tree.specs.Stands.{round_root, round_first, round_next, stands, child_stands, stands_in}
use Rattle.ordered_tree.specs.declared.around.Around.{Around}
use Rattle.ft_base.specs.declared.ids.NodeRef.{NodeRef}
use Rattle.ordered_tree.specs.declared.slot.Slot.{Slot}
use Rattle.ordered_tree.proofs.RowLemmas.{row-nodes, fits}
use Rattle.ordered_tree.proofs.SlotsLemmas.{All-left, below-stands, first-child_stands, rest-child_stands}

module _ (slots : List Slot) where
  -- the slots of a node and of the siblings after it, with all that is below them
  pub record IsFirst (n : Numbered) : Type 0 where
    pub around : Around
    pub suffix : Children
    pub stands : All (IsIn slots) (child_stands around (child_then n suffix))
    pub few : nodes_count (plain_children (child_then n suffix)) ≤ length slots

  pub row_from : (n : Numbered) (r : NodeRef) → reference n ≡ r → IsFirst n → IsRow slots (Some r)
  row_from n r refers i = record {
    around = i.around;
    nodes = child_then n i.suffix;
    first = ap Some (sym refers);
    stands = i.stands;
    few = i.few;
  }

  pub node_at-first : (n : Numbered) (r : NodeRef) → reference n ≡ r → IsFirst n → node_at slots r ≡ n
  unfolding row_from
  node_at-first n r refers i = ap (first_child_or (text_at r [])) (row-nodes slots (Some r) (row_from n r refers i))

  mutual
    unfolding stands child_stands

    first-node : (n : Numbered) (a : Around) → IsFirst n → node_count (plain n) ≤ length slots → All (IsIn slots) (stands a n) → All (λ s. IsFirst s.node) (stands a n)
    first-node (element_at r name attrs kids) a i few all =
        All-cons (λ s. IsFirst s.node) (record { node = element_at r name attrs kids; around = a }) (child_stands (round_first a.before r) kids) i
        (first-children kids (round_first a.before r) (omega arith) (below-stands slots r name attrs kids a all))
    first-node (text_at r bytes) a i few all = All-cons (λ s. IsFirst s.node) (record { node = text_at r bytes; around = a }) [] i (All-nil (λ s. IsFirst s.node))

    first-children : (ns : Children) (a : Around) → nodes_count (plain_children ns) ≤ length slots → All (IsIn slots) (child_stands a ns) → All (λ s. IsFirst s.node) (child_stands a ns)
    first-children no_children a few all = All-nil (λ s. IsFirst s.node)
    first-children (child_then n ns) a few all =
        let b : Around = record a { next = first_of ns } in
        All-append (λ s. IsFirst s.node) (stands b n) (child_stands (round_next a n) ns)
        (first-node n b (record { around = a; suffix = ns; stands = all; few = few }) (omega arith) (first-child_stands slots n ns a all))
        (first-children ns (round_next a n) (omega arith) (rest-child_stands slots n ns a all))

  all-first : (root : Numbered) → node_count (plain root) ≤ length slots → All (IsIn slots) (stands_in root) → All (λ s. IsFirst s.node) (stands_in root)
  unfolding child_stands
  all-first root few all =
      let alone : nodes_count (plain_children (child_then root no_children)) ≤ length slots = omega arith in
      All-left (λ s. IsFirst s.node) (stands round_root root) []
      (first-children (child_then root no_children) round_root alone (All-same (IsIn slots) _ (stands round_root root) (append-nil (stands round_root root)) all))

  -- each node of a document
  pub document-first : (free : Option NodeRef) (root : Numbered) → IsDocument slots free root → All (λ s. IsFirst s.node) (stands_in root)
  document-first free root d = all-first root (fits slots free root d) d.stands
