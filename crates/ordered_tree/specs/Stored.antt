-- What contracts see of a `DocTree`: a document whose nodes have references, and the number of slots.
use Rattle.std.specs.Prelude.{◌≡◌, ℕ, [], ◌∷◌, refl}
use Rattle.std.specs.Coded.{Coded, code_by, coded×, coded_ℕ}
use Rattle.std.proofs.Common.{ap, ◌∙◌}
use Rattle.plain_tree.specs.Document.{Node, element, text, Nodes, no_nodes, node_then}
use Rattle.plain_tree.specs.View.{node_code}
use Rattle.ordered_tree.specs.Numbered.{Numbered, element_at, text_at, Children, no_children, child_then}

pub record Stored : Type 0 where
  pub root : Numbered
  pub slots : ℕ

-- how proofs tell such documents apart: each reference put before the name or the text
abbrev mutual
  pub marked : Numbered → Node
  marked (element_at r name attrs kids) = element (r.0 ∷ name) attrs (all_marked kids)
  marked (text_at r bytes) = text (r.0 ∷ bytes)

  pub all_marked : Children → Nodes
  all_marked no_children = no_nodes
  all_marked (child_then n ns) = node_then (marked n) (all_marked ns)

abbrev mutual
  pub unmarked : Node → Numbered
  unmarked (element [] attrs kids) = element_at (record { 0 = 0 }) [] attrs (all_unmarked kids)
  unmarked (element (r ∷ name) attrs kids) = element_at (record { 0 = r }) name attrs (all_unmarked kids)
  unmarked (text []) = text_at (record { 0 = 0 }) []
  unmarked (text (r ∷ bytes)) = text_at (record { 0 = r }) bytes

  pub all_unmarked : Nodes → Children
  all_unmarked no_nodes = no_children
  all_unmarked (node_then n ns) = child_then (unmarked n) (all_unmarked ns)

mutual
  pub unmarked-marked : (n : Numbered) → unmarked (marked n) ≡ n
  unmarked-marked (element_at r name attrs kids) = ap (element_at r name attrs) (all_unmarked-all_marked kids)
  unmarked-marked (text_at r bytes) = refl

  pub all_unmarked-all_marked : (ns : Children) → all_unmarked (all_marked ns) ≡ ns
  all_unmarked-all_marked no_children = refl
  all_unmarked-all_marked (child_then n ns) =
      ap (λ m. child_then m (all_unmarked (all_marked ns))) (unmarked-marked n) ∙ ap (child_then n) (all_unmarked-all_marked ns)

abbrev pub numbered_code : Coded Numbered
numbered_code = code_by Node node_code marked unmarked unmarked-marked

abbrev pub stored_code : Coded Stored
stored_code =
    code_by (Numbered × ℕ) (coded× numbered_code coded_ℕ) (λ s. (s.root, s.slots)) (λ p. record { root = p.0; slots = p.1 }) (λ _. refl)
