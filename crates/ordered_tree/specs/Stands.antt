-- The nodes of a document in document order, each with what stands round it.
use Rattle.std.specs.Prelude.{ℕ, ◌+◌, List, [], ◌∷◌, ◌++◌, map, Some, None, ◌≡◌, Contains}
use Rattle.ft_base.specs.declared.span.Span.{Span}
use Rattle.ordered_tree.specs.Counts.{word_count}
use Rattle.ordered_tree.specs.Numbered.{Numbered, element_at, text_at, Children, no_children, child_then, plain, reference, first_of}
use Rattle.ordered_tree.specs.declared.around.Around.{Around}
use Rattle.ft_base.specs.declared.ids.NodeRef.{NodeRef}

pub record Stand : Type 0 where
  pub node : Numbered
  pub around : Around

-- what stands round a document's root
abbrev pub round_root : Around
round_root = record { parent = None; previous = None; next = None; number = 0; before = 0 }

-- what stands round an element's first child, and round the sibling after a node, but for the sibling that is next
abbrev pub round_first : ℕ → NodeRef → Around
round_first before parent = record { parent = Some parent; previous = None; next = None; number = 1; before = before }

abbrev pub round_next : Around → Numbered → Around
round_next a n = record a { previous = Some (reference n); number = a.number + 1; before = a.before + word_count (plain n) }

unfoldable mutual
  -- a node and all nodes below it
  pub stands : Around → Numbered → List Stand
  stands a (element_at r name attrs kids) = record { node = element_at r name attrs kids; around = a } ∷ child_stands (round_first a.before r) kids
  stands a (text_at r bytes) = record { node = text_at r bytes; around = a } ∷ []

  pub child_stands : Around → Children → List Stand
  child_stands a no_children = []
  child_stands a (child_then n ns) = stands (record a { next = first_of ns }) n ++ child_stands (round_next a n) ns

abbrev pub stands_in : Numbered → List Stand
stands_in = stands round_root

-- the references of a document's nodes, in document order
abbrev pub references : Numbered → List NodeRef
references root = map (λ s. reference s.node) (stands_in root)

-- what holds of the node that has this reference
abbrev pub OnNode : Numbered → NodeRef → (Stand → Type 0) → Type 0
OnNode root r P = (s : Stand) → Contains (stands_in root) s → reference s.node ≡ r → P s

-- the positions of the node's words in the document
abbrev pub span : Stand → Span
span s = record { from = s.around.before + 1; to = s.around.before + 1 + word_count (plain s.node) }
