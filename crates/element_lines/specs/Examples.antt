-- A document and spans for examples.
use Rattle.std.specs.Prelude.{ℕ, [], ◌∷◌, codes}
use Rattle.ft_base.specs.declared.span.Span.{Span}
use Rattle.plain_tree.specs.Document.{Node, element, text, no_nodes, nodes}

-- `<d><p>x</p><q/><p/></d>`
abbrev pub paragraphs : Node
paragraphs =
    element (codes "d") []
    (nodes (element (codes "p") [] (nodes (text (codes "x") ∷ [])) ∷ element (codes "q") [] no_nodes ∷ element (codes "p") [] no_nodes ∷ []))

abbrev pub span : ℕ → ℕ → Span
span from to = record { from = from; to = to }
