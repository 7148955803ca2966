-- What a test says of the elements of a document.
use Rattle.std.specs.Prelude.{◌≡◌, ℕ, Bool, List, map, All, Option, Some, None}
use Rattle.ordered_tree.specs.Numbered.{Numbered, reference}
use Rattle.ordered_tree.specs.Places.{at_place}
use Rattle.ft_base.specs.declared.ids.NodeRef.{NodeRef}
use Rattle.ft_base.specs.declared.span.Span.{Span}
use Rattle.path_meaning.specs.Elements.{Element}
use Rattle.path_nodes.specs.References.{IsElement, element_of}

-- What a test is: the pairs of a selection's number and a node that it may be asked for, what it says of each when what some nodes hold is
-- taken out, and what it spends at most to say it; the positions of a node's words; and the names of the loans that it holds, by which a
-- caller knows that they come back.
pub record Meaning : Type 0 where
  pub may_ask : ℕ → NodeRef → Bool
  pub says : ℕ → List NodeRef → NodeRef → Bool
  pub price : ℕ → NodeRef → ℕ
  pub span : NodeRef → Span
  pub lent : List ℕ

abbrev pub reference_or : NodeRef → Option Numbered → NodeRef
reference_or other None = other
reference_or other (Some n) = reference n

-- the reference of the node at the element's place
unfoldable pub reference_of : Numbered → Element → NodeRef
reference_of root e = reference_or (reference root) (at_place e.place root)

-- whether an element satisfies a selection when some are ignored, as a test says it
abbrev pub satisfied : Numbered → Meaning → ℕ → List Element → Element → Bool
satisfied root meaning selection ignored e = meaning.says selection (map (reference_of root) ignored) (reference_of root e)

-- A test says of each element, whatever is ignored, what `satisfies` says of it.
abbrev pub Agrees : Numbered → Meaning → (ℕ → List Element → Element → Bool) → Type 0
Agrees root meaning satisfies = (selection : ℕ) (ignored : List NodeRef) (r : NodeRef) → All (IsElement root) ignored → IsElement root r
    → meaning.says selection ignored r ≡ satisfies selection (map (element_of root) ignored) (element_of root r)

-- A test costs of each element what `price` has for it.
abbrev pub Costs : Numbered → Meaning → (ℕ → Element → ℕ) → Type 0
Costs root meaning price = (selection : ℕ) (r : NodeRef) → IsElement root r → meaning.price selection r ≡ price selection (element_of root r)
