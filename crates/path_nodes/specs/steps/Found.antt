-- What an evaluation finds, and what it spends.
use Rattle.std.specs.Prelude.{◌≡◌, ◌≤◌, ◌+◌, ℕ, List, map, All, AllPairs}
use Rattle.std.specs.Borrow.{MutBor}
use Rattle.ordered_tree.specs.Numbered.{Numbered}
use Rattle.ft_base.specs.declared.ids.NodeRef.{NodeRef}
use Rattle.path_meaning.specs.Elements.{Element}
use Rattle.path_meaning.specs.Order.{Before}
use Rattle.path_nodes.specs.References.{IsElement, element_of}
use Rattle.path_nodes.specs.steps.Within.{AtOrBelow}

-- The references are those of elements of the document, one after the other.
pub record ReferTo (root : Numbered) (es : List Element) (nodes : List NodeRef) : Type 0 where
  pub there : All (IsElement root) nodes
  pub are : map (element_of root) nodes ≡ es

-- Elements of the document in document order, at or below a base.
pub record AreBelow (root : Numbered) (base : NodeRef) (nodes : List NodeRef) : Type 0 where
  pub base_is : IsElement root base
  pub there : All (IsElement root) nodes
  pub inside : All (AtOrBelow (element_of root base)) (map (element_of root) nodes)
  pub ordered : AllPairs Before (map (element_of root) nodes)

-- A test that is lent is the same one, and what is spent on it is no more than a price.
pub record Spends {T : Type 0} (cost : T → ℕ) (before after : MutBor T) (price : ℕ) : Type 0 where
  pub same : after.ghost_name ≡ before.ghost_name
  pub within : cost after.now ≤ cost before.now + price

-- The same where some is left to be spent.
pub record SpendsOf {T : Type 0} (cost : T → ℕ) (before after : MutBor T) (left price : ℕ) : Type 0 where
  pub same : after.ghost_name ≡ before.ghost_name
  pub within : cost after.now + left ≤ cost before.now + price
