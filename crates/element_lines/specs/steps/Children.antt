-- The children of an element, of which those before a link are counted.
use Rattle.std.specs.Prelude.{◌≡◌, ◌+◌, suc, List, ◌++◌, length, count_by, Option, IfSome}
use Rattle.std.specs.List.{All, Contains}
use Rattle.plain_tree.specs.Document.{Node}
use Rattle.ordered_tree.specs.Numbered.{Numbered, Children, plain_children, first_of}
use Rattle.ordered_tree.specs.declared.around.Around.{Around}
use Rattle.ft_base.specs.declared.ids.NodeRef.{NodeRef}
use Rattle.path_nodes.specs.References.{IsElement, child_spots, element_of, spots_in}
use Rattle.element_lines.specs.LocationSteps.{children, is_named, listed}
use Rattle.element_lines.specs.declared.counting.Counting.{Counting}

-- The children of an element before a link, and those from it on.
pub record Parted (root : Numbered) (parent : NodeRef) (link : Option NodeRef) (prefix : List Node) : Type 0 where
  pub around : Around
  pub rest : Children
  pub first : link ≡ first_of rest
  pub inside : All (Contains (spots_in root)) (child_spots (element_of root parent).place (suc (length prefix)) around rest)
  pub split : children (element_of root parent).node ≡ prefix ++ listed (plain_children rest)

-- The number is one more than that of the children before the link that have the name.
pub record IsCounting (root : Numbered) (counting : Counting) : Type 0 where
  pub there : IsElement root counting.parent
  pub prefix : List Node
  pub parted : Parted root counting.parent counting.link prefix
  pub counted : counting.number ≡ count_by (is_named counting.name.now) prefix + 1

-- the same of a count that may be there
abbrev pub IsCountingOrNone : Numbered → Option Counting → Type 0
IsCountingOrNone root counting = IfSome counting (IsCounting root)
