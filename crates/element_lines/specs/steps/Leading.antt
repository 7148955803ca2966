-- The lines of parents, kept for the lines of their children.
use Rattle.std.specs.Prelude.{◌≡◌, ℕ, List, Some, string_bytes}
use Rattle.element_lines.specs.Lines.{element_line}
use Rattle.element_lines.specs.declared.leading.Leading.{Leading}
use Rattle.element_lines.specs.declared.leading.Leads.{Leads}
use Rattle.ordered_tree.specs.Numbered.{Numbered, plain}
use Rattle.ft_base.specs.declared.ids.NodeRef.{NodeRef}
use Rattle.path_nodes.specs.References.{element_of}

-- where a parent is known, the text is its line
abbrev pub IsLeading : List ℕ → Numbered → Leading → Type 0
IsLeading document root leading =
    (parent : NodeRef) → leading.parent ≡ Some parent → string_bytes leading.text ≡ element_line document (plain root) (element_of root parent)

-- the same of that of a parent and that of its own parent
abbrev pub AreLeading : List ℕ → Numbered → Leads → Type 0
AreLeading document root leads = IsLeading document root leads.parent × IsLeading document root leads.above
