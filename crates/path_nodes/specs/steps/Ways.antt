-- The elements that lead to others.
use Rattle.std.specs.Prelude.{◌≡◌, ℕ, Bool, true}
use Rattle.std.specs.HashSet.{HashSet}
use Rattle.ordered_tree.specs.Numbered.{Numbered}
use Rattle.ft_base.specs.declared.ids.NodeRef.{NodeRef}
use Rattle.path_meaning.specs.Elements.{Element}
use Rattle.path_nodes.specs.steps.Marks.{is_marked}
use Rattle.path_nodes.specs.References.{IsElement, element_of}
use Rattle.path_nodes.specs.steps.Within.{AtOrBelow, IsBelow}

-- Each element above a marked one is marked.
abbrev pub AreWays : {S : Type 0} → Numbered → HashSet ℕ S → Type 0
AreWays root ways = (r q : NodeRef) → IsElement root r → IsElement root q → AtOrBelow (element_of root r) (element_of root q)
    → is_marked ways q ≡ true → is_marked ways r ≡ true

-- Each element below which one passes the test is marked.
abbrev pub LeadTo : {S : Type 0} → Numbered → HashSet ℕ S → (Element → Bool) → Type 0
LeadTo root ways test = (r : NodeRef) → IsElement root r → (e : Element) → IsBelow (element_of root r) e → test e ≡ true → is_marked ways r ≡ true
