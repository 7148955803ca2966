-- The numbers of elements, kept by their references.
use Rattle.std.specs.Prelude.{◌≡◌, ℕ, zero, suc, List, [], ◌∷◌, ◌++◌, slice_index_or, Option, Some, None, IsSome}
use Rattle.element_lines.specs.LocationSteps.{Step, step, steps_to}
use Rattle.ordered_tree.specs.Numbered.{Numbered, plain}
use Rattle.ft_base.specs.declared.ids.NodeRef.{NodeRef}
use Rattle.path_nodes.specs.References.{IsElement, element_of}

abbrev pub last : List Step → Step
last [] = step [] 0
last (s ∷ []) = s
last (s ∷ t ∷ steps) = last (t ∷ steps)

-- the number of an element is that of the last step to it
unfoldable pub number_of : Numbered → NodeRef → ℕ
number_of root r = (last (steps_to (plain root) (element_of root r).place)).number

-- what is kept at a reference: a number, or 0 where none is
abbrev pub known : ℕ → Option ℕ
known zero = None
known (suc before) = Some (suc before)

abbrev pub kept : List ℕ → ℕ → Option ℕ
kept numbers at = known (slice_index_or numbers at 0)

-- whatever number is kept for an element is that element's number
abbrev pub AreNumbers : Numbered → List ℕ → Type 0
AreNumbers root numbers = (r : NodeRef) (number : ℕ) → IsElement root r → kept numbers r.0 ≡ Some number → number ≡ number_of root r

-- The reference names an element that is a child of the other one.
abbrev pub IsChild : Numbered → NodeRef → NodeRef → Type 0
IsChild root parent r = IsElement root r × (number : ℕ) × ((element_of root r).place ≡ (element_of root parent).place ++ number ∷ [])

-- there is a number for each element that is a child of this one
abbrev pub HasChildren : Numbered → List ℕ → NodeRef → Type 0
HasChildren root numbers parent = (r : NodeRef) → IsChild root parent r → IsSome (kept numbers r.0)
