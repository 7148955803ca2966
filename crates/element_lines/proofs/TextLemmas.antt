-- The text of the steps to an element is that of the steps to its parent, and of one more.
use Rattle.std.proofs.Common.{◌≡◌, ℕ, List, [], ◌∷◌, ◌++◌, sym, ap, ap₂, subst, ◌∙◌, append_assoc, append-nil, Option, Some}
use Rattle.std.specs.Prelude.{codes}
use Rattle.std.specs.List.{flat_map}
use Rattle.std.proofs.lemmas.Grind.{flat_map-append}
use Rattle.ordered_tree.specs.Numbered.{Numbered, plain}
use Rattle.ordered_tree.specs.Stands.{OnNode}
use Rattle.ft_base.specs.declared.ids.NodeRef.{NodeRef}
use Rattle.path_nodes.specs.References.{IsElement, element_of}
use Rattle.path_nodes.proofs.WayLemmas.{Parent, parent-of}
use Rattle.element_lines.specs.Lines.{element_line, name_byte, place_line, step_text}
use Rattle.element_lines.specs.steps.Numbers.{number_of}
use Rattle.element_lines.specs.LocationSteps.{Step, step, name_of, steps_to}
use Rattle.element_lines.proofs.StepLemmas.{steps-further, steps-root}

text-push : (steps : List Step) (s : Step) → flat_map step_text (steps ++ s ∷ []) ≡ flat_map step_text steps ++ step_text s
text-push steps s = flat_map-append step_text steps (s ∷ []) ∙ ap (λ l. flat_map step_text steps ++ l) (append-nil (step_text s))

pub text-further : (root : Numbered) (node parent : NodeRef) → Parent root node parent → IsElement root node → (name : List ℕ) (number : ℕ)
    → name ≡ name_of (element_of root node).node → number ≡ number_of root node
    → flat_map step_text (steps_to (plain root) (element_of root parent).place) ++ step_text (step name number) ≡ flat_map step_text (steps_to (plain root) (element_of root node).place)
text-further root node parent p x name number called is =
    let above = steps_to (plain root) (element_of root parent).place in
    ap₂ (λ n k. flat_map step_text above ++ step_text (step n k)) called is
    ∙ sym (text-push above (step (name_of (element_of root node).node) (number_of root node)))
    ∙ ap (flat_map step_text) (sym (steps-further root node parent p x))

pub text-root : (root : Numbered) (node : NodeRef) → IsElement root node → (element_of root node).place ≡ [] → (name : List ℕ)
    → name ≡ name_of (element_of root node).node → step_text (step name 1) ≡ flat_map step_text (steps_to (plain root) (element_of root node).place)
text-root root node x none name called =
    ap (λ n. step_text (step n 1)) called
    ∙ sym (append-nil (step_text (step (name_of (element_of root node).node) 1)))
    ∙ ap (flat_map step_text) (sym (steps-root root node x none))

-- the line of an element is that of its parent, and one step more
pub line-further : (document : List ℕ) (root : Numbered) (node parent : NodeRef) → Parent root node parent → IsElement root node → (name : List ℕ) (number : ℕ)
    → name ≡ name_of (element_of root node).node → number ≡ number_of root node
    → element_line document (plain root) (element_of root parent) ++ step_text (step name number) ≡ element_line document (plain root) (element_of root node)
line-further document root node parent p x name number called is =
    let prefix = codes "doc(\"" ++ flat_map name_byte document ++ codes "\")" in
    append_assoc prefix (flat_map step_text (steps_to (plain root) (element_of root parent).place)) (step_text (step name number))
    ∙ ap (λ l. prefix ++ l) (text-further root node parent p x name number called is)

pub line-root : (document : List ℕ) (root : Numbered) (node : NodeRef) → IsElement root node → (element_of root node).place ≡ [] → (name : List ℕ)
    → name ≡ name_of (element_of root node).node → place_line document (step name 1 ∷ []) ≡ element_line document (plain root) (element_of root node)
line-root document root node x none name called =
    ap (λ l. codes "doc(\"" ++ flat_map name_byte document ++ codes "\")" ++ l) (append-nil (step_text (step name 1)) ∙ text-root root node x none name called)

-- the node that is found above an element is its parent
pub parent-found : (root : Numbered) (node parent : NodeRef) → IsElement root node → (above : Option NodeRef) → above ≡ Some parent
    → OnNode root node (λ s. above ≡ s.around.parent) → Parent root node parent
parent-found root node parent x above is on = parent-of root node x parent (subst (λ o. OnNode root node (λ s. o ≡ s.around.parent)) is on)
