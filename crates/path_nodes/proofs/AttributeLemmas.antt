-- The value of the first attribute of a name.
use Rattle.std.proofs.Common.{◌≡◌, Bool, true, false, ℕ, List, [], ◌∷◌, Option, Some, cond, refl, sym, ap, ◌∙◌}
use Rattle.std.specs.Prelude.{bytes_eq, find, option_map}
use Rattle.plain_tree.specs.declared.tree.Attr.{Attr}
use Rattle.path_meaning.specs.Meaning.{value_of}
use Rattle.ordered_tree.specs.Numbered.{Numbered, element_at, text_at, plain, attrs_of, attribute}
use Rattle.ordered_tree.specs.Stands.{OnNode}
use Rattle.ft_base.specs.declared.ids.NodeRef.{NodeRef}
use Rattle.path_nodes.specs.References.{IsElement, element_of}
use Rattle.path_nodes.proofs.ChildrenLemmas.{on_element}
use Rattle.path_nodes.proofs.PlaceLemmas.{element-is}

abbrev value : Attr → List ℕ
value a = a.value

value-cond : (a : Attr) (rest : Option Attr) (b : Bool) → cond b (Some a.value) (option_map value rest) ≡ option_map value (cond b (Some a) rest)
value-cond a rest true = refl
value-cond a rest false = refl

first-value : (name : List ℕ) (attrs : List Attr) → attribute name attrs ≡ option_map value (find (λ a. bytes_eq a.name name) attrs)
first-value name [] = refl
first-value name (a ∷ attrs) =
    ap (cond (bytes_eq a.name name) (Some a.value)) (first-value name attrs) ∙ value-cond a (find (λ x. bytes_eq x.name name) attrs) (bytes_eq a.name name)

plain-value : (name : List ℕ) (n : Numbered) → attribute name (attrs_of n) ≡ value_of name (plain n)
plain-value name (element_at r own attrs kids) = first-value name attrs
plain-value name (text_at r bytes) = refl

pub element-value : (root : Numbered) (r : NodeRef) (x : IsElement root r) (name : List ℕ) (found : Option (List ℕ)) → OnNode root r (λ s. found ≡ attribute name (attrs_of s.node))
    → found ≡ value_of name (element_of root r).node
element-value root r x name found on =
    on_element root r x (λ s. found ≡ attribute name (attrs_of s.node)) on
    ∙ plain-value name x.spot.stand.node
    ∙ ap (λ e. value_of name e.node) (sym (element-is root r x))
