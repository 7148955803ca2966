-- Children of one name, counted from one to the next.
use Rattle.std.proofs.Common.{◌≡◌, ◌+◌, ◌<◌, ℕ, suc, Bool, true, false, cond, List, [], ◌∷◌, ◌++◌, length, Option, Some, None, IfSome, refl, sym, ap, ◌∙◌, subst, arith}
use Rattle.std.specs.List.{Contains}
use Rattle.std.specs.Prelude.{count_by}
use Rattle.std.proofs.lemmas.List.Sums.{count_by-le-length}
use Rattle.std.proofs.lemmas.Slice.Eq.{bytes_eq-Decides}
use Rattle.doc_grammar.specs.Limits.{node_count}
use Rattle.ordered_tree.specs.Numbered.{Numbered, element_at, text_at, has_name, plain}
use Rattle.ordered_tree.specs.Stands.{OnNode, references}
use Rattle.ft_base.specs.declared.ids.NodeRef.{NodeRef}
use Rattle.path_nodes.specs.References.{IsElement, element_of}
use Rattle.path_nodes.proofs.SpotLemmas.{spot-there}
use Rattle.element_lines.specs.LocationSteps as steps
use Rattle.element_lines.specs.LocationSteps.{is_named}
use Rattle.element_lines.specs.declared.counting.Counting.{Counting}
use Rattle.element_lines.specs.steps.Children.{IsCounting, Parted}
use Rattle.element_lines.specs.steps.Numbers.{IsChild, number_of}
use Rattle.element_lines.proofs.ChildLemmas.{Child, next-child, spot, spot-among, on-child, child-named, parted-next, child-numbered}
use Rattle.element_lines.proofs.FewLemmas.{prefix-few}
use Rattle.element_lines.proofs.NumberLemmas.{count-push}

named-plain : (name : List ℕ) (n : Numbered) → has_name name n ≡ is_named name (plain n)
named-plain name (element_at r own attrs kids) = refl
named-plain name (text_at r bytes) = refl

-- what has a name is called so
called : (name : List ℕ) (n : Numbered) → is_named name (plain n) ≡ true → name ≡ steps.name_of (plain n)
called name (element_at r own attrs kids) is = grind (arith, bytes_eq-Decides name own, is)
called name (text_at r bytes) is = cc

-- what is answered of an element that is looked for
pub record Found (root : Numbered) (counting : Counting) (node : NodeRef) (answer : Option ℕ) : Type 0 where
  pub number : IfSome answer (λ n. n ≡ number_of root node)
  pub child : IfSome answer (λ n. IsChild root counting.parent node)
  pub named : IfSome answer (λ n. counting.name.now ≡ steps.name_of (element_of root node).node)

module _ (root : Numbered) (counting : Counting) (v : IsCounting root counting) (c : NodeRef) (is : counting.link ≡ Some c) where
  child : Child root counting.parent c v.prefix
  child = next-child root counting.parent v.prefix counting.link c is v.parted

  pub next-there : Contains (references root) c
  next-there = subst (Contains (references root)) child.refers (spot-there root (spot root counting.parent v.prefix v.there c child) (spot-among root counting.parent v.prefix v.there c child))

  pub next-few : node_count (plain root) < 2147483648 → counting.number < 2147483648
  next-few few =
      let e = v.counted in
      let f = count_by-le-length (is_named counting.name.now) v.prefix in
      let g = prefix-few root counting.parent c v.prefix v.there child in
      omega arith

  -- whether it has the name
  has-name : (named : Bool) → OnNode root c (λ s. named ≡ has_name counting.ready.name.now s.node) → named ≡ is_named counting.name.now (plain child.n)
  has-name named on =
      on-child root counting.parent v.prefix v.there c child (λ s. named ≡ has_name counting.ready.name.now s.node) on
      ∙ named-plain counting.ready.name.now child.n
      ∙ ap (λ name. is_named name (plain child.n)) counting.same

  -- the child is the element that is looked for, and has the name
  module _ (node : NodeRef) (x : IsElement root node) (same : c ≡ node) (on : OnNode root c (λ s. true ≡ has_name counting.ready.name.now s.node)) where
    name-is : counting.name.now ≡ steps.name_of (plain child.n)
    name-is = called counting.name.now child.n (sym (has-name true on))

    pub next-number : counting.number ≡ number_of root node
    next-number =
        v.counted
        ∙ ap (λ (n : List ℕ). count_by (is_named n) v.prefix + 1) name-is
        ∙ sym (child-numbered root counting.parent v.prefix v.there c child)
        ∙ ap (number_of root) same

    pub next-child-is : IsChild root counting.parent node
    next-child-is = (x, suc (length v.prefix), sym (ap (λ r. (element_of root r).place) same) ∙ ap (λ e. e.place) (child-named root counting.parent v.prefix v.there c child))

    pub next-name : counting.name.now ≡ steps.name_of (element_of root node).node
    next-name = name-is ∙ sym (sym (ap (λ r. steps.name_of (element_of root r).node) same) ∙ ap (λ e. steps.name_of e.node) (child-named root counting.parent v.prefix v.there c child))

  -- what is answered of the child that is looked for
  pub found : (node : NodeRef) → IsElement root node → c ≡ node → (named : Bool) → OnNode root c (λ s. named ≡ has_name counting.ready.name.now s.node)
      → (answer : Option ℕ) → answer ≡ cond named (Some counting.number) None → Found root counting node answer
  found node x same true on answer is = subst (Found root counting node) (sym is) (record { number = next-number node x same on; child = next-child-is node x same on; named = next-name node x same on })
  found node x same false on answer is = subst (Found root counting node) (sym is) (record { number = tt; child = tt; named = tt })

  -- it counts where it has the name
  pub next-counted : (counting' : Counting) → counting'.parent ≡ counting.parent → counting'.name ≡ counting.name → (named : Bool)
      → OnNode root c (λ s. counting'.link ≡ s.around.next) → OnNode root c (λ s. named ≡ has_name counting.ready.name.now s.node)
      → counting'.number ≡ counting.number + cond named 1 0 → IsCounting root counting'
  next-counted counting' same-parent same-name named to on more =
      let sum : counting'.number ≡ counting.number + cond (is_named counting.name.now (plain child.n)) 1 0 =
      subst (λ b. counting'.number ≡ counting.number + cond b 1 0) (has-name named on) more in
      let push = count-push (is_named counting.name.now) v.prefix (plain child.n) in
      let before = v.counted in
      let number : counting'.number ≡ count_by (is_named counting.name.now) (v.prefix ++ plain child.n ∷ []) + 1 = omega (arith, sum, before, push) in
      record {
        there = subst (IsElement root) (sym same-parent) v.there;
        prefix = v.prefix ++ plain child.n ∷ [];
        parted = subst (λ p. Parted root p counting'.link (v.prefix ++ plain child.n ∷ [])) (sym same-parent)
            (parted-next root counting.parent v.prefix v.there c child counting'.link
            (on-child root counting.parent v.prefix v.there c child (λ s. counting'.link ≡ s.around.next) to));
        counted = number ∙ ap (λ n. count_by (is_named n.now) (v.prefix ++ plain child.n ∷ []) + 1) (sym same-name);
      }
