-- What an edit makes of nodes after each other, and of an element that was chosen or not.
use Rattle.std.proofs.Common.{◌≡◌, ℕ, Bool, true, false, List, refl, sym, ap, ap₂, ◌∙◌, inl, inr}
use Rattle.std.specs.List.{All}
use Rattle.std.proofs.lemmas.Bool.{cases_Bool, cond-false, cond-true}
use Rattle.std.proofs.lemmas.List.Elements.{All-head, All-tail}
use Rattle.ft_base.specs.declared.ids.NodeRef.{NodeRef}
use Rattle.ordered_tree.specs.Numbered.{Numbered, element_at, text_at, Children, no_children, child_then}
use Rattle.ordered_tree.proofs.SlotsLemmas.{All-left, All-right}
use Rattle.plain_tree.specs.declared.tree.Attr.{Attr}
use Rattle.tree_edits.specs.Edits.{only, append, changed, all_changed, references_in, references_of}
use Rattle.tree_edits.proofs.PlainLemmas.{append_append, append_none}

module _ (chosen : NodeRef → Bool) (change : Numbered → Children) where
  pub all_changed_append : (a b : Children) → all_changed chosen change (append a b) ≡ append (all_changed chosen change a) (all_changed chosen change b)
  all_changed_append no_children b = refl
  all_changed_append (child_then n a) b =
      ap (append (changed chosen change n)) (all_changed_append a b) ∙ sym (append_append (changed chosen change n) (all_changed chosen change a) (all_changed chosen change b))

  pub all_changed_only : (n : Numbered) → all_changed chosen change (only n) ≡ changed chosen change n
  all_changed_only n = append_none (changed chosen change n)

  pub changed_chosen : (r : NodeRef) (name : List ℕ) (attrs : List Attr) (kids : Children) → chosen r ≡ true → changed chosen change (element_at r name attrs kids) ≡ change (element_at r name attrs kids)
  changed_chosen r name attrs kids is = cond-true (chosen r) _ _ is

  pub changed_other : (r : NodeRef) (name : List ℕ) (attrs : List Attr) (kids : Children) → chosen r ≡ false
      → changed chosen change (element_at r name attrs kids) ≡ only (element_at r name attrs (all_changed chosen change kids))
  changed_other r name attrs kids is = cond-false (chosen r) _ _ is

-- two ways of choosing that choose the same of the references of a document
module _ (P : NodeRef → Type 0) (c d : NodeRef → Bool) (same : (q : NodeRef) → P q → c q ≡ d q) (change : Numbered → Children) where
  mutual
    pub same_choice_of : (n : Numbered) → All P (references_in n) → changed c change n ≡ changed d change n
    same_choice_of (element_at r name attrs kids) h =
        let here : c r ≡ d r = same r (All-head P r (references_of kids) h) in
        elim (cases_Bool (d r)) [
          | inl holds ↦ cond-true (c r) _ _ (here ∙ holds) ∙ sym (cond-true (d r) _ _ holds)
          | inr fails ↦
              cond-false (c r) _ _ (here ∙ fails)
              ∙ ap (λ ks. only (element_at r name attrs ks)) (all_same_choice_of kids (All-tail P r (references_of kids) h))
              ∙ sym (cond-false (d r) _ _ fails)
        ]
    same_choice_of (text_at r bytes) h = refl

    all_same_choice_of : (ns : Children) → All P (references_of ns) → all_changed c change ns ≡ all_changed d change ns
    all_same_choice_of no_children h = refl
    all_same_choice_of (child_then n ns) h =
        ap₂ append (same_choice_of n (All-left P (references_in n) (references_of ns) h)) (all_same_choice_of ns (All-right P (references_in n) (references_of ns) h))

-- two ways of choosing that choose the same
module _ (c d : NodeRef → Bool) (same : (q : NodeRef) → c q ≡ d q) (change : Numbered → Children) where
  mutual
    pub same_choice : (n : Numbered) → changed c change n ≡ changed d change n
    same_choice (element_at r name attrs kids) = elim (cases_Bool (d r)) [
      | inl holds ↦ cond-true (c r) _ _ (same r ∙ holds) ∙ sym (cond-true (d r) _ _ holds)
      | inr fails ↦
          cond-false (c r) _ _ (same r ∙ fails) ∙ ap (λ ks. only (element_at r name attrs ks)) (all_same_choice kids) ∙ sym (cond-false (d r) _ _ fails)
    ]
    same_choice (text_at r bytes) = refl

    all_same_choice : (ns : Children) → all_changed c change ns ≡ all_changed d change ns
    all_same_choice no_children = refl
    all_same_choice (child_then n ns) = ap₂ append (same_choice n) (all_same_choice ns)
