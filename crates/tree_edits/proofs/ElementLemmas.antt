-- Elements that an edit doesn't take away stay, each with its reference, its name and its attributes, in their order.
use Rattle.std.proofs.Common.{◌≡◌, ◌≢◌, ℕ, ◌+◌, ◌≤◌, Bool, true, false, not, cond, List, [], ◌∷◌, ◌++◌, filter, refl, sym, ap, ap₂, ◌∙◌, arith, inl, inr, append_assoc, append-nil}
use Rattle.std.specs.List.{AllPairs}
use Rattle.std.proofs.lemmas.Bool.{cases_Bool}
use Rattle.std.proofs.lemmas.List.Elements.{filter-append}
use Rattle.ft_base.specs.declared.ids.NodeRef.{NodeRef}
use Rattle.ordered_tree.specs.Numbered.{Numbered, element_at, text_at, Children, no_children, child_then}
use Rattle.ordered_tree.specs.Stands.{references}
use Rattle.plain_tree.specs.declared.place.How.{How}
use Rattle.plain_tree.specs.declared.place.How.TheVariants as H
use Rattle.tree_edits.specs.Edits.{only, append, text_then, joined, references_in, references_of, is_same, is_among, changed, all_changed, inserted, nothing, insertion, replacement, removal}
use Rattle.tree_edits.specs.Kept.{Element, elements_in, elements_of, picked, all_picked, elements_without}
use Rattle.tree_edits.proofs.Gathered.{Passes, Fails, passes_left, passes_right}
use Rattle.tree_edits.proofs.EditLemmas.{few, own, root_distinct}
use Rattle.tree_edits.proofs.References.{weight_yes, same_self, times, times-append, some_among, none_among, Distinct}

elements-append : (a b : Children) → elements_of (append a b) ≡ elements_of a ++ elements_of b
elements-append no_children b = refl
elements-append (child_then n a) b = ap (λ es. elements_in n ++ es) (elements-append a b) ∙ sym (append_assoc (elements_in n) (elements_of a) (elements_of b))

-- ---- joining keeps elements

text_then-elements : (r : NodeRef) (bytes : List ℕ) (ns : Children) → elements_of (text_then r bytes ns) ≡ elements_of ns
text_then-elements r [] ns = refl
text_then-elements r (c ∷ bytes) no_children = refl
text_then-elements r (c ∷ bytes) (child_then (text_at q more) ns) = refl
text_then-elements r (c ∷ bytes) (child_then (element_at q name attrs kids) ns) = refl

joined-elements : (ns : Children) → elements_of (joined ns) ≡ elements_of ns
joined-elements no_children = refl
joined-elements (child_then (element_at r name attrs kids) ns) = ap₂ (λ a b. (r, name, attrs) ∷ (a ++ b)) (joined-elements kids) (joined-elements ns)
joined-elements (child_then (text_at r bytes) ns) = text_then-elements r bytes (joined ns) ∙ joined-elements ns

-- ---- elements by a test of their references

fails_left : (p : NodeRef → Bool) (rs qs : List NodeRef) → Fails p (rs ++ qs) → Fails p rs
fails_left p rs qs h = λ x some. h x (omega (arith, some, times-append x rs qs))

fails_right : (p : NodeRef → Bool) (rs qs : List NodeRef) → Fails p (rs ++ qs) → Fails p qs
fails_right p rs qs h = λ x some. h x (omega (arith, some, times-append x rs qs))

first_in : (r : NodeRef) (rs : List NodeRef) → 1 ≤ times r (r ∷ rs)
first_in r rs = omega (arith, weight_yes (is_same r r) (same_self r))

later_in : (r x : NodeRef) (rs : List NodeRef) → 1 ≤ times x rs → 1 ≤ times x (r ∷ rs)
later_in r x rs some = omega (arith, some)

module _ (test : NodeRef → Bool) where
  abbrev p : Element → Bool
  p e = test e.0

  mutual
    all_pass : (n : Numbered) → Passes test (references_in n) → filter p (elements_in n) ≡ elements_in n
    all_pass (element_at r name attrs kids) h =
        let here : test r ≡ true = h r (first_in r (references_of kids)) in
        rw here (ap (λ es. (r, name, attrs) ∷ es) (all_pass_of kids (λ x some. h x (later_in r x (references_of kids) some))))
    all_pass (text_at r bytes) h = refl

    all_pass_of : (ns : Children) → Passes test (references_of ns) → filter p (elements_of ns) ≡ elements_of ns
    all_pass_of no_children h = refl
    all_pass_of (child_then n ns) h =
        filter-append p (elements_in n) (elements_of ns)
        ∙ ap₂ (λ a b. a ++ b) (all_pass n (passes_left test (references_in n) (references_of ns) h)) (all_pass_of ns (passes_right test (references_in n) (references_of ns) h))

  mutual
    none_pass : (n : Numbered) → Fails test (references_in n) → filter p (elements_in n) ≡ []
    none_pass (element_at r name attrs kids) h =
        let here : test r ≡ false = h r (first_in r (references_of kids)) in
        rw here (none_pass_of kids (λ x some. h x (later_in r x (references_of kids) some)))
    none_pass (text_at r bytes) h = refl

    none_pass_of : (ns : Children) → Fails test (references_of ns) → filter p (elements_of ns) ≡ []
    none_pass_of no_children h = refl
    none_pass_of (child_then n ns) h =
        filter-append p (elements_in n) (elements_of ns)
        ∙ ap₂ (λ a b. a ++ b) (none_pass n (fails_left test (references_in n) (references_of ns) h)) (none_pass_of ns (fails_right test (references_in n) (references_of ns) h))

  -- ---- a change with content that fails the test

  module _ (content : Children) (fails : Fails test (references_of content)) where
    prefix_dropped : (es : List Element) → filter p (elements_of content ++ es) ≡ filter p es
    prefix_dropped es = filter-append p (elements_of content) es ∙ ap (λ l. l ++ filter p es) (none_pass_of content fails)

    back_dropped : (es : List Element) → filter p (es ++ elements_of content) ≡ filter p es
    back_dropped es = filter-append p es (elements_of content) ∙ ap (λ l. filter p es ++ l) (none_pass_of content fails) ∙ append-nil (filter p es)

    inserted_elements : (how : How) (r : NodeRef) (name : List ℕ) (attrs : _) (kids : Children)
        → filter p (elements_of (inserted how content (element_at r name attrs kids))) ≡ filter p (elements_in (element_at r name attrs kids))
    inserted_elements H.First r name attrs kids =
        ap (λ es. filter p ((r, name, attrs) ∷ es)) (append-nil (elements_of (append content kids)) ∙ elements-append content kids)
        ∙ ap (λ es. cond (test r) ((r, name, attrs) ∷ es) es) (prefix_dropped (elements_of kids))
    inserted_elements H.Last r name attrs kids =
        ap (λ es. filter p ((r, name, attrs) ∷ es)) (append-nil (elements_of (append kids content)) ∙ elements-append kids content)
        ∙ ap (λ es. cond (test r) ((r, name, attrs) ∷ es) es) (back_dropped (elements_of kids))
    inserted_elements H.Before r name attrs kids =
        ap (filter p) (elements-append content (only (element_at r name attrs kids)))
        ∙ prefix_dropped (elements_of (only (element_at r name attrs kids)))
        ∙ ap (filter p) (append-nil (elements_in (element_at r name attrs kids)))
    inserted_elements H.After r name attrs kids = back_dropped (elements_in (element_at r name attrs kids))

    module _ (how : How) (r : NodeRef) where
      mutual
        insertion_keeps : (n : Numbered) → Passes test (references_in n) → filter p (elements_of (changed (is_same r) (inserted how content) n)) ≡ elements_in n
        insertion_keeps (element_at q name attrs kids) h = elim (cases_Bool (is_same r q)) [
          | inl holds ↦ rw holds (inserted_elements how q name attrs kids ∙ all_pass (element_at q name attrs kids) h)
          | inr other ↦ rw other (
              let here : test q ≡ true = h q (first_in q (references_of kids)) in
              ap (λ es. filter p ((q, name, attrs) ∷ es)) (append-nil (elements_of (all_changed (is_same r) (inserted how content) kids)))
              ∙ ap (λ b. cond b ((q, name, attrs) ∷ filter p (elements_of (all_changed (is_same r) (inserted how content) kids))) (filter p (elements_of (all_changed (is_same r) (inserted how content) kids)))) here
              ∙ ap (λ es. (q, name, attrs) ∷ es) (insertion_keeps_of kids (λ x some. h x (later_in q x (references_of kids) some))))
        ]
        insertion_keeps (text_at q bytes) h = refl

        insertion_keeps_of : (ns : Children) → Passes test (references_of ns) → filter p (elements_of (all_changed (is_same r) (inserted how content) ns)) ≡ elements_of ns
        insertion_keeps_of no_children h = refl
        insertion_keeps_of (child_then n ns) h =
            ap (filter p) (elements-append (changed (is_same r) (inserted how content) n) (all_changed (is_same r) (inserted how content) ns))
            ∙ filter-append p (elements_of (changed (is_same r) (inserted how content) n)) (elements_of (all_changed (is_same r) (inserted how content) ns))
            ∙ ap₂ (λ a b. a ++ b) (insertion_keeps n (passes_left test (references_in n) (references_of ns) h)) (insertion_keeps_of ns (passes_right test (references_in n) (references_of ns) h))

    module _ (chosen : NodeRef → Bool) where
      abbrev Put : Numbered → Children
      Put n = content

      mutual
        replacement_keeps : (n : Numbered) → Passes test (references_in n) → filter p (elements_of (changed chosen Put n)) ≡ elements_of (changed chosen nothing n)
        replacement_keeps (element_at q name attrs kids) h = elim (cases_Bool (chosen q)) [
          | inl holds ↦ rw holds (none_pass_of content fails)
          | inr other ↦ rw other (
              let here : test q ≡ true = h q (first_in q (references_of kids)) in
              ap (λ es. filter p ((q, name, attrs) ∷ es)) (append-nil (elements_of (all_changed chosen Put kids)))
              ∙ ap (λ b. cond b ((q, name, attrs) ∷ filter p (elements_of (all_changed chosen Put kids))) (filter p (elements_of (all_changed chosen Put kids)))) here
              ∙ ap (λ es. (q, name, attrs) ∷ es) (replacement_keeps_of kids (λ x some. h x (later_in q x (references_of kids) some)) ∙ sym (append-nil (elements_of (all_changed chosen nothing kids)))))
        ]
        replacement_keeps (text_at q bytes) h = refl

        replacement_keeps_of : (ns : Children) → Passes test (references_of ns) → filter p (elements_of (all_changed chosen Put ns)) ≡ elements_of (all_changed chosen nothing ns)
        replacement_keeps_of no_children h = refl
        replacement_keeps_of (child_then n ns) h =
            ap (filter p) (elements-append (changed chosen Put n) (all_changed chosen Put ns))
            ∙ filter-append p (elements_of (changed chosen Put n)) (elements_of (all_changed chosen Put ns))
            ∙ ap₂ (λ a b. a ++ b) (replacement_keeps n (passes_left test (references_in n) (references_of ns) h)) (replacement_keeps_of ns (passes_right test (references_in n) (references_of ns) h))
            ∙ sym (elements-append (changed chosen nothing n) (all_changed chosen nothing ns))

-- ---- a removal leaves what wasn't picked

times-of : (q : NodeRef) (a b : Children) → times q (references_of (append a b)) ≡ times q (references_of a) + times q (references_of b)
times-of q no_children b = omega arith
times-of q (child_then n a) b =
    omega (arith, times-append q (references_in n) (references_of (append a b)), times-of q a b, times-append q (references_in n) (references_of a))

mutual
  picked_few : (chosen : NodeRef → Bool) (q : NodeRef) (n : Numbered) → times q (references_of (picked chosen n)) ≤ times q (references_in n)
  picked_few chosen q (element_at r name attrs kids) = elim (cases_Bool (chosen r)) [
    | inl holds ↦ rw holds (omega (arith, ap (times q) (append-nil (references_in (element_at r name attrs kids)))))
    | inr other ↦ rw other (omega (arith, all_picked_few chosen q kids))
  ]
  picked_few chosen q (text_at r bytes) = omega arith

  all_picked_few : (chosen : NodeRef → Bool) (q : NodeRef) (ns : Children) → times q (references_of (all_picked chosen ns)) ≤ times q (references_of ns)
  all_picked_few chosen q no_children = omega arith
  all_picked_few chosen q (child_then n ns) =
      omega (arith, times-of q (picked chosen n) (all_picked chosen ns), picked_few chosen q n, all_picked_few chosen q ns, times-append q (references_in n) (references_of ns))

module _ (test chosen : NodeRef → Bool) where
  abbrev Others : Children → List NodeRef → Type 0
  Others gone rs = (x : NodeRef) → 1 ≤ times x rs → times x (references_of gone) ≡ 0 → test x ≡ true

  mutual
    removal_keeps : (n : Numbered) → Distinct (references_in n) → Fails test (references_of (picked chosen n)) → Others (picked chosen n) (references_in n)
        → elements_of (changed chosen nothing n) ≡ filter (λ e. test e.0) (elements_in n)
    removal_keeps (element_at q name attrs kids) d f o = elim (cases_Bool (chosen q)) [
      | inl holds ↦
          let all_gone : Fails test (references_in (element_at q name attrs kids)) = λ x some.
          f x (omega (
            arith,
            some,
            ap (λ b. times x (references_of (cond b (only (element_at q name attrs kids)) (all_picked chosen kids)))) holds,
            ap (times x) (append-nil (references_in (element_at q name attrs kids))),
          )) in
          rw holds (sym (none_pass test (element_at q name attrs kids) all_gone))
      | inr other ↦
          let same : (x : NodeRef) → times x (references_of (picked chosen (element_at q name attrs kids))) ≡ times x (references_of (all_picked chosen kids)) =
          λ x. ap (λ b. times x (references_of (cond b (only (element_at q name attrs kids)) (all_picked chosen kids)))) other in
          let here : test q ≡ true =
          o q (first_in q (references_of kids))
          (omega (arith, same q, all_picked_few chosen q kids, d q, weight_yes (is_same q q) (same_self q))) in
          let rest : elements_of (all_changed chosen nothing kids) ≡ filter (λ e. test e.0) (elements_of kids) =
          removal_keeps_of kids (λ x. omega (arith, d x)) (λ x some. f x (omega (arith, some, same x)))
          (λ x some out. o x (later_in q x (references_of kids) some) (same x ∙ out)) in
          rw other (
          ap (λ es. (q, name, attrs) ∷ es) (append-nil (elements_of (all_changed chosen nothing kids)) ∙ rest)
          ∙ sym (ap (λ b. cond b ((q, name, attrs) ∷ filter (λ e. test e.0) (elements_of kids)) (filter (λ e. test e.0) (elements_of kids))) here))
    ]
    removal_keeps (text_at q bytes) d f o = refl

    removal_keeps_of : (ns : Children) → Distinct (references_of ns) → Fails test (references_of (all_picked chosen ns)) → Others (all_picked chosen ns) (references_of ns)
        → elements_of (all_changed chosen nothing ns) ≡ filter (λ e. test e.0) (elements_of ns)
    removal_keeps_of no_children d f o = refl
    removal_keeps_of (child_then n ns) d f o =
        elements-append (changed chosen nothing n) (all_changed chosen nothing ns)
        ∙ ap₂ (λ a b. a ++ b)
        (removal_keeps n (λ x. omega (arith, d x, times-append x (references_in n) (references_of ns)))
        (λ x some. f x (omega (arith, some, times-of x (picked chosen n) (all_picked chosen ns))))
        (λ x some out. o x (omega (arith, some, times-append x (references_in n) (references_of ns)))
        (omega (arith, some, out, d x, times-append x (references_in n) (references_of ns), times-of x (picked chosen n) (all_picked chosen ns), all_picked_few chosen x ns))))
        (removal_keeps_of ns (λ x. omega (arith, d x, times-append x (references_in n) (references_of ns)))
        (λ x some. f x (omega (arith, some, times-of x (picked chosen n) (all_picked chosen ns))))
        (λ x some out. o x (omega (arith, some, times-append x (references_in n) (references_of ns)))
        (omega (arith, some, out, d x, times-append x (references_in n) (references_of ns), times-of x (picked chosen n) (all_picked chosen ns), picked_few chosen x n))))
        ∙ sym (filter-append (λ e. test e.0) (elements_in n) (elements_of ns))

-- ---- edits

picked_test : (chosen : NodeRef → Bool) (root : Numbered) → Distinct (references_in root)
    → elements_of (changed chosen nothing root) ≡ elements_without (references_of (picked chosen root)) (elements_in root)
picked_test chosen root d =
    let gone : List NodeRef = references_of (picked chosen root) in
    removal_keeps (λ q. not (is_among gone q)) chosen root d (λ x some. ap not (some_among x gone some)) (λ x some out. ap not (none_among x gone out))

module _ (root : Numbered) (content : Children) (apart : AllPairs (λ a b. a ≢ b) (references root ++ references_of content)) where
  abbrev new : List NodeRef
  new = references_of content

  stay : Passes (λ q. not (is_among new q)) (references_in root)
  stay x some = ap not (none_among x new (omega (arith, some, few root content apart x)))

  come : Fails (λ q. not (is_among new q)) new
  come x some = ap not (some_among x new some)

  pub insertion_elements : (how : How) (r : NodeRef) → elements_without new (elements_of (insertion how content r root)) ≡ elements_in root
  insertion_elements how r =
      ap (elements_without new) (joined-elements (changed (is_same r) (inserted how content) root))
      ∙ insertion_keeps (λ q. not (is_among new q)) content come how r root stay

  pub replacement_elements : (r : NodeRef) → elements_without new (elements_of (replacement content r root)) ≡ elements_without (references_of (picked (is_same r) root)) (elements_in root)
  replacement_elements r =
      ap (elements_without new) (joined-elements (changed (is_same r) (λ n. content) root))
      ∙ replacement_keeps (λ q. not (is_among new q)) content come (is_same r) root stay
      ∙ picked_test (is_same r) root (own root content apart)

pub removal_elements : (root : Numbered) (rs : List NodeRef) → AllPairs (λ a b. a ≢ b) (references root)
    → elements_of (removal rs root) ≡ elements_without (references_of (picked (is_among rs) root)) (elements_in root)
removal_elements root rs apart =
    joined-elements (changed (is_among rs) nothing root) ∙ picked_test (is_among rs) root (root_distinct root apart)
