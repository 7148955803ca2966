-- The references of nodes, where elements give theirs or don't: what an edit and joining make of them.
use Rattle.std.proofs.Common.{◌≡◌, ℕ, ◌+◌, ◌≤◌, Bool, true, false, List, [], ◌∷◌, ◌++◌, filter, refl, sym, ap, ap₂, ◌∙◌, arith, inl, inr, append_assoc, append-nil}
use Rattle.std.proofs.lemmas.Bool.{cases_Bool, cond-false}
use Rattle.std.proofs.lemmas.List.{map-append}
use Rattle.std.proofs.lemmas.List.Elements.{filter-append}
use Rattle.ft_base.specs.declared.ids.NodeRef.{NodeRef}
use Rattle.ordered_tree.specs.Leaves.{texts, texts_of}
use Rattle.ordered_tree.specs.Numbered.{Numbered, element_at, text_at, Children, no_children, child_then}
use Rattle.plain_tree.specs.declared.place.How.{How}
use Rattle.plain_tree.specs.declared.place.How.TheVariants as H
use Rattle.plain_tree.specs.declared.tree.Attr.{Attr}
use Rattle.tree_edits.specs.Edits.{only, append, before, text_then, joined, references_in, references_of, is_same, changed, all_changed, inserted, nothing}
use Rattle.tree_edits.proofs.References.{weight_zero, cases_zero, times, times-append, Part, none, keep, skip, part_whole, part_none, part_append, part_after, filter_true, filter_false}
use Rattle.tree_edits.proofs.TextLists.{refs_of}

module _ (own : NodeRef → List NodeRef) where
  abbrev mutual
    pub gather : Numbered → List NodeRef
    gather (element_at r name attrs kids) = own r ++ gather_all kids
    gather (text_at r bytes) = r ∷ []

    pub gather_all : Children → List NodeRef
    gather_all no_children = []
    gather_all (child_then n ns) = gather n ++ gather_all ns

  pub gather-append : (a b : Children) → gather_all (append a b) ≡ gather_all a ++ gather_all b
  gather-append no_children b = refl
  gather-append (child_then n a) b = ap (λ rs. gather n ++ rs) (gather-append a b) ∙ sym (append_assoc (gather n) (gather_all a) (gather_all b))

  pub gather-only : (n : Numbered) → gather_all (only n) ≡ gather n
  gather-only n = append-nil (gather n)

  -- ---- joining drops references

  before_part : (r : NodeRef) (bytes : List ℕ) (ns : Children) → Part (gather_all (before r bytes ns)) (r ∷ gather_all ns)
  before_part r bytes no_children = keep r none
  before_part r bytes (child_then (text_at q more) ns) = keep r (skip q (part_whole (gather_all ns)))
  before_part r bytes (child_then (element_at q name attrs kids) ns) = keep r (part_whole (gather_all (child_then (element_at q name attrs kids) ns)))

  text_then_part : (r : NodeRef) (bytes : List ℕ) (ns : Children) → Part (gather_all (text_then r bytes ns)) (r ∷ gather_all ns)
  text_then_part r [] ns = skip r (part_whole (gather_all ns))
  text_then_part r (c ∷ bytes) ns = before_part r (c ∷ bytes) ns

  pub joined_part : (ns : Children) → Part (gather_all (joined ns)) (gather_all ns)
  joined_part no_children = none
  joined_part (child_then (element_at r name attrs kids) ns) = part_append (part_append (part_whole (own r)) (joined_part kids)) (joined_part ns)
  joined_part (child_then (text_at r bytes) ns) = part_after (text_then_part r bytes (joined ns)) (keep r (joined_part ns))

  -- ---- a removal drops references

  mutual
    pub removed_part : (chosen : NodeRef → Bool) (n : Numbered) → Part (gather_all (changed chosen nothing n)) (gather n)
    removed_part chosen (element_at r name attrs kids) = elim (cases_Bool (chosen r)) [
      | inl holds ↦ rw holds (part_none (own r ++ gather_all kids))
      | inr fails ↦ rw (fails, gather-only (element_at r name attrs (all_changed chosen nothing kids))) (part_append (part_whole (own r)) (removed_parts chosen kids))
    ]
    removed_part chosen (text_at r bytes) = part_whole (r ∷ [])

    pub removed_parts : (chosen : NodeRef → Bool) (ns : Children) → Part (gather_all (all_changed chosen nothing ns)) (gather_all ns)
    removed_parts chosen no_children = none
    removed_parts chosen (child_then n ns) =
        rw (gather-append (changed chosen nothing n) (all_changed chosen nothing ns)) (part_append (removed_part chosen n) (removed_parts chosen ns))

  -- ---- a change of one element

  abbrev Adds : (Numbered → Children) → Children → Type 0
  Adds change content =
      (q r : NodeRef) (name : List ℕ) (attrs : List Attr) (kids : Children)
      → times q (gather_all (change (element_at r name attrs kids))) ≤ times q (gather (element_at r name attrs kids)) + times q (gather_all content)

  times-all : (q : NodeRef) (a b : Children) → times q (gather_all (append a b)) ≡ times q (gather_all a) + times q (gather_all b)
  times-all q a b = ap (times q) (gather-append a b) ∙ times-append q (gather_all a) (gather_all b)

  times-one : (q : NodeRef) (n : Numbered) → times q (gather_all (only n)) ≡ times q (gather n)
  times-one q n = ap (times q) (gather-only n)

  times-element : (q r : NodeRef) (name : List ℕ) (attrs : List Attr) (kids : Children) → times q (gather (element_at r name attrs kids)) ≡ times q (own r) + times q (gather_all kids)
  times-element q r name attrs kids = times-append q (own r) (gather_all kids)

  pub inserted_adds : (how : How) (content : Children) → Adds (inserted how content) content
  inserted_adds H.First content q r name attrs kids =
      omega (arith, times-one q (element_at r name attrs (append content kids)), times-element q r name attrs (append content kids), times-all q content kids, times-element q r name attrs kids)
  inserted_adds H.Last content q r name attrs kids =
      omega (arith, times-one q (element_at r name attrs (append kids content)), times-element q r name attrs (append kids content), times-all q kids content, times-element q r name attrs kids)
  inserted_adds H.Before content q r name attrs kids =
      omega (arith, times-all q content (only (element_at r name attrs kids)), times-one q (element_at r name attrs kids))
  inserted_adds H.After content q r name attrs kids = omega (arith, times-append q (gather (element_at r name attrs kids)) (gather_all content))

  pub replaced_adds : (content : Children) → Adds (λ n. content) content
  replaced_adds content q r name attrs kids = omega arith

-- ---- where no element has the reference, nothing changes

mutual
  pub unchanged : (change : Numbered → Children) (r : NodeRef) (n : Numbered) → times r (references_in n) ≡ 0 → changed (is_same r) change n ≡ only n
  unchanged change r (element_at q name attrs kids) h =
      cond-false (is_same r q) _ _ (weight_zero (is_same r q) (times r (references_of kids)) h)
      ∙ ap (λ ks. only (element_at q name attrs ks)) (all_unchanged change r kids (omega (arith, h)))
  unchanged change r (text_at q bytes) h = refl

  pub all_unchanged : (change : Numbered → Children) (r : NodeRef) (ns : Children) → times r (references_of ns) ≡ 0 → all_changed (is_same r) change ns ≡ ns
  all_unchanged change r no_children h = refl
  all_unchanged change r (child_then n ns) h =
      ap (λ m. append m (all_changed (is_same r) change ns)) (unchanged change r n (omega (arith, h, times-append r (references_in n) (references_of ns))))
      ∙ ap (child_then n) (all_unchanged change r ns (omega (arith, h, times-append r (references_in n) (references_of ns))))

-- ---- one element changes, where the reference stands once

module _ (own : NodeRef → List NodeRef) (change : Numbered → Children) (content : Children) (adds : Adds own change content) (r q : NodeRef) where
  abbrev More : ℕ → ℕ → Type 0
  More new old = new ≤ old + times q (gather_all own content)

  mutual
    pub changed_times : (n : Numbered) → times r (references_in n) ≤ 1 → More (times q (gather_all own (changed (is_same r) change n))) (times q (gather own n))
    changed_times (element_at p name attrs kids) few = elim (cases_Bool (is_same r p)) [
      | inl holds ↦ rw holds (adds q p name attrs kids)
      | inr fails ↦ rw fails (omega (
        arith,
        times-one own q (element_at p name attrs (all_changed (is_same r) change kids)),
        times-element own q p name attrs (all_changed (is_same r) change kids),
        times-element own q p name attrs kids,
        all_changed_times kids (omega (arith, few)),
      ))
    ]
    changed_times (text_at p bytes) few = omega arith

    pub all_changed_times : (ns : Children) → times r (references_of ns) ≤ 1 → More (times q (gather_all own (all_changed (is_same r) change ns))) (times q (gather_all own ns))
    all_changed_times no_children few = omega arith
    all_changed_times (child_then n ns) few =
        let both = times-append r (references_in n) (references_of ns) in
        let after = times-all own q (changed (is_same r) change n) (all_changed (is_same r) change ns) in
        let was = times-append q (gather own n) (gather_all own ns) in
        elim (cases_zero (times r (references_in n))) [
          | inl out ↦
              let same = ap (λ m. times q (gather_all own m)) (unchanged change r n out) ∙ times-one own q n in
              omega (arith, after, was, same, all_changed_times ns (omega (arith, few, both)))
          | inr here ↦
              let same = ap (λ m. times q (gather_all own m)) (all_unchanged change r ns (omega (arith, few, both, here))) in
              omega (arith, after, was, same, changed_times n (omega (arith, few, both)))
        ]

-- ---- the references of texts alone, filtered by a test that they pass and that those of the content don't

abbrev pub no_own : NodeRef → List NodeRef
no_own r = []

abbrev pub text_refs : Numbered → List NodeRef
text_refs = gather no_own

abbrev pub all_text_refs : Children → List NodeRef
all_text_refs = gather_all no_own

module _ (p : NodeRef → Bool) where
  abbrev pub Passes : List NodeRef → Type 0
  Passes rs = (x : NodeRef) → 1 ≤ times x rs → p x ≡ true

  abbrev pub Fails : List NodeRef → Type 0
  Fails rs = (x : NodeRef) → 1 ≤ times x rs → p x ≡ false

  pub passes_left : (rs qs : List NodeRef) → Passes (rs ++ qs) → Passes rs
  passes_left rs qs h = λ x some. h x (omega (arith, some, times-append x rs qs))

  pub passes_right : (rs qs : List NodeRef) → Passes (rs ++ qs) → Passes qs
  passes_right rs qs h = λ x some. h x (omega (arith, some, times-append x rs qs))

  filter_prefix : (rs qs : List NodeRef) → Fails rs → filter p (rs ++ qs) ≡ filter p qs
  filter_prefix rs qs f = filter-append p rs qs ∙ ap (λ l. l ++ filter p qs) (filter_false p rs f)

  filter_back : (rs qs : List NodeRef) → Fails qs → filter p (rs ++ qs) ≡ filter p rs
  filter_back rs qs f = filter-append p rs qs ∙ ap (λ l. filter p rs ++ l) (filter_false p qs f) ∙ append-nil (filter p rs)

  module _ (content : Children) (fails : Fails (all_text_refs content)) where
    inserted_kept : (how : How) (r : NodeRef) (name : List ℕ) (attrs : List Attr) (kids : Children) → filter p (all_text_refs (inserted how content (element_at r name attrs kids))) ≡ filter p (all_text_refs kids)
    inserted_kept H.First r name attrs kids =
        ap (filter p) (gather-only no_own (element_at r name attrs (append content kids)) ∙ gather-append no_own content kids)
        ∙ filter_prefix (all_text_refs content) (all_text_refs kids) fails
    inserted_kept H.Last r name attrs kids =
        ap (filter p) (gather-only no_own (element_at r name attrs (append kids content)) ∙ gather-append no_own kids content)
        ∙ filter_back (all_text_refs kids) (all_text_refs content) fails
    inserted_kept H.Before r name attrs kids =
        ap (filter p) (gather-append no_own content (only (element_at r name attrs kids)))
        ∙ filter_prefix (all_text_refs content) (all_text_refs (only (element_at r name attrs kids))) fails
        ∙ ap (filter p) (gather-only no_own (element_at r name attrs kids))
    inserted_kept H.After r name attrs kids = filter_back (all_text_refs kids) (all_text_refs content) fails

    module _ (how : How) (r : NodeRef) where
      mutual
        pub insertion_kept : (n : Numbered) → Passes (text_refs n) → filter p (all_text_refs (changed (is_same r) (inserted how content) n)) ≡ text_refs n
        insertion_kept (element_at q name attrs kids) h = elim (cases_Bool (is_same r q)) [
          | inl holds ↦ rw holds (inserted_kept how q name attrs kids ∙ filter_true p (all_text_refs kids) h)
          | inr fails ↦ rw fails (
              ap (filter p) (gather-only no_own (element_at q name attrs (all_changed (is_same r) (inserted how content) kids))) ∙ insertion_kept_all kids h)
        ]
        insertion_kept (text_at q bytes) h = filter_true p (q ∷ []) h

        pub insertion_kept_all : (ns : Children) → Passes (all_text_refs ns) → filter p (all_text_refs (all_changed (is_same r) (inserted how content) ns)) ≡ all_text_refs ns
        insertion_kept_all no_children h = refl
        insertion_kept_all (child_then n ns) h =
            ap (filter p) (gather-append no_own (changed (is_same r) (inserted how content) n) (all_changed (is_same r) (inserted how content) ns))
            ∙ filter-append p (all_text_refs (changed (is_same r) (inserted how content) n)) (all_text_refs (all_changed (is_same r) (inserted how content) ns))
            ∙ ap₂ (λ a b. a ++ b) (insertion_kept n (passes_left (text_refs n) (all_text_refs ns) h)) (insertion_kept_all ns (passes_right (text_refs n) (all_text_refs ns) h))

    module _ (chosen : NodeRef → Bool) where
      abbrev Put : Numbered → Children
      Put n = content

      mutual
        pub replacement_kept : (n : Numbered) → Passes (text_refs n) → filter p (all_text_refs (changed chosen Put n)) ≡ all_text_refs (changed chosen nothing n)
        replacement_kept (element_at q name attrs kids) h = elim (cases_Bool (chosen q)) [
          | inl holds ↦ rw holds (filter_false p (all_text_refs content) fails)
          | inr other ↦ rw other (
              ap (filter p) (gather-only no_own (element_at q name attrs (all_changed chosen Put kids)))
              ∙ replacement_kept_all kids h
              ∙ sym (gather-only no_own (element_at q name attrs (all_changed chosen nothing kids))))
        ]
        replacement_kept (text_at q bytes) h = filter_true p (q ∷ []) h

        pub replacement_kept_all : (ns : Children) → Passes (all_text_refs ns) → filter p (all_text_refs (all_changed chosen Put ns)) ≡ all_text_refs (all_changed chosen nothing ns)
        replacement_kept_all no_children h = refl
        replacement_kept_all (child_then n ns) h =
            ap (filter p) (gather-append no_own (changed chosen Put n) (all_changed chosen Put ns))
            ∙ filter-append p (all_text_refs (changed chosen Put n)) (all_text_refs (all_changed chosen Put ns))
            ∙ ap₂ (λ a b. a ++ b) (replacement_kept n (passes_left (text_refs n) (all_text_refs ns) h)) (replacement_kept_all ns (passes_right (text_refs n) (all_text_refs ns) h))
            ∙ sym (gather-append no_own (changed chosen nothing n) (all_changed chosen nothing ns))

-- ---- as definitions have them

mutual
  pub texts-refs : (n : Numbered) → refs_of (texts n) ≡ text_refs n
  texts-refs (element_at r name attrs kids) = texts_of-refs kids
  texts-refs (text_at r bytes) = refl

  pub texts_of-refs : (ns : Children) → refs_of (texts_of ns) ≡ all_text_refs ns
  texts_of-refs no_children = refl
  texts_of-refs (child_then n ns) = map-append (λ t. t.0) (texts n) (texts_of ns) ∙ ap₂ (λ a b. a ++ b) (texts-refs n) (texts_of-refs ns)

abbrev pub with_own : NodeRef → List NodeRef
with_own r = r ∷ []

mutual
  pub references-gather : (n : Numbered) → references_in n ≡ gather with_own n
  references-gather (element_at r name attrs kids) = ap (λ rs. r ∷ rs) (references_of-gather kids)
  references-gather (text_at r bytes) = refl

  pub references_of-gather : (ns : Children) → references_of ns ≡ gather_all with_own ns
  references_of-gather no_children = refl
  references_of-gather (child_then n ns) = ap₂ (λ a b. a ++ b) (references-gather n) (references_of-gather ns)

-- the texts' references are among all
mutual
  pub texts_part : (n : Numbered) → Part (text_refs n) (references_in n)
  texts_part (element_at r name attrs kids) = skip r (all_texts_part kids)
  texts_part (text_at r bytes) = part_whole (r ∷ [])

  pub all_texts_part : (ns : Children) → Part (all_text_refs ns) (references_of ns)
  all_texts_part no_children = none
  all_texts_part (child_then n ns) = part_append (texts_part n) (all_texts_part ns)
