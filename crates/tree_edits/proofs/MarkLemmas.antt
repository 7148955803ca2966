-- Tables of marks, and references that are beyond them.
use Rattle.std.proofs.Common.{◌≡◌, ℕ, ◌+◌, ◌<◌, ◌≤◌, Bool, false, ◌||◌, ◌&&◌, nat_lt, List, [], ◌∷◌, length, get_or, replicate, drop, refl, sym, ap, ap₂, ◌∙◌, arith, inl, inr}
use Rattle.std.specs.List.{All, list_all}
use Rattle.std.proofs.lemmas.Bool.{cases_Bool, eqb-true, ltb-false, ltb-true}
use Rattle.std.proofs.lemmas.List.{get_or-replicate, get_or_past, length-replicate, drop_all}
use Rattle.std.proofs.lemmas.List.Elements.{All-head, All-tail}
use Rattle.ft_base.proofs.Truth.{or_false, or_other, or_turned}
use Rattle.ft_base.specs.declared.ids.NodeRef.{NodeRef}
use Rattle.ordered_tree.specs.Numbered.{Numbered, element_at, text_at, Children, no_children, child_then}
use Rattle.ordered_tree.specs.RefView.{ref_node}
use Rattle.ordered_tree.specs.declared.ref_tree.RefTree.{RefTree}
use Rattle.ordered_tree.proofs.SlotsLemmas.{All-left, All-right}
use Rattle.tree_edits.specs.Edits.{any_names_element, is_among, is_same, names_element, references_in, references_of}
use Rattle.tree_edits.specs.steps.Marks.{is_marked}
use Rattle.tree_edits.proofs.RefSteps.{drop_next, last_row, next_row}
use Rattle.tree_edits.proofs.RowsJoined.{row}

pub none_marked : (size : ℕ) (r : NodeRef) → r.0 < size → is_marked (replicate size false) r ≡ false
none_marked size r below = get_or-replicate size r.0 false false below

pub not_marked : (marks : List Bool) (r : NodeRef) → length marks ≤ r.0 → is_marked marks r ≡ false
not_marked marks r beyond = get_or_past marks r.0 false beyond

-- a reference more is marked
pub among_next : (r x : NodeRef) (refs : List NodeRef) (i : ℕ) (new old : Bool) → i < length refs → x ≡ get_or refs i x → new ≡ (is_same r x || old)
    → (new || is_among (drop (i + 1) refs) r) ≡ (old || is_among (drop i refs) r)
among_next r x refs i new old more is marked =
    ap (λ b. b || is_among (drop (i + 1) refs) r) marked
    ∙ sym (or_turned old (is_same r x) (is_among (drop (i + 1) refs) r))
    ∙ ap (λ l. old || is_among l r) (sym (drop_next refs i x more is))

pub among_last : (r : NodeRef) (refs : List NodeRef) (i : ℕ) (marked : Bool) → length refs ≤ i → (marked || is_among (drop i refs) r) ≡ marked
among_last r refs i marked done = ap (λ l. marked || is_among l r) (drop_all i refs done) ∙ or_false marked false refl

-- the elements of a tree more are marked
pub names_next : (r : NodeRef) (trees : List RefTree) (i : ℕ) (tree : RefTree) (new old : Bool) → i < length trees → tree ≡ get_or trees i tree → new ≡ (names_element r (ref_node tree) || old)
    → (new || any_names_element r (row (drop (i + 1) trees))) ≡ (old || any_names_element r (row (drop i trees)))
names_next r trees i tree new old more is marked =
    ap (λ b. b || any_names_element r (row (drop (i + 1) trees))) marked
    ∙ sym (or_turned old (names_element r (ref_node tree)) (any_names_element r (row (drop (i + 1) trees))))
    ∙ ap (λ ns. old || any_names_element r ns) (sym (next_row trees i tree more is))

pub names_last : (r : NodeRef) (trees : List RefTree) (i : ℕ) (marked : Bool) → length trees ≤ i → (marked || any_names_element r (row (drop i trees))) ≡ marked
names_last r trees i marked done = ap (λ ns. marked || any_names_element r ns) (last_row trees i done) ∙ or_false marked false refl

-- no element has a reference that is beyond those of the tree
module _ (bound : ℕ) (r : NodeRef) (beyond : bound ≤ r.0) where
  other : (q : NodeRef) → q.0 < bound → is_same r q ≡ false
  other q below = elim (cases_Bool (is_same r q)) [
    | inl same ↦ absurd (omega (arith, below, beyond, eqb-true q.0 r.0 same))
    | inr differs ↦ differs
  ]

  mutual
    pub beyond_names : (n : Numbered) → All (λ q. q.0 < bound) (references_in n) → names_element r n ≡ false
    beyond_names (element_at q name attrs kids) h =
        or_other (is_same r q) (any_names_element r kids) (other q (All-head (λ z. z.0 < bound) q (references_of kids) h))
        ∙ all_beyond kids (All-tail (λ z. z.0 < bound) q (references_of kids) h)
    beyond_names (text_at q bytes) h = refl

    all_beyond : (ns : Children) → All (λ q. q.0 < bound) (references_of ns) → any_names_element r ns ≡ false
    all_beyond no_children h = refl
    all_beyond (child_then n ns) h =
        or_other (names_element r n) (any_names_element r ns) (beyond_names n (All-left (λ z. z.0 < bound) (references_in n) (references_of ns) h))
        ∙ all_beyond ns (All-right (λ z. z.0 < bound) (references_in n) (references_of ns) h)

-- the marks of a document's elements
pub names_marked : (bound : ℕ) (root : Numbered) (new old : List Bool) → All (λ q. q.0 < bound) (references_in root) → old ≡ replicate bound false → length new ≡ length old
    → ((r : NodeRef) → r.0 < length old → is_marked new r ≡ (names_element r root || is_marked old r)) → (r : NodeRef) → is_marked new r ≡ names_element r root
names_marked bound root new old below empty long marked r =
    let size : length old ≡ bound = ap length empty ∙ length-replicate bound false in
    elim (cases_Bool (nat_lt r.0 bound)) [
      | inl lower ↦
          let less : r.0 < bound = ltb-true r.0 bound lower in
          marked r (omega (arith, less, size)) ∙ or_false (names_element r root) (is_marked old r) (ap (λ l. is_marked l r) empty ∙ none_marked bound r less)
      | inr higher ↦
          let beyond : bound ≤ r.0 = ltb-false r.0 bound higher in
          not_marked new r (omega (arith, long, size, beyond)) ∙ sym (beyond_names bound r beyond root below)
    ]

pub all_agree : (p q : NodeRef → Bool) → ((r : NodeRef) → p r ≡ q r) → (rs : List NodeRef) → list_all p rs ≡ list_all q rs
all_agree p q h [] = refl
all_agree p q h (r ∷ rs) = ap₂ (λ a b. a && b) (h r) (all_agree p q h rs)
