-- The laws of edits: references stay apart, and the leaves that were taken and put lead from those of the old document to those of the new one.
use Rattle.std.proofs.Common.{◌≡◌, ◌≢◌, ◌+◌, ◌≤◌, Bool, true, false, List, [], ◌∷◌, ◌++◌, filter, map, None, refl, sym, ap, ap₂, ◌∙◌, arith, inl, inr, subst}
use Rattle.std.specs.List.{AllPairs}
use Rattle.std.proofs.lemmas.Bool.{cases_Bool, cond-false, cond-true, eq-eqb, eqb-true}
use Rattle.std.proofs.lemmas.List.{map-append}
use Rattle.ft_base.proofs.Truth.{or_false, same_tests}
use Rattle.ft_base.specs.declared.ids.NodeRef.{NodeRef}
use Rattle.ordered_tree.specs.Leaves.{texts}
use Rattle.ordered_tree.specs.Numbered.{Numbered, element_at, text_at, Children, no_children, child_then, reference, first_of}
use Rattle.ordered_tree.specs.Stands.{round_root, round_first, round_next, stands, child_stands, references}
use Rattle.ordered_tree.specs.declared.around.Around.{Around}
use Rattle.plain_tree.specs.declared.place.How.{How}
use Rattle.tree_edits.specs.Changed.{KeepsOrder, put, taken, put_all, take_all, index_leaf, text_leaves, is_one_of, word_total, touched}
use Rattle.tree_edits.specs.Edits.{only, append, joined, references_in, references_of, is_same, is_among, changed, all_changed, inserted, nothing, insertion, replacement, removal}
use Rattle.tree_edits.proofs.Gathered.{gather_all, gather-only, joined_part, removed_part, inserted_adds, replaced_adds, changed_times, no_own, with_own, text_refs, all_text_refs, insertion_kept, replacement_kept, texts-refs, references-gather, references_of-gather, texts_part, all_texts_part}
use Rattle.tree_edits.proofs.References.{times, times-append, some_among, none_among, Distinct, distinct_from, distinct_pairs, part_whole, part_times, InOrder, in_order, in_order_part}
use Rattle.tree_edits.proofs.TextLists.{refs_of, leaves_led, gone_taken, put_leaves}

-- ---- references in document order

mutual
  unfolding stands child_stands

  references-stands : (a : Around) (n : Numbered) → map (λ s. reference s.node) (stands a n) ≡ references_in n
  references-stands a (element_at r name attrs kids) = ap (λ rs. r ∷ rs) (references-child_stands (round_first a.before r) kids)
  references-stands a (text_at r bytes) = refl

  references-child_stands : (a : Around) (ns : Children) → map (λ s. reference s.node) (child_stands a ns) ≡ references_of ns
  references-child_stands a no_children = refl
  references-child_stands a (child_then n ns) =
      map-append (λ s. reference s.node) (stands (record a { next = first_of ns }) n) (child_stands (round_next a n) ns)
      ∙ ap₂ (λ xs ys. xs ++ ys) (references-stands (record a { next = first_of ns }) n) (references-child_stands (round_next a n) ns)

pub references-are : (root : Numbered) → references root ≡ references_in root
references-are root = references-stands round_root root

pub root_distinct : (root : Numbered) → AllPairs (λ a b. a ≢ b) (references root) → Distinct (references_in root)
root_distinct root apart = subst Distinct (references-are root) (distinct_from (references root) apart)

pub node_pairs : (root : Numbered) → Distinct (references_in root) → AllPairs (λ a b. a ≢ b) (references root)
node_pairs root d = distinct_pairs (references root) (subst Distinct (sym (references-are root)) d)

-- ---- texts that keep their order

-- no text has another one's reference
pub texts_apart : (root : Numbered) → AllPairs (λ a b. a ≢ b) (references root) → Distinct (refs_of (texts root))
texts_apart root apart q = omega (arith, root_distinct root apart q, part_times q (texts_part root), ap (times q) (texts-refs root))

pub leaves_lead : (old new : Numbered) → KeepsOrder old new → put_all (put old new) (take_all (taken old new) (text_leaves old)) ≡ text_leaves new
leaves_lead old new keeps = leaves_led (texts old) (texts new) (texts_apart old keeps.apart_before) (texts_apart new keeps.apart) keeps.order

-- ---- what was joined

times-references : (q : NodeRef) (ns : Children) → times q (references_of ns) ≡ times q (gather_all with_own ns)
times-references q ns = ap (times q) (references_of-gather ns)

module _ (raw : Children) (d : Distinct (references_of raw)) where
  pub joined_distinct : Distinct (references_of (joined raw))
  joined_distinct q = omega (arith, d q, part_times q (joined_part with_own raw), times-references q raw, times-references q (joined raw))

  module _ (root new : Numbered) (is : only new ≡ joined raw) (own : Distinct (references_in root)) (order : InOrder (text_refs root) (all_text_refs raw)) where
    new_refs : refs_of (texts new) ≡ all_text_refs (joined raw)
    new_refs = texts-refs new ∙ sym (gather-only no_own new) ∙ ap all_text_refs is

    raw_texts : Distinct (all_text_refs raw)
    raw_texts q = omega (arith, d q, part_times q (all_texts_part raw))

    new_order : InOrder (refs_of (texts root)) (refs_of (texts new))
    new_order =
        subst (λ xs. InOrder xs (refs_of (texts new))) (sym (texts-refs root))
        (subst (λ ys. InOrder (text_refs root) ys) (sym new_refs) (in_order_part (text_refs root) raw_texts order (joined_part no_own raw)))

    new_own : Distinct (references_in new)
    new_own q = omega (arith, joined_distinct q, ap (λ ns. times q (references_of ns)) is, times-references q (only new), ap (times q) (gather-only with_own new), ap (times q) (references-gather new))

    pub keeps_order : KeepsOrder root new
    keeps_order = record { apart_before = node_pairs root own; apart = node_pairs new new_own; order = new_order }

-- ---- insertions and replacements

module _ (root : Numbered) (content : Children) (apart : AllPairs (λ a b. a ≢ b) (references root ++ references_of content)) where
  pub few : (q : NodeRef) → times q (references_in root) + times q (references_of content) ≤ 1
  few q =
      omega (arith, distinct_from (references root ++ references_of content) apart q, times-append q (references root) (references_of content), ap (times q) (references-are root))

  pub own : Distinct (references_in root)
  own q = omega (arith, few q)

  own_texts : Distinct (text_refs root)
  own_texts q = omega (arith, own q, part_times q (texts_part root))

  passes : (x : NodeRef) → 1 ≤ times x (text_refs root) → is_among (text_refs root) x ≡ true
  passes x some = some_among x (text_refs root) some

  fails : (x : NodeRef) → 1 ≤ times x (all_text_refs content) → is_among (text_refs root) x ≡ false
  fails x some = none_among x (text_refs root) (omega (arith, some, few x, part_times x (texts_part root), part_times x (all_texts_part content)))

  module _ (r : NodeRef) where
    raw_insertion : (how : How) → Distinct (references_of (changed (is_same r) (inserted how content) root))
    raw_insertion how q =
        omega (
          arith,
          few q,
          changed_times with_own (inserted how content) content (inserted_adds with_own how content) r q root (own r),
          times-references q (changed (is_same r) (inserted how content) root),
          ap (times q) (references-gather root),
          times-references q content,
        )

    raw_replacement : Distinct (references_of (changed (is_same r) (λ n. content) root))
    raw_replacement q =
        omega (
          arith,
          few q,
          changed_times with_own (λ n. content) content (replaced_adds with_own content) r q root (own r),
          times-references q (changed (is_same r) (λ n. content) root),
          ap (times q) (references-gather root),
          times-references q content,
        )

    pub insertion_apart : (how : How) → AllPairs (λ a b. a ≢ b) (references_of (insertion how content r root))
    insertion_apart how = distinct_pairs (references_of (insertion how content r root)) (joined_distinct (changed (is_same r) (inserted how content) root) (raw_insertion how))

    pub replacement_apart : AllPairs (λ a b. a ≢ b) (references_of (replacement content r root))
    replacement_apart = distinct_pairs (references_of (replacement content r root)) (joined_distinct (changed (is_same r) (λ n. content) root) raw_replacement)

    pub insertion_order : (how : How) (new : Numbered) → only new ≡ insertion how content r root → KeepsOrder root new
    insertion_order how new is =
        keeps_order (changed (is_same r) (inserted how content) root) (raw_insertion how) root new is own
        (in_order (text_refs root) (all_text_refs (changed (is_same r) (inserted how content) root)) own_texts (part_whole (text_refs root))
        (insertion_kept (is_among (text_refs root)) content fails how r root passes))

    pub replacement_order : (new : Numbered) → only new ≡ replacement content r root → KeepsOrder root new
    replacement_order new is =
        keeps_order (changed (is_same r) (λ n. content) root) raw_replacement root new is own
        (in_order (text_refs root) (all_text_refs (changed (is_same r) (λ n. content) root)) own_texts (removed_part no_own (is_same r) root)
        (replacement_kept (is_among (text_refs root)) content fails (is_same r) root passes))

-- ---- removals

module _ (root : Numbered) (rs : List NodeRef) (apart : AllPairs (λ a b. a ≢ b) (references root)) where
  raw_removal : Distinct (references_of (changed (is_among rs) nothing root))
  raw_removal q =
      omega (
        arith,
        root_distinct root apart q,
        part_times q (removed_part with_own (is_among rs) root),
        times-references q (changed (is_among rs) nothing root),
        ap (times q) (references-gather root),
      )

  pub removal_apart : AllPairs (λ a b. a ≢ b) (references_of (removal rs root))
  removal_apart = distinct_pairs (references_of (removal rs root)) (joined_distinct (changed (is_among rs) nothing root) raw_removal)

  pub removal_order : (new : Numbered) → only new ≡ removal rs root → KeepsOrder root new
  removal_order new is =
      let d : Distinct (text_refs root) = λ q. omega (arith, root_distinct root apart q, part_times q (texts_part root)) in
      keeps_order (changed (is_among rs) nothing root) raw_removal root new is (root_distinct root apart)
      (in_order (text_refs root) (all_text_refs (changed (is_among rs) nothing root)) d (removed_part no_own (is_among rs) root)
      (replacement_kept (is_among (text_refs root)) no_children (λ x some. absurd (omega (arith, some))) (is_among rs) root (λ x some. some_among x (text_refs root) some)))

-- one element, as a replacement by nothing
mutual
  chosen_same : (c d : NodeRef → Bool) → ((q : NodeRef) → c q ≡ d q) → (n : Numbered) → changed c nothing n ≡ changed d nothing n
  chosen_same c d h (element_at r name attrs kids) = elim (cases_Bool (d r)) [
    | inl holds ↦ cond-true (c r) _ _ (h r ∙ holds) ∙ sym (cond-true (d r) _ _ holds)
    | inr fails ↦
        cond-false (c r) _ _ (h r ∙ fails) ∙ ap (λ ks. only (element_at r name attrs ks)) (all_chosen_same c d h kids) ∙ sym (cond-false (d r) _ _ fails)
  ]
  chosen_same c d h (text_at r bytes) = refl

  all_chosen_same : (c d : NodeRef → Bool) → ((q : NodeRef) → c q ≡ d q) → (ns : Children) → all_changed c nothing ns ≡ all_changed d nothing ns
  all_chosen_same c d h no_children = refl
  all_chosen_same c d h (child_then n ns) = ap₂ append (chosen_same c d h n) (all_chosen_same c d h ns)

pub turned : (r q : NodeRef) → is_same q r ≡ is_same r q
turned r q = same_tests (is_same q r) (is_same r q) (λ h. eq-eqb q.0 r.0 (sym (eqb-true r.0 q.0 h))) (λ h. eq-eqb r.0 q.0 (sym (eqb-true q.0 r.0 h)))

pub one_removed : (r : NodeRef) (root : Numbered) → removal (r ∷ []) root ≡ replacement no_children r root
one_removed r root =
    ap joined (chosen_same (is_among (r ∷ [])) (is_same r) (λ q. or_false (is_same q r) false refl ∙ turned r q) root)

-- ---- words

pub words_touched : (old new : Numbered) → AllPairs (λ a b. a ≢ b) (references old)
    → word_total (filter (is_one_of (taken old new)) (text_leaves old)) + word_total (map index_leaf (put old new)) ≡ touched old new
words_touched old new apart =
    let d : Distinct (refs_of (texts old)) = texts_apart old apart in
    ap₂ (λ a b. a + b) (ap word_total (gone_taken (texts new) (texts old) d)) (ap word_total (put_leaves (texts old) None (texts new)))
