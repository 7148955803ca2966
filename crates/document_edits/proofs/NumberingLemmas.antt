-- References as numbers: a tree with given references, and the number at which a reference stands in a list.
use Rattle.std.proofs.Common.{◌≡◌, ℕ, zero, suc, ◌+◌, ◌≤◌, false, cond, List, [], ◌∷◌, ◌++◌, map, length, drop, refl, sym, ap, ap₂, ◌∙◌, arith, inl, inr, append_assoc}
use Rattle.std.specs.List.{range_with_len}
use Rattle.std.proofs.lemmas.Bool.{cases_Bool, cond-false, cond-true, eqb-true}
use Rattle.std.proofs.lemmas.List.{drop_at, length-map}
use Rattle.ft_base.proofs.Truth.{same_tests}
use Rattle.doc_grammar.specs.Limits.{node_count, nodes_count}
use Rattle.ft_base.specs.declared.ids.NodeRef.{NodeRef}
use Rattle.ordered_tree.specs.Numbered.{Numbered, element_at, text_at, Children, no_children, child_then, plain, plain_children, reference}
use Rattle.ordered_tree.specs.Stands.{round_root, stands_in}
use Rattle.ordered_tree.proofs.RowLemmas.{length-stands_in}
use Rattle.tree_edits.proofs.EditLemmas.{references-are, turned}
use Rattle.ordered_tree.specs.Numbering.{numbered, children_numbered}
use Rattle.plain_tree.specs.Document.{Node, element, text, Nodes, no_nodes, node_then}
use Rattle.tree_edits.specs.Edits.{is_same, references_in, references_of}
use Rattle.tree_edits.specs.Fresh.{fresh, all_fresh}
use Rattle.tree_edits.proofs.References.{Distinct, distinct_first, distinct_rest, same_ref, same_self, times, weight_no, weight_zero}

-- ---- a tree with its own references

pub length-references : (n : Numbered) → length (references_in n) ≡ node_count (plain n)
length-references n =
    ap length (sym (references-are n)) ∙ length-map (stands_in n) (λ s. reference s.node) ∙ length-stands_in n round_root

mutual
  pub fresh-own : (n : Numbered) (more : List NodeRef) → fresh (references_in n ++ more) (plain n) ≡ n
  fresh-own (element_at r name attrs kids) more = ap (element_at r name attrs) (all_fresh-own kids more)
  fresh-own (text_at r bytes) more = refl

  all_fresh-own : (ns : Children) (more : List NodeRef) → all_fresh (references_of ns ++ more) (plain_children ns) ≡ ns
  all_fresh-own no_children more = refl
  all_fresh-own (child_then n ns) more =
      let whole : (references_in n ++ references_of ns) ++ more ≡ references_in n ++ (references_of ns ++ more) = append_assoc (references_in n) (references_of ns) more in
      ap (λ rs. child_then (fresh rs (plain n)) (all_fresh (drop (node_count (plain n)) rs) (plain_children ns))) whole
      ∙ ap₂ child_then (fresh-own n (references_of ns ++ more))
      (ap (λ rs. all_fresh rs (plain_children ns)) (drop_at (references_in n) (references_of ns ++ more) (node_count (plain n)) (length-references n)) ∙ all_fresh-own ns more)

-- ---- references in order

abbrev pub from : ℕ → ℕ → List NodeRef
from start count = map (λ k. record { 0 = k }) (range_with_len start count)

pub drop-from : (count more start : ℕ) → drop count (from start (count + more)) ≡ from (start + count) more
drop-from zero more start =
    let one : 0 + more ≡ more = omega arith in
    let two : start ≡ start + 0 = omega arith in
    ap (from start) one ∙ ap (λ k. from k more) two
drop-from (suc count) more start =
    let one : suc count + more ≡ suc (count + more) = omega arith in
    let two : start + 1 + count ≡ start + suc count = omega arith in
    ap (λ k. drop (suc count) (from start k)) one ∙ drop-from count more (start + 1) ∙ ap (λ k. from k more) two

mutual
  unfolding numbered children_numbered

  pub fresh-numbered : (n : Node) (start more : ℕ) → fresh (from start (node_count n + more)) n ≡ numbered start n
  fresh-numbered (element name attrs kids) start more =
      let one : 1 + nodes_count kids + more ≡ suc (nodes_count kids + more) = omega arith in
      let next : start + 1 ≡ suc start = omega arith in
      ap (λ k. fresh (from start k) (element name attrs kids)) one
      ∙ ap (element_at (record { 0 = start }) name attrs) (all_fresh-numbered kids (start + 1) more ∙ ap (λ k. children_numbered k kids) next)
  fresh-numbered (text bytes) start more =
      let one : 1 + more ≡ suc more = omega arith in
      ap (λ k. fresh (from start k) (text bytes)) one

  all_fresh-numbered : (ns : Nodes) (start more : ℕ) → all_fresh (from start (nodes_count ns + more)) ns ≡ children_numbered start ns
  all_fresh-numbered no_nodes start more = refl
  all_fresh-numbered (node_then n ns) start more =
      let whole : node_count n + nodes_count ns + more ≡ node_count n + (nodes_count ns + more) = omega arith in
      ap (λ k. all_fresh (from start k) (node_then n ns)) whole
      ∙ ap₂ child_then (fresh-numbered n start (nodes_count ns + more))
      (ap (λ rs. all_fresh rs ns) (drop-from (node_count n) (nodes_count ns + more) start) ∙ all_fresh-numbered ns (start + node_count n) more)

-- ---- where a reference stands

abbrev pub number_in : ℕ → List NodeRef → NodeRef → ℕ
number_in start [] r = start
number_in start (q ∷ qs) r = cond (is_same r q) start (number_in (start + 1) qs r)

abbrev pub numbering : ℕ → List NodeRef → NodeRef → NodeRef
numbering start refs r = record { 0 = number_in start refs r }

-- others than the first are numbered without it
passed : (start : ℕ) (q : NodeRef) (refs rs : List NodeRef) → times q rs ≡ 0 → map (numbering start (q ∷ refs)) rs ≡ map (numbering (start + 1) refs) rs
passed start q refs [] none = refl
passed start q refs (r ∷ rs) none =
    let differs : is_same q r ≡ false = weight_zero (is_same q r) (times q rs) none in
    let other : is_same r q ≡ false = turned q r ∙ differs in
    ap₂ (λ (k : ℕ) (l : List NodeRef). record { 0 = k } ∷ l) (cond-false (is_same r q) _ _ other) (passed start q refs rs (omega (arith, none)))

pub numbers : (start : ℕ) (refs : List NodeRef) → Distinct refs → map (numbering start refs) refs ≡ from start (length refs)
numbers start [] d = refl
numbers start (q ∷ refs) d =
    ap₂ (λ (k : ℕ) (l : List NodeRef). record { 0 = k } ∷ l) (cond-true (is_same q q) _ _ (same_self q))
    (passed start q refs refs (distinct_first q refs d) ∙ numbers (start + 1) refs (distinct_rest q refs d))

least : (start : ℕ) (refs : List NodeRef) (r : NodeRef) → start ≤ number_in start refs r
least start [] r = omega arith
least start (q ∷ refs) r = elim (cases_Bool (is_same r q)) [
  | inl same ↦ rw same (omega arith)
  | inr differs ↦ rw differs (omega (arith, least (start + 1) refs r))
]

-- no other has the number of one that is there
one-number : (start : ℕ) (refs : List NodeRef) (r q : NodeRef) → 1 ≤ times r refs → number_in start refs q ≡ number_in start refs r → r ≡ q
one-number start [] r q there is = absurd (omega (arith, there))
one-number start (p ∷ refs) r q there is = elim (cases_Bool (is_same r p)) [
  | inl same ↦ elim (cases_Bool (is_same q p)) [
    | inl also ↦ same_ref r p same ∙ sym (same_ref q p also)
    | inr other ↦ absurd (omega (arith, least (start + 1) refs q, sym (cond-false (is_same q p) _ _ other) ∙ is ∙ cond-true (is_same r p) _ _ same))
  ]
  | inr differs ↦ elim (cases_Bool (is_same q p)) [
    | inl also ↦ absurd (omega (arith, least (start + 1) refs r, sym (cond-true (is_same q p) _ _ also) ∙ is ∙ cond-false (is_same r p) _ _ differs))
    | inr other ↦
        one-number (start + 1) refs r q (omega (arith, there, weight_no (is_same r p) differs))
        (sym (cond-false (is_same q p) _ _ other) ∙ is ∙ cond-false (is_same r p) _ _ differs)
  ]
]

-- a renaming keeps a reference apart from all others
abbrev pub Kept : (NodeRef → NodeRef) → NodeRef → Type 0
Kept move r = (q : NodeRef) → is_same (move r) (move q) ≡ is_same r q

pub kept-numbers : (start : ℕ) (refs : List NodeRef) (r : NodeRef) → 1 ≤ times r refs → Kept (numbering start refs) r
kept-numbers start refs r there q =
    same_tests (is_same (numbering start refs r) (numbering start refs q)) (is_same r q)
    (λ h. ap (is_same r) (sym (one-number start refs r q there (eqb-true (number_in start refs q) (number_in start refs r) h))) ∙ same_self r)
    (λ h. ap (λ p. is_same (numbering start refs r) (numbering start refs p)) (sym (same_ref r q h)) ∙ same_self (numbering start refs r))
