-- The leaves of a tree have different numbers where its nodes have different references.
use Rattle.std.proofs.Common.{◌≡◌, ◌≢◌, ◌∙◌, sym, ap, ap₂, refl, ℕ, Bool, true, false, not, ◌==◌, cond, List, [], ◌∷◌, ◌++◌, map, filter}
use Rattle.std.specs.Prelude.{Option, Some, None, AllPairs}
use Rattle.std.specs.Bool.{Decides}
use Rattle.std.specs.List.{AllByRecursion, IsDistinct}
use Rattle.std.proofs.lemmas.Bool.{and_from, eq-eqb, eqb-true, not_from_false, or_from}
use Rattle.std.proofs.lemmas.List.{map-append}
use Rattle.std.proofs.lemmas.List.Elements.{filter-append}
use Rattle.std.proofs.lemmas.Map.Made.{IsDistinct-from_AllPairs}
use Rattle.index_document.specs.Terms.{are_distinct, has}
use Rattle.ft_base.specs.declared.ids.LeafId.{LeafId}
use Rattle.ft_base.specs.declared.ids.NodeRef.{NodeRef}
use Rattle.index_meaning.specs.Documents.{leaf_ids}
use Rattle.ordered_tree.specs.Leaves.{leaf_of, leaves, leaves_after, texts, texts_of}
use Rattle.ordered_tree.specs.Numbered.{Numbered, element_at, text_at, Children, no_children, child_then, first_of, is_element, reference}
use Rattle.ordered_tree.specs.Stands.{Stand, child_stands, references, round_first, round_next, round_root, stands, stands_in}
use Rattle.ordered_tree.specs.declared.around.Around.{Around}
use Rattle.index_updates.specs.Follows.{word_leaves}

abbrev is_text : Stand → Bool
is_text s = not (is_element s.node)

abbrev number_of : Stand → ℕ
number_of s = (reference s.node).0

-- the numbers of texts, which are those of their leaves
abbrev text_numbers : List (NodeRef × List ℕ) → List ℕ
text_numbers [] = []
text_numbers ((r, bytes) ∷ rest) = r.0 ∷ text_numbers rest

text_numbers-append : (xs ys : List (NodeRef × List ℕ)) → text_numbers (xs ++ ys) ≡ text_numbers xs ++ text_numbers ys
text_numbers-append [] ys = refl
text_numbers-append ((r, bytes) ∷ xs) ys = ap (λ ns. r.0 ∷ ns) (text_numbers-append xs ys)

leaf_numbers : (before : Option LeafId) (ts : List (NodeRef × List ℕ)) → leaf_ids (word_leaves (leaves_after before ts)) ≡ text_numbers ts
unfolding leaves_after
leaf_numbers before [] = refl
leaf_numbers before ((r, bytes) ∷ ts) = ap (λ ns. r.0 ∷ ns) (leaf_numbers (Some (leaf_of r)) ts)

-- the texts are the nodes that are no elements
abbrev numbers_in : List Stand → List ℕ
numbers_in ss = map number_of (filter is_text ss)

numbers_in-append : (xs ys : List Stand) → numbers_in (xs ++ ys) ≡ numbers_in xs ++ numbers_in ys
numbers_in-append xs ys = ap (map number_of) (filter-append is_text xs ys) ∙ map-append number_of (filter is_text xs) (filter is_text ys)

mutual
  unfolding stands

  texts-stand : (a : Around) (n : Numbered) → numbers_in (stands a n) ≡ text_numbers (texts n)
  texts-stand a (element_at r name attrs kids) = texts-stand-below (round_first a.before r) kids
  texts-stand a (text_at r bytes) = refl

  texts-stand-below : (a : Around) (ns : Children) → numbers_in (child_stands a ns) ≡ text_numbers (texts_of ns)
  texts-stand-below a no_children = refl
  texts-stand-below a (child_then n ns) =
      let first : Around = record a { next = first_of ns } in
      numbers_in-append (stands first n) (child_stands (round_next a n) ns)
      ∙ (ap₂ (λ x y. x ++ y) (texts-stand first n) (texts-stand-below (round_next a n) ns) ∙ sym (text_numbers-append (texts n) (texts_of ns)))

-- ---- no number stands twice

abbrev same_number : NodeRef → NodeRef → Bool
same_number a b = b.0 == a.0

same-decides : (a b : NodeRef) → Decides (same_number a b) (a ≡ b)
same-decides a b = ((λ h. ap (λ (n : ℕ). let named : NodeRef = record { 0 = n } in named) (sym (eqb-true b.0 a.0 h))), (λ h. eq-eqb b.0 a.0 (sym (ap (λ (r : NodeRef). r.0) h))))

not_among : (r : NodeRef) (ss : List Stand) → AllByRecursion (λ other. same_number r other ≡ false) (map (λ s. reference s.node) ss) → has r.0 (numbers_in ss) ≡ false
not_among r [] apart = refl
not_among r (s ∷ ss) apart =
    elim (is_text s) as (λ t. has r.0 (map number_of (cond t (s ∷ filter is_text ss) (filter is_text ss))) ≡ false)
    [ true ↦ or_from (number_of s == r.0) (has r.0 (numbers_in ss)) apart.0 (not_among r ss apart.1) | false ↦ not_among r ss apart.1 ]

distinct-texts : (ss : List Stand) → IsDistinct same_number (map (λ s. reference s.node) ss) → are_distinct (numbers_in ss) ≡ true
unfolding IsDistinct
distinct-texts [] apart = refl
distinct-texts (s ∷ ss) apart =
    elim (is_text s) as (λ t. are_distinct (map number_of (cond t (s ∷ filter is_text ss) (filter is_text ss))) ≡ true) [
      | true ↦ and_from (not (has (number_of s) (numbers_in ss))) (are_distinct (numbers_in ss)) (not_from_false (has (number_of s) (numbers_in ss)) (not_among (reference s.node) ss apart.0)) (distinct-texts ss apart.1)
      | false ↦ distinct-texts ss apart.1
    ]

pub distinct-leaves : (root : Numbered) → AllPairs (λ a b. a ≢ b) (references root) → are_distinct (leaf_ids (word_leaves (leaves root))) ≡ true
distinct-leaves root apart =
    ap are_distinct (leaf_numbers None (texts root) ∙ sym (texts-stand round_root root))
    ∙ distinct-texts (stands_in root) (IsDistinct-from_AllPairs same-decides (references root) apart)
