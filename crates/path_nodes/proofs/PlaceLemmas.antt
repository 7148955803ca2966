-- No two nodes of a document have the same place.
use Rattle.std.proofs.Common.{◌≡◌, ◌+◌, ◌==◌, ℕ, suc, Bool, List, [], ◌∷◌, ◌++◌, map, Some, refl, sym, ap, ◌∙◌, arith, append_assoc, append-nil}
use Rattle.std.specs.List.{All, Contains}
use Rattle.std.specs.Prelude.{option_and_then}
use Rattle.std.proofs.lemmas.Bool.Decides.{nat_tests}
use Rattle.std.proofs.lemmas.List.Elements.{All-nil, All-cons, All-head, All-tail, All-append, All-contains}
use Rattle.std.proofs.lemmas.Slice.Eq.{bytes_eq-Decides}
use Rattle.path_grammar.specs.declared.path.NameTest.TheVariants as T
use Rattle.path_meaning.specs.Elements.{is_same}
use Rattle.path_meaning.specs.Meaning.{is_named}
use Rattle.ordered_tree.specs.Numbered.{Numbered, element_at, text_at, Children, no_children, child_then, plain, reference, first_of, has_name}
use Rattle.ordered_tree.specs.Places.{at_place, child}
use Rattle.ordered_tree.specs.Stands.{Stand, OnNode, round_root, round_first, round_next, stands_in}
use Rattle.ordered_tree.specs.declared.around.Around.{Around}
use Rattle.ft_base.specs.declared.ids.NodeRef.{NodeRef}
use Rattle.ft_base.proofs.Truth.{same_tests}
use Rattle.path_nodes.specs.Says.{reference_of, reference_or}
use Rattle.path_nodes.specs.References.{Spot, spots, child_spots, spots_in, spot_element, element_of, IsElement}
use Rattle.ordered_tree.proofs.LawsLemmas.{one-node}
use Rattle.path_nodes.proofs.SpotLemmas.{element_of-is, of_number, spot-stand}

-- what a place leads to below a node, and among nodes the first of which has a number
abbrev Led : List ℕ → Numbered → Spot → Type 0
Led place n s = (r : List ℕ) × (s.place ≡ place ++ r) × (at_place r n ≡ Some s.stand.node)

abbrev LedAmong : List ℕ → ℕ → Children → Spot → Type 0
LedAmong above number ns s = (k : ℕ) × (r : List ℕ) × (s.place ≡ above ++ (k + number) ∷ r) × (option_and_then (at_place r) (child (suc k) ns) ≡ Some s.stand.node)

mutual
  unfolding spots child_spots

  from : (place : List ℕ) (a : Around) (n : Numbered) → All (Led place n) (spots place a n)
  from place a (text_at r bytes) =
      All-cons (Led place (text_at r bytes)) (record { place = place; stand = record { node = text_at r bytes; around = a } }) [] ([], sym (append-nil place), refl) (All-nil (Led place (text_at r bytes)))
  from place a (element_at r name attrs kids) =
      All-cons (Led place (element_at r name attrs kids)) (record { place = place; stand = record { node = element_at r name attrs kids; around = a } }) (child_spots place 1 (round_first a.before r) kids)
      ([], sym (append-nil place), refl)
      (λ k d within. let b = among place 1 (round_first a.before r) kids k d within in
      let e : b.0 + 1 ≡ suc b.0 = omega arith in
      (suc b.0 ∷ b.1, b.2 ∙ ap (λ n. place ++ n ∷ b.1) e, b.3))

  among : (above : List ℕ) (number : ℕ) (a : Around) (ns : Children) → All (LedAmong above number ns) (child_spots above number a ns)
  among above number a no_children = All-nil (LedAmong above number no_children)
  among above number a (child_then n ns) =
      All-append (LedAmong above number (child_then n ns)) (spots (above ++ number ∷ []) (record a { next = first_of ns }) n) (child_spots above (number + 1) (round_next a n) ns)
      (λ k d within. let b = from (above ++ number ∷ []) (record a { next = first_of ns }) n k d within in
      let e : number ≡ 0 + number = omega arith in
      (0, b.0, b.1 ∙ append_assoc above (number ∷ []) b.0 ∙ ap (λ n. above ++ n ∷ b.0) e, b.2))
      (λ k d within. let b = among above (number + 1) (round_next a n) ns k d within in
      let e : b.0 + (number + 1) ≡ suc b.0 + number = omega arith in
      (suc b.0, b.1, b.2 ∙ ap (λ n. above ++ n ∷ b.1) e, b.3))

pub led : (root : Numbered) (s : Spot) → Contains (spots_in root) s → at_place s.place root ≡ Some s.stand.node
led root s h = let b = All-contains (Led [] root) (spots_in root) s (from [] round_root root) h in ap (λ p. at_place p root) b.1 ∙ b.2

same-node : (m n : Numbered) → Some m ≡ Some n → m ≡ n
same-node m n h = cc

pub one-place : (root : Numbered) (s t : Spot) → Contains (spots_in root) s → Contains (spots_in root) t → s.place ≡ t.place → s.stand.node ≡ t.stand.node
one-place root s t h i e = same-node s.stand.node t.stand.node (sym (led root s h) ∙ ap (λ p. at_place p root) e ∙ led root t i)

pub element-is : (root : Numbered) (r : NodeRef) (x : IsElement root r) → element_of root r ≡ spot_element x.spot
element-is root r x = ap (element_of root) (sym x.refers) ∙ element_of-is root x.spot x.among x.apart

-- elements of one place have one reference
pub one-reference : (root : Numbered) (r q : NodeRef) → IsElement root r → IsElement root q → (element_of root r).place ≡ (element_of root q).place → r ≡ q
one-reference root r q x y e =
    let same = one-place root x.spot y.spot x.among y.among (ap (λ z. z.place) (sym (element-is root r x)) ∙ e ∙ ap (λ z. z.place) (element-is root q y)) in
    sym x.refers ∙ ap reference same ∙ y.refers

pub same-element : (root : Numbered) (r q : NodeRef) → IsElement root r → IsElement root q → (r.0 == q.0) ≡ is_same (element_of root r) (element_of root q)
same-element root r q x y =
    let p = (element_of root r).place in
    let t = (element_of root q).place in
    same_tests (r.0 == q.0) (is_same (element_of root r) (element_of root q))
    (λ h. let e : r.0 ≡ q.0 = grind (arith, nat_tests, h) in let same : r ≡ q = ap of_number e in (bytes_eq-Decides p t).1 (ap (λ n. (element_of root n).place) same))
    (λ h. let same : r ≡ q = one-reference root r q x y ((bytes_eq-Decides p t).0 h) in let e : r.0 ≡ q.0 = ap (λ n. n.0) same in grind (arith, nat_tests, e))

-- what stands there of a reference is one
pub one-stand : (root : Numbered) (r : NodeRef) (x : IsElement root r) (s : Stand) → Contains (stands_in root) s → reference s.node ≡ r → s ≡ x.spot.stand
one-stand root r x s among refers = one-node root x.apart s x.spot.stand among (spot-stand root x.spot x.among) (refers ∙ sym x.refers)

named-plain : (wanted : List ℕ) (n : Numbered) → has_name wanted n ≡ is_named (T.Name wanted) (plain n)
named-plain wanted (element_at r own attrs kids) = refl
named-plain wanted (text_at r bytes) = refl

pub element-named : (root : Numbered) (r : NodeRef) (x : IsElement root r) (wanted : List ℕ) (b : Bool) → OnNode root r (λ s. b ≡ has_name wanted s.node)
    → b ≡ is_named (T.Name wanted) (element_of root r).node
element-named root r x wanted b on =
    on x.spot.stand (spot-stand root x.spot x.among) x.refers
    ∙ (named-plain wanted x.spot.stand.node
    ∙ ap (λ e. is_named (T.Name wanted) e.node) (sym (element-is root r x)))

-- the reference of the element that a reference names
pub reference-back : (root : Numbered) (r : NodeRef) → IsElement root r → reference_of root (element_of root r) ≡ r
unfolding reference_of
reference-back root r x =
    ap (λ e. reference_or (reference root) (at_place e.place root)) (element-is root r x)
    ∙ ap (reference_or (reference root)) (led root x.spot x.among)
    ∙ x.refers

pub references-back : (root : Numbered) (rs : List NodeRef) → All (IsElement root) rs → map (reference_of root) (map (element_of root) rs) ≡ rs
references-back root [] h = refl
references-back root (r ∷ rs) h =
    ap (λ x. x ∷ map (reference_of root) (map (element_of root) rs)) (reference-back root r (All-head (IsElement root) r rs h))
    ∙ ap (λ l. r ∷ l) (references-back root rs (All-tail (IsElement root) r rs h))
