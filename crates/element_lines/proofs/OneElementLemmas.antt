-- Elements with the same steps are one.
use Rattle.std.proofs.Common.{◌≡◌, ◌+◌, ◌-◌, ◌<◌, inl, inr, ℕ, Bool, true, cond, List, [], ◌∷◌, take, drop, length, get_or, Some, refl, sym, ap, ◌∙◌, arith}
use Rattle.std.specs.Prelude.{count_by}
use Rattle.std.proofs.Math.Seq.{take-add}
use Rattle.std.proofs.lemmas.Bool.{cases_lt}
use Rattle.std.proofs.lemmas.List.Sums.{sum_by-append, count_by_more_yes}
use Rattle.std.proofs.lemmas.Slice.Eq.{bytes_eq-Decides}
use Rattle.std.proofs.lemmas.Option.{same_Some}
use Rattle.plain_tree.specs.Document.{Node, text}
use Rattle.ordered_tree.specs.Numbered as numbered
use Rattle.ordered_tree.specs.Numbered.{Numbered, element_at, text_at, plain, is_element}
use Rattle.ordered_tree.specs.Places as places
use Rattle.ordered_tree.specs.Places.{at_place}
use Rattle.ft_base.specs.declared.ids.NodeRef.{NodeRef}
use Rattle.path_nodes.specs.References.{IsElement, element_of}
use Rattle.path_nodes.proofs.PlaceLemmas.{element-is, led, one-reference}
use Rattle.element_lines.specs.LocationSteps.{Step, step, children, child, name_of, is_named, step_to, steps_below, steps_to}
use Rattle.element_lines.proofs.NumberLemmas.{element-named}
use Rattle.element_lines.proofs.StepLemmas.{Between, between, child-is, child-some, child-number}

-- ---- the counts of a name differ from child to child of that name

count-less : (p : Node → Bool) (l : List Node) (i j : ℕ) → i < length l → i < j → p (get_or l i (text [])) ≡ true → count_by p (take i l) < count_by p (take j l)
count-less p l i j within less is =
    let m = j - (i + 1) in
    let e : i + 1 + m ≡ j = omega arith in
    let one = count_by_more_yes p l i (text []) within is in
    let all : count_by p (take j l) ≡ count_by p (take (i + 1) l) + count_by p (take m (drop (i + 1) l)) =
    ap (λ k. count_by p (take k l)) (sym e) ∙ ap (count_by p) (take-add (i + 1) m l)
    ∙ sum_by-append (λ n. cond (p n) 1 0) (take (i + 1) l) (take m (drop (i + 1) l)) in
    omega arith

module _ (n : Numbered) where
  named-there : (k : ℕ) (m : Numbered) → places.child k (numbered.children n) ≡ Some m → is_element m ≡ true → (name : List ℕ) → name ≡ name_of (child (plain n) k)
      → is_named name (get_or (children (plain n)) (k - 1) (text [])) ≡ true
  named-there k m is element name called =
      let same = child-is k n m is in
      ap (is_named name) same ∙ element-named name m element ∙ (bytes_eq-Decides name (name_of (plain m))).1 (called ∙ ap name_of same)

  numbers-less : (j k : ℕ) (c d : Numbered) → places.child j (numbered.children n) ≡ Some c → places.child k (numbered.children n) ≡ Some d → is_element c ≡ true
      → j < k → step_to (plain n) j ≡ step_to (plain n) k → ⊥
  numbers-less j k c d at-j at-k element less same =
      let name : List ℕ = name_of (child (plain n) k) in
      let some = child-some j (numbered.children n) c at-j in
      let few = child-number j n c at-j in
      let names : name ≡ name_of (child (plain n) j) = sym (ap (λ s. s.name) same) in
      let more = count-less (is_named name) (children (plain n)) (j - 1) (k - 1) (omega arith) (omega arith) (named-there j c at-j element name names) in
      let counts : count_by (is_named name) (take (j - 1) (children (plain n))) + 1 ≡ count_by (is_named name) (take (k - 1) (children (plain n))) + 1 =
      ap (λ w. count_by (is_named w) (take (j - 1) (children (plain n))) + 1) names ∙ ap (λ s. s.number) same in
      omega arith

  one-child : (j k : ℕ) (c d : Numbered) → places.child j (numbered.children n) ≡ Some c → places.child k (numbered.children n) ≡ Some d → is_element c ≡ true → is_element d ≡ true
      → step_to (plain n) j ≡ step_to (plain n) k → j ≡ k
  one-child j k c d at-j at-k element element' same =
      elim (cases_lt j k) [
        | inl less ↦ absurd (numbers-less j k c d at-j at-k element less same)
        | inr rest ↦ elim (cases_lt k j) [
          | inl less ↦ absurd (numbers-less k j d c at-k at-j element' less (sym same))
          | inr other ↦ omega (arith, rest, other)
        ]
      ]

-- ---- places with the same steps

-- a node at or above an element is an element
above-element : (place : List ℕ) (n m : Numbered) → at_place place n ≡ Some m → is_element m ≡ true → is_element n ≡ true
above-element [] n m is element = let same : n ≡ m = cc in ap is_element same ∙ element
above-element (k ∷ place) (element_at r name attrs kids) m is element = refl
above-element (k ∷ place) (text_at r bytes) m is element = cc

same-head : (s t : Step) (ss ts : List Step) → s ∷ ss ≡ t ∷ ts → s ≡ t
same-head s t ss ts h = cc

same-tail : (s t : Step) (ss ts : List Step) → s ∷ ss ≡ t ∷ ts → ss ≡ ts
same-tail s t ss ts h = cc

one-place : (p q : List ℕ) (n m o : Numbered) → at_place p n ≡ Some m → at_place q n ≡ Some o → is_element m ≡ true → is_element o ≡ true → steps_below (plain n) p ≡ steps_below (plain n) q → p ≡ q
unfolding steps_below
one-place [] [] n m o at-p at-q element element' same = refl
one-place [] (k ∷ q) n m o at-p at-q element element' same = cc
one-place (j ∷ p) [] n m o at-p at-q element element' same = cc
one-place (j ∷ p) (k ∷ q) n m o at-p at-q element element' same =
    let b : Between p (places.child j (numbered.children n)) m = between p (places.child j (numbered.children n)) m at-p in
    let d : Between q (places.child k (numbered.children n)) o = between q (places.child k (numbered.children n)) o at-q in
    let first : step_to (plain n) j ≡ step_to (plain n) k = same-head (step_to (plain n) j) (step_to (plain n) k) (steps_below (child (plain n) j) p) (steps_below (child (plain n) k) q) same in
    let e : j ≡ k = one-child n j k b.n d.n b.is d.is (above-element p b.n m b.leads element) (above-element q d.n o d.leads element') first in
    let one : b.n ≡ d.n = same_Some b.n d.n (sym b.is ∙ ap (λ i. places.child i (numbered.children n)) e ∙ d.is) in
    let rest : steps_below (plain b.n) p ≡ steps_below (plain b.n) q =
    ap (λ c. steps_below c p) (sym (child-is j n b.n b.is))
    ∙ same-tail (step_to (plain n) j) (step_to (plain n) k) (steps_below (child (plain n) j) p) (steps_below (child (plain n) k) q) same
    ∙ ap (λ c. steps_below c q) (child-is k n d.n d.is ∙ ap plain (sym one)) in
    let other : p ≡ q = one-place p q b.n m o b.leads (ap (at_place q) one ∙ d.leads) element element' rest in
    ap (λ i. i ∷ p) e ∙ ap (λ l. k ∷ l) other

pub one-element : (root : Numbered) (r q : NodeRef) → IsElement root r → IsElement root q → steps_to (plain root) (element_of root r).place ≡ steps_to (plain root) (element_of root q).place → r ≡ q
one-element root r q x y same =
    let first : Step = step (name_of (plain root)) 1 in
    let e = ap (λ z. z.place) (element-is root r x) in
    let f = ap (λ z. z.place) (element-is root q y) in
    let below : steps_below (plain root) x.spot.place ≡ steps_below (plain root) y.spot.place =
    ap (steps_below (plain root)) (sym e) ∙ same-tail first first (steps_below (plain root) (element_of root r).place) (steps_below (plain root) (element_of root q).place) same ∙ ap (steps_below (plain root)) f in
    one-reference root r q x y
    (e ∙ one-place x.spot.place y.spot.place root x.spot.stand.node y.spot.stand.node (led root x.spot x.among) (led root y.spot y.among) x.element y.element below ∙ sym f)
