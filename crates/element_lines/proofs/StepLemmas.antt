-- The steps to an element are those to its parent, and one more.
use Rattle.std.proofs.Common.{◌≡◌, ◌-◌, ◌<◌, ◌≤◌, ℕ, zero, suc, List, [], ◌∷◌, ◌++◌, length, get_or, Option, Some, None, refl, sym, ap, ap₂, ◌∙◌, arith}
use Rattle.std.specs.Prelude.{option_and_then}
use Rattle.std.proofs.lemmas.Option.{same_Some}
use Rattle.plain_tree.specs.Document.{Node, text}
use Rattle.ordered_tree.specs.Numbered as numbered
use Rattle.ordered_tree.specs.Numbered.{Numbered, element_at, text_at, Children, no_children, child_then, plain, plain_children}
use Rattle.ordered_tree.specs.Places as places
use Rattle.ordered_tree.specs.Places.{at_place}
use Rattle.ordered_tree.specs.Stands.{OnNode}
use Rattle.ft_base.specs.declared.ids.NodeRef.{NodeRef}
use Rattle.path_nodes.specs.References.{IsElement, element_of}
use Rattle.path_nodes.proofs.ChildrenLemmas.{on_element}
use Rattle.path_nodes.proofs.PlaceLemmas.{element-is, led}
use Rattle.path_nodes.proofs.WayLemmas.{Parent}
use Rattle.element_lines.specs.steps.Numbers.{last, number_of}
use Rattle.element_lines.specs.LocationSteps.{Step, step, listed, children, child, name_of, step_to, steps_below, steps_to}

-- the node at a place
abbrev pub below : Node → List ℕ → Node
below n [] = n
below n (k ∷ place) = below (child n k) place

below-further : (place : List ℕ) (n : Node) (k : ℕ) → below n (place ++ k ∷ []) ≡ child (below n place) k
below-further [] n k = refl
below-further (j ∷ place) n k = below-further place (child n j) k

steps_below-further : (place : List ℕ) (n : Node) (k : ℕ) → steps_below n (place ++ k ∷ []) ≡ steps_below n place ++ step_to (below n place) k ∷ []
unfolding steps_below
steps_below-further [] n k = refl
steps_below-further (j ∷ place) n k = ap (λ l. step_to n j ∷ l) (steps_below-further place (child n j) k)

last-is : (steps : List Step) (s : Step) → last (steps ++ s ∷ []) ≡ s
last-is [] s = refl
last-is (t ∷ []) s = refl
last-is (t ∷ u ∷ steps) s = last-is (u ∷ steps) s

-- ---- the child of a number

child-zero : (ns : Children) (n : Numbered) → places.child zero ns ≡ Some n → ⊥
child-zero no_children n is = cc
child-zero (child_then m ms) n is = cc

pub child-some : (k : ℕ) (ns : Children) (n : Numbered) → places.child k ns ≡ Some n → 0 < k
child-some zero ns n is = absurd (child-zero ns n is)
child-some (suc k) ns n is = omega arith

child-after : (k : ℕ) (ns : Children) (n : Numbered) (d : Node) → places.child (suc k) ns ≡ Some n → get_or (listed (plain_children ns)) k d ≡ plain n
child-after k no_children n d is = cc
child-after zero (child_then m ms) n d is = let same : m ≡ n = cc in ap plain same
child-after (suc k) (child_then m ms) n d is = child-after k ms n d is

child-within : (k : ℕ) (ns : Children) (n : Numbered) → places.child (suc k) ns ≡ Some n → k < length (listed (plain_children ns))
child-within k no_children n is = cc
child-within zero (child_then m ms) n is = omega arith
child-within (suc k) (child_then m ms) n is = let e : k < length (listed (plain_children ms)) = child-within k ms n is in omega arith

pub children-plain : (n : Numbered) → children (plain n) ≡ listed (plain_children (numbered.children n))
children-plain (element_at r name attrs kids) = refl
children-plain (text_at r bytes) = refl

pub child-is : (k : ℕ) (n m : Numbered) → places.child k (numbered.children n) ≡ Some m → child (plain n) k ≡ plain m
child-is zero n m is = absurd (child-zero (numbered.children n) m is)
child-is (suc k) n m is =
    let e : suc k - 1 ≡ k = omega arith in
    ap₂ (λ l i. get_or l i (text [])) (children-plain n) e ∙ child-after k (numbered.children n) m (text []) is

pub child-number : (k : ℕ) (n m : Numbered) → places.child k (numbered.children n) ≡ Some m → k ≤ length (children (plain n))
child-number zero n m is = omega arith
child-number (suc k) n m is =
    let e = child-within k (numbered.children n) m is in
    let f = ap length (children-plain n) in
    omega arith

pub record Between (place : List ℕ) (o : Option Numbered) (m : Numbered) : Type 0 where
  pub n : Numbered
  pub is : o ≡ Some n
  pub leads : at_place place n ≡ Some m

pub between : (place : List ℕ) (o : Option Numbered) (m : Numbered) → option_and_then (at_place place) o ≡ Some m → Between place o m
between place None m is = cc
between place (Some n) m is = record { n = n; is = refl; leads = is }

pub below-led : (place : List ℕ) (n m : Numbered) → at_place place n ≡ Some m → below (plain n) place ≡ plain m
below-led [] n m is = let same : n ≡ m = cc in ap plain same
below-led (k ∷ place) n m is =
    let b : Between place (places.child k (numbered.children n)) m = between place (places.child k (numbered.children n)) m is in
    ap (λ c. below c place) (child-is k n b.n b.is) ∙ below-led place b.n m b.leads

record Above (place : List ℕ) (k : ℕ) (n m : Numbered) : Type 0 where
  above : Numbered
  leads : at_place place n ≡ Some above
  is : places.child k (numbered.children above) ≡ Some m

above-child : (place : List ℕ) (k : ℕ) (n m : Numbered) → at_place (place ++ k ∷ []) n ≡ Some m → Above place k n m
above-child [] k n m is =
    let b : Between [] (places.child k (numbered.children n)) m = between [] (places.child k (numbered.children n)) m is in
    record { above = n; leads = refl; is = b.is ∙ b.leads }
above-child (j ∷ place) k n m is =
    let b : Between (place ++ k ∷ []) (places.child j (numbered.children n)) m = between (place ++ k ∷ []) (places.child j (numbered.children n)) m is in
    let a : Above place k b.n m = above-child place k b.n m b.leads in
    record { above = a.above; leads = ap (option_and_then (at_place place)) b.is ∙ a.leads; is = a.is }

-- ---- elements and their parents

-- the numbers of children count from 1 to that of all children
pub number-within : (root : Numbered) (parent r : NodeRef) → IsElement root parent → IsElement root r → (k : ℕ) → (element_of root r).place ≡ (element_of root parent).place ++ k ∷ [] → (0 < k) × (k ≤ length (children (element_of root parent).node))
number-within root parent r x y k at =
    let e = element-is root parent x in
    let place : y.spot.place ≡ x.spot.place ++ k ∷ [] = sym (ap (λ z. z.place) (element-is root r y)) ∙ at ∙ ap (λ z. z.place ++ k ∷ []) e in
    let a : Above x.spot.place k root y.spot.stand.node = above-child x.spot.place k root y.spot.stand.node (ap (λ p. at_place p root) (sym place) ∙ led root y.spot y.among) in
    let same : a.above ≡ x.spot.stand.node = same_Some a.above x.spot.stand.node (sym a.leads ∙ led root x.spot x.among) in
    let some = child-some k (numbered.children a.above) y.spot.stand.node a.is in
    let few = child-number k a.above y.spot.stand.node a.is in
    let count : length (children (plain a.above)) ≡ length (children (element_of root parent).node) = ap (λ n. length (children (plain n))) same ∙ sym (ap (λ z. length (children z.node)) e) in
    (some, omega arith)

pub at-element : (root : Numbered) (r : NodeRef) → IsElement root r → below (plain root) (element_of root r).place ≡ (element_of root r).node
at-element root r x =
    let e = element-is root r x in
    ap (λ y. below (plain root) y.place) e ∙ below-led x.spot.place root x.spot.stand.node (led root x.spot x.among) ∙ sym (ap (λ y. y.node) e)

module _ (root : Numbered) (node parent : NodeRef) (p : Parent root node parent) where
  pub steps-child : steps_to (plain root) (element_of root node).place ≡ steps_to (plain root) (element_of root parent).place ++ step_to (element_of root parent).node p.number ∷ []
  steps-child =
      let above = (element_of root parent).place in
      let first = step (name_of (plain root)) 1 in
      ap (steps_to (plain root)) p.place
      ∙ ap (λ l. first ∷ l) (steps_below-further above (plain root) p.number)
      ∙ ap (λ n. first ∷ (steps_below (plain root) above ++ step_to n p.number ∷ [])) (at-element root parent p.there)

  pub number-child : number_of root node ≡ (step_to (element_of root parent).node p.number).number
  unfolding number_of
  number-child =
      ap (λ l. (last l).number) steps-child
      ∙ ap (λ s. s.number) (last-is (steps_to (plain root) (element_of root parent).place) (step_to (element_of root parent).node p.number))

  pub node-child : IsElement root node → child (element_of root parent).node p.number ≡ (element_of root node).node
  node-child x =
      let above = (element_of root parent).place in
      ap (λ n. child n p.number) (sym (at-element root parent p.there))
      ∙ sym (below-further above (plain root) p.number)
      ∙ ap (below (plain root)) (sym p.place)
      ∙ at-element root node x

  -- the steps to an element, by its name and its number
  pub steps-further : IsElement root node → steps_to (plain root) (element_of root node).place
      ≡ steps_to (plain root) (element_of root parent).place ++ step (name_of (element_of root node).node) (number_of root node) ∷ []
  steps-further x =
      steps-child
      ∙ ap₂ (λ name number. steps_to (plain root) (element_of root parent).place ++ step name number ∷ []) (ap name_of (node-child x)) (sym number-child)

pub name-plain : (n : Numbered) (name : List ℕ) → numbered.name_of n ≡ Some name → name ≡ name_of (plain n)
name-plain (element_at r own attrs kids) name is = cc
name-plain (text_at r bytes) name is = cc

pub element-name : (root : Numbered) (r : NodeRef) → IsElement root r → (name : List ℕ) → OnNode root r (λ s. numbered.name_of s.node ≡ Some name) → name ≡ name_of (element_of root r).node
element-name root r x name on =
    name-plain x.spot.stand.node name (on_element root r x (λ s. numbered.name_of s.node ≡ Some name) on) ∙ sym (ap (λ e. name_of e.node) (element-is root r x))

-- the steps to the root
pub steps-root : (root : Numbered) (r : NodeRef) → IsElement root r → (element_of root r).place ≡ [] → steps_to (plain root) (element_of root r).place ≡ step (name_of (element_of root r).node) 1 ∷ []
unfolding steps_below
steps-root root r x none =
    ap (steps_to (plain root)) none
    ∙ ap (λ n. step (name_of n) 1 ∷ []) (sym (ap (below (plain root)) none) ∙ at-element root r x)
