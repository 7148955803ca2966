-- Numbers of one more child.
use Rattle.std.proofs.Common.{◌≡◌, ◌+◌, ◌<◌, ◌≤◌, inl, inr, ℕ, suc, Bool, true, false, cond, List, [], ◌∷◌, ◌++◌, length, Option, Some, None, refl, sym, ap, ◌∙◌, subst, arith, zero-add, add-zero}
use Rattle.std.specs.List.{Contains}
use Rattle.std.specs.Prelude.{count_by, nat_eq, is_some, IsSome}
use Rattle.std.specs.Str.{bytes_eq}
use Rattle.std.proofs.lemmas.Bool.{cases_lt}
use Rattle.std.proofs.lemmas.Bool.Decides.{nat_tests}
use Rattle.std.proofs.lemmas.List.{length_push}
use Rattle.std.proofs.lemmas.List.Sums.{sum_by-append, count_by-le-length}
use Rattle.doc_grammar.specs.Limits.{node_count}
use Rattle.plain_tree.specs.Document.{Node}
use Rattle.ordered_tree.specs.Numbered.{Numbered, element_at, text_at, plain, is_element, name_of}
use Rattle.ordered_tree.specs.Stands.{OnNode, references}
use Rattle.ft_base.specs.declared.ids.NodeRef.{NodeRef}
use Rattle.path_nodes.specs.References.{element_of, IsElement}
use Rattle.path_nodes.proofs.ChildrenLemmas.{Reading, Next, next, there, on, left, smaller, past-text, past-element, is-child}
use Rattle.path_nodes.proofs.PlaceLemmas.{element-is, one-place, one-reference}
use Rattle.path_nodes.proofs.SpotLemmas.{of_number}
use Rattle.element_lines.specs.declared.counts.Counts.{Counts}
use Rattle.element_lines.specs.steps.Children.{Parted}
use Rattle.element_lines.specs.steps.Counts.{count_of}
use Rattle.element_lines.specs.steps.Numbers.{number_of, kept, AreNumbers, IsChild}
use Rattle.element_lines.specs.LocationSteps as steps
use Rattle.element_lines.specs.LocationSteps.{is_named}
use Rattle.element_lines.proofs.ChildLemmas.{Child, next-child, all-children, spot, spot-among, on-child, child-named, parted-next, child-numbered}
use Rattle.element_lines.proofs.FewLemmas.{prefix-few}
use Rattle.element_lines.proofs.StepLemmas.{name-plain, number-within}

-- ---- counts of names

pub count-push : (p : Node → Bool) (prefix : List Node) (n : Node) → count_by p (prefix ++ n ∷ []) ≡ count_by p prefix + cond (p n) 1 0
count-push p prefix n = sum_by-append (λ m. cond (p m) 1 0) prefix (n ∷ []) ∙ ap (λ k. count_by p prefix + k) (zero-add (cond (p n) 1 0))

pub text-unnamed : (name : List ℕ) (n : Numbered) → is_element n ≡ false → is_named name (plain n) ≡ false
text-unnamed name (element_at r own attrs kids) h = cc
text-unnamed name (text_at r bytes) h = refl

pub element-named : (name : List ℕ) (n : Numbered) → is_element n ≡ true → is_named name (plain n) ≡ bytes_eq name (steps.name_of (plain n))
element-named name (element_at r own attrs kids) h = refl
element-named name (text_at r bytes) h = cc

abbrev pub AreCounts : Counts → List Node → Type 0
AreCounts counts prefix = (name : List ℕ) → count_of counts name ≡ count_by (is_named name) prefix

module _ (counts : Counts) (prefix : List Node) (counted : AreCounts counts prefix) (n : Numbered) where
  pub counts-text : is_element n ≡ false → AreCounts counts (prefix ++ plain n ∷ [])
  counts-text h name =
      let push = count-push (is_named name) prefix (plain n) in
      let none : cond (is_named name (plain n)) 1 0 ≡ 0 = ap (λ b. cond b 1 0) (text-unnamed name n h) in
      counted name ∙ sym (push ∙ ap (λ k. count_by (is_named name) prefix + k) none ∙ add-zero (count_by (is_named name) prefix))

  pub counts-element : (more : Counts) → is_element n ≡ true → ((other : List ℕ) → count_of more other ≡ count_of counts other + cond (bytes_eq other (steps.name_of (plain n))) 1 0) → AreCounts more (prefix ++ plain n ∷ [])
  counts-element more h one name =
      one name
      ∙ ap (λ k. k + cond (bytes_eq name (steps.name_of (plain n))) 1 0) (counted name)
      ∙ ap (λ b. count_by (is_named name) prefix + cond b 1 0) (sym (element-named name n h))
      ∙ sym (count-push (is_named name) prefix (plain n))

-- ---- numbers by reference

-- each element among the first children has a number
abbrev pub HaveNumbers : Numbered → NodeRef → List ℕ → List Node → Type 0
HaveNumbers root parent numbers prefix =
    (r : NodeRef) (k : ℕ) → IsElement root r → (element_of root r).place ≡ (element_of root parent).place ++ k ∷ [] → 0 < k → k ≤ length prefix → IsSome (kept numbers r.0)

-- a number was put in for a reference
abbrev pub Puts : List ℕ → List ℕ → NodeRef → ℕ → Type 0
Puts numbers more c number = (q : ℕ) → kept more q ≡ cond (nat_eq c.0 q) (Some number) (kept numbers q)

same-some : (a b : ℕ) → Some a ≡ Some b → a ≡ b
same-some a b h = cc

same-reference : (c r : NodeRef) → nat_eq c.0 r.0 ≡ true → c ≡ r
same-reference c r h = let e : c.0 ≡ r.0 = grind (arith, nat_tests, h) in ap of_number e

module _ (root : Numbered) (numbers more : List ℕ) (c : NodeRef) (number : ℕ) (puts : Puts numbers more c number) where
  pub numbers-more : AreNumbers root numbers → number ≡ number_of root c → AreNumbers root more
  numbers-more are is r k x h = by (nat_eq c.0 r.0) refl
    where
      by : (b : Bool) → nat_eq c.0 r.0 ≡ b → k ≡ number_of root r
      by true e = same-some k number (sym h ∙ puts r.0 ∙ ap (λ b. cond b (Some number) (kept numbers r.0)) e) ∙ is ∙ ap (number_of root) (same-reference c r e)
      by false e = are r k x (sym (puts r.0 ∙ ap (λ b. cond b (Some number) (kept numbers r.0)) e) ∙ h)

  still : (q : ℕ) → IsSome (kept numbers q) → IsSome (kept more q)
  still q there = by (nat_eq c.0 q) refl
    where
      by : (b : Bool) → nat_eq c.0 q ≡ b → IsSome (kept more q)
      by true e = ap is_some (puts q ∙ ap (λ b. cond b (Some number) (kept numbers q)) e)
      by false e = subst IsSome (sym (puts q ∙ ap (λ b. cond b (Some number) (kept numbers q)) e)) there

  itself : IsSome (kept more c.0)
  itself = let e : nat_eq c.0 c.0 ≡ true = grind (arith, nat_tests) in ap is_some (puts c.0 ∙ ap (λ b. cond b (Some number) (kept numbers c.0)) e)

  pub have-more : (parent : NodeRef) (prefix : List Node) (h : Child root parent c prefix) → IsElement root parent → IsElement root c → HaveNumbers root parent numbers prefix → HaveNumbers root parent more (prefix ++ plain h.n ∷ [])
  have-more parent prefix h x y have r k z at some within =
      elim (cases_lt (length prefix) k) [
        | inl last ↦
            let long = length_push prefix (plain h.n) in
            let e : k ≡ suc (length prefix) = omega (arith, last, within, long) in
            let place : (element_of root c).place ≡ (element_of root r).place =
            ap (λ e. e.place) (child-named root parent prefix x c h) ∙ ap (λ j. (element_of root parent).place ++ j ∷ []) (sym e) ∙ sym at in
            subst (λ q. IsSome (kept more q.0)) (one-reference root c r y z place) itself
        | inr before ↦ still r.0 (have r k z at some (omega (arith, before)))
      ]

-- a text has no number
pub have-text : (root : Numbered) (parent c : NodeRef) (numbers : List ℕ) (prefix : List Node) (h : Child root parent c prefix) → IsElement root parent → is_element h.n ≡ false → HaveNumbers root parent numbers prefix → HaveNumbers root parent numbers (prefix ++ plain h.n ∷ [])
have-text root parent c numbers prefix h x text have r k z at some within =
    elim (cases_lt (length prefix) k) [
      | inl last ↦
          let long = length_push prefix (plain h.n) in
          let e : k ≡ suc (length prefix) = omega (arith, last, within, long) in
          let place : z.spot.place ≡ (spot root parent prefix x c h).place =
          sym (ap (λ e. e.place) (element-is root r z)) ∙ at ∙ ap (λ j. (element_of root parent).place ++ j ∷ []) e in
          let same = one-place root z.spot (spot root parent prefix x c h) z.among (spot-among root parent prefix x c h) place in
          let e : true ≡ false = sym z.element ∙ ap is_element same ∙ text in
          cc
      | inr before ↦ have r k z at some (omega (arith, before))
    ]

-- ---- a loop over the children

-- The children before a link are counted, and those that are elements have their numbers.
pub record Numbering (root : Numbered) (parent : NodeRef) (link : Option NodeRef) (counts : Counts) (numbers : List ℕ) : Type 0 where
  pub done : List NodeRef
  pub reading : Reading root (element_of root parent) link done
  pub prefix : List Node
  pub parted : Parted root parent link prefix
  pub counted : AreCounts counts prefix
  pub are : AreNumbers root numbers
  pub have : HaveNumbers root parent numbers prefix

module _ (root : Numbered) (parent : NodeRef) (x : IsElement root parent) (link : Option NodeRef) (counts : Counts) (numbers : List ℕ) (v : Numbering root parent link counts numbers) where
  -- all children are done
  pub all-numbered : link ≡ None → (r : NodeRef) → IsChild root parent r → IsSome (kept numbers r.0)
  all-numbered is r (y, k, at) =
      let all = ap length (all-children root parent v.prefix link is v.parted) in
      let few = number-within root parent r x y k at in
      v.have r k y at few.0 (omega arith)

  module _ (c : NodeRef) (is : link ≡ Some c) where
    child : Child root parent c v.prefix
    child = next-child root parent v.prefix link c is v.parted

    reading : Next root (element_of root parent) c v.done
    reading = next root (element_of root parent) link c v.done is v.reading

    pub child-there : Contains (references root) c
    child-there = there root (element_of root parent) c v.done reading

    pub child-smaller : (link' : Option NodeRef) → OnNode root c (λ s. link' ≡ s.around.next) → left root parent link' < left root parent link
    child-smaller link' to = smaller root parent c v.done reading x.apart link link' is (on root (element_of root parent) c v.done reading (λ s. link' ≡ s.around.next) to)

    pub count-few : node_count (plain root) < 2147483648 → (name : List ℕ) → count_of counts name + 1 < 4294967296
    count-few few name =
        let e = v.counted name in
        let f = count_by-le-length (is_named name) v.prefix in
        let g = prefix-few root parent c v.prefix x child in
        omega arith

    module _ (link' : Option NodeRef) (to : OnNode root c (λ s. link' ≡ s.around.next)) where
      parted : Parted root parent link' (v.prefix ++ plain child.n ∷ [])
      parted = parted-next root parent v.prefix x c child link' (on-child root parent v.prefix x c child (λ s. link' ≡ s.around.next) to)

      pub past-a-text : OnNode root c (λ s. false ≡ is_element s.node) → Numbering root parent link' counts numbers
      past-a-text text =
          let e = sym (on-child root parent v.prefix x c child (λ s. false ≡ is_element s.node) text) in
          record {
            done = v.done;
            reading = past-text root (element_of root parent) c v.done reading x.apart link' (on root (element_of root parent) c v.done reading (λ s. link' ≡ s.around.next) to)
                (sym (on root (element_of root parent) c v.done reading (λ s. false ≡ is_element s.node) text));
            prefix = v.prefix ++ plain child.n ∷ [];
            parted = parted;
            counted = counts-text counts v.prefix v.counted child.n e;
            are = v.are;
            have = have-text root parent c numbers v.prefix child x e v.have;
          }

      pub past-an-element : (counts' : Counts) (numbers' : List ℕ) (name : List ℕ) (number : ℕ)
          → OnNode root c (λ s. true ≡ is_element s.node)
          → OnNode root c (λ s. name_of s.node ≡ Some name)
          → number ≡ count_of counts name + 1
          → ((other : List ℕ) → count_of counts' other ≡ count_of counts other + cond (bytes_eq other name) 1 0)
          → Puts numbers numbers' c number
          → Numbering root parent link' counts' numbers'
      past-an-element counts' numbers' name number element called is-number counted puts =
          let e = sym (on-child root parent v.prefix x c child (λ s. true ≡ is_element s.node) element) in
          let e' = sym (on root (element_of root parent) c v.done reading (λ s. true ≡ is_element s.node) element) in
          let y : IsElement root c = is-child root (element_of root parent) c v.done reading x.apart e' in
          let same : name ≡ steps.name_of (plain child.n) = name-plain child.n name (on-child root parent v.prefix x c child (λ s. name_of s.node ≡ Some name) called) in
          let own : number ≡ number_of root c =
          is-number ∙ ap (λ n. count_of counts n + 1) same ∙ ap (λ k. k + 1) (v.counted (steps.name_of (plain child.n))) ∙ sym (child-numbered root parent v.prefix x c child) in
          record {
            done = v.done ++ c ∷ [];
            reading = past-element root (element_of root parent) c v.done reading x.apart link' (on root (element_of root parent) c v.done reading (λ s. link' ≡ s.around.next) to) e' (v.done ++ c ∷ []) refl;
            prefix = v.prefix ++ plain child.n ∷ [];
            parted = parted;
            counted = counts-element counts v.prefix v.counted child.n counts' e (λ other. counted other ∙ ap (λ n. count_of counts other + cond (bytes_eq other n) 1 0) same);
            are = numbers-more root numbers numbers' c number puts v.are own;
            have = have-more root numbers numbers' c number puts parent v.prefix child x y v.have;
          }
