-- The steps of a line lead to its element alone.
use Rattle.std.proofs.Common.{◌≡◌, ◌∙◌, sym, ap, ap₂, subst, refl, ℕ, suc, zero, ◌+◌, ◌-◌, ◌≤◌, false, cond, List, [], ◌∷◌, ◌++◌, get_or, take, map, Some, AllPairs, Contains, arith, append_assoc, append-nil}
use Rattle.std.specs.Prelude.{count_by}
use Rattle.std.specs.List.{AllByRecursion}
use Rattle.std.proofs.lemmas.Slice.Eq.{bytes_eq-Decides}
use Rattle.ft_base.specs.Limits.{max_nodes, max_number}
use Rattle.plain_tree.specs.Document.{Node, element, text, Nodes, no_nodes, node_then}
use Rattle.plain_tree.specs.declared.tree.Attr.{Attr}
use Rattle.doc_grammar.specs.Limits.{node_count}
use Rattle.doc_grammar.specs.Printed.{IsPrintable}
use Rattle.path_grammar.specs.Form as form
use Rattle.path_meaning.specs.Elements.{Element, elements, elements_below, elements_from, node_at, placed, union}
use Rattle.path_meaning.specs.Meaning.{document, filtered, filtered_by, item, led, numbered, selected, stepped}
use Rattle.path_meaning.specs.Order.{precedes, Before}
use Rattle.element_lines.specs.LocationSteps as line
use Rattle.element_lines.specs.LocationSteps.{child, listed, name_of, step_to, steps_below, steps_to}
use Rattle.line_round_trip.proofs.Alone.{union-one}
use Rattle.line_round_trip.proofs.Children.{IsChild, child-count, child-inside, child-numbered, child-printable, child-read, child-there, no-node, number-most}
use Rattle.line_round_trip.proofs.Letters.{AreReadable, IsReadable, letters-of}
use Rattle.line_round_trip.proofs.Paths.{path_step}

-- ---- what the step to a child is

pub record IsElement (n : Node) : Type 0 where
  pub name : List ℕ
  pub attrs : List Attr
  pub kids : Nodes
  pub is : n ≡ element name attrs kids

-- a node below which there is an element
above-element : (n : Node) (r : List ℕ) (m : Node) → IsElement m → node_at n r ≡ Some m → IsElement n
above-element (element name attrs kids) r m e h = record { name = name; attrs = attrs; kids = kids; is = refl }
above-element (text bytes) [] m e h = let no : text bytes ≡ m = cc in let never : text bytes ≡ element e.name e.attrs e.kids = no ∙ e.is in cc
above-element (text bytes) (k ∷ r) m e h = absurd (no-node m h)

whole : (n : Node) → node_at n [] ≡ Some n
whole (element name attrs kids) = refl
whole (text bytes) = refl

module _ (own : List ℕ) (others : List Attr) (inner : Nodes) (k : ℕ) where
  abbrev parent : Node
  parent = element own others inner

  back : suc k - 1 ≡ k
  back = omega arith

  child-is : (kid : Node) → IsChild inner k kid → child parent (suc k) ≡ kid
  child-is kid h = ap (λ j. get_or (listed inner) j (text [])) back ∙ child-read inner k kid h

  abbrev number : List ℕ → ℕ
  number name = count_by (line.is_named name) (take k (listed inner)) + 1

  step-is : (name : List ℕ) (attrs : List Attr) (kids : Nodes) → IsChild inner k (element name attrs kids) → step_to parent (suc k) ≡ line.step name (number name)
  step-is name attrs kids h =
      ap (λ n. line.step (name_of n) (count_by (line.is_named (name_of n)) (take (suc k - 1) (listed inner)) + 1)) (child-is (element name attrs kids) h)
      ∙ ap (λ j. line.step name (count_by (line.is_named name) (take j (listed inner)) + 1)) back

-- elements are elements
both : (xs ys : List Element) → AllByRecursion (λ e. IsElement e.node) xs → AllByRecursion (λ e. IsElement e.node) ys → AllByRecursion (λ e. IsElement e.node) (xs ++ ys)
both [] ys p q = q
both (x ∷ xs) ys p q = (p.0, both xs ys p.1 q)

mutual
  pub all-elements : (place : List ℕ) (n : Node) → AllByRecursion (λ e. IsElement e.node) (elements_from place n)
  all-elements place (element name attrs kids) = (record { name = name; attrs = attrs; kids = kids; is = refl }, below-elements place 1 kids)
  all-elements place (text bytes) = tt

  below-elements : (above : List ℕ) (at : ℕ) (ns : Nodes) → AllByRecursion (λ e. IsElement e.node) (elements_below above at ns)
  below-elements above at no_nodes = tt
  below-elements above at (node_then n rest) =
      both (elements_from (above ++ at ∷ []) n) (elements_below above (at + 1) rest) (all-elements (above ++ at ∷ []) n) (below-elements above (at + 1) rest)

-- ---- each step can be read

steps-readable : (n : Node) (r : List ℕ) (m : Node) → IsElement m → IsPrintable n → node_count n ≤ max_nodes → node_at n r ≡ Some m → AreReadable (steps_below n r)
unfolding steps_below
steps-readable n [] m e printable few h = tt
steps-readable (element own others inner) (zero ∷ r) m e printable few h = absurd (no-node m h)
steps-readable (element own others inner) (suc k ∷ r) m e printable few h =
    let found = child-there inner k r m h in
    let kid = found.0 in
    let x = above-element kid r m e found.2 in
    let here = child-printable inner k kid found.1 printable.2 in
    let one = subst IsPrintable x.is here in
    let count = child-count inner k kid found.1 in
    let step = step-is own others inner k x.name x.attrs x.kids (subst (IsChild inner k) x.is found.1) in
    let bound : count_by (line.is_named x.name) (take k (listed inner)) + 1 ≤ max_number = omega (arith, few, count.0, number-most x.name (listed inner) k) in (
      subst IsReadable (sym step) (letters-of one.0, bound),
      subst (λ n. AreReadable (steps_below n r)) (sym (child-is own others inner k kid found.1)) (steps-readable kid r m e here (omega (arith, few, count.1)) found.2),
    )
steps-readable (text bytes) (k ∷ r) m e printable few h = absurd (no-node m h)

pub line-readable : (root : Node) (e : Element) → IsPrintable root → node_count root ≤ max_nodes → node_at root e.place ≡ Some e.node → IsElement e.node
    → AreReadable (steps_to root e.place)
line-readable root e printable few h x =
    let r = above-element root e.place e.node x h in
    let one = subst IsPrintable r.is printable in
    ((subst (λ n. IsReadable (line.step (name_of n) 1)) (sym r.is) (letters-of one.0, omega arith)), steps-readable root e.place e.node x printable few h)

-- ---- and they lead there

module _ (irreflexive : (place : List ℕ) → precedes place place ≡ false) (root : Node) (pairs : AllPairs Before (elements root)) (satisfies : _) where
  one-stepped : (q own : List ℕ) (others : List Attr) (inner : Nodes) (k : ℕ) (name : List ℕ) (attrs : List Attr) (kids : Nodes)
      → IsChild inner k (element name attrs kids) → Contains (elements root) (placed (q ++ suc k ∷ []) (element name attrs kids))
      → stepped satisfies (elements root) (path_step (line.step name (number own others inner k name))) (item (placed q (element own others inner)) ∷ [])
      ≡ placed (q ++ suc k ∷ []) (element name attrs kids) ∷ []
  unfolding stepped filtered filtered_by
  one-stepped q own others inner k name attrs kids h there =
      ap (λ l. union (elements root) (l ∷ [])) (child-numbered q name attrs kids inner k h)
      ∙ union-one irreflexive (elements root) pairs (placed (q ++ suc k ∷ []) (element name attrs kids)) there

  led-below : (e : Element) → IsElement e.node → (q : List ℕ) (n : Node) (r : List ℕ) → node_at n r ≡ Some e.node → e.place ≡ q ++ r
      → ((x : Element) → Contains (elements_from q n) x → Contains (elements root) x)
      → led satisfies (elements root) (form.steps (map path_step (steps_below n r))) (placed q n ∷ []) ≡ e ∷ []
  unfolding led steps_below
  led-below e m q n [] h place inside =
      let same : n ≡ e.node = (let both : Some n ≡ Some e.node = sym (whole n) ∙ h in cc) in
      let here : q ≡ e.place = sym (append-nil q) ∙ sym place in
      ap₂ (λ p v. placed p v ∷ []) here same
  led-below e m q (element own others inner) (zero ∷ r) h place inside = absurd (no-node e.node h)
  led-below e m q (element own others inner) (suc k ∷ r) h place inside =
      let found = child-there inner k r e.node h in
      let kid = found.0 in
      let x = above-element kid r e.node m found.2 in
      let one = element x.name x.attrs x.kids in
      let child' : IsChild inner k one = subst (IsChild inner k) x.is found.1 in
      let next = q ++ suc k ∷ [] in
      let up : 1 + k ≡ suc k = omega arith in
      let deeper : (y : Element) → Contains (elements_from next one) y → Contains (elements root) y =
      (λ y there. inside y (later q own others inner y (child-inside q 1 inner k one child' y (subst (λ j. Contains (elements_from (q ++ j ∷ []) one) y) (sym up) there)))) in
      let there : Contains (elements root) (placed next one) = deeper (placed next one) (0, omega arith, refl) in
      let on = led-below e m next one r (ap (λ n. node_at n r) (sym x.is) ∙ found.2) (place ∙ sym (append_assoc q (suc k ∷ []) r)) deeper in
      ap (λ n. led satisfies (elements root) (form.step_then (path_step (step_to (element own others inner) (suc k))) (form.steps (map path_step (steps_below n r)))) (placed q (element own others inner) ∷ []))
      (child-is own others inner k kid found.1 ∙ x.is)
      ∙ ap (λ s. led satisfies (elements root) (form.step_then (path_step s) (form.steps (map path_step (steps_below one r)))) (placed q (element own others inner) ∷ []))
      (step-is own others inner k x.name x.attrs x.kids child')
      ∙ ap (led satisfies (elements root) (form.steps (map path_step (steps_below one r)))) (one-stepped q own others inner k x.name x.attrs x.kids child' there)
      ∙ on
    where
      later : (q own : List ℕ) (others : List Attr) (inner : Nodes) (y : Element) → Contains (elements_below q 1 inner) y → Contains (elements_from q (element own others inner)) y
      later q own others inner y h = (suc h.0, omega (arith, h.1), h.2)
  led-below e m q (text bytes) (k ∷ r) h place inside = absurd (no-node e.node h)

  root-stepped : (own : List ℕ) (others : List Attr) (inner : Nodes) → Contains (elements root) (placed [] (element own others inner))
      → stepped satisfies (elements root) (path_step (line.step own 1)) (document (element own others inner) ∷ []) ≡ placed [] (element own others inner) ∷ []
  unfolding stepped filtered filtered_by
  root-stepped own others inner there =
      let x = placed [] (element own others inner) in
      ap (λ b. union (elements root) (numbered 1 (cond b (x ∷ []) []) ∷ [])) ((bytes_eq-Decides own own).1 refl)
      ∙ union-one irreflexive (elements root) pairs x there

  pub line-leads : (e : Element) → IsElement e.node → node_at root e.place ≡ Some e.node
      → selected satisfies (form.steps (map path_step (steps_to root e.place))) root ≡ e ∷ []
  unfolding selected
  line-leads e m h =
      let r = above-element root e.place e.node m h in
      let n = element r.name r.attrs r.kids in
      let there : Contains (elements root) (placed [] n) = subst (λ v. Contains (elements v) (placed [] n)) (sym r.is) (0, omega arith, refl) in
      let first : stepped satisfies (elements root) (path_step (line.step (name_of root) 1)) (document root ∷ []) ≡ placed [] root ∷ [] =
      ap (λ v. stepped satisfies (elements root) (path_step (line.step (name_of v) 1)) (document v ∷ [])) r.is
      ∙ root-stepped r.name r.attrs r.kids there
      ∙ ap (λ v. placed [] v ∷ []) (sym r.is) in
      ap (led satisfies (elements root) (form.steps (map path_step (steps_below root e.place)))) first
      ∙ led-below e m [] root e.place h refl (λ x inside. inside)
