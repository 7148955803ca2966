-- A numbered step from an element to one of its children.
use Rattle.std.proofs.Common.{◌≡◌, ◌∙◌, sym, ap, subst, refl, ℕ, suc, zero, ◌+◌, ◌<◌, ◌≤◌, Bool, true, false, cond, ◌==◌, List, [], ◌∷◌, ◌++◌, get_or, take, filter, map, Some, None, Contains, arith}
use Rattle.std.specs.Prelude.{bytes_eq, count_by}
use Rattle.std.specs.List.{enumerate_from}
use Rattle.std.proofs.lemmas.Bool.{eq-eqb, ne_eqb}
use Rattle.std.proofs.lemmas.List.Elements.{Contains-append_left, Contains-append_right}
use Rattle.std.proofs.lemmas.List.Recursion.{is_count_by}
use Rattle.std.proofs.lemmas.Slice.Eq.{bytes_eq-Decides}
use Rattle.plain_tree.specs.Document.{Node, element, text, Nodes, no_nodes, node_then}
use Rattle.plain_tree.specs.declared.tree.Attr.{Attr}
use Rattle.doc_grammar.specs.Limits.{node_count, nodes_count}
use Rattle.doc_grammar.specs.Printed.{ArePrintable, IsPrintable}
use Rattle.path_grammar.specs.declared.path.NameTest.TheVariants as T
use Rattle.path_meaning.specs.Elements.{Element, child_at, element_at, elements_among, elements_below, elements_from, node_at, placed}
use Rattle.path_meaning.specs.Meaning.{is_named, numbered}
use Rattle.element_lines.specs.LocationSteps as line
use Rattle.element_lines.specs.LocationSteps.{listed}

-- the node is the one of this number among some, counted from 0
abbrev pub IsChild : Nodes → ℕ → Node → Type 0
IsChild no_nodes k kid = ⊥
IsChild (node_then n rest) zero kid = n ≡ kid
IsChild (node_then n rest) (suc k) kid = IsChild rest k kid

pub no-node : (n : Node) → None ≡ Some n → ⊥
no-node n h = cc

-- a place below nodes goes through one of them
pub child-there : (ns : Nodes) (k : ℕ) (r : List ℕ) (m : Node) → child_at ns k r ≡ Some m → (kid : Node) × IsChild ns k kid × (node_at kid r ≡ Some m)
child-there no_nodes k r m h = absurd (no-node m h)
child-there (node_then n rest) zero r m h = (n, refl, h)
child-there (node_then n rest) (suc k) r m h = child-there rest k r m h

pub child-read : (ns : Nodes) (k : ℕ) (kid : Node) → IsChild ns k kid → get_or (listed ns) k (text []) ≡ kid
child-read no_nodes k kid h = absurd h
child-read (node_then n rest) zero kid h = h
child-read (node_then n rest) (suc k) kid h = child-read rest k kid h

pub child-printable : (ns : Nodes) (k : ℕ) (kid : Node) → IsChild ns k kid → ArePrintable ns → IsPrintable kid
child-printable no_nodes k kid h all = absurd h
child-printable (node_then n rest) zero kid h all = subst IsPrintable h all.0
child-printable (node_then n rest) (suc k) kid h all = child-printable rest k kid h all.1

some-node : (n : Node) → 1 ≤ node_count n
some-node (element name attrs kids) = omega arith
some-node (text bytes) = omega arith

-- nodes are as many as are counted, and none of them has more than all
pub child-count : (ns : Nodes) (k : ℕ) (kid : Node) → IsChild ns k kid → (k + 1 ≤ nodes_count ns) × (node_count kid ≤ nodes_count ns)
child-count no_nodes k kid h = absurd h
child-count (node_then n rest) zero kid h = (omega (arith, some-node n), omega (arith, ap node_count h))
child-count (node_then n rest) (suc k) kid h = let more = child-count rest k kid h in (omega (arith, some-node n, more.0), omega (arith, more.1))

-- ---- the child of a number is the one of another number among those of its name

abbrev counted : List ℕ → List Node → ℕ
counted name [] = 0
counted name (n ∷ ns) = cond (line.is_named name n) (1 + counted name ns) (counted name ns)

counted-is : (name : List ℕ) (ns : List Node) → counted name ns ≡ count_by (line.is_named name) ns
counted-is name ns = is_count_by (counted name) (line.is_named name) refl (λ n ns. refl) ns

counted-most : (name : List ℕ) (ns : List Node) (k : ℕ) → counted name (take k ns) ≤ k
counted-most name ns zero = omega arith
counted-most name [] (suc k) = omega arith
counted-most name (n ∷ ns) (suc k) =
    elim (line.is_named name n) as (λ b. cond b (1 + counted name (take k ns)) (counted name (take k ns)) ≤ suc k)
    [ true ↦ omega (arith, counted-most name ns k) | false ↦ omega (arith, counted-most name ns k) ]

pub number-most : (name : List ℕ) (ns : List Node) (k : ℕ) → count_by (line.is_named name) (take k ns) ≤ k
number-most name ns k = omega (arith, counted-is name (take k ns), counted-most name ns k)

abbrev wanted : List ℕ → Element → Bool
wanted name e = is_named (T.Name name) e.node

-- the items of a number, of which the first has another
abbrev numbered_from : ℕ → ℕ → List Element → List Element
numbered_from first k items = map (λ (c : ℕ × Element). c.1) (filter (λ (c : ℕ × Element). k == c.0) (enumerate_from first items))

none-later : (first k : ℕ) (items : List Element) → k < first → numbered_from first k items ≡ []
none-later first k [] h = refl
none-later first k (x ∷ items) h =
    ap (λ b. map (λ (c : ℕ × Element). c.1) (cond b ((first, x) ∷ filter (λ (c : ℕ × Element). k == c.0) (enumerate_from (first + 1) items)) (filter (λ (c : ℕ × Element). k == c.0) (enumerate_from (first + 1) items))))
    (ne_eqb k first (λ is. omega (arith, h, is)))
    ∙ none-later (first + 1) k items (omega (arith, h))

first-one : (first k : ℕ) (x : Element) (items : List Element) → k ≡ first → numbered_from first k (x ∷ items) ≡ x ∷ []
first-one first k x items is =
    ap (λ b. map (λ (c : ℕ × Element). c.1) (cond b ((first, x) ∷ filter (λ (c : ℕ × Element). k == c.0) (enumerate_from (first + 1) items)) (filter (λ (c : ℕ × Element). k == c.0) (enumerate_from (first + 1) items))))
    (eq-eqb k first is)
    ∙ ap (λ rest. x ∷ rest) (none-later (first + 1) k items (omega (arith, is)))

later-one : (first k : ℕ) (x : Element) (items : List Element) → first < k → numbered_from first k (x ∷ items) ≡ numbered_from (first + 1) k items
later-one first k x items less =
    ap (λ b. map (λ (c : ℕ × Element). c.1) (cond b ((first, x) ∷ filter (λ (c : ℕ × Element). k == c.0) (enumerate_from (first + 1) items)) (filter (λ (c : ℕ × Element). k == c.0) (enumerate_from (first + 1) items))))
    (ne_eqb k first (λ is. omega (arith, less, is)))

module _ (above name : List ℕ) (attrs : List Attr) (kids : Nodes) where
  abbrev one : Node
  one = element name attrs kids

  found : (ns : Nodes) (k number first n : ℕ) → IsChild ns k one → n ≡ first + counted name (take k (listed ns))
      → numbered_from first n (filter (wanted name) (elements_among above number ns)) ≡ placed (above ++ (number + k) ∷ []) one ∷ []
  found no_nodes k number first n h is = absurd h
  found (node_then node rest) zero number first n h is =
      let own : bytes_eq name name ≡ true = (bytes_eq-Decides name name).1 refl in
      let others = elements_among above (number + 1) rest in
      let here : number ≡ number + 0 = omega arith in
      ap (λ m. numbered_from first n (filter (wanted name) (element_at (above ++ number ∷ []) m ++ others))) h
      ∙ ap (λ b. numbered_from first n (cond b (placed (above ++ number ∷ []) one ∷ filter (wanted name) others) (filter (wanted name) others))) own
      ∙ first-one first n (placed (above ++ number ∷ []) one) (filter (wanted name) others) (omega (arith, is))
      ∙ ap (λ m. placed (above ++ m ∷ []) one ∷ []) here
  found (node_then (text bytes) rest) (suc k) number first n h is =
      let next : number + 1 + k ≡ number + suc k = omega arith in
      found rest k (number + 1) first n h is ∙ ap (λ m. placed (above ++ m ∷ []) one ∷ []) next
  found (node_then (element other own inner) rest) (suc k) number first n h is =
      let x = placed (above ++ number ∷ []) (element other own inner) in
      let others = filter (wanted name) (elements_among above (number + 1) rest) in
      let count = counted name (take k (listed rest)) in
      let next : number + 1 + k ≡ number + suc k = omega arith in
      elim (bytes_eq name other) as (λ b. n ≡ first + cond b (1 + count) count → numbered_from first n (cond b (x ∷ others) others) ≡ placed (above ++ (number + suc k) ∷ []) one ∷ []) [
        | true ↦ λ i. later-one first n x others (omega (arith, i)) ∙ found rest k (number + 1) (first + 1) n h (omega (arith, i)) ∙ ap (λ m. placed (above ++ m ∷ []) one ∷ []) next
        | false ↦ λ i. found rest k (number + 1) first n h i ∙ ap (λ m. placed (above ++ m ∷ []) one ∷ []) next
      ] is

  -- of the children of that name the one of its number
  pub child-numbered : (ns : Nodes) (k : ℕ) → IsChild ns k one
      → numbered (count_by (line.is_named name) (take k (listed ns)) + 1) (filter (wanted name) (elements_among above 1 ns)) ≡ placed (above ++ suc k ∷ []) one ∷ []
  child-numbered ns k h =
      let up : 1 + k ≡ suc k = omega arith in
      found ns k 1 1 (count_by (line.is_named name) (take k (listed ns)) + 1) h (omega (arith, counted-is name (take k (listed ns))))
      ∙ ap (λ m. placed (above ++ m ∷ []) one ∷ []) up

-- ---- what is below a child is below its parent

pub child-inside : (above : List ℕ) (number : ℕ) (ns : Nodes) (k : ℕ) (kid : Node) → IsChild ns k kid → (x : Element)
    → Contains (elements_from (above ++ (number + k) ∷ []) kid) x → Contains (elements_below above number ns) x
child-inside above number no_nodes k kid h x there = absurd h
child-inside above number (node_then n rest) zero kid h x there =
    let e : number + 0 ≡ number = omega arith in
    Contains-append_left (elements_from (above ++ number ∷ []) n) (elements_below above (number + 1) rest) x
    (subst (λ m. Contains (elements_from (above ++ number ∷ []) m) x) (sym h) (subst (λ m. Contains (elements_from (above ++ m ∷ []) kid) x) e there))
child-inside above number (node_then n rest) (suc k) kid h x there =
    let e : number + suc k ≡ number + 1 + k = omega arith in
    Contains-append_right (elements_from (above ++ number ∷ []) n) (elements_below above (number + 1) rest) x
    (child-inside above (number + 1) rest k kid h x (subst (λ m. Contains (elements_from (above ++ m ∷ []) kid) x) e there))
