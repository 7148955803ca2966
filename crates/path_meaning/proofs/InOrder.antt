-- The elements of a document stand in document order.
use Rattle.std.proofs.Common.{◌≡◌, refl, sym, ap, subst, ◌∙◌, ℕ, zero, suc, ◌+◌, ◌<◌, ◌≤◌, Bool, true, false, ◌&&◌, ◌||◌, ◌==◌, nat_lt, List, [], ◌∷◌, ◌++◌, slice_index_or, All, AllPairs, arith, append_assoc, append-nil}
use mathlib.Core.Bool.{and-false, or-true}
use Rattle.std.proofs.lemmas.Bool.{eq-eqb}
use Rattle.std.proofs.lemmas.Bool.Decides.{nat_tests}
use Rattle.std.proofs.lemmas.List.Elements.{All-cons, All-append}
use Rattle.std.proofs.lemmas.List.Kept.{AllPairs-cons, AllPairs-filter}
use Rattle.plain_tree.specs.Document.{Node, element, text, Nodes, no_nodes, node_then}
use Rattle.path_meaning.specs.Elements.{Element, placed, elements_from, elements_below, elements}
use Rattle.path_grammar.specs.Form.{Steps}
use Rattle.path_meaning.specs.Meaning.{selected}
use Rattle.path_meaning.specs.Order.{precedes, Before}
use Rattle.path_meaning.proofs.Selected.{selected-part}

nat_lt-true : (x y : ℕ) → x < y → nat_lt x y ≡ true
nat_lt-true x y h = grind (arith, nat_tests)

nat_lt-irreflexive : (x : ℕ) → nat_lt x x ≡ false
nat_lt-irreflexive x = grind (arith, nat_tests)

pub irreflexive : (place : List ℕ) → precedes place place ≡ false
irreflexive [] = refl
irreflexive (n ∷ rest) = ap (λ b. b || ((n == n) && precedes rest rest)) (nat_lt-irreflexive n) ∙ ap (λ b. (n == n) && b) (irreflexive rest) ∙ and-false (n == n)

-- a common prefix doesn't count
pub suffix : (prefix x y : List ℕ) → precedes x y ≡ true → precedes (prefix ++ x) (prefix ++ y) ≡ true
suffix [] x y h = h
suffix (n ∷ prefix) x y h =
    ap (λ b. nat_lt n n || (b && precedes (prefix ++ x) (prefix ++ y))) (eq-eqb n n refl)
    ∙ ap (λ b. nat_lt n n || b) (suffix prefix x y h)
    ∙ or-true (nat_lt n n)

-- at or below a place; at or below a child of this number or a later one
abbrev pub From : List ℕ → Element → Type 0
From place e = (r : List ℕ) × (e.place ≡ place ++ r)

abbrev pub Below : List ℕ → ℕ → Element → Type 0
Below above number e = (k : ℕ) × (r : List ℕ) × (number ≤ k) × (e.place ≡ above ++ k ∷ r)

mutual
  pub from : (place : List ℕ) (node : Node) → All (From place) (elements_from place node)
  from place (text bytes) = λ k d within. absurd (omega arith)
  from place (element name attributes kids) =
      All-cons (From place) (placed place (element name attributes kids)) (elements_below place 1 kids) ([], sym (append-nil place))
      (λ k d within. let b = under place 1 kids k d within in (b.0 ∷ b.1, b.3))

  pub under : (above : List ℕ) (number : ℕ) (nodes : Nodes) → All (Below above number) (elements_below above number nodes)
  under above number no_nodes = λ k d within. absurd (omega arith)
  under above number (node_then node rest) =
      All-append (Below above number) (elements_from (above ++ number ∷ []) node) (elements_below above (number + 1) rest)
      (λ k d within. let b = from (above ++ number ∷ []) node k d within in (number, b.0, omega arith, b.1 ∙ append_assoc above (number ∷ []) b.0))
      (λ k d within. let b = under above (number + 1) rest k d within in (b.0, b.1, (let h : number + 1 ≤ b.0 = b.2 in omega arith), b.3))

pub pairs-append : (xs ys : List Element) → AllPairs Before xs → AllPairs Before ys → All (λ x. All (Before x) ys) xs → AllPairs Before (xs ++ ys)
pairs-append [] ys p q apart = q
pairs-append (x ∷ xs) ys p q apart =
    AllPairs-cons Before x (xs ++ ys)
    (All-append (Before x) xs ys (λ k d within. p zero (suc k) d (omega arith) (omega arith)) (apart zero x (omega arith)))
    (pairs-append xs ys (λ i j d less within. p (suc i) (suc j) d (omega arith) (omega arith)) q (λ k d within. apart (suc k) d (omega arith)))

-- a child before later ones
pub earlier : (above : List ℕ) (number : ℕ) (e f : Element) → From (above ++ number ∷ []) e → Below above (number + 1) f → Before e f
earlier above number e f a b =
    let less : nat_lt number b.0 ≡ true = nat_lt-true number b.0 (let h : number + 1 ≤ b.0 = b.2 in omega arith) in
    let first : precedes (number ∷ a.0) (b.0 ∷ b.1) ≡ true = ap (λ c. c || ((number == b.0) && precedes a.0 b.1)) less in
    ap (λ p. precedes p f.place) (a.1 ∙ append_assoc above (number ∷ []) a.0) ∙ ap (precedes (above ++ number ∷ a.0)) b.3 ∙ suffix above (number ∷ a.0) (b.0 ∷ b.1) first

-- an element before those below it
outer : (place : List ℕ) (node : Node) (f : Element) → Below place 1 f → Before (placed place node) f
outer place node f b =
    ap (precedes place) b.3 ∙ ap (λ p. precedes p (place ++ b.0 ∷ b.1)) (sym (append-nil place)) ∙ suffix place [] (b.0 ∷ b.1) refl

mutual
  pub ordered-from : (place : List ℕ) (node : Node) → AllPairs Before (elements_from place node)
  ordered-from place (text bytes) = λ i j d less within. absurd (omega arith)
  ordered-from place (element name attributes kids) =
      AllPairs-cons Before (placed place (element name attributes kids)) (elements_below place 1 kids)
      (λ k d within. outer place (element name attributes kids) (slice_index_or (elements_below place 1 kids) k d) (under place 1 kids k d within))
      (ordered-below place 1 kids)

  pub ordered-below : (above : List ℕ) (number : ℕ) (nodes : Nodes) → AllPairs Before (elements_below above number nodes)
  ordered-below above number no_nodes = λ i j d less within. absurd (omega arith)
  ordered-below above number (node_then node rest) =
      pairs-append (elements_from (above ++ number ∷ []) node) (elements_below above (number + 1) rest)
      (ordered-from (above ++ number ∷ []) node) (ordered-below above (number + 1) rest)
      (λ k d within i c inside. earlier above number (slice_index_or (elements_from (above ++ number ∷ []) node) k d) (slice_index_or (elements_below above (number + 1) rest) i c) (from (above ++ number ∷ []) node k d within) (under above (number + 1) rest i c inside))

pub selected_in_order : (satisfies : ℕ → List Element → Element → Bool) (path : Steps) (root : Node) → AllPairs Before (selected satisfies path root)
selected_in_order satisfies path root =
    let part = selected-part satisfies path root in
    subst (AllPairs Before) (sym part.1) (AllPairs-filter Before part.0 (elements root) (ordered-from [] root))
