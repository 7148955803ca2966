-- The place of an element leads to it, and each element is offered to a deep step.
use Rattle.std.proofs.Common.{◌≡◌, refl, sym, ap, subst, ◌∙◌, ℕ, zero, suc, ◌+◌, Bool, true, false, ◌||◌, List, [], ◌∷◌, ◌++◌, flat_map, slice_index_or, Option, Some, None, All, arith, append_assoc, append-nil}
use Rattle.std.specs.List.{list_any}
use Rattle.std.specs.Prelude.{⊤}
use Rattle.std.proofs.lemmas.List.Elements.{All-nil, All-cons, All-append}
use Rattle.std.proofs.lemmas.List.Folds.{list_any-append}
use Rattle.std.proofs.lemmas.Grind.{flat_map-append}
use Rattle.std.proofs.lemmas.Slice.Eq.{bytes_eq-Decides}
use Rattle.plain_tree.specs.Document.{Node, element, text, Nodes, no_nodes, node_then}
use Rattle.path_meaning.specs.Elements.{Element, placed, element_at, elements_among, element_children, kids_of, elements_from, elements_below, elements, is_same, node_at, child_at}
use mathlib.Core.Bool.{or-true}

-- what a place leads to below a node, and among nodes the first of which has a number
abbrev Led : List ℕ → Node → Element → Type 0
Led place node e = (r : List ℕ) × (e.place ≡ place ++ r) × (node_at node r ≡ Some e.node)

abbrev LedAmong : List ℕ → ℕ → Nodes → Element → Type 0
LedAmong above number nodes e = (k : ℕ) × (r : List ℕ) × (e.place ≡ above ++ (k + number) ∷ r) × (child_at nodes k r ≡ Some e.node)

mutual
  from : (place : List ℕ) (node : Node) → All (Led place node) (elements_from place node)
  from place (text bytes) = All-nil (Led place (text bytes))
  from place (element name attributes kids) =
      All-cons (Led place (element name attributes kids)) (placed place (element name attributes kids)) (elements_below place 1 kids)
      ([], sym (append-nil place), refl)
      (λ k d within. let b = below place 1 kids k d within in
      let e : b.0 + 1 ≡ suc b.0 = omega arith in
      (suc b.0 ∷ b.1, b.2 ∙ ap (λ n. place ++ n ∷ b.1) e, b.3))

  below : (above : List ℕ) (number : ℕ) (nodes : Nodes) → All (LedAmong above number nodes) (elements_below above number nodes)
  below above number no_nodes = All-nil (LedAmong above number no_nodes)
  below above number (node_then node rest) =
      All-append (LedAmong above number (node_then node rest)) (elements_from (above ++ number ∷ []) node) (elements_below above (number + 1) rest)
      (λ k d within. let b = from (above ++ number ∷ []) node k d within in
      let e : number ≡ 0 + number = omega arith in
      (0, b.0, b.1 ∙ append_assoc above (number ∷ []) b.0 ∙ ap (λ n. above ++ n ∷ b.0) e, b.2))
      (λ k d within. let b = below above (number + 1) rest k d within in
      let e : b.0 + (number + 1) ≡ suc b.0 + number = omega arith in
      (suc b.0, b.1, b.2 ∙ ap (λ n. above ++ n ∷ b.1) e, b.3))

-- what is below the root has a place that isn't empty
pub below_root : (kids : Nodes) → All (λ e. (k : ℕ) × (r : List ℕ) × (e.place ≡ k ∷ r)) (elements_below [] 1 kids)
below_root kids k d within = let b = below [] 1 kids k d within in (b.0 + 1, b.1, b.2)

-- an element that its place leads to
abbrev pub Placed : Node → Element → Type 0
Placed root e = node_at root e.place ≡ Some e.node

pub elements_placed : (root : Node) → All (Placed root) (elements root)
elements_placed root k d within = let b = from [] root k d within in ap (node_at root) b.1 ∙ b.2

at_placed : (place : List ℕ) (node : Node) → All (λ e. (e.place ≡ place) × (Some node ≡ Some e.node)) (element_at place node)
at_placed place (element name attributes kids) =
    All-cons (λ e. (e.place ≡ place) × (Some (element name attributes kids) ≡ Some e.node)) (placed place (element name attributes kids)) [] (refl, refl)
    (All-nil (λ e. (e.place ≡ place) × (Some (element name attributes kids) ≡ Some e.node)))
at_placed place (text bytes) = All-nil (λ e. (e.place ≡ place) × (Some (text bytes) ≡ Some e.node))

whole : (node : Node) → node_at node [] ≡ Some node
whole (element name attributes kids) = refl
whole (text bytes) = refl

pub root_placed : (root : Node) → All (Placed root) (element_at [] root)
root_placed root k d within = let b = at_placed [] root k d within in ap (node_at root) b.0 ∙ whole root ∙ b.1

among : (above : List ℕ) (number : ℕ) (nodes : Nodes) → All (LedAmong above number nodes) (elements_among above number nodes)
among above number no_nodes = All-nil (LedAmong above number no_nodes)
among above number (node_then node rest) =
    All-append (LedAmong above number (node_then node rest)) (element_at (above ++ number ∷ []) node) (elements_among above (number + 1) rest)
    (λ k d within. let b = at_placed (above ++ number ∷ []) node k d within in
    let e : number ≡ 0 + number = omega arith in
    (0, [], b.0 ∙ ap (λ n. above ++ n ∷ []) e, whole node ∙ b.1))
    (λ k d within. let b = among above (number + 1) rest k d within in
    let e : b.0 + (number + 1) ≡ suc b.0 + number = omega arith in
    (suc b.0, b.1, b.2 ∙ ap (λ n. above ++ n ∷ b.1) e, b.3))

-- a place is followed in two parts
abbrev Given : Option Node → Type 0
Given None = ⊥
Given (Some node) = ⊤

none_given : (node : Node) → None ≡ Some node → ⊥
none_given node h = subst Given (sym h) tt

abbrev pub or_else : Node → Option Node → Node
or_else node None = node
or_else node (Some other) = other

mutual
  further : (root : Node) (p q : List ℕ) (node : Node) → node_at root p ≡ Some node → node_at root (p ++ q) ≡ node_at node q
  further (element name attributes kids) [] q node h = ap (λ n. node_at (or_else node n) q) h
  further (element name attributes kids) (zero ∷ p) q node h = absurd (none_given node h)
  further (element name attributes kids) (suc k ∷ p) q node h = child_further kids k p q node h
  further (text bytes) [] q node h = ap (λ n. node_at (or_else node n) q) h
  further (text bytes) (k ∷ p) q node h = absurd (none_given node h)

  child_further : (nodes : Nodes) (k : ℕ) (p q : List ℕ) (node : Node) → child_at nodes k p ≡ Some node → child_at nodes k (p ++ q) ≡ node_at node q
  child_further no_nodes k p q node h = absurd (none_given node h)
  child_further (node_then first rest) zero p q node h = further first p q node h
  child_further (node_then first rest) (suc k) p q node h = child_further rest k p q node h

child_of : (node : Node) (k : ℕ) (r : List ℕ) (child : Node) → child_at (kids_of node) k r ≡ Some child → node_at node (suc k ∷ r) ≡ Some child
child_of (element name attributes kids) k r child h = h
child_of (text bytes) k r child h = absurd (none_given child h)

pub children_placed : (root : Node) (e : Element) → Placed root e → All (Placed root) (element_children e)
children_placed root e h k d within =
    let b = among e.place 1 (kids_of e.node) k d within in
    let n : b.0 + 1 ≡ suc b.0 = omega arith in
    ap (node_at root) (b.2 ∙ ap (λ m. e.place ++ m ∷ b.1) n)
    ∙ further root e.place (suc b.0 ∷ b.1) e.node h
    ∙ child_of e.node b.0 b.1 (slice_index_or (element_children e) k d).node b.3

-- what a deep step from a document is offered
abbrev pub offered : Node → List Element
offered root = element_at [] root ++ flat_map element_children (elements root)

pub same_itself : (e : Element) → is_same e e ≡ true
same_itself e = (bytes_eq-Decides e.place e.place).1 refl

first_pair : (a m f b : Bool) → (a || f) ≡ true → ((a || m) || (f || b)) ≡ true
first_pair true m f b h = refl
first_pair false m true b h = or-true m
first_pair false m false b h = ap (λ c. m || (c || b)) h ∙ or-true m

last_pair : (a m f b : Bool) → (m || b) ≡ true → ((a || m) || (f || b)) ≡ true
last_pair true m f b h = refl
last_pair false true f b h = refl
last_pair false false f b h = ap (λ c. f || c) h ∙ or-true f

spread : (q : Element → Bool) (a m f b : List Element) → list_any q ((a ++ m) ++ flat_map element_children (f ++ b))
    ≡ ((list_any q a || list_any q m) || (list_any q (flat_map element_children f) || list_any q (flat_map element_children b)))
spread q a m f b =
    list_any-append q (a ++ m) (flat_map element_children (f ++ b))
    ∙ ap (λ c. c || list_any q (flat_map element_children (f ++ b))) (list_any-append q a m)
    ∙ ap (λ l. (list_any q a || list_any q m) || list_any q l) (flat_map-append element_children f b)
    ∙ ap (λ c. (list_any q a || list_any q m) || c) (list_any-append q (flat_map element_children f) (flat_map element_children b))

abbrev Offered : List Element → Element → Type 0
Offered items e = list_any (is_same e) items ≡ true

mutual
  offers_from : (place : List ℕ) (node : Node) → All (Offered (element_at place node ++ flat_map element_children (elements_from place node))) (elements_from place node)
  offers_from place (text bytes) = All-nil (Offered [])
  offers_from place (element name attributes kids) =
      All-cons (Offered (placed place (element name attributes kids) ∷ elements_among place 1 kids ++ flat_map element_children (elements_below place 1 kids)))
      (placed place (element name attributes kids)) (elements_below place 1 kids)
      (ap (λ b. b || list_any (is_same (placed place (element name attributes kids))) (elements_among place 1 kids ++ flat_map element_children (elements_below place 1 kids)))
      (same_itself (placed place (element name attributes kids))))
      (λ k d within. ap (λ b. is_same (slice_index_or (elements_below place 1 kids) k d) (placed place (element name attributes kids)) || b) (offers_below place 1 kids k d within)
      ∙ or-true (is_same (slice_index_or (elements_below place 1 kids) k d) (placed place (element name attributes kids))))

  offers_below : (above : List ℕ) (number : ℕ) (nodes : Nodes)
      → All (Offered (elements_among above number nodes ++ flat_map element_children (elements_below above number nodes))) (elements_below above number nodes)
  offers_below above number no_nodes = All-nil (Offered [])
  offers_below above number (node_then node rest) =
      let a = element_at (above ++ number ∷ []) node in
      let m = elements_among above (number + 1) rest in
      let f = elements_from (above ++ number ∷ []) node in
      let b = elements_below above (number + 1) rest in
      All-append (Offered ((a ++ m) ++ flat_map element_children (f ++ b))) f b
      (λ k d within. let q = is_same (slice_index_or f k d) in
      spread q a m f b
      ∙ first_pair (list_any q a) (list_any q m) (list_any q (flat_map element_children f)) (list_any q (flat_map element_children b))
      (sym (list_any-append q a (flat_map element_children f)) ∙ offers_from (above ++ number ∷ []) node k d within))
      (λ k d within. let q = is_same (slice_index_or b k d) in
      spread q a m f b
      ∙ last_pair (list_any q a) (list_any q m) (list_any q (flat_map element_children f)) (list_any q (flat_map element_children b))
      (sym (list_any-append q m (flat_map element_children b)) ∙ offers_below above (number + 1) rest k d within))

pub all_offered : (root : Node) → All (Offered (offered root)) (elements root)
all_offered root = offers_from [] root
