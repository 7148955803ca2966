-- Reading the children of an element one after the other.
use Rattle.std.proofs.Common.{◌≡◌, ◌+◌, ◌-◌, ◌<◌, ℕ, suc, true, false, List, [], ◌∷◌, ◌++◌, map, Option, Some, None, refl, sym, ap, ◌∙◌, subst, arith, append_assoc}
use Rattle.std.specs.List.{All, AllPairs, Contains}
use Rattle.std.proofs.Math.Logic.{◌≢◌}
use Rattle.std.proofs.lemmas.List.{map-append}
use Rattle.std.proofs.lemmas.List.Elements.{All-nil, All-head, All-tail, All-push}
use Rattle.plain_tree.specs.Document.{Nodes, no_nodes, node_then}
use Rattle.path_meaning.specs.Elements as elements
use Rattle.path_meaning.specs.Elements.{Element, placed, elements_among, element_children, kids_of}
use Rattle.ordered_tree.specs.Numbered.{Numbered, element_at, text_at, Children, no_children, child_then, plain, plain_children, reference, first_of, is_element, children}
use Rattle.ordered_tree.specs.Stands.{Stand, OnNode, round_first, round_next, references}
use Rattle.ordered_tree.specs.declared.around.Around.{Around}
use Rattle.ft_base.specs.declared.ids.NodeRef.{NodeRef}
use Rattle.path_nodes.specs.References.{Spot, spots, child_spots, spots_in, spot_element, element_of, IsElement}
use Rattle.path_nodes.proofs.SpotLemmas.{spot-stand, spot-there, inside, element_of-is}

abbrev pub size : Nodes → ℕ
size no_nodes = 0
size (node_then n ns) = suc (size ns)

-- the last number of a place
abbrev pub last_number : List ℕ → ℕ
last_number [] = 0
last_number (n ∷ []) = n
last_number (n ∷ m ∷ rest) = last_number (m ∷ rest)

pub last_number-is : (prefix : List ℕ) (k : ℕ) → last_number (prefix ++ k ∷ []) ≡ k
last_number-is [] k = refl
last_number-is (n ∷ []) k = refl
last_number-is (n ∷ m ∷ rest) k = last_number-is (m ∷ rest) k

-- how many nodes may be left from a link on
abbrev pub left : Numbered → NodeRef → Option NodeRef → ℕ
left root node None = 0
left root node (Some r) = suc (suc (size (kids_of (element_of root node).node))) - last_number (element_of root r).place

-- The children before a link were read.
pub record Reading (root : Numbered) (above : Element) (link : Option NodeRef) (done : List NodeRef) : Type 0 where
  pub number : ℕ
  pub around : Around
  pub rest : Children
  pub first : link ≡ first_of rest
  pub inside : All (Contains (spots_in root)) (child_spots above.place number around rest)
  pub all : map (element_of root) done ++ elements_among above.place number (plain_children rest) ≡ element_children above
  pub elements : All (IsElement root) done
  pub few : number + size (plain_children rest) ≡ suc (size (kids_of above.node))

-- The next one is there.
pub record Next (root : Numbered) (above : Element) (child : NodeRef) (done : List NodeRef) : Type 0 where
  pub number : ℕ
  pub around : Around
  pub n : Numbered
  pub ns : Children
  pub refers : reference n ≡ child
  pub inside : All (Contains (spots_in root)) (child_spots above.place number around (child_then n ns))
  pub all : map (element_of root) done ++ elements_among above.place number (plain_children (child_then n ns)) ≡ element_children above
  pub elements : All (IsElement root) done
  pub few : number + suc (size (plain_children ns)) ≡ suc (size (kids_of above.node))

next-from : (root : Numbered) (above : Element) (child : NodeRef) (done : List NodeRef) (number : ℕ) (around : Around) (rest : Children)
    → first_of rest ≡ Some child
    → All (Contains (spots_in root)) (child_spots above.place number around rest)
    → (map (element_of root) done ++ elements_among above.place number (plain_children rest) ≡ element_children above)
    → All (IsElement root) done
    → (number + size (plain_children rest) ≡ suc (size (kids_of above.node)))
    → Next root above child done
next-from root above child done number around no_children first inside all elements few = cc
next-from root above child done number around (child_then n ns) first inside all elements few =
    let is : reference n ≡ child = cc in
    record { number = number; around = around; n = n; ns = ns; refers = is; inside = inside; all = all; elements = elements; few = few }

pub next : (root : Numbered) (above : Element) (link : Option NodeRef) (child : NodeRef) (done : List NodeRef) → link ≡ Some child → Reading root above link done → Next root above child done
next root above link child done is r = next-from root above child done r.number r.around r.rest (sym r.first ∙ is) r.inside r.all r.elements r.few

pub All-after : {X : Type 0} (P : X → Type 0) (xs ys : List X) → All P (xs ++ ys) → All P ys
All-after P [] ys h = h
All-after P (x ∷ xs) ys h = All-after P xs ys (All-tail P x (xs ++ ys) h)

pub head-spot : (P : Spot → Type 0) (place : List ℕ) (a : Around) (n : Numbered) (rest : List Spot) → All P (spots place a n ++ rest) → P (record { place = place; stand = record { node = n; around = a } })
unfolding spots
head-spot P place a (element_at r name attrs kids) rest h = All-head P (record { place = place; stand = record { node = element_at r name attrs kids; around = a } }) (child_spots place 1 (round_first a.before r) kids ++ rest) h
head-spot P place a (text_at r bytes) rest h = All-head P (record { place = place; stand = record { node = text_at r bytes; around = a } }) rest h

module _ (root : Numbered) (above : Element) (child : NodeRef) (done : List NodeRef) (x : Next root above child done) where
  abbrev pub here : Spot
  here = record { place = above.place ++ x.number ∷ []; stand = record { node = x.n; around = record x.around { next = first_of x.ns } } }

  pub among : Contains (spots_in root) here
  unfolding child_spots
  among = head-spot (Contains (spots_in root)) (above.place ++ x.number ∷ []) (record x.around { next = first_of x.ns }) x.n (child_spots above.place (x.number + 1) (round_next x.around x.n) x.ns) x.inside

  pub after : All (Contains (spots_in root)) (child_spots above.place (x.number + 1) (round_next x.around x.n) x.ns)
  unfolding child_spots
  after = All-after (Contains (spots_in root)) (spots (above.place ++ x.number ∷ []) (record x.around { next = first_of x.ns }) x.n) (child_spots above.place (x.number + 1) (round_next x.around x.n) x.ns) x.inside

  pub there : Contains (references root) child
  there = subst (Contains (references root)) x.refers (spot-there root here among)

  -- what holds on the node holds of it
  pub on : (P : Stand → Type 0) → OnNode root child P → P here.stand
  on P h = h here.stand (spot-stand root here among) x.refers

  module _ (apart : AllPairs (λ a b. a ≢ b) (references root)) where
    pub named : element_of root child ≡ spot_element here
    named = ap (element_of root) (sym x.refers) ∙ element_of-is root here among apart

    pub is-child : is_element x.n ≡ true → IsElement root child
    is-child h = record { spot = here; among = among; refers = x.refers; element = h; apart = apart }

-- one child further: a text, or an element
text-adds : (place : List ℕ) (n : Numbered) → is_element n ≡ false → elements.element_at place (plain n) ≡ []
text-adds place (element_at r name attrs kids) h = cc
text-adds place (text_at r bytes) h = refl

pub element-adds : (place : List ℕ) (n : Numbered) → is_element n ≡ true → elements.element_at place (plain n) ≡ placed place (plain n) ∷ []
element-adds place (element_at r name attrs kids) h = refl
element-adds place (text_at r bytes) h = cc

module _ (root : Numbered) (above : Element) (child : NodeRef) (done : List NodeRef) (x : Next root above child done) (apart : AllPairs (λ a b. a ≢ b) (references root)) (link : Option NodeRef) (is : link ≡ first_of x.ns) where
  few : x.number + 1 + size (plain_children x.ns) ≡ suc (size (kids_of above.node))
  few = omega (arith, x.few)

  all-is : map (element_of root) done ++ (elements.element_at (above.place ++ x.number ∷ []) (plain x.n) ++ elements_among above.place (x.number + 1) (plain_children x.ns)) ≡ element_children above
  all-is = x.all

  pub past-text : is_element x.n ≡ false → Reading root above link done
  past-text h = record {
    number = x.number + 1;
    around = round_next x.around x.n;
    rest = x.ns;
    first = is;
    inside = after root above child done x;
    all = ap (λ l. map (element_of root) done ++ (l ++ elements_among above.place (x.number + 1) (plain_children x.ns))) (sym (text-adds (above.place ++ x.number ∷ []) x.n h)) ∙ all-is;
    elements = x.elements;
    few = few;
  }

  pub past-element : is_element x.n ≡ true → (more : List NodeRef) → more ≡ done ++ child ∷ [] → Reading root above link more
  past-element h more e = record {
    number = x.number + 1;
    around = round_next x.around x.n;
    rest = x.ns;
    first = is;
    inside = after root above child done x;
    all = ap (λ l. map (element_of root) l ++ elements_among above.place (x.number + 1) (plain_children x.ns)) e
        ∙ ap (λ l. l ++ elements_among above.place (x.number + 1) (plain_children x.ns)) (map-append (element_of root) done (child ∷ []))
        ∙ append_assoc (map (element_of root) done) (element_of root child ∷ []) (elements_among above.place (x.number + 1) (plain_children x.ns))
        ∙ ap (λ c. map (element_of root) done ++ c ∷ elements_among above.place (x.number + 1) (plain_children x.ns)) (named root above child done x apart)
        ∙ ap (λ l. map (element_of root) done ++ (l ++ elements_among above.place (x.number + 1) (plain_children x.ns))) (sym (element-adds (above.place ++ x.number ∷ []) x.n h))
        ∙ all-is;
    elements = subst (All (IsElement root)) (sym e) (All-push (IsElement root) done child x.elements (is-child root above child done x apart h));
    few = few;
  }

-- each link leaves less
smaller-from : (root : Numbered) (node : NodeRef) (apart : AllPairs (λ a b. a ≢ b) (references root)) (ns : Children) (number : ℕ) (around : Around)
    → All (Contains (spots_in root)) (child_spots (element_of root node).place (number + 1) around ns)
    → number + suc (size (plain_children ns)) ≡ suc (size (kids_of (element_of root node).node))
    → left root node (first_of ns) < suc (suc (size (kids_of (element_of root node).node))) - number
unfolding child_spots
smaller-from root node apart no_children number around all few = omega (arith, few)
smaller-from root node apart (child_then m ms) number around all few =
    let place : List ℕ = (element_of root node).place ++ (number + 1) ∷ [] in
    let a : Around = record around { next = first_of ms } in
    let s : Spot = record { place = place; stand = record { node = m; around = a } } in
    let among : Contains (spots_in root) s = head-spot (Contains (spots_in root)) place a m (child_spots (element_of root node).place (number + 1 + 1) (round_next around m) ms) all in
    let e : last_number (element_of root (reference m)).place ≡ number + 1 = ap (λ x. last_number x.place) (element_of-is root s among apart) ∙ last_number-is (element_of root node).place (number + 1) in
    omega (arith, few, e)

pub smaller : (root : Numbered) (node child : NodeRef) (done : List NodeRef) (x : Next root (element_of root node) child done) (apart : AllPairs (λ a b. a ≢ b) (references root)) (link next : Option NodeRef)
    → link ≡ Some child → next ≡ first_of x.ns → left root node next < left root node link
smaller root node child done x apart link next is to =
    let e : last_number (element_of root child).place ≡ x.number = ap (λ y. last_number y.place) (named root (element_of root node) child done x apart) ∙ last_number-is (element_of root node).place x.number in
    let less = smaller-from root node apart x.ns x.number (round_next x.around x.n) (after root (element_of root node) child done x) x.few in
    omega (arith, less, e, ap (left root node) is, ap (left root node) to)

-- ---- the first child

first-inside : (root : Numbered) (place : List ℕ) (a : Around) (n : Numbered) → Contains (spots_in root) (record { place = place; stand = record { node = n; around = a } })
    → (around : Around) × All (Contains (spots_in root)) (child_spots place 1 around (children n))
unfolding spots child_spots
first-inside root place a (element_at r name attrs kids) h = (
  round_first a.before r,
  All-tail (Contains (spots_in root)) (record { place = place; stand = record { node = element_at r name attrs kids; around = a } }) (child_spots place 1 (round_first a.before r) kids) (inside root (record { place = place; stand = record { node = element_at r name attrs kids; around = a } }) h),
)
first-inside root place a (text_at r bytes) h = (a, All-nil (Contains (spots_in root)))

kids-plain : (n : Numbered) → kids_of (plain n) ≡ plain_children (children n)
kids-plain (element_at r name attrs kids) = refl
kids-plain (text_at r bytes) = refl

pub start : (root : Numbered) (node : NodeRef) (x : IsElement root node) (link : Option NodeRef) → link ≡ first_of (children x.spot.stand.node) → Reading root (element_of root node) link []
start root node x link is =
    let e : element_of root node ≡ spot_element x.spot = ap (element_of root) (sym x.refers) ∙ element_of-is root x.spot x.among x.apart in
    let f = first-inside root x.spot.place x.spot.stand.around x.spot.stand.node x.among in
    let k = kids-plain x.spot.stand.node in
    subst (λ above. Reading root above link []) (sym e) (record {
      number = 1;
      around = f.0;
      rest = children x.spot.stand.node;
      first = is;
      inside = f.1;
      all = ap (elements_among x.spot.place 1) (sym k);
      elements = All-nil (IsElement root);
      few = omega (arith, ap size k);
    })

pub on_element : (root : Numbered) (node : NodeRef) (x : IsElement root node) (P : Stand → Type 0) → OnNode root node P → P x.spot.stand
on_element root node x P h = h x.spot.stand (spot-stand root x.spot x.among) x.refers

pub element_there : (root : Numbered) (node : NodeRef) → IsElement root node → Contains (references root) node
element_there root node x = subst (Contains (references root)) x.refers (spot-there root x.spot x.among)
