-- What the nodes of a document and their places are to one another.
use Rattle.std.proofs.Common.{◌≡◌, ◌+◌, ◌<◌, ℕ, zero, suc, List, [], ◌∷◌, ◌++◌, map, length, get_or, refl, sym, ap, ◌∙◌, cond, subst, arith}
use Rattle.std.specs.List.{All, AllPairs, Contains}
use Rattle.std.proofs.Math.Logic.{◌≢◌}
use Rattle.std.proofs.lemmas.Bool.{eq-eqb, ne_eqb}
use Rattle.std.proofs.lemmas.List.{get_or-map, length-map, map-append}
use Rattle.std.proofs.lemmas.List.Elements.{All-nil, All-cons, All-append, All-weaker, All-contains, All-contains_itself, Contains-append_left, Contains-append_right}
use Rattle.path_meaning.specs.Elements.{Element, placed}
use Rattle.ordered_tree.specs.Numbered.{Numbered, element_at, text_at, Children, no_children, child_then, plain, reference, first_of}
use Rattle.ordered_tree.specs.Stands.{Stand, round_root, round_first, round_next, stands, child_stands, stands_in, references}
use Rattle.ordered_tree.specs.declared.around.Around.{Around}
use Rattle.ft_base.specs.declared.ids.NodeRef.{NodeRef}
use Rattle.path_nodes.specs.References.{Spot, spots, child_spots, spots_in, spot_reference, spot_element, found_in, element_of}

abbrev stand_of : Spot → Stand
stand_of s = s.stand

mutual
  unfolding stands child_stands spots child_spots

  stands-are : (place : List ℕ) (a : Around) (n : Numbered) → map stand_of (spots place a n) ≡ stands a n
  stands-are place a (element_at r name attrs kids) = ap (λ l. record { node = element_at r name attrs kids; around = a } ∷ l) (child_stands-are place 1 (round_first a.before r) kids)
  stands-are place a (text_at r bytes) = refl

  child_stands-are : (above : List ℕ) (number : ℕ) (a : Around) (ns : Children) → map stand_of (child_spots above number a ns) ≡ child_stands a ns
  child_stands-are above number a no_children = refl
  child_stands-are above number a (child_then n ns) =
      map-append stand_of (spots (above ++ number ∷ []) (record a { next = first_of ns }) n) (child_spots above (number + 1) (round_next a n) ns)
      ∙ ap (λ l. l ++ map stand_of (child_spots above (number + 1) (round_next a n) ns)) (stands-are (above ++ number ∷ []) (record a { next = first_of ns }) n)
      ∙ ap (λ l. stands (record a { next = first_of ns }) n ++ l) (child_stands-are above (number + 1) (round_next a n) ns)

Contains-map : {A B : Type 0} (f : A → B) (xs : List A) (x : A) → Contains xs x → Contains (map f xs) (f x)
Contains-map f xs x (k, more, is) =
    let long = length-map xs f in
    (k, (omega (arith, more, long)), get_or-map f xs k x (f x) more ∙ ap f is)

pub spot-stand : (root : Numbered) (s : Spot) → Contains (spots_in root) s → Contains (stands_in root) s.stand
spot-stand root s h = subst (λ l. Contains l s.stand) (stands-are [] round_root root) (Contains-map stand_of (spots_in root) s h)

pub spot-there : (root : Numbered) (s : Spot) → Contains (spots_in root) s → Contains (references root) (spot_reference s)
spot-there root s h = Contains-map (λ x. reference x.node) (stands_in root) s.stand (spot-stand root s h)

-- ---- what is below a node is in the document

pub Contains-cons : {X : Type 0} (x : X) (xs : List X) (t : X) → Contains xs t → Contains (x ∷ xs) t
Contains-cons x xs t (k, more, is) = (suc k, (omega (arith, more)), is)

abbrev Closed : List Spot → List Spot → Type 0
Closed xs zs = All (λ s. All (Contains xs) (spots s.place s.stand.around s.stand.node)) zs

Closed-wider : (xs ys zs : List Spot) → ((t : Spot) → Contains xs t → Contains ys t) → Closed xs zs → Closed ys zs
Closed-wider xs ys zs wider h =
    All-weaker (λ s. All (Contains xs) (spots s.place s.stand.around s.stand.node)) (λ s. All (Contains ys) (spots s.place s.stand.around s.stand.node))
    (λ s i. All-weaker (Contains xs) (Contains ys) wider (spots s.place s.stand.around s.stand.node) i) zs h

mutual
  unfolding spots child_spots

  closed : (n : Numbered) (place : List ℕ) (a : Around) → Closed (spots place a n) (spots place a n)
  closed (element_at r name attrs kids) place a =
      let all : List Spot = spots place a (element_at r name attrs kids) in
      let first : Spot = record { place = place; stand = record { node = element_at r name attrs kids; around = a } } in
      let below : List Spot = child_spots place 1 (round_first a.before r) kids in
      All-cons (λ s. All (Contains all) (spots s.place s.stand.around s.stand.node)) first below (All-contains_itself all)
      (Closed-wider below all below (Contains-cons first below) (closed-children kids place 1 (round_first a.before r)))
  closed (text_at r bytes) place a =
      let all : List Spot = spots place a (text_at r bytes) in
      All-cons (λ s. All (Contains all) (spots s.place s.stand.around s.stand.node)) (record { place = place; stand = record { node = text_at r bytes; around = a } }) []
      (All-contains_itself all) (All-nil (λ s. All (Contains all) (spots s.place s.stand.around s.stand.node)))

  closed-children : (ns : Children) (above : List ℕ) (number : ℕ) (a : Around) → Closed (child_spots above number a ns) (child_spots above number a ns)
  closed-children no_children above number a = All-nil (λ s. All (Contains (child_spots above number a no_children)) (spots s.place s.stand.around s.stand.node))
  closed-children (child_then n ns) above number a =
      let first : List Spot = spots (above ++ number ∷ []) (record a { next = first_of ns }) n in
      let rest : List Spot = child_spots above (number + 1) (round_next a n) ns in
      All-append (λ s. All (Contains (first ++ rest)) (spots s.place s.stand.around s.stand.node)) first rest
      (Closed-wider first (first ++ rest) first (Contains-append_left first rest) (closed n (above ++ number ∷ []) (record a { next = first_of ns })))
      (Closed-wider rest (first ++ rest) rest (Contains-append_right first rest) (closed-children ns above (number + 1) (round_next a n)))

pub inside : (root : Numbered) (s : Spot) → Contains (spots_in root) s → All (Contains (spots_in root)) (spots s.place s.stand.around s.stand.node)
inside root s h = All-contains (λ t. All (Contains (spots_in root)) (spots t.place t.stand.around t.stand.node)) (spots_in root) s (closed root [] round_root) h

-- ---- a reference names one node

abbrev pub of_number : ℕ → NodeRef
of_number n = record { 0 = n }

found-is : (xs : List Spot) (k : ℕ) (s : Spot) (other : Element) → k < length xs → get_or xs k s ≡ s → AllPairs (λ a b. a ≢ b) (map spot_reference xs)
    → found_in (spot_reference s) other xs ≡ spot_element s
found-is [] k s other more is apart = absurd (omega (arith, more))
found-is (x ∷ xs) zero s other more is apart =
    ap (λ b. cond b (spot_element x) (found_in (spot_reference s) other xs)) (eq-eqb (spot_reference x).0 (spot_reference s).0 (ap (λ y. (spot_reference y).0) is)) ∙ ap spot_element is
found-is (x ∷ xs) (suc k) s other more is apart =
    let long = length-map xs spot_reference in
    let there : k < length xs = omega (arith, more) in
    let ne : spot_reference x ≢ spot_reference s =
    (λ e. apart zero (suc k) (spot_reference s) (omega arith) (omega (arith, long, there)) (e ∙ sym (get_or-map spot_reference xs k s (spot_reference s) there ∙ ap spot_reference is))) in
    ap (λ b. cond b (spot_element x) (found_in (spot_reference s) other xs)) (ne_eqb (spot_reference x).0 (spot_reference s).0 (λ e. ne (ap of_number e)))
    ∙ found-is xs k s other there is (λ i j d less within. apart (suc i) (suc j) d (omega (arith, less)) (omega (arith, within)))

map-map : (xs : List Spot) → map spot_reference xs ≡ map (λ s. reference s.node) (map stand_of xs)
map-map [] = refl
map-map (x ∷ xs) = ap (λ l. spot_reference x ∷ l) (map-map xs)

pub element_of-is : (root : Numbered) (s : Spot) → Contains (spots_in root) s → AllPairs (λ a b. a ≢ b) (references root) → element_of root (spot_reference s) ≡ spot_element s
unfolding element_of
element_of-is root s (k, more, is) apart =
    found-is (spots_in root) k s (placed [] (plain root)) more is
    (subst (AllPairs (λ a b. a ≢ b)) (sym (map-map (spots_in root) ∙ ap (map (λ t. reference t.node)) (stands-are [] round_root root))) apart)
