-- What stands above a node is the element at the place above it.
use Rattle.std.proofs.Common.{◌≡◌, ◌+◌, ◌⊎◌, inl, inr, ℕ, true, List, [], ◌∷◌, ◌++◌, get_or, Some, refl, ap, ◌∙◌, arith}
use Rattle.std.specs.List.{All, Contains}
use Rattle.std.proofs.lemmas.List.Elements.{All-nil, All-cons, All-append, All-contains, Contains-append_left, Contains-append_right}
use Rattle.ordered_tree.specs.Numbered.{Numbered, element_at, text_at, Children, no_children, child_then, first_of, is_element}
use Rattle.ordered_tree.specs.Stands.{round_root, round_first, round_next}
use Rattle.ordered_tree.specs.declared.around.Around.{Around}
use Rattle.path_nodes.specs.References.{Spot, spots, child_spots, spots_in, spot_reference}
use Rattle.path_nodes.proofs.SpotLemmas.{Contains-cons}

-- an element of the list stands at the place above, and is the parent
pub record HasParent (xs : List Spot) (t : Spot) : Type 0 where
  pub spot : Spot
  pub among : Contains xs spot
  pub number : ℕ
  pub place : t.place ≡ spot.place ++ number ∷ []
  pub parent : t.stand.around.parent ≡ Some (spot_reference spot)
  pub element : is_element spot.stand.node ≡ true

abbrev IsChild : List ℕ → Around → Spot → Type 0
IsChild above a t = (k : ℕ) × (t.place ≡ above ++ k ∷ []) × (t.stand.around.parent ≡ a.parent)

abbrev pub top : List ℕ → Around → Numbered → Spot
top place a n = record { place = place; stand = record { node = n; around = a } }

wider : (xs ys : List Spot) (t : Spot) → ((s : Spot) → Contains xs s → Contains ys s) → HasParent xs t → HasParent ys t
wider xs ys t f h = record { spot = h.spot; among = f h.spot h.among; number = h.number; place = h.place; parent = h.parent; element = h.element }

abbrev Under : List Spot → List ℕ → Around → Spot → Type 0
Under xs above a t = IsChild above a t ⊎ HasParent xs t

abbrev pub From : List Spot → Spot → Spot → Type 0
From xs first t = (t ≡ first) ⊎ HasParent xs t

child-top : (above : List ℕ) (number : ℕ) (a b : Around) (n : Numbered) (xs ys : List Spot) (t : Spot) → b.parent ≡ a.parent → ((s : Spot) → Contains xs s → Contains ys s)
    → From xs (top (above ++ number ∷ []) b n) t → Under ys above a t
child-top above number a b n xs ys t same f (inl is) = inl (number, ap (λ s. s.place) is, ap (λ s. s.stand.around.parent) is ∙ same)
child-top above number a b n xs ys t same f (inr h) = inr (wider xs ys t f h)

under-wider : (above : List ℕ) (a b : Around) (xs ys : List Spot) (t : Spot) → b.parent ≡ a.parent → ((s : Spot) → Contains xs s → Contains ys s) → Under xs above b t → Under ys above a t
under-wider above a b xs ys t same f (inl (k, is, p)) = inl (k, is, p ∙ same)
under-wider above a b xs ys t same f (inr h) = inr (wider xs ys t f h)

below-top : (place : List ℕ) (a b : Around) (n : Numbered) (xs : List Spot) (t : Spot) → is_element n ≡ true → b.parent ≡ Some (spot_reference (top place a n)) → Under xs place b t → From (top place a n ∷ xs) (top place a n) t
below-top place a b n xs t e same (inl (k, is, p)) =
    inr (record { spot = top place a n; among = (0, omega arith, refl); number = k; place = is; parent = p ∙ same; element = e })
below-top place a b n xs t e same (inr h) = inr (wider xs (top place a n ∷ xs) t (Contains-cons (top place a n) xs) h)

mutual
  unfolding spots child_spots

  pub parents-in : (place : List ℕ) (a : Around) (n : Numbered) → All (From (spots place a n) (top place a n)) (spots place a n)
  parents-in place a (text_at r bytes) =
      All-cons (From (top place a (text_at r bytes) ∷ []) (top place a (text_at r bytes))) (top place a (text_at r bytes)) [] (inl refl) (All-nil (From (top place a (text_at r bytes) ∷ []) (top place a (text_at r bytes))))
  parents-in place a (element_at r name attrs kids) =
      let n = element_at r name attrs kids in
      let below : List Spot = child_spots place 1 (round_first a.before r) kids in
      All-cons (From (top place a n ∷ below) (top place a n)) (top place a n) below (inl refl)
      (λ k d within. below-top place a (round_first a.before r) n below (get_or below k d) refl refl (parents-among place 1 (round_first a.before r) kids k d within))

  parents-among : (above : List ℕ) (number : ℕ) (a : Around) (ns : Children) → All (Under (child_spots above number a ns) above a) (child_spots above number a ns)
  parents-among above number a no_children = All-nil (Under [] above a)
  parents-among above number a (child_then n ns) =
      let b : Around = record a { next = first_of ns } in
      let first : List Spot = spots (above ++ number ∷ []) b n in
      let rest : List Spot = child_spots above (number + 1) (round_next a n) ns in
      All-append (Under (first ++ rest) above a) first rest
      (λ k d within. child-top above number a b n first (first ++ rest) (get_or first k d) refl (Contains-append_left first rest) (parents-in (above ++ number ∷ []) b n k d within))
      (λ k d within. under-wider above a (round_next a n) rest (first ++ rest) (get_or rest k d) refl (Contains-append_right first rest) (parents-among above (number + 1) (round_next a n) ns k d within))

-- each node of a document but the root has its parent at the place above
pub parent-there : (root : Numbered) (t : Spot) → Contains (spots_in root) t → (t ≡ top [] round_root root) ⊎ HasParent (spots_in root) t
parent-there root t h = All-contains (From (spots_in root) (top [] round_root root)) (spots_in root) t (parents-in [] round_root root) h
