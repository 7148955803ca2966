-- Each element of a document is named by a reference.
use Rattle.std.proofs.Common.{◌≡◌, ◌≢◌, ◌+◌, ℕ, Bool, true, List, [], ◌∷◌, ◌++◌, map, get_or, refl, sym, ap, ◌∙◌, subst, arith}
use Rattle.std.specs.List.{All, AllPairs, Contains}
use Rattle.std.proofs.lemmas.List.Elements.{All-nil, All-cons, All-head, All-tail, All-append, All-contains, Contains-append_left, Contains-append_right, Contains-get_or}
use Rattle.path_meaning.specs.Elements.{Element, placed, elements_from, elements_below, elements}
use Rattle.ordered_tree.specs.Numbered.{Numbered, element_at, text_at, Children, no_children, child_then, plain, plain_children, first_of, is_element}
use Rattle.ordered_tree.specs.Stands.{round_root, round_first, round_next, references}
use Rattle.ordered_tree.specs.declared.around.Around.{Around}
use Rattle.ft_base.specs.declared.ids.NodeRef.{NodeRef}
use Rattle.path_nodes.specs.References.{Spot, spots, child_spots, spots_in, spot_reference, spot_element, element_of, IsElement}
use Rattle.path_nodes.specs.Says.{Meaning, Agrees, Costs, reference_of, satisfied}
use Rattle.path_nodes.proofs.AboveLemmas.{top}
use Rattle.path_nodes.proofs.AlikeLemmas.{SayAlike}
use Rattle.path_nodes.proofs.PlaceLemmas.{reference-back}
use Rattle.path_nodes.proofs.SpotLemmas.{Contains-cons, element_of-is}

-- one of the nodes is this element
abbrev pub Has : List Spot → Element → Type 0
Has ss e = (s : Spot) × Contains ss s × (is_element s.stand.node ≡ true) × (spot_element s ≡ e)

has-more : (xs ys : List Spot) (e : Element) → ((s : Spot) → Contains xs s → Contains ys s) → Has xs e → Has ys e
has-more xs ys e f (s, there, is, same) = (s, f s there, is, same)

mutual
  unfolding spots child_spots

  pub has-from : (place : List ℕ) (a : Around) (n : Numbered) → All (Has (spots place a n)) (elements_from place (plain n))
  has-from place a (text_at r bytes) = All-nil (Has (spots place a (text_at r bytes)))
  has-from place a (element_at r name attrs kids) =
      let n = element_at r name attrs kids in
      let below : List Spot = child_spots place 1 (round_first a.before r) kids in
      let others = elements_below place 1 (plain_children kids) in
      All-cons (Has (top place a n ∷ below)) (placed place (plain n)) others (top place a n, (0, omega arith, refl), refl, refl)
      (λ k d within. has-more below (top place a n ∷ below) (get_or others k d) (Contains-cons (top place a n) below) (has-below place 1 (round_first a.before r) kids k d within))

  has-below : (above : List ℕ) (number : ℕ) (a : Around) (ns : Children) → All (Has (child_spots above number a ns)) (elements_below above number (plain_children ns))
  has-below above number a no_children = All-nil (Has [])
  has-below above number a (child_then n ns) =
      let b : Around = record a { next = first_of ns } in
      let first : List Spot = spots (above ++ number ∷ []) b n in
      let rest : List Spot = child_spots above (number + 1) (round_next a n) ns in
      let one = elements_from (above ++ number ∷ []) (plain n) in
      let others = elements_below above (number + 1) (plain_children ns) in
      All-append (Has (first ++ rest)) one others
      (λ k d within. has-more first (first ++ rest) (get_or one k d) (Contains-append_left first rest) (has-from (above ++ number ∷ []) b n k d within))
      (λ k d within. has-more rest (first ++ rest) (get_or others k d) (Contains-append_right first rest) (has-below above (number + 1) (round_next a n) ns k d within))

module _ (root : Numbered) (apart : AllPairs (λ a b. a ≢ b) (references root)) where
  pub element-there : (e : Element) → Contains (elements (plain root)) e → (r : NodeRef) × IsElement root r × (element_of root r ≡ e)
  element-there e there =
      let h = All-contains (Has (spots_in root)) (elements (plain root)) e (has-from [] round_root root) there in
      (spot_reference h.0, record { spot = h.0; among = h.1; refers = refl; element = h.2; apart = apart }, element_of-is root h.0 h.1 apart ∙ h.3)

  -- what is said of each reference is said of each element
  pub said-there : {A : Type 0} (f : ℕ → NodeRef → A) (g : ℕ → Element → A) → ((k : ℕ) (r : NodeRef) → IsElement root r → f k r ≡ g k (element_of root r))
      → All (λ e. (k : ℕ) → f k (reference_of root e) ≡ g k e) (elements (plain root))
  said-there f g agree = λ i d within k.
      let e = get_or (elements (plain root)) i d in
      let h = element-there e (Contains-get_or (elements (plain root)) i d within) in
      ap (λ x. f k (reference_of root x)) (sym h.2) ∙ ap (f k) (reference-back root h.0 h.1) ∙ agree k h.0 h.1 ∙ ap (g k) h.2

  -- an element by its reference
  by-reference : (e : Element) → Contains (elements (plain root)) e → IsElement root (reference_of root e) × (element_of root (reference_of root e) ≡ e)
  by-reference e there =
      let h = element-there e there in
      let back : reference_of root e ≡ h.0 = ap (reference_of root) (sym h.2) ∙ reference-back root h.0 h.1 in
      (subst (IsElement root) (sym back) h.1, ap (element_of root) back ∙ h.2)

  by-references : (xs : List Element) → All (Contains (elements (plain root))) xs
      → All (IsElement root) (map (reference_of root) xs) × (map (element_of root) (map (reference_of root) xs) ≡ xs)
  by-references [] h = (All-nil (IsElement root), refl)
  by-references (x ∷ xs) h =
      let P = Contains (elements (plain root)) in
      let first = by-reference x (All-head P x xs h) in
      let rest = by-references xs (All-tail P x xs h) in (
        All-cons (IsElement root) (reference_of root x) (map (reference_of root) xs) first.0 rest.0,
        ap (λ y. y ∷ map (element_of root) (map (reference_of root) xs)) first.1 ∙ ap (λ l. x ∷ l) rest.1,
      )

  pub agrees-there : (m : Meaning) (sat : ℕ → List Element → Element → Bool) → Agrees root m sat → All (SayAlike (satisfied root m) sat (plain root)) (elements (plain root))
  agrees-there m sat agree = λ i d within k without there.
      let e = get_or (elements (plain root)) i d in
      let one = by-reference e (Contains-get_or (elements (plain root)) i d within) in
      let all = by-references without there in
      agree k (map (reference_of root) without) (reference_of root e) all.0 one.0
      ∙ ap (λ l. sat k l (element_of root (reference_of root e))) all.1
      ∙ ap (sat k without) one.1

  pub costs-there : (m : Meaning) (price : ℕ → Element → ℕ) → Costs root m price → All (λ e. (k : ℕ) → m.price k (reference_of root e) ≡ price k e) (elements (plain root))
  costs-there m price costs = said-there m.price price costs
