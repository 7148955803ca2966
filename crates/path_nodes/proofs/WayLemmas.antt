-- What is above an element leads to it, and to what is below it.
use Rattle.std.proofs.Common.{◌≡◌, ◌≢◌, ◌<◌, ◌==◌, ◌⊎◌, inl, inr, ℕ, Bool, true, false, ◌&&◌, ◌||◌, List, [], ◌∷◌, ◌++◌, map, length, get_or, filter, append-nil, Some, None, refl, sym, ap, ◌∙◌, subst, arith}
use Rattle.std.specs.HashSet.{HashSet}
use Rattle.std.specs.List.{All, list_any}
use Rattle.std.proofs.lemmas.Bool.{or_right, eq-eqb, eqb-true}
use Rattle.std.proofs.lemmas.List.{length-append}
use Rattle.std.proofs.lemmas.List.Elements.{All-head, All-tail}
use Rattle.std.proofs.lemmas.Slice.Eq.{bytes_eq-Decides}
use Rattle.ordered_tree.specs.Numbered.{Numbered}
use Rattle.ordered_tree.specs.Stands.{OnNode, round_root}
use Rattle.ft_base.proofs.Truth.{fails_below}
use Rattle.ft_base.specs.declared.ids.NodeRef.{NodeRef}
use Rattle.path_meaning.specs.Elements.{Element, kids_of, is_same}
use Rattle.path_grammar.specs.Form.{Step}
use Rattle.path_nodes.specs.steps.Kept.{kept_children}
use Rattle.path_nodes.specs.steps.Marks.{is_marked}
use Rattle.path_nodes.specs.References.{spots_in, spot_reference, element_of, IsElement}
use Rattle.path_nodes.specs.steps.Regions.{below}
use Rattle.path_nodes.specs.Says.{Meaning}
use Rattle.path_nodes.specs.steps.Ways.{AreWays, LeadTo}
use Rattle.path_nodes.specs.steps.Within.{is_prefix, AtOrBelow, IsBelow}
use Rattle.path_nodes.proofs.AboveLemmas.{HasParent, top, parent-there}
use Rattle.path_nodes.proofs.ChildrenLemmas.{on_element}
use Rattle.path_nodes.proofs.ChosenLemmas.{tail-of, kept-places}
use Rattle.path_meaning.proofs.InOrder.{under}
use Rattle.path_nodes.proofs.PrefixLemmas.{filter-none}
use Rattle.path_nodes.proofs.MemberLemmas.{or-cases}
use Rattle.path_nodes.proofs.PlaceLemmas.{element-is, one-reference}
use Rattle.path_nodes.proofs.SpotLemmas.{of_number}

-- ---- the parent of an element

pub record Parent (root : Numbered) (node parent : NodeRef) : Type 0 where
  pub there : IsElement root parent
  pub number : ℕ
  pub place : (element_of root node).place ≡ (element_of root parent).place ++ number ∷ []

same-some : (r q : NodeRef) → Some r ≡ Some q → r ≡ q
same-some r q h = cc

not-some : (r : NodeRef) → None ≡ Some r → ⊥
not-some r h = cc

module _ (root : Numbered) (node : NodeRef) (x : IsElement root node) where
  parent-cases : (parent : NodeRef) → Some parent ≡ x.spot.stand.around.parent → (x.spot ≡ top [] round_root root) ⊎ HasParent (spots_in root) x.spot → Parent root node parent
  parent-cases parent is (inl first) = absurd (not-some parent (sym (is ∙ ap (λ s. s.stand.around.parent) first)))
  parent-cases parent is (inr h) =
      let same : spot_reference h.spot ≡ parent = same-some (spot_reference h.spot) parent (sym (is ∙ h.parent)) in
      let y : IsElement root parent = record { spot = h.spot; among = h.among; refers = same; element = h.element; apart = x.apart } in
      record {
        there = y;
        number = h.number;
        place = ap (λ e. e.place) (element-is root node x) ∙ h.place ∙ ap (λ e. e.place ++ h.number ∷ []) (sym (element-is root parent y));
      }

  pub parent-of : (parent : NodeRef) → OnNode root node (λ s. Some parent ≡ s.around.parent) → Parent root node parent
  parent-of parent on = parent-cases parent (on_element root node x (λ s. Some parent ≡ s.around.parent) on) (parent-there root x.spot x.among)

  root-cases : None ≡ x.spot.stand.around.parent → (x.spot ≡ top [] round_root root) ⊎ HasParent (spots_in root) x.spot → (element_of root node).place ≡ []
  root-cases is (inl first) = ap (λ e. e.place) (element-is root node x) ∙ ap (λ s. s.place) first
  root-cases is (inr h) = absurd (not-some (spot_reference h.spot) (is ∙ h.parent))

  pub root-of : OnNode root node (λ s. None ≡ s.around.parent) → (element_of root node).place ≡ []
  root-of on = root-cases (on_element root node x (λ s. None ≡ s.around.parent) on) (parent-there root x.spot x.among)

pub shorter : (root : Numbered) (node parent : NodeRef) → Parent root node parent → length (element_of root parent).place < length (element_of root node).place
shorter root node parent p =
    let long = length-append (element_of root parent).place (p.number ∷ []) in
    omega (arith, long, ap length p.place)

-- ---- what is above an element is at or above its parent

first-same : (a b : ℕ) (p q : List ℕ) → a ∷ p ≡ b ∷ q → a ≡ b
first-same a b p q h = cc

rest-same : (a b : ℕ) (p q : List ℕ) → a ∷ p ≡ b ∷ q → p ≡ q
rest-same a b p q h = cc

pub prefix-above : (p q : List ℕ) (n k : ℕ) (r : List ℕ) → q ++ n ∷ [] ≡ p ++ k ∷ r → is_prefix p q ≡ true
prefix-above [] q n k r h = refl
prefix-above (b ∷ p) [] n k r h = let long = length-append p (k ∷ r) in absurd (omega (arith, long, ap length h))
prefix-above (b ∷ p) (c ∷ q) n k r h =
    let same : b ≡ c = sym (first-same c b (q ++ n ∷ []) (p ++ k ∷ r) h) in
    ap (λ d. d && is_prefix p q) (eq-eqb b c same) ∙ prefix-above p q n k r (rest-same c b (q ++ n ∷ []) (p ++ k ∷ r) h)

-- the element itself, or one that is marked
abbrev pub Reached : {S : Type 0} → NodeRef → HashSet ℕ S → NodeRef → Type 0
Reached node ways r = (r ≡ node) ⊎ (is_marked ways r ≡ true)

module _ {S : Type 0} (root : Numbered) (node : NodeRef) (x : IsElement root node) (ways : HashSet ℕ S) where
  reached-up : (parent : NodeRef) → Parent root node parent → AreWays root ways → is_marked ways parent ≡ true → (r : NodeRef) → IsElement root r → (t : List ℕ) → (element_of root node).place ≡ (element_of root r).place ++ t → Reached node ways r
  reached-up parent p closed m r y [] is = inl (one-reference root r node y x (sym (is ∙ append-nil (element_of root r).place)))
  reached-up parent p closed m r y (k ∷ t) is =
      inr (closed r parent y p.there (prefix-above (element_of root r).place (element_of root parent).place p.number k t (sym p.place ∙ is)) m)

  pub above-child : (parent : NodeRef) → Parent root node parent → AreWays root ways → is_marked ways parent ≡ true → (r : NodeRef) → IsElement root r → AtOrBelow (element_of root r) (element_of root node) → Reached node ways r
  above-child parent p closed m r y h =
      let t = tail-of (element_of root r).place (element_of root node).place h in
      reached-up parent p closed m r y t.0 t.1

  at-root : (r : NodeRef) → IsElement root r → (element_of root node).place ≡ [] → (t : List ℕ) → (element_of root node).place ≡ (element_of root r).place ++ t → Reached node ways r
  at-root r y none [] is = inl (one-reference root r node y x (sym (is ∙ append-nil (element_of root r).place)))
  at-root r y none (k ∷ t) is = let long = length-append (element_of root r).place (k ∷ t) in absurd (omega (arith, long, ap length (sym none ∙ is)))

  pub above-root : (element_of root node).place ≡ [] → (r : NodeRef) → IsElement root r → AtOrBelow (element_of root r) (element_of root node) → Reached node ways r
  above-root none r y h =
      let t = tail-of (element_of root r).place (element_of root node).place h in
      at-root r y none t.0 t.1

-- ---- one more is marked

module _ {S : Type 0} (node : NodeRef) (before after : HashSet ℕ S) (marked : (r : NodeRef) → is_marked after r ≡ ((r.0 == node.0) || is_marked before r)) where
  pub still : (r : NodeRef) → is_marked before r ≡ true → is_marked after r ≡ true
  still r h = marked r ∙ or_right (r.0 == node.0) (is_marked before r) h

  pub itself : is_marked after node ≡ true
  itself = marked node ∙ ap (λ b. b || is_marked before node) (eq-eqb node.0 node.0 refl)

  reached-marked : (r : NodeRef) → Reached node before r → is_marked after r ≡ true
  reached-marked r (inl same) = ap (is_marked after) same ∙ itself
  reached-marked r (inr m) = still r m

  pub ways-more : (root : Numbered) → AreWays root before → ((r : NodeRef) → IsElement root r → AtOrBelow (element_of root r) (element_of root node) → Reached node before r) → AreWays root after
  ways-more root closed above r q y z h m =
      or-cases (q.0 == node.0) (is_marked before q) (is_marked after r) (sym (marked q) ∙ m)
      (λ e. reached-marked r (above r y (subst (λ n. AtOrBelow (element_of root r) (element_of root n)) (ap of_number (eqb-true q.0 node.0 e)) h)))
      (λ b. still r (closed r q y z h b))

-- ---- what is above an element of whose children some are kept leads to them

abbrev IsChild : List ℕ → Element → Type 0
IsChild above e = (k : ℕ) × (e.place ≡ above ++ k ∷ [])

any-first : (e x : Element) (above : List ℕ) (b c : Bool) → is_same e x ≡ b → IsChild above x → (c ≡ true → IsChild above e) → (b || c) ≡ true → IsChild above e
any-first e x above true c is (k, at) further h = (k, (bytes_eq-Decides e.place x.place).0 is ∙ at)
any-first e x above false c is at further h = further h

any-child : (xs : List Element) (e : Element) (above : List ℕ) → All (IsChild above) xs → list_any (is_same e) xs ≡ true → IsChild above e
any-child [] e above all h = cc
any-child (x ∷ xs) e above all h =
    any-first e x above (is_same e x) (list_any (is_same e) xs) refl (All-head (IsChild above) x xs all) (any-child xs e above (All-tail (IsChild above) x xs all)) h

some-there : {A B : Type 0} (f : A → B) (p : B → Bool) (xs : List A) → list_any p (map f xs) ≡ true → xs ≢ []
some-there f p xs h none = let e : false ≡ true = ap (λ l. list_any p (map f l)) (sym none) ∙ h in cc

pub lead-kept : {S : Type 0} (root : Numbered) (m : Meaning) (s : Step) (q : NodeRef) (y : IsElement root q) (ways : HashSet ℕ S) → AreWays root ways
    → (items : List NodeRef) → map (element_of root) items ≡ kept_children root m s (element_of root q) → ((items ≢ []) → is_marked ways q ≡ true)
    → (r : NodeRef) → IsElement root r → (e : Element) → IsBelow (element_of root r) e → list_any (is_same e) (kept_children root m s (element_of root q)) ≡ true → is_marked ways r ≡ true
lead-kept root m s q y ways closed items kept there r x e (k, t, is) some =
    let child = any-child (kept_children root m s (element_of root q)) e (element_of root q).place (kept-places root m s (element_of root q)) some in
    closed r q x y (prefix-above (element_of root r).place (element_of root q).place child.0 k t (sym child.1 ∙ is))
    (there (some-there (element_of root) (is_same e) items (ap (list_any (is_same e)) kept ∙ some)))

-- ---- nothing below an element that leads to none

pub none-below : {S : Type 0} (root : Numbered) (r : NodeRef) (x : IsElement root r) (ways : HashSet ℕ S) (test : Element → Bool) → LeadTo root ways test → is_marked ways r ≡ false → filter test (below (element_of root r)) ≡ []
none-below root r x ways test lead none =
    let base = element_of root r in
    filter-none test (below base)
    (λ k d within. let b = under base.place 1 (kids_of base.node) k d within in
    fails_below (test (get_or (below base) k d)) (is_marked ways r) (lead r x (get_or (below base) k d) (b.0, b.1, b.3)) none)
