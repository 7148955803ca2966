-- What a step keeps stands below the element where it begins.
use Rattle.std.proofs.Common.{◌≡◌, ◌+◌, ◌==◌, ℕ, zero, suc, Bool, true, false, ◌&&◌, ◌||◌, List, [], ◌∷◌, ◌++◌, map, filter, flat_map, length, get_or, cond, refl, sym, ap, ◌∙◌, subst, arith, append_assoc, inl, inr}
use Rattle.std.specs.List.{All, Contains, list_any}
use Rattle.std.proofs.lemmas.Bool.{cases_lt}
use Rattle.std.proofs.lemmas.Bool.Decides.{nat_tests}
use Rattle.std.proofs.lemmas.List.{length-append}
use Rattle.std.proofs.lemmas.List.Elements.{All-nil, All-cons, All-append, All-tail, All-head, All-filter, All-contains, All-get_or, Contains-append_left, Contains-append_right}
use Rattle.std.proofs.lemmas.Slice.Eq.{bytes_eq-Decides}
use Rattle.plain_tree.specs.Document.{Node, element, text, Nodes, no_nodes, node_then}
use Rattle.path_meaning.specs.Elements as el
use Rattle.path_meaning.specs.Elements.{Element, placed, elements_among, element_children, elements_from, elements_below, elements, kids_of, is_same, is_in}
use Rattle.path_grammar.specs.Form as form
use Rattle.path_grammar.specs.Form.{Step, step, Steps, no_steps, step_then, Predicate, Predicates, no_predicates, predicate_then}
use Rattle.path_meaning.specs.Meaning.{is_named, filtered, filtered_by, is_true, led, stepped, item}
use Rattle.path_meaning.proofs.Lists.{filter-filter, filter-alike}
use Rattle.ordered_tree.specs.Numbered.{Numbered, element_at, text_at, Children, no_children, child_then, plain, plain_children, first_of, is_element}
use Rattle.ordered_tree.specs.Stands.{round_root, round_first, round_next}
use Rattle.ordered_tree.specs.declared.around.Around.{Around}
use Rattle.ft_base.specs.declared.ids.NodeRef.{NodeRef}
use Rattle.path_nodes.specs.steps.Kept.{parents, kept, kept_children}
use Rattle.path_nodes.specs.References.{Spot, spots, child_spots, spots_in, spot_element, element_of, IsElement}
use Rattle.path_nodes.specs.steps.Regions.{at_or_below, below}
use Rattle.path_nodes.specs.Says.{Meaning, satisfied}
use Rattle.path_nodes.specs.steps.Within.{is_prefix, AtOrBelow, IsBelow}
use Rattle.path_meaning.proofs.InOrder.{From, from, under}
use Rattle.path_nodes.proofs.PrefixLemmas.{prefix-of, region}
use Rattle.path_nodes.proofs.MeaningLemmas.{lists-are}
use Rattle.path_nodes.proofs.NumberLemmas.{numbered_from, at, past, before}
use Rattle.path_nodes.proofs.PlaceLemmas.{element-is}
use Rattle.path_nodes.proofs.RegionLemmas.{opened}
use Rattle.path_nodes.proofs.SpotLemmas.{Contains-cons}

-- ---- an element that a reference names is one of the document

abbrev Is : List Element → Spot → Type 0
Is xs s = is_element s.stand.node ≡ true → Contains xs (spot_element s)

wider : (xs ys : List Element) (ss : List Spot) → ((e : Element) → Contains xs e → Contains ys e) → All (Is xs) ss → All (Is ys) ss
wider xs ys ss f h k d within e = f (spot_element (get_or ss k d)) (h k d within e)

text-none : (place : List ℕ) (a : Around) (r : NodeRef) (bytes : List ℕ) → All (λ s. is_element s.stand.node ≡ true → ⊥) (spots place a (text_at r bytes))
unfolding spots
text-none place a r bytes =
    All-cons (λ s. is_element s.stand.node ≡ true → ⊥) (record { place = place; stand = record { node = text_at r bytes; around = a } }) [] (λ e. cc) (All-nil (λ s. is_element s.stand.node ≡ true → ⊥))

mutual
  unfolding spots child_spots

  in-from : (place : List ℕ) (a : Around) (n : Numbered) → All (Is (elements_from place (plain n))) (spots place a n)
  in-from place a (text_at r bytes) = λ k d within e. absurd (text-none place a r bytes k d within e)
  in-from place a (element_at r name attrs kids) =
      let all = elements_from place (plain (element_at r name attrs kids)) in
      All-cons (Is all) (record { place = place; stand = record { node = element_at r name attrs kids; around = a } }) (child_spots place 1 (round_first a.before r) kids)
      (λ e. (0, omega arith, refl))
      (wider (elements_below place 1 (plain_children kids)) all (child_spots place 1 (round_first a.before r) kids)
      (Contains-cons (placed place (plain (element_at r name attrs kids))) (elements_below place 1 (plain_children kids))) (in-below place 1 (round_first a.before r) kids))

  in-below : (above : List ℕ) (number : ℕ) (a : Around) (ns : Children) → All (Is (elements_below above number (plain_children ns))) (child_spots above number a ns)
  in-below above number a no_children = All-nil (Is [])
  in-below above number a (child_then n ns) =
      let first = elements_from (above ++ number ∷ []) (plain n) in
      let rest = elements_below above (number + 1) (plain_children ns) in
      All-append (Is (first ++ rest)) (spots (above ++ number ∷ []) (record a { next = first_of ns }) n) (child_spots above (number + 1) (round_next a n) ns)
      (wider first (first ++ rest) (spots (above ++ number ∷ []) (record a { next = first_of ns }) n) (Contains-append_left first rest) (in-from (above ++ number ∷ []) (record a { next = first_of ns }) n))
      (wider rest (first ++ rest) (child_spots above (number + 1) (round_next a n) ns) (Contains-append_right first rest) (in-below above (number + 1) (round_next a n) ns))

pub of-document : (root : Numbered) (r : NodeRef) → IsElement root r → Contains (elements (plain root)) (element_of root r)
of-document root r x = subst (Contains (elements (plain root))) (sym (element-is root r x)) (All-contains (Is (elements (plain root))) (spots_in root) x.spot (in-from [] round_root root) x.among x.element)

-- ---- what is kept are items of the list

numbered-of : (P : Element → Type 0) (k : ℕ) (items : List Element) → All P items → All P (numbered_from 1 k items)
numbered-of P zero items h = subst (All P) (sym (before 1 0 items (omega arith))) (All-nil P)
numbered-of P (suc k) [] h = All-nil P
numbered-of P (suc k) (x ∷ items) h =
    let e : 1 + k ≡ suc k = omega arith in
    elim (cases_lt k (length (x ∷ items))) [
      | inl lt ↦ subst (All P) (sym (at 1 k (x ∷ items) x lt) ∙ ap (λ n. numbered_from 1 n (x ∷ items)) e) (All-cons P (get_or (x ∷ items) k x) [] (All-get_or P (x ∷ items) k x lt h) (All-nil P))
      | inr ge ↦ subst (All P) (sym (past 1 k (x ∷ items) (omega (arith, ge))) ∙ ap (λ n. numbered_from 1 n (x ∷ items)) e) (All-nil P)
    ]

module _ (sat : ℕ → List Element → Element → Bool) (all : List Element) (P : Element → Type 0) where
  pub by-of : (p : Predicate) (items : List Element) → All P items → All P (filtered_by sat all p items)
  unfolding filtered_by
  by-of (form.number k) items h = numbered-of P k items h
  by-of (form.holds c) items h = All-filter (is_true sat all c) P items h

  pub filtered-of : (ps : Predicates) (items : List Element) → All P items → All P (filtered sat all ps items)
  unfolding filtered
  filtered-of no_predicates items h = h
  filtered-of (predicate_then p ps) items h = filtered-of ps (filtered_by sat all p items) (by-of p items h)

kept-of : (root : Numbered) (m : Meaning) (s : Step) (P : Element → Type 0) (items : List Element) → All P items → All P (kept root m s items)
kept-of root m (step deep test ps) P items h =
    filtered-of (satisfied root m) (elements (plain root)) P ps (filter (λ e. is_named test e.node) items) (All-filter (λ e. is_named test e.node) P items h)

-- ---- places below another

one-at : (above : List ℕ) (number : ℕ) (node : Node) → All (λ e. e.place ≡ above ++ number ∷ []) (el.element_at (above ++ number ∷ []) node)
one-at above number (element name attributes kids) = All-cons (λ e. e.place ≡ above ++ number ∷ []) (placed (above ++ number ∷ []) (element name attributes kids)) [] refl (All-nil (λ e. e.place ≡ above ++ number ∷ []))
one-at above number (text bytes) = All-nil (λ e. e.place ≡ above ++ number ∷ [])

children-strict : (above : List ℕ) (number : ℕ) (ns : Nodes) → All (λ e. (k : ℕ) × (e.place ≡ above ++ k ∷ [])) (elements_among above number ns)
children-strict above number no_nodes = All-nil (λ e. (k : ℕ) × (e.place ≡ above ++ k ∷ []))
children-strict above number (node_then n ns) =
    All-append (λ e. (k : ℕ) × (e.place ≡ above ++ k ∷ [])) (el.element_at (above ++ number ∷ []) n) (elements_among above (number + 1) ns)
    (λ k d within. (number, one-at above number n k d within)) (children-strict above (number + 1) ns)

tail-cons : (a b : ℕ) (p q : List ℕ) (c : Bool) → (a == b) ≡ c → (c && is_prefix p q) ≡ true → (is_prefix p q ≡ true → (r : List ℕ) × (q ≡ p ++ r)) → (r : List ℕ) × (b ∷ q ≡ (a ∷ p) ++ r)
tail-cons a b p q true e h further =
    let t = further h in
    let same : b ≡ a = grind (arith, nat_tests, e) in
    (t.0, ap (λ l. b ∷ l) t.1 ∙ ap (λ n. n ∷ (p ++ t.0)) same)
tail-cons a b p q false e h further = cc

pub tail-of : (p q : List ℕ) → is_prefix p q ≡ true → (r : List ℕ) × (q ≡ p ++ r)
tail-of [] q h = (q, refl)
tail-of (a ∷ p) [] h = cc
tail-of (a ∷ p) (b ∷ q) h = tail-cons a b p q (a == b) refl h (tail-of p q)

strict-from : (base y : Element) (k : ℕ) (r : List ℕ) → y.place ≡ base.place ++ (r ++ k ∷ []) → IsBelow base y
strict-from base y k [] is = (k, [], is)
strict-from base y k (n ∷ r) is = (n, r ++ k ∷ [], is)

strict-child : (base q : Element) (y : Element) → AtOrBelow base q → (k : ℕ) × (y.place ≡ q.place ++ k ∷ []) → IsBelow base y
strict-child base q y h (k, is) = strict-from base y k (tail-of base.place q.place h).0 (is ∙ ap (λ p. p ++ k ∷ []) (tail-of base.place q.place h).1 ∙ append_assoc base.place (tail-of base.place q.place h).0 (k ∷ []))

kept-strict : (root : Numbered) (m : Meaning) (s : Step) (base q : Element) → AtOrBelow base q → All (IsBelow base) (kept_children root m s q)
kept-strict root m s base q h =
    kept-of root m s (IsBelow base) (element_children q)
    (λ k d within. strict-child base q (get_or (element_children q) k d) h (children-strict q.place 1 (kids_of q.node) k d within))

pub kept-places : (root : Numbered) (m : Meaning) (s : Step) (q : Element) → All (λ e. (k : ℕ) × (e.place ≡ q.place ++ k ∷ [])) (kept_children root m s q)
kept-places root m s q = kept-of root m s (λ e. (k : ℕ) × (e.place ≡ q.place ++ k ∷ [])) (element_children q) (children-strict q.place 1 (kids_of q.node))

no-first : (base x y : Element) (ys : List Element) (b : Bool) → is_same x y ≡ b → (IsBelow base x → ⊥) → IsBelow base y → (is_same x y || list_any (is_same x) ys) ≡ list_any (is_same x) ys
no-first base x y ys true e never (k, r, is) = absurd (never (k, r, (bytes_eq-Decides x.place y.place).0 e ∙ is))
no-first base x y ys false e never s = ap (λ b. b || list_any (is_same x) ys) e

no-same : (base x : Element) (ys : List Element) → (IsBelow base x → ⊥) → All (IsBelow base) ys → list_any (is_same x) ys ≡ false
no-same base x [] never h = refl
no-same base x (y ∷ ys) never h = no-first base x y ys (is_same x y) refl never (All-head (IsBelow base) y ys h) ∙ no-same base x ys never (All-tail (IsBelow base) y ys h)

module _ (root : Numbered) (m : Meaning) (s : Step) (base : Element) where
  pub not-in : (x : Element) (qs : List Element) → (IsBelow base x → ⊥) → All (AtOrBelow base) qs → is_in (map (kept_children root m s) qs) x ≡ false
  not-in x [] never h = refl
  not-in x (q ∷ qs) never h =
      ap (λ b. b || is_in (map (kept_children root m s) qs) x) (no-same base x (kept_children root m s q) never (kept-strict root m s base q (All-head (AtOrBelow base) q qs h)))
      ∙ not-in x qs never (All-tail (AtOrBelow base) q qs h)

  pub not-itself : IsBelow base base → ⊥
  not-itself (k, r, is) = let l = length-append base.place (k ∷ r) in omega (arith, l, ap length is)

  strict-prefix : (x : Element) → IsBelow base x → is_prefix base.place x.place ≡ true
  strict-prefix x (k, r, is) = ap (is_prefix base.place) is ∙ prefix-of base.place (k ∷ r)

  and-prefix : (x : Element) (qs : List Element) → All (AtOrBelow base) qs → (b : Bool) → is_prefix base.place x.place ≡ b
      → is_in (map (kept_children root m s) qs) x ≡ (b && is_in (map (kept_children root m s) qs) x)
  and-prefix x qs h true e = refl
  and-prefix x qs h false e = not-in x qs (λ st. let f : true ≡ false = sym (strict-prefix x st) ∙ e in cc) h

pub within-base : (root : Numbered) (m : Meaning) (s : Step) (r : NodeRef) (x : IsElement root r) (qs : List Element) → All (AtOrBelow (element_of root r)) qs
    → filter (is_in (map (kept_children root m s) qs)) (below (element_of root r)) ≡ filter (is_in (map (kept_children root m s) qs)) (elements (plain root))
within-base root m s r x qs h =
    let base = element_of root r in
    let g = is_in (map (kept_children root m s) qs) in
    sym (
    filter-alike g (λ e. is_prefix base.place e.place && g e) (elements (plain root)) (λ k d within. let y = get_or (elements (plain root)) k d in and-prefix root m s base y qs h (is_prefix base.place y.place) refl)
    ∙ sym (filter-filter (λ e. is_prefix base.place e.place) g (elements (plain root)))
    ∙ ap (filter g) (region [] (plain root) base (of-document root r x))
    ∙ ap (filter g) (opened root r x)
    ∙ ap (λ b. cond b (base ∷ filter g (below base)) (filter g (below base))) (not-in root m s base base qs (not-itself root m s base) h)
    )

below-base : (base : Element) → All (AtOrBelow base) (below base)
below-base base k d within = let b = under base.place 1 (kids_of base.node) k d within in ap (is_prefix base.place) b.3 ∙ prefix-of base.place (b.0 ∷ b.1)

pub chosen-inside : (root : Numbered) (m : Meaning) (s : Step) (r : NodeRef) (x : IsElement root r) (qs : List Element) → All (AtOrBelow (element_of root r)) qs
    → All (AtOrBelow (element_of root r)) (filter (is_in (map (kept_children root m s) qs)) (elements (plain root)))
chosen-inside root m s r x qs h =
    let base = element_of root r in
    subst (All (AtOrBelow base)) (within-base root m s r x qs h) (All-filter (is_in (map (kept_children root m s) qs)) (AtOrBelow base) (below base) (below-base base))

pub prefix-further : (base c : Element) (y : Element) → AtOrBelow base c → From c.place y → AtOrBelow base y
prefix-further base c y h (r, is) =
    let t = tail-of base.place c.place h in
    ap (is_prefix base.place) (is ∙ ap (λ p. p ++ r) t.1 ∙ append_assoc base.place t.0 r) ∙ prefix-of base.place (t.0 ++ r)

pub parents-inside : (base : Element) (deep : Bool) (cs : List Element) → All (AtOrBelow base) cs → All (AtOrBelow base) (parents deep cs)
parents-inside base false cs h = h
parents-inside base true [] h = All-nil (AtOrBelow base)
parents-inside base true (c ∷ cs) h =
    All-append (AtOrBelow base) (at_or_below c) (flat_map at_or_below cs)
    (λ k d within. prefix-further base c (get_or (at_or_below c) k d) (All-head (AtOrBelow base) c cs h) (from c.place c.node k d within))
    (parents-inside base true cs (All-tail (AtOrBelow base) c cs h))

pub map-map : (root : Numbered) (m : Meaning) (deep : Bool) (test : _) (ps : Predicates) (xs : List Element) → map (λ items. filtered (satisfied root m) (elements (plain root)) ps (filter (λ e. is_named test e.node) items)) (map element_children xs) ≡ map (kept_children root m (step deep test ps)) xs
map-map root m deep test ps [] = refl
map-map root m deep test ps (x ∷ xs) = ap (λ l. kept_children root m (step deep test ps) x ∷ l) (map-map root m deep test ps xs)

-- what a step leads to, by its parents
pub stepped-is : (root : Numbered) (m : Meaning) (s : Step) (deep : Bool) (test : _) (ps : Predicates) (cs : List Element) → s ≡ step deep test ps
    → filter (is_in (map (kept_children root m s) (parents deep cs))) (elements (plain root)) ≡ stepped (satisfied root m) (elements (plain root)) s (map item cs)
unfolding stepped
stepped-is root m s deep test ps cs is =
    ap (λ t. filter (is_in (map (kept_children root m t) (parents deep cs))) (elements (plain root))) is
    ∙ ap (λ ls. filter (is_in ls) (elements (plain root))) (sym (map-map root m deep test ps (parents deep cs)))
    ∙ ap (λ ls. filter (is_in (map (λ items. filtered (satisfied root m) (elements (plain root)) ps (filter (λ e. is_named test e.node) items)) ls)) (elements (plain root))) (sym (lists-are deep cs))
    ∙ ap (λ t. stepped (satisfied root m) (elements (plain root)) t (map item cs)) (sym is)

-- it stands below what the contexts stand below
module _ (root : Numbered) (m : Meaning) (r : NodeRef) (x : IsElement root r) where
  pub stepped-inside : (s : Step) (cs : List Element) → All (AtOrBelow (element_of root r)) cs → All (AtOrBelow (element_of root r)) (stepped (satisfied root m) (elements (plain root)) s (map item cs))
  stepped-inside (step deep test ps) cs h =
      subst (All (AtOrBelow (element_of root r))) (stepped-is root m (step deep test ps) deep test ps cs refl)
      (chosen-inside root m (step deep test ps) r x (parents deep cs) (parents-inside (element_of root r) deep cs h))

  pub led-inside : (ss : Steps) (cs : List Element) → All (AtOrBelow (element_of root r)) cs → All (AtOrBelow (element_of root r)) (led (satisfied root m) (elements (plain root)) ss cs)
  unfolding led
  led-inside no_steps cs h = h
  led-inside (step_then s rest) cs h = led-inside rest (stepped (satisfied root m) (elements (plain root)) s (map item cs)) (stepped-inside s cs h)
