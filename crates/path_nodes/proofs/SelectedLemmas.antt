-- A step from a document: its root, and what a deep step finds below it.
use Rattle.std.proofs.Common.{◌≡◌, ◌≢◌, ◌<◌, ◌≤◌, ◌+◌, ◌==◌, ◌⊎◌, inl, inr, ℕ, Bool, true, false, ◌||◌, List, [], ◌∷◌, ◌++◌, map, filter, flat_map, drop, length, get_or, cond, refl, sym, ap, ◌∙◌, subst, arith, append-nil}
use Rattle.std.specs.List.{All, AllPairs, Contains, list_any}
use Rattle.std.specs.Prelude.{sum_by}
use Rattle.std.proofs.lemmas.Bool.{false_from_ne_true}
use Rattle.std.proofs.lemmas.List.{length-append}
use Rattle.std.proofs.lemmas.Slice.Eq.{bytes_eq-Decides}
use Rattle.plain_tree.specs.Document.{Node, element, text}
use Rattle.path_meaning.specs.Elements as el
use Rattle.path_meaning.specs.Elements.{Element, placed, elements, kids_of, is_same, is_in}
use Rattle.path_grammar.specs.Form as form
use Rattle.path_grammar.specs.Form.{Step, step, Predicate, Predicates, no_predicates, predicate_then}
use Rattle.path_meaning.specs.Meaning.{document, item, children, is_named, filtered, filtered_by, is_true, stepped, led, selected}
use Rattle.path_grammar.specs.View as view
use Rattle.path_grammar.specs.declared.path.Step as steps
use Rattle.path_meaning.proofs.Lists.{filter-alike}
use Rattle.path_meaning.proofs.Traced.{same_itself}
use Rattle.ordered_tree.specs.Numbered.{Numbered, element_at, text_at, plain, reference, is_element}
use Rattle.ordered_tree.specs.Stands.{round_root, references}
use Rattle.ft_base.specs.declared.ids.NodeRef.{NodeRef}
use Rattle.path_nodes.specs.steps.Kept.{kept, kept_children}
use Rattle.path_nodes.specs.Prices.{list_price, children_price, step_price}
use Rattle.path_nodes.specs.References.{Spot, spots, spots_in, element_of, IsElement}
use Rattle.path_nodes.specs.steps.Regions.{at_or_below, below}
use Rattle.path_nodes.specs.Says.{Meaning, satisfied}
use Rattle.path_nodes.specs.steps.Within.{is_prefix, AtOrBelow}
use Rattle.path_nodes.proofs.AskedLemmas.{step-is}
use Rattle.path_nodes.proofs.ChosenLemmas.{map-map, not-in, not-itself, stepped-is}
use Rattle.path_meaning.proofs.InOrder.{under}
use Rattle.path_nodes.proofs.PrefixLemmas.{filter-none}
use Rattle.path_nodes.proofs.MeaningLemmas.{by-none, filtered-none, items-children}
use Rattle.path_nodes.proofs.PriceLemmas.{step-price, own-price, deep-document-price}
use Rattle.path_nodes.proofs.RegionLemmas.{opened}
use Rattle.path_nodes.proofs.SpotLemmas.{element_of-is}

-- the element alone, or nothing
abbrev Short : Element → List Element → Type 0
Short e xs = (xs ≡ []) ⊎ (xs ≡ e ∷ [])

one-or-none : (e : Element) (b : Bool) → Short e (cond b (e ∷ []) [])
one-or-none e true = inr refl
one-or-none e false = inl refl

number-short : (e : Element) (k : ℕ) (b : Bool) → Short e (map (λ (c : ℕ × Element). c.1) (cond b ((1, e) ∷ []) []))
number-short e k true = inr refl
number-short e k false = inl refl

module _ (sat : ℕ → List Element → Element → Bool) (all : List Element) (e : Element) where
  by-short : (p : Predicate) → Short e (filtered_by sat all p (e ∷ []))
  unfolding filtered_by
  by-short (form.number k) = number-short e k (k == 1)
  by-short (form.holds c) = one-or-none e (is_true sat all c e)

  filtered-short : (ps : Predicates) (xs : List Element) → Short e xs → Short e (filtered sat all ps xs)
  unfolding filtered
  filtered-short no_predicates xs h = h
  filtered-short (predicate_then p ps) xs (inl is) = inl (ap (λ l. filtered sat all ps (filtered_by sat all p l)) is ∙ ap (filtered sat all ps) (by-none sat all p) ∙ filtered-none sat all ps)
  filtered-short (predicate_then p ps) xs (inr is) = subst (λ l. Short e (filtered sat all ps (filtered_by sat all p l))) (sym is) (filtered-short ps (filtered_by sat all p (e ∷ [])) (by-short p))

kept-short : (root : Numbered) (m : Meaning) (s : Step) (e : Element) → Short e (kept root m s (e ∷ []))
kept-short root m (step deep test ps) e = filtered-short (satisfied root m) (elements (plain root)) e ps (filter (λ x. is_named test x.node) (e ∷ [])) (one-or-none e (is_named test e.node))

-- an element below another isn't the same
below-other : (base x : Element) (k : ℕ) (r : List ℕ) → x.place ≡ base.place ++ k ∷ r → is_same x base ≡ false
below-other base x k r is =
    false_from_ne_true (is_same x base) (λ h. let same : x.place ≡ base.place = (bytes_eq-Decides x.place base.place).0 h in
    let l = length-append base.place (k ∷ r) in omega (arith, l, ap length (sym same ∙ is)))

-- the root's own list, and what is found below it
module _ (e : Element) (h : Element → Bool) (apart : h e ≡ false) where
  below-none : filter h (e ∷ below e) ≡ filter h (below e)
  below-none = ap (λ b. cond b (e ∷ filter h (below e)) (filter h (below e))) apart

  pub root-then-below : (ks : List Element) → Short e ks → filter (λ x. list_any (is_same x) ks || h x) (e ∷ below e) ≡ ks ++ filter h (below e)
  root-then-below ks (inl is) = ap (λ l. filter (λ x. list_any (is_same x) l || h x) (e ∷ below e)) is ∙ below-none ∙ ap (λ l. l ++ filter h (below e)) (sym is)
  root-then-below ks (inr is) =
      ap (λ l. filter (λ x. list_any (is_same x) l || h x) (e ∷ below e)) is
      ∙ ap (λ b. cond ((b || false) || h e) (e ∷ filter (λ x. (is_same x e || false) || h x) (below e)) (filter (λ x. (is_same x e || false) || h x) (below e))) (same_itself e)
      ∙ ap (λ l. e ∷ l) (filter-alike (λ x. (is_same x e || false) || h x) h (below e)
      (λ k d within. let b = under e.place 1 (kids_of e.node) k d within in
      ap (λ c. (c || false) || h (get_or (below e) k d)) (below-other e (get_or (below e) k d) b.0 b.1 b.3)))
      ∙ ap (λ l. l ++ filter h (below e)) (sym is)

module _ (root : Numbered) (m : Meaning) (test : _) (ps : Predicates) (e : Element) (alone : el.element_at [] (plain root) ≡ e ∷ []) (all : elements (plain root) ≡ e ∷ below e) where
  -- what a step keeps of the root is what it leads to from the document
  pub from-document : kept root m (step false test ps) (e ∷ []) ≡ stepped (satisfied root m) (elements (plain root)) (step false test ps) (document (plain root) ∷ [])
  unfolding stepped
  from-document =
      let s = step false test ps in
      let ks = kept root m s (e ∷ []) in
      sym (
      ap (λ items. filter (is_in (kept root m s items ∷ [])) (elements (plain root))) alone
      ∙ ap (filter (is_in (ks ∷ []))) all
      ∙ root-then-below e (λ x. false) refl ks (kept-short root m s e)
      ∙ ap (λ l. ks ++ l) (filter-none (λ x. false) (below e) (λ k d within. refl))
      ∙ append-nil ks
      )

  -- a deep step leads also to what it keeps of the children of each element
  pub deep-from-document : is_in (map (kept_children root m (step true test ps)) (elements (plain root))) e ≡ false
      → kept root m (step true test ps) (e ∷ []) ++ filter (is_in (map (kept_children root m (step true test ps)) (elements (plain root)))) (elements (plain root))
      ≡ stepped (satisfied root m) (elements (plain root)) (step true test ps) (document (plain root) ∷ [])
  unfolding stepped
  deep-from-document apart =
      let s = step true test ps in
      let ks = kept root m s (e ∷ []) in
      let every = elements (plain root) in
      let f : List Element → List Element = λ items. filtered (satisfied root m) (elements (plain root)) ps (filter (λ x. is_named test x.node) items) in
      let h = is_in (map (kept_children root m s) every) in
      sym (
      ap (λ items. filter (is_in (kept root m s items ∷ map f (map children (map item every) ++ []))) every) alone
      ∙ ap (λ ls. filter (is_in (ks ∷ map f ls)) every) (append-nil (map children (map item every)) ∙ items-children every)
      ∙ ap (λ ls. filter (is_in (ks ∷ ls)) every) (map-map root m true test ps every)
      ∙ ap (filter (is_in (ks ∷ map (kept_children root m s) every))) all
      ∙ root-then-below e h apart ks (kept-short root m s e)
      ∙ ap (λ l. ks ++ l) (sym (ap (filter h) all ∙ below-none e h apart))
      )

-- ---- the root by its reference

abbrev pub root-spot : Numbered → Spot
root-spot root = record { place = []; stand = record { node = root; around = round_root } }

pub root-among : (root : Numbered) → Contains (spots_in root) (root-spot root)
unfolding spots
root-among (element_at r name attrs kids) = (0, omega arith, refl)
root-among (text_at r bytes) = (0, omega arith, refl)

module _ (root : Numbered) (r : NodeRef) (refers : r ≡ reference root) (apart : AllPairs (λ a b. a ≢ b) (references root)) where
  pub root-there : is_element root ≡ true → IsElement root r
  root-there is = record { spot = root-spot root; among = root-among root; refers = sym refers; element = is; apart = apart }

  pub root-placed : element_of root r ≡ placed [] (plain root)
  root-placed = ap (element_of root) refers ∙ element_of-is root (root-spot root) (root-among root) apart

-- every place is below the root's
pub below-root : (root : Numbered) (base : Element) → base ≡ placed [] (plain root) → (xs : List Element) → All (AtOrBelow base) xs
below-root root base first xs k d within = ap (λ b. is_prefix b.place (get_or xs k d).place) first

alone-is : (n : Node) (e : Element) (rest : List Element) → e ≡ placed [] n → elements n ≡ e ∷ rest → el.element_at [] n ≡ e ∷ []
alone-is (element name attributes kids) e rest is h = ap (λ x. x ∷ []) (sym is)
alone-is (text bytes) e rest is h = cc

-- ---- a step from the document by the root's reference

module _ (root : Numbered) (m : Meaning) (d : steps.Step) (r : NodeRef) (x : IsElement root r) (first : element_of root r ≡ placed [] (plain root)) where
  abbrev e : Element
  e = element_of root r

  abbrev every : List Element
  every = elements (plain root)

  abbrev ps : Predicates
  ps = form.predicates (map view.predicate d.predicates)

  all-of : every ≡ e ∷ below e
  all-of = ap at_or_below (sym first) ∙ opened root r x

  alone : el.element_at [] (plain root) ≡ e ∷ []
  alone = alone-is (plain root) e (below e) first all-of

  below-it : flat_map at_or_below (e ∷ []) ≡ every
  below-it = append-nil (at_or_below e) ∙ ap at_or_below first

  at-depth : (deep : Bool) → d.deep ≡ deep → view.step d ≡ step deep d.test ps
  at-depth deep is = step-is d ∙ ap (λ b. step b d.test ps) is

  pub one-step : d.deep ≡ false → kept root m (view.step d) (e ∷ []) ≡ stepped (satisfied root m) every (view.step d) (document (plain root) ∷ [])
  one-step flat =
      subst (λ t. kept root m t (e ∷ []) ≡ stepped (satisfied root m) every t (document (plain root) ∷ [])) (sym (at-depth false flat))
      (from-document root m d.test ps e alone all-of)

  -- the root's own, and what a deep step leads to from the root
  pub deep-step : d.deep ≡ true → kept root m (view.step d) (e ∷ []) ++ stepped (satisfied root m) every (view.step d) (item e ∷ []) ≡ stepped (satisfied root m) every (view.step d) (document (plain root) ∷ [])
  deep-step down =
      let apart = not-in root m (step true d.test ps) e e every (not-itself root m (step true d.test ps) e) (below-root root e first every) in
      subst (λ t. kept root m t (e ∷ []) ++ stepped (satisfied root m) every t (item e ∷ []) ≡ stepped (satisfied root m) every t (document (plain root) ∷ [])) (sym (at-depth true down))
      (ap (λ l. kept root m (step true d.test ps) (e ∷ []) ++ l)
      (sym (stepped-is root m (step true d.test ps) true d.test ps (e ∷ []) refl) ∙ ap (λ l. filter (is_in (map (kept_children root m (step true d.test ps)) l)) every) below-it)
      ∙ deep-from-document root m d.test ps e alone all-of apart)

  -- and what they cost
  pub deep-cost : d.deep ≡ true → list_price root m (view.step d) (e ∷ []) + step_price root m (view.step d) (item e ∷ []) ≡ step_price root m (view.step d) (document (plain root) ∷ [])
  deep-cost down =
      ap (λ n. list_price root m (view.step d) (e ∷ []) + n)
      (sym (step-price root m (view.step d) true d.test ps (e ∷ []) (at-depth true down)) ∙ ap (sum_by (children_price root m (view.step d))) below-it)
      ∙ deep-document-price root m (view.step d) d.test ps e (at-depth true down) alone

  pub own-cost : list_price root m (view.step d) (e ∷ []) ≤ step_price root m (view.step d) (document (plain root) ∷ [])
  own-cost = own-price root m (view.step d) d.deep d.test ps e (step-is d) alone

-- ---- the first step, then the others

module _ (sat : ℕ → List Element → Element → Bool) (root : Node) where
  pub selected-none : (xs : List steps.Step) → xs ≡ [] → [] ≡ selected sat (form.steps (map view.step xs)) root
  unfolding selected
  selected-none xs none = sym (ap (λ l. selected sat (form.steps (map view.step l)) root) none)

  pub selected-next : (xs : List steps.Step) (d : steps.Step) → 0 < length xs
      → led sat (elements root) (form.steps (map view.step (drop 1 xs))) (stepped sat (elements root) (view.step (get_or xs 0 d)) (document root ∷ [])) ≡ selected sat (form.steps (map view.step xs)) root
  unfolding selected
  selected-next [] d lt = absurd (omega (arith, lt))
  selected-next (x ∷ xs) d lt = refl

pub not-empty : {A : Type 0} (xs : List A) (b : Bool) → (xs ≡ [] → b ≡ true) → b ≡ false → 0 < length xs
not-empty [] b f e = let h : b ≡ true = f refl in cc
not-empty (x ∷ xs) b f e = omega arith
