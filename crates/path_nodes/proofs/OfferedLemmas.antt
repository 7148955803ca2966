-- What a step without numbers keeps of what it is offered is what it keeps of the children of each parent, and costs the same.
use Rattle.std.proofs.Common.{◌≡◌, ◌+◌, ℕ, Bool, true, false, ◌||◌, ◌&&◌, List, [], ◌∷◌, ◌++◌, map, filter, flat_map, get_or, refl, sym, ap, ◌∙◌, subst, arith}
use Rattle.std.specs.List.{All, AllPairs, Contains, list_any}
use Rattle.std.specs.Prelude.{sum_by}
use Rattle.std.proofs.lemmas.Grind.{flat_map-append}
use Rattle.std.proofs.lemmas.List.Elements.{All-nil, All-tail, All-filter, All-weaker, filter-append}
use Rattle.std.proofs.lemmas.List.Folds.{list_any-append}
use Rattle.std.proofs.lemmas.List.Kept.{AllPairs-filter}
use Rattle.std.proofs.lemmas.List.Sums.{sum_by-cons, sum_by-append}
use Rattle.plain_tree.specs.Document.{Node, element, text, Nodes, no_nodes, node_then}
use Rattle.path_grammar.specs.declared.path.NameTest.{NameTest}
use Rattle.path_grammar.specs.Form as form
use Rattle.path_grammar.specs.Form.{Step, step, Predicates, no_predicates, predicate_then}
use Rattle.path_meaning.specs.Elements as el
use Rattle.path_meaning.specs.Elements.{Element, placed, elements_among, element_children, elements_from, elements_below, elements, kids_of, is_same, is_in}
use Rattle.path_meaning.specs.Meaning.{is_named, filtered, filtered_by, is_true}
use Rattle.path_meaning.specs.Order.{Before}
use Rattle.path_meaning.specs.Tests.{predicates_tests}
use Rattle.path_meaning.proofs.InOrder.{ordered-from}
use Rattle.path_meaning.proofs.Lists.{filter-true, filter-filter, filter-alike, list_any-filter}
use Rattle.ordered_tree.specs.Numbered.{Numbered, plain}
use Rattle.path_nodes.specs.Prices.{predicates_price, condition_price, children_price}
use Rattle.path_nodes.specs.Says.{Meaning, satisfied}
use Rattle.path_nodes.specs.steps.Kept.{parents, offered, kept_children, passes, some_number, has_number}
use Rattle.path_nodes.specs.steps.Regions.{at_or_below, below}
use Rattle.path_nodes.specs.steps.Within.{Precedes}
use Rattle.path_nodes.proofs.AlikeLemmas.{region-in, children-in}
use Rattle.path_nodes.proofs.OrderLemmas.{all-flat, pairs-flat, part-of, offered-ordered, offered-within}
use Rattle.path_nodes.proofs.PriceLemmas.{price-append, price-none, price-holds}

-- ---- what is below an element are the children of the elements at or below it, in another order

module _ {M : Type 0} (h : List Element → M) (and : M → M → M) (joined : (xs ys : List Element) → h (xs ++ ys) ≡ and (h xs) (h ys)) (turned : (a b c d : M) → and (and a b) (and c d) ≡ and (and a c) (and b d)) where
  mutual
    node-parts : (place : List ℕ) (n : Node) → and (h (el.element_at place n)) (h (flat_map element_children (elements_from place n))) ≡ h (elements_from place n)
    node-parts place (element name attributes kids) =
        let e = placed place (element name attributes kids) in
        ap (and (h (e ∷ []))) (joined (elements_among place 1 kids) (flat_map element_children (elements_below place 1 kids)) ∙ list-parts place 1 kids)
        ∙ sym (joined (e ∷ []) (elements_below place 1 kids))
    node-parts place (text bytes) = sym (joined [] [])

    list-parts : (above : List ℕ) (number : ℕ) (ns : Nodes) → and (h (elements_among above number ns)) (h (flat_map element_children (elements_below above number ns))) ≡ h (elements_below above number ns)
    list-parts above number no_nodes = sym (joined [] [])
    list-parts above number (node_then n ns) =
        let first = el.element_at (above ++ number ∷ []) n in
        let more = elements_among above (number + 1) ns in
        let region = elements_from (above ++ number ∷ []) n in
        let rest = elements_below above (number + 1) ns in
        ap (λ m. and m (h (flat_map element_children (region ++ rest)))) (joined first more)
        ∙ ap (λ l. and (and (h first) (h more)) (h l)) (flat_map-append element_children region rest)
        ∙ ap (and (and (h first) (h more))) (joined (flat_map element_children region) (flat_map element_children rest))
        ∙ turned (h first) (h more) (h (flat_map element_children region)) (h (flat_map element_children rest))
        ∙ ap (λ m. and m (and (h more) (h (flat_map element_children rest)))) (node-parts (above ++ number ∷ []) n)
        ∙ ap (and (h region)) (list-parts above (number + 1) ns)
        ∙ sym (joined region rest)

  region-parts : (place : List ℕ) (n : Node) → h (flat_map element_children (elements_from place n)) ≡ h (elements_below place 1 (kids_of n))
  region-parts place (element name attributes kids) = joined (elements_among place 1 kids) (flat_map element_children (elements_below place 1 kids)) ∙ list-parts place 1 kids
  region-parts place (text bytes) = refl

  pub offered-parts : (deep : Bool) (cs : List Element) → h (flat_map element_children (parents deep cs)) ≡ h (flat_map (offered deep) cs)
  offered-parts false cs = refl
  offered-parts true [] = refl
  offered-parts true (c ∷ cs) =
      ap h (flat_map-append element_children (at_or_below c) (flat_map at_or_below cs))
      ∙ joined (flat_map element_children (at_or_below c)) (flat_map element_children (flat_map at_or_below cs))
      ∙ ap (λ m. and m (h (flat_map element_children (flat_map at_or_below cs)))) (region-parts c.place c.node)
      ∙ ap (and (h (below c))) (offered-parts true cs)
      ∙ sym (joined (below c) (flat_map (offered true) cs))

or-turned : (a b c d : Bool) → ((a || b) || (c || d)) ≡ ((a || c) || (b || d))
or-turned true b c d = refl
or-turned false true true d = refl
or-turned false true false d = refl
or-turned false false c d = refl

-- ---- predicates that are conditions, on each element by itself

module _ (sat : ℕ → List Element → Element → Bool) (all : List Element) where
  pub filtered-passes : (ps : Predicates) → some_number ps ≡ false → (items : List Element) → filtered sat all ps items ≡ filter (passes sat all ps) items
  unfolding filtered filtered_by
  filtered-passes no_predicates none items = sym (filter-true items)
  filtered-passes (predicate_then (form.number k) rest) none items = cc
  filtered-passes (predicate_then (form.holds c) rest) none items =
      filtered-passes rest none (filter (is_true sat all c) items) ∙ filter-filter (is_true sat all c) (passes sat all rest) items

  -- an element is in one of the lists that are kept where an element of theirs passes and is the same
  module _ (name : Element → Bool) (ps : Predicates) (none : some_number ps ≡ false) where
    abbrev pub wanted : Element → Bool
    wanted e = name e && passes sat all ps e

    pub kept-wanted : (items : List Element) → filtered sat all ps (filter name items) ≡ filter wanted items
    kept-wanted items = filtered-passes ps none (filter name items) ∙ filter-filter name (passes sat all ps) items

    in-one : (e : Element) (items : List Element) → list_any (is_same e) (filtered sat all ps (filter name items)) ≡ list_any (λ x. wanted x && is_same e x) items
    in-one e items = ap (list_any (is_same e)) (kept-wanted items) ∙ list_any-filter (is_same e) wanted items

    in-some : (e : Element) (qs : List Element) → is_in (map (λ q. filtered sat all ps (filter name (element_children q))) qs) e ≡ list_any (λ x. wanted x && is_same e x) (flat_map element_children qs)
    in-some e [] = refl
    in-some e (q ∷ qs) =
        ap (λ b. b || is_in (map (λ q. filtered sat all ps (filter name (element_children q))) qs) e) (in-one e (element_children q))
        ∙ ap (λ b. list_any (λ x. wanted x && is_same e x) (element_children q) || b) (in-some e qs)
        ∙ sym (list_any-append (λ x. wanted x && is_same e x) (element_children q) (flat_map element_children qs))

    pub same-in : (deep : Bool) (cs : List Element) (e : Element)
        → list_any (is_same e) (filtered sat all ps (filter name (flat_map (offered deep) cs))) ≡ is_in (map (λ q. filtered sat all ps (filter name (element_children q))) (parents deep cs)) e
    same-in deep cs e =
        let p : Element → Bool = λ x. wanted x && is_same e x in
        in-one e (flat_map (offered deep) cs)
        ∙ sym (offered-parts (list_any p) (λ a b. a || b) (list_any-append p) or-turned deep cs)
        ∙ sym (in-some e (parents deep cs))

-- ---- what is offered stands in the document, in its order

below-of : (P : Element → Type 0) (place : List ℕ) (n : Node) → All P (elements_from place n) → All P (elements_below place 1 (kids_of n))
below-of P place (element name attributes kids) h = All-tail P (placed place (element name attributes kids)) (elements_below place 1 kids) h
below-of P place (text bytes) h = All-nil P

offered-there : (root : Node) (deep : Bool) (e : Element) → Contains (elements root) e → All (Contains (elements root)) (offered deep e)
offered-there root true e there = below-of (Contains (elements root)) e.place e.node (region-in root e there)
offered-there root false e there = children-in root e there

module _ (root : Numbered) (m : Meaning) (s : Step) (deep : Bool) (test : NameTest) (ps : Predicates) (is : s ≡ step deep test ps) (none : has_number s ≡ false) (cs : List Element) where
  abbrev name : Element → Bool
  name e = is_named test e.node

  no-number : some_number ps ≡ false
  no-number = ap has_number (sym is) ∙ none

  -- in one pass, what the step keeps of the children of each parent
  pub in-one-pass : AllPairs Precedes cs → All (Contains (elements (plain root))) cs
      → filtered (satisfied root m) (elements (plain root)) ps (filter name (flat_map (offered deep) cs)) ≡ filter (is_in (map (kept_children root m s) (parents deep cs))) (elements (plain root))
  in-one-pass apart there =
      let all = elements (plain root) in
      let sat = satisfied root m in
      let want = wanted sat all name ps no-number in
      let found = flat_map (offered deep) cs in
      let kept = filtered sat all ps (filter name found) in
      let same : kept ≡ filter want found = kept-wanted sat all name ps no-number found in
      let ordered : AllPairs Before kept = subst (AllPairs Before) (sym same) (AllPairs-filter Before want found (pairs-flat (offered deep) (offered-ordered deep) (offered-within deep) cs apart)) in
      let inside : All (Contains all) found = all-flat (Contains all) (offered deep) cs (All-weaker (Contains all) (λ c. All (Contains all) (offered deep c)) (offered-there (plain root) deep) cs there) in
      let of-all : All (Contains all) kept = subst (All (Contains all)) (sym same) (All-filter want (Contains all) found inside) in
      part-of all kept (ordered-from [] (plain root)) ordered of-all
      ∙ filter-alike (λ e. list_any (is_same e) kept) (is_in (map (kept_children root m (step deep test ps)) (parents deep cs))) all
      (λ k d within. same-in sat all name ps no-number deep cs (get_or all k d))
      ∙ ap (λ t. filter (is_in (map (kept_children root m t) (parents deep cs))) all) (sym is)

-- ---- and the price

both-parts : (a b c d : ℕ) → (a + b) + (c + d) ≡ (a + c) + (b + d)
both-parts a b c d = omega arith

module _ (root : Numbered) (m : Meaning) where
  pub price-parts : (ps : Predicates) → some_number ps ≡ false → (xs ys : List Element) → predicates_price root m ps (xs ++ ys) ≡ predicates_price root m ps xs + predicates_price root m ps ys
  unfolding predicates_tests filtered_by
  price-parts no_predicates none xs ys = let h = price-none root m in omega (arith, h)
  price-parts (predicate_then (form.number k) rest) none xs ys = cc
  price-parts (predicate_then (form.holds c) rest) none xs ys =
      let t = is_true (satisfied root m) (elements (plain root)) c in
      let whole : (items : List Element) → predicates_price root m (predicate_then (form.holds c) rest) items ≡ sum_by (condition_price root m c) items + predicates_price root m rest (filter t items) =
      λ items. price-append root m _ _ ∙ ap (λ n. n + predicates_price root m rest (filter t items)) (sym (price-holds root m c items)) in
      let first = sum_by-append (condition_price root m c) xs ys in
      let others = ap (predicates_price root m rest) (filter-append t xs ys) ∙ price-parts rest none (filter t xs) (filter t ys) in
      omega (arith, whole (xs ++ ys), whole xs, whole ys, first, others)

  named-parts : (test : NameTest) (ps : Predicates) → some_number ps ≡ false → (xs ys : List Element)
      → predicates_price root m ps (filter (λ e. is_named test e.node) (xs ++ ys)) ≡ predicates_price root m ps (filter (λ e. is_named test e.node) xs) + predicates_price root m ps (filter (λ e. is_named test e.node) ys)
  named-parts test ps none xs ys =
      ap (predicates_price root m ps) (filter-append (λ e. is_named test e.node) xs ys) ∙ price-parts ps none (filter (λ e. is_named test e.node) xs) (filter (λ e. is_named test e.node) ys)

  by-parents : (test : NameTest) (ps : Predicates) → some_number ps ≡ false → (qs : List Element)
      → predicates_price root m ps (filter (λ e. is_named test e.node) (flat_map element_children qs)) ≡ sum_by (λ q. predicates_price root m ps (filter (λ e. is_named test e.node) (element_children q))) qs
  by-parents test ps none [] = let h = price-parts ps none [] [] in omega (arith, h)
  by-parents test ps none (q ∷ qs) =
      let f : Element → ℕ = λ q. predicates_price root m ps (filter (λ e. is_named test e.node) (element_children q)) in
      named-parts test ps none (element_children q) (flat_map element_children qs)
      ∙ ap (λ n. f q + n) (by-parents test ps none qs)
      ∙ sym (sum_by-cons f q qs)

  pub one-pass-price : (s : Step) (deep : Bool) (test : NameTest) (ps : Predicates) → s ≡ step deep test ps → has_number s ≡ false → (cs : List Element)
      → predicates_price root m ps (filter (λ e. is_named test e.node) (flat_map (offered deep) cs)) ≡ sum_by (children_price root m s) (parents deep cs)
  one-pass-price s deep test ps is none cs =
      let no-number : some_number ps ≡ false = ap has_number (sym is) ∙ none in
      sym (offered-parts (λ l. predicates_price root m ps (filter (λ e. is_named test e.node) l)) (λ a b. a + b) (named-parts test ps no-number) both-parts deep cs)
      ∙ by-parents test ps no-number (parents deep cs)
      ∙ ap (λ t. sum_by (children_price root m t) (parents deep cs)) (sym is)
