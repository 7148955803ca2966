-- The prices of tests, one item further.
use Rattle.std.proofs.Common.{◌≡◌, ◌+◌, ◌<◌, ◌≤◌, ℕ, Bool, true, false, List, [], ◌∷◌, ◌++◌, map, filter, flat_map, drop, length, get_or, refl, sym, ap, ◌∙◌, arith, append-nil}
use Rattle.std.specs.Prelude.{sum_by}
use Rattle.std.proofs.lemmas.List.{drop_more}
use Rattle.std.proofs.lemmas.List.Sums.{sum_by-cons, sum_by-append}
use Rattle.path_meaning.specs.Elements as el
use Rattle.path_meaning.specs.Elements.{Element, elements, element_children}
use Rattle.path_grammar.specs.Form as form
use Rattle.path_meaning.specs.Meaning.{document, item, children, lists, is_named, stepped, led, filtered_by}
use Rattle.path_grammar.specs.View.{step, predicate, condition, relative_path}
use Rattle.path_grammar.specs.declared.path.Step.{Step}
use Rattle.path_grammar.specs.declared.path.Predicate.{Predicate}
use Rattle.path_grammar.specs.declared.path.Condition.{Condition}
use Rattle.path_grammar.specs.declared.path.RelativePath.{RelativePath, out-RelativePath}
use Rattle.ordered_tree.specs.Numbered.{Numbered, plain}
use Rattle.ft_base.specs.declared.ids.NodeRef.{NodeRef}
use Rattle.path_nodes.specs.steps.Kept.{parents}
use Rattle.path_nodes.specs.Prices.{price_of, steps_price, step_price, predicates_price, list_price, children_price, predicate_price, condition_price, conditions_price, ignored_price}
use Rattle.path_nodes.specs.References.{IsElement, element_of}
use Rattle.path_nodes.specs.Says.{Meaning, reference_of, satisfied}
use Rattle.path_meaning.specs.Tests.{Test, each_tested, step_tests, steps_tests, predicates_tests, predicate_tests, condition_tests, conditions_tests, ignored_tests, selected_tests}
use Rattle.path_nodes.proofs.AskedLemmas.{path-is}
use Rattle.path_nodes.proofs.MeaningLemmas.{lists-are, items-children}
use Rattle.path_nodes.proofs.PlaceLemmas.{reference-back}

-- ---- sums over lists that are made of others

pub sum-map : {A B : Type 0} (f : B → ℕ) (g : A → B) (xs : List A) → sum_by f (map g xs) ≡ sum_by (λ x. f (g x)) xs
sum-map f g [] = refl
sum-map f g (x ∷ xs) = sum_by-cons f (g x) (map g xs) ∙ ap (λ n. f (g x) + n) (sum-map f g xs) ∙ sym (sum_by-cons (λ x. f (g x)) x xs)

-- one item, then the rest
pub sum-next : {A B : Type 0} (f : B → ℕ) (g : A → B) (xs : List A) (i : ℕ) (d : A) → i < length xs → sum_by f (map g (drop i xs)) ≡ f (g (get_or xs i d)) + sum_by f (map g (drop (i + 1) xs))
sum-next f g xs i d lt = ap (λ l. sum_by f (map g l)) (drop_more xs i d lt) ∙ sum_by-cons f (g (get_or xs i d)) (map g (drop (i + 1) xs))

sum-assoc : (a b c : ℕ) → (a + b) + c ≡ a + (b + c)
sum-assoc a b c = omega arith

-- ---- the price of a part and of the rest

module _ (root : Numbered) (m : Meaning) where
  price-cons : (t : Test) (ts : List Test) → price_of root m (t ∷ ts) ≡ m.price t.selection (reference_of root t.element) + price_of root m ts
  unfolding price_of
  price-cons t ts = sum_by-cons (λ x. m.price x.selection (reference_of root x.element)) t ts

  pub price-append : (xs ys : List Test) → price_of root m (xs ++ ys) ≡ price_of root m xs + price_of root m ys
  unfolding price_of
  price-append xs ys = sum_by-append (λ x. m.price x.selection (reference_of root x.element)) xs ys

  pub price-none : price_of root m [] ≡ 0
  unfolding price_of
  price-none = refl

  price-flat : {A : Type 0} (f : A → List Test) (xs : List A) → price_of root m (flat_map f xs) ≡ sum_by (λ x. price_of root m (f x)) xs
  price-flat f [] = price-none
  price-flat f (x ∷ xs) = price-append (f x) (flat_map f xs) ∙ ap (λ n. price_of root m (f x) + n) (price-flat f xs) ∙ sym (sum_by-cons (λ x. price_of root m (f x)) x xs)

  pub steps-next : (xs : List Step) (i : ℕ) (d : Step) → i < length xs → (items new : List Element) → new ≡ stepped (satisfied root m) (elements (plain root)) (step (get_or xs i d)) (map item items)
      → steps_price root m (form.steps (map step (drop i xs))) items ≡ step_price root m (step (get_or xs i d)) (map item items) + steps_price root m (form.steps (map step (drop (i + 1) xs))) new
  unfolding steps_tests
  steps-next xs i d lt items new e =
      let s = step (get_or xs i d) in
      let rest = form.steps (map step (drop (i + 1) xs)) in
      let found = stepped (satisfied root m) (elements (plain root)) s (map item items) in
      ap (λ l. steps_price root m (form.steps (map step l)) items) (drop_more xs i d lt)
      ∙ price-append (step_tests (satisfied root m) (elements (plain root)) s (map item items)) (steps_tests (satisfied root m) (elements (plain root)) rest found)
      ∙ ap (λ l. step_price root m s (map item items) + steps_price root m rest l) (sym e)

  pub predicates-next : (xs : List Predicate) (i : ℕ) (d : Predicate) → i < length xs → (items new : List Element) → new ≡ filtered_by (satisfied root m) (elements (plain root)) (predicate (get_or xs i d)) items
      → predicates_price root m (form.predicates (map predicate (drop i xs))) items ≡ predicate_price root m (predicate (get_or xs i d)) items + predicates_price root m (form.predicates (map predicate (drop (i + 1) xs))) new
  unfolding predicates_tests
  predicates-next xs i d lt items new e =
      let p = predicate (get_or xs i d) in
      let rest = form.predicates (map predicate (drop (i + 1) xs)) in
      let left = filtered_by (satisfied root m) (elements (plain root)) p items in
      ap (λ l. predicates_price root m (form.predicates (map predicate l)) items) (drop_more xs i d lt)
      ∙ price-append (predicate_tests (satisfied root m) (elements (plain root)) p items) (predicates_tests (satisfied root m) (elements (plain root)) rest left)
      ∙ ap (λ l. predicate_price root m p items + predicates_price root m rest l) (sym e)

  pub conditions-next : (xs : List Condition) (i : ℕ) (d : Condition) → i < length xs → (e : Element)
      → conditions_price root m (form.conditions (map condition (drop i xs))) e ≡ condition_price root m (condition (get_or xs i d)) e + conditions_price root m (form.conditions (map condition (drop (i + 1) xs))) e
  unfolding conditions_tests
  conditions-next xs i d lt e =
      ap (λ l. conditions_price root m (form.conditions (map condition l)) e) (drop_more xs i d lt)
      ∙ price-append (condition_tests (satisfied root m) (elements (plain root)) (condition (get_or xs i d)) e) (conditions_tests (satisfied root m) (elements (plain root)) (form.conditions (map condition (drop (i + 1) xs))) e)

  pub paths-next : (xs : List RelativePath) (i : ℕ) (d : RelativePath) → i < length xs → (e : Element)
      → ignored_price root m (form.paths (map relative_path (drop i xs))) e
      ≡ steps_price root m (form.steps (map step (out-RelativePath (get_or xs i d)).steps)) (e ∷ []) + ignored_price root m (form.paths (map relative_path (drop (i + 1) xs))) e
  unfolding ignored_tests
  paths-next xs i d lt e =
      let rest = form.paths (map relative_path (drop (i + 1) xs)) in
      ap (λ l. ignored_price root m (form.paths (map relative_path l)) e) (drop_more xs i d lt)
      ∙ price-append (steps_tests (satisfied root m) (elements (plain root)) (relative_path (get_or xs i d)) (e ∷ [])) (ignored_tests (satisfied root m) (elements (plain root)) rest e)
      ∙ ap (λ s. steps_price root m s (e ∷ []) + ignored_price root m rest e) (path-is (get_or xs i d))

  pub nodes-next : (k : ℕ) (xs : List NodeRef) (i : ℕ) (d : NodeRef) → i < length xs → IsElement root (get_or xs i d)
      → price_of root m (each_tested k (map (element_of root) (drop i xs))) ≡ m.price k (get_or xs i d) + price_of root m (each_tested k (map (element_of root) (drop (i + 1) xs)))
  nodes-next k xs i d lt x =
      let q = get_or xs i d in
      let rest = each_tested k (map (element_of root) (drop (i + 1) xs)) in
      ap (λ l. price_of root m (each_tested k (map (element_of root) l))) (drop_more xs i d lt)
      ∙ price-cons (record { selection = k; element = element_of root q }) rest
      ∙ ap (λ r. m.price k r + price_of root m rest) (reference-back root q x)

  pub one-price : (k : ℕ) (r : NodeRef) → IsElement root r → m.price k r ≡ price_of root m (each_tested k (element_of root r ∷ []))
  one-price k r x =
      let first = price-cons (record { selection = k; element = element_of root r }) [] in
      let none = price-none in
      let same = ap (m.price k) (reference-back root r x) in
      omega (arith, first, none, same)

  -- a condition's steps, its ignored paths, and what is tested
  pub contains-price : (s : form.Steps) (k : ℕ) (paths : form.Paths) (e : Element)
      → steps_price root m s (e ∷ []) + (ignored_price root m paths e + price_of root m (each_tested k (led (satisfied root m) (elements (plain root)) s (e ∷ []))))
      ≡ condition_price root m (form.contains s k paths) e
  unfolding condition_tests
  contains-price s k paths e =
      let tested = each_tested k (led (satisfied root m) (elements (plain root)) s (e ∷ [])) in
      let left = ignored_tests (satisfied root m) (elements (plain root)) paths e in
      let first = steps_tests (satisfied root m) (elements (plain root)) s (e ∷ []) in
      sym (
      price-append (first ++ left) tested
      ∙ ap (λ n. n + price_of root m tested) (price-append first left)
      ∙ sum-assoc (price_of root m first) (price_of root m left) (price_of root m tested)
      )

  -- the same of the element itself, where nothing is ignored
  pub itself-price : (k : ℕ) (e : Element) (steps : List Step) (paths : List RelativePath) → steps ≡ [] → paths ≡ []
      → price_of root m (each_tested k (e ∷ [])) ≡ condition_price root m (form.contains (form.steps (map step steps)) k (form.paths (map relative_path paths))) e
  unfolding condition_tests steps_tests ignored_tests led
  itself-price k e steps paths stay plain =
      sym (
      ap (λ l. condition_price root m (form.contains (form.steps (map step l)) k (form.paths (map relative_path paths))) e) stay
      ∙ ap (λ l. condition_price root m (form.contains form.no_steps k (form.paths (map relative_path l))) e) plain
      )

  -- a condition of each item
  pub price-holds : (c : form.Condition) (items : List Element) → sum_by (condition_price root m c) items ≡ predicate_price root m (form.holds c) items
  unfolding predicate_tests
  price-holds c items = sym (price-flat (condition_tests (satisfied root m) (elements (plain root)) c) items)

  pub one-holds : (c : form.Condition) (e : Element) → condition_price root m c e ≡ predicate_price root m (form.holds c) (e ∷ [])
  one-holds c e =
      let all = price-holds c (e ∷ []) in
      let one = sum_by-cons (condition_price root m c) e [] in
      omega (arith, all, one)

  -- ---- a step, by its parents

  pub step-price : (s : form.Step) (deep : Bool) (test : _) (ps : form.Predicates) (cs : List Element) → s ≡ form.step deep test ps
      → sum_by (children_price root m s) (parents deep cs) ≡ step_price root m s (map item cs)
  unfolding step_tests
  step-price s deep test ps cs is =
      let f : List Element → List Test = λ items. predicates_tests (satisfied root m) (elements (plain root)) ps (filter (λ e. is_named test e.node) items) in
      sym (
      ap (λ t. step_price root m t (map item cs)) is
      ∙ price-flat f (flat_map (lists deep) (map item cs))
      ∙ ap (sum_by (λ l. price_of root m (f l))) (lists-are deep cs)
      ∙ sum-map (λ l. price_of root m (f l)) element_children (parents deep cs)
      ∙ ap (λ t. sum_by (children_price root m t) (parents deep cs)) (sym is)
      )

  -- ---- a step from the document

  pub document-price : (s : form.Step) (test : _) (ps : form.Predicates) (e : Element) → s ≡ form.step false test ps → el.element_at [] (plain root) ≡ e ∷ []
      → list_price root m s (e ∷ []) ≡ step_price root m s (document (plain root) ∷ [])
  unfolding step_tests
  document-price s test ps e is alone =
      let f : List Element → List Test = λ items. predicates_tests (satisfied root m) (elements (plain root)) ps (filter (λ e. is_named test e.node) items) in
      sym (
      ap (λ t. step_price root m t (document (plain root) ∷ [])) is
      ∙ ap (price_of root m) (append-nil (f (el.element_at [] (plain root))))
      ∙ ap (λ items. price_of root m (f items)) alone
      ∙ ap (λ t. list_price root m t (e ∷ [])) (sym is)
      )

  pub deep-document-price : (s : form.Step) (test : _) (ps : form.Predicates) (e : Element) → s ≡ form.step true test ps → el.element_at [] (plain root) ≡ e ∷ []
      → list_price root m s (e ∷ []) + sum_by (children_price root m s) (elements (plain root)) ≡ step_price root m s (document (plain root) ∷ [])
  unfolding step_tests
  deep-document-price s test ps e is alone =
      let f : List Element → List Test = λ items. predicates_tests (satisfied root m) (elements (plain root)) ps (filter (λ e. is_named test e.node) items) in
      let every = elements (plain root) in
      let deeper = map children (map item every) in
      sym (
      ap (λ t. step_price root m t (document (plain root) ∷ [])) is
      ∙ price-append (f (el.element_at [] (plain root))) (flat_map f (deeper ++ []))
      ∙ ap (λ n. n + price_of root m (flat_map f (deeper ++ []))) (ap (λ items. price_of root m (f items)) alone)
      ∙ ap (λ n. price_of root m (f (e ∷ [])) + n)
      (ap (λ l. price_of root m (flat_map f l)) (append-nil deeper ∙ items-children every) ∙ price-flat f (map element_children every) ∙ sum-map (λ l. price_of root m (f l)) element_children every)
      ∙ ap (λ t. list_price root m t (e ∷ []) + sum_by (children_price root m t) every) (sym is)
      )

  -- what is kept of the root alone costs no more
  pub own-price : (s : form.Step) (deep : Bool) (test : _) (ps : form.Predicates) (e : Element) → s ≡ form.step deep test ps → el.element_at [] (plain root) ≡ e ∷ []
      → list_price root m s (e ∷ []) ≤ step_price root m s (document (plain root) ∷ [])
  own-price s false test ps e is alone = let h = document-price s test ps e is alone in omega (arith, h)
  own-price s true test ps e is alone = let h = deep-document-price s test ps e is alone in omega (arith, h)

  -- the first step from the document, then the others
  pub selected-price : (xs : List Step) (d : Step) → 0 < length xs → (first : List Element) → first ≡ stepped (satisfied root m) (elements (plain root)) (step (get_or xs 0 d)) (document (plain root) ∷ [])
      → step_price root m (step (get_or xs 0 d)) (document (plain root) ∷ []) + steps_price root m (form.steps (map step (drop 1 xs))) first
      ≡ price_of root m (selected_tests (satisfied root m) (form.steps (map step xs)) (plain root))
  unfolding selected_tests
  selected-price [] d lt first e = absurd (omega (arith, lt))
  selected-price (x ∷ xs) d lt first e =
      ap (λ l. step_price root m (step x) (document (plain root) ∷ []) + steps_price root m (form.steps (map step xs)) l) e
      ∙ sym (price-append (step_tests (satisfied root m) (elements (plain root)) (step x) (document (plain root) ∷ []))
      (steps_tests (satisfied root m) (elements (plain root)) (form.steps (map step xs)) (stepped (satisfied root m) (elements (plain root)) (step x) (document (plain root) ∷ []))))
