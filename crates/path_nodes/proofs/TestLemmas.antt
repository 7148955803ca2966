-- The tests for which steps ask, and their prices, depend on what is said of the elements of the document alone.
use Rattle.std.proofs.Common.{◌≡◌, ◌≢◌, ◌+◌, ℕ, Bool, List, [], ◌∷◌, ◌++◌, map, filter, flat_map, get_or, refl, sym, ap, ◌∙◌}
use Rattle.std.specs.List.{All, AllPairs}
use Rattle.std.proofs.lemmas.List.Elements.{All-nil, All-cons, All-head, All-tail, All-append, All-map, All-filter, All-weaker, All-contains, All-contains_itself}
use Rattle.std.proofs.lemmas.List.Sums.{sum_by-cons}
use Rattle.plain_tree.specs.Document.{Node}
use Rattle.path_meaning.specs.Elements.{Element, elements}
use Rattle.path_grammar.specs.Form as form
use Rattle.path_grammar.specs.Form.{Step, step, Steps, no_steps, step_then, Predicate, holds, Predicates, no_predicates, predicate_then, Condition, or_of, and_of, not_of, attribute, exists, contains, Conditions, no_conditions, condition_then}
use Rattle.path_grammar.specs.Form.{Paths, no_paths, path_then}
use Rattle.path_meaning.specs.Meaning.{Context, document, item, lists, is_named, stepped, led, filtered_by}
use Rattle.path_meaning.specs.Tests.{Test, each_tested, step_tests, steps_tests, predicates_tests, predicate_tests, condition_tests, conditions_tests, ignored_tests, selected_tests}
use Rattle.ordered_tree.specs.Numbered.{Numbered, plain}
use Rattle.ordered_tree.specs.Stands.{references}
use Rattle.path_nodes.specs.Prices.{price_of, total_price}
use Rattle.path_nodes.specs.Says.{Agrees, Costs, Meaning, reference_of, satisfied}
use Rattle.path_nodes.proofs.AlikeLemmas.{In, ContextIn, SayAlike, all-lists-in, by-alike, led-alike, led-in, one, stepped-alike, stepped-in}
use Rattle.path_nodes.proofs.ChosenLemmas.{by-of}
use Rattle.path_nodes.proofs.NamedLemmas.{agrees-there, costs-there}

abbrev TestIn : Node → Test → Type 0
TestIn root t = In root t.element

-- the two lists are one, of tests of elements of the document
abbrev Alike : Node → List Test → List Test → Type 0
Alike root ts us = (ts ≡ us) × All (TestIn root) us

alike-none : (root : Node) → Alike root [] []
alike-none root = (refl, All-nil (TestIn root))

alike-append : (root : Node) (ts us vs ws : List Test) → Alike root ts us → Alike root vs ws → Alike root (ts ++ vs) (us ++ ws)
alike-append root ts us vs ws a b = (ap (λ l. l ++ vs) a.0 ∙ ap (λ l. us ++ l) b.0, All-append (TestIn root) us ws a.1 b.1)

alike-flat : (root : Node) {A : Type 0} (F G : A → List Test) (xs : List A) → All (λ x. Alike root (F x) (G x)) xs → Alike root (flat_map F xs) (flat_map G xs)
alike-flat root F G [] h = alike-none root
alike-flat root F G (x ∷ xs) h =
    alike-append root (F x) (G x) (flat_map F xs) (flat_map G xs) (All-head (λ x. Alike root (F x) (G x)) x xs h)
    (alike-flat root F G xs (All-tail (λ x. Alike root (F x) (G x)) x xs h))

module _ (f g : ℕ → List Element → Element → Bool) (root : Node) (same : All (SayAlike f g root) (elements root)) where
  mutual
    unfolding step_tests steps_tests predicates_tests predicate_tests condition_tests conditions_tests ignored_tests

    step-tests : (s : Step) (cs : List Context) → All (ContextIn root) cs → Alike root (step_tests f (elements root) s cs) (step_tests g (elements root) s cs)
    step-tests (step deep test ps) cs h =
        let name : Element → Bool = λ e. is_named test e.node in
        alike-flat root (λ items. predicates_tests f (elements root) ps (filter name items)) (λ items. predicates_tests g (elements root) ps (filter name items)) (flat_map (lists deep) cs)
        (All-weaker (All (In root)) (λ l. Alike root (predicates_tests f (elements root) ps (filter name l)) (predicates_tests g (elements root) ps (filter name l)))
        (λ l there. predicates-tests ps (filter name l) (All-filter name (In root) l there)) (flat_map (lists deep) cs) (all-lists-in root deep cs h))

    steps-tests : (s : Steps) (items : List Element) → All (In root) items → Alike root (steps_tests f (elements root) s items) (steps_tests g (elements root) s items)
    steps-tests no_steps items h = alike-none root
    steps-tests (step_then s rest) items h =
        let contexts = All-map (ContextIn root) item items h in
        let next = stepped g (elements root) s (map item items) in
        let later = steps-tests rest next (stepped-in f g root same s (map item items)) in
        alike-append root (step_tests f (elements root) s (map item items)) (step_tests g (elements root) s (map item items))
        (steps_tests f (elements root) rest (stepped f (elements root) s (map item items))) (steps_tests g (elements root) rest next)
        (step-tests s (map item items) contexts) (ap (steps_tests f (elements root) rest) (stepped-alike f g root same s (map item items) contexts) ∙ later.0, later.1)

    predicates-tests : (ps : Predicates) (items : List Element) → All (In root) items → Alike root (predicates_tests f (elements root) ps items) (predicates_tests g (elements root) ps items)
    predicates-tests no_predicates items h = alike-none root
    predicates-tests (predicate_then p rest) items h =
        let next = filtered_by g (elements root) p items in
        let later = predicates-tests rest next (by-of g (elements root) (In root) p items h) in
        alike-append root (predicate_tests f (elements root) p items) (predicate_tests g (elements root) p items)
        (predicates_tests f (elements root) rest (filtered_by f (elements root) p items)) (predicates_tests g (elements root) rest next)
        (predicate-tests p items h) (ap (predicates_tests f (elements root) rest) (by-alike f g root same p items h) ∙ later.0, later.1)

    predicate-tests : (p : Predicate) (items : List Element) → All (In root) items → Alike root (predicate_tests f (elements root) p items) (predicate_tests g (elements root) p items)
    predicate-tests (form.number k) items h = alike-none root
    predicate-tests (holds c) items h =
        alike-flat root (condition_tests f (elements root) c) (condition_tests g (elements root) c) items
        (λ k d within. condition-tests c (get_or items k d) (h k d within))

    condition-tests : (c : Condition) (e : Element) → In root e → Alike root (condition_tests f (elements root) c e) (condition_tests g (elements root) c e)
    condition-tests (or_of cs) e there = conditions-tests cs e there
    condition-tests (and_of cs) e there = conditions-tests cs e there
    condition-tests (not_of c) e there = condition-tests c e there
    condition-tests (attribute name value) e there = alike-none root
    condition-tests (exists s) e there = steps-tests s (e ∷ []) (one f g root same e there)
    condition-tests (contains s selection paths) e there =
        let only = one f g root same e there in
        let found = led g (elements root) s (e ∷ []) in
        let tested = each_tested selection (led f (elements root) s (e ∷ [])) in
        alike-append root (steps_tests f (elements root) s (e ∷ []) ++ ignored_tests f (elements root) paths e) (steps_tests g (elements root) s (e ∷ []) ++ ignored_tests g (elements root) paths e)
        tested (each_tested selection found)
        (alike-append root (steps_tests f (elements root) s (e ∷ [])) (steps_tests g (elements root) s (e ∷ [])) (ignored_tests f (elements root) paths e) (ignored_tests g (elements root) paths e)
        (steps-tests s (e ∷ []) only) (ignored-tests paths e there)) (
          ap (each_tested selection) (led-alike f g root same s (e ∷ []) only),
          All-map (TestIn root) (λ x. record { selection = selection; element = x }) found (led-in f g root same s (e ∷ []) only),
        )

    ignored-tests : (paths : Paths) (e : Element) → In root e → Alike root (ignored_tests f (elements root) paths e) (ignored_tests g (elements root) paths e)
    ignored-tests no_paths e there = alike-none root
    ignored-tests (path_then path rest) e there =
        alike-append root (steps_tests f (elements root) path (e ∷ [])) (steps_tests g (elements root) path (e ∷ []))
        (ignored_tests f (elements root) rest e) (ignored_tests g (elements root) rest e)
        (steps-tests path (e ∷ []) (one f g root same e there)) (ignored-tests rest e there)

    conditions-tests : (cs : Conditions) (e : Element) → In root e → Alike root (conditions_tests f (elements root) cs e) (conditions_tests g (elements root) cs e)
    conditions-tests no_conditions e there = alike-none root
    conditions-tests (condition_then c cs) e there =
        alike-append root (condition_tests f (elements root) c e) (condition_tests g (elements root) c e) (conditions_tests f (elements root) cs e) (conditions_tests g (elements root) cs e)
        (condition-tests c e there) (conditions-tests cs e there)

  selected-tests : (s : Steps) → Alike root (selected_tests f s root) (selected_tests g s root)
  unfolding selected_tests
  selected-tests no_steps = alike-none root
  selected-tests (step_then first rest) =
      let contexts = All-cons (ContextIn root) (document root) [] (All-contains_itself (elements root)) (All-nil (ContextIn root)) in
      let next = stepped g (elements root) first (document root ∷ []) in
      let later = steps-tests rest next (stepped-in f g root same first (document root ∷ [])) in
      alike-append root (step_tests f (elements root) first (document root ∷ [])) (step_tests g (elements root) first (document root ∷ []))
      (steps_tests f (elements root) rest (stepped f (elements root) first (document root ∷ []))) (steps_tests g (elements root) rest next)
      (step-tests first (document root ∷ []) contexts)
      (ap (steps_tests f (elements root) rest) (stepped-alike f g root same first (document root ∷ []) contexts) ∙ later.0, later.1)

-- prices that are alike for these elements
totals-alike : (p q : ℕ → Element → ℕ) (root : Node) → All (λ e. (k : ℕ) → p k e ≡ q k e) (elements root) → (ts : List Test) → All (TestIn root) ts
    → total_price p ts ≡ total_price q ts
totals-alike p q root same [] h = refl
totals-alike p q root same (t ∷ ts) h =
    sum_by-cons (λ t. p t.selection t.element) t ts
    ∙ ap (λ n. n + total_price p ts) (All-contains (λ e. (k : ℕ) → p k e ≡ q k e) (elements root) t.element same (All-head (TestIn root) t ts h) t.selection)
    ∙ ap (λ n. q t.selection t.element + n) (totals-alike p q root same ts (All-tail (TestIn root) t ts h))
    ∙ sym (sum_by-cons (λ t. q t.selection t.element) t ts)

-- the prices of the tests for which steps ask, in the words of a caller that names no references
module _ (root : Numbered) (m : Meaning) (sat : ℕ → List Element → Element → Bool) (price : ℕ → Element → ℕ) where
  price-of-total : (ts : List Test) → price_of root m ts ≡ total_price (λ k e. m.price k (reference_of root e)) ts
  unfolding price_of
  price-of-total ts = refl

  pub selected-prices : AllPairs (λ a b. a ≢ b) (references root) → Agrees root m sat → Costs root m price → (s : Steps)
      → price_of root m (selected_tests (satisfied root m) s (plain root)) ≡ total_price price (selected_tests sat s (plain root))
  selected-prices apart agree costs s =
      let alike = selected-tests (satisfied root m) sat (plain root) (agrees-there root apart m sat agree) s in
      ap (price_of root m) alike.0
      ∙ price-of-total (selected_tests sat s (plain root))
      ∙ totals-alike (λ k e. m.price k (reference_of root e)) price (plain root) (costs-there root apart m price costs) (selected_tests sat s (plain root)) alike.1
