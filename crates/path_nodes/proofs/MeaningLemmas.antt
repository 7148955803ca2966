-- What steps, predicates and conditions say, one item further.
use mathlib.Core.Bool.{beq}
use Rattle.std.proofs.Common.{◌≡◌, ◌+◌, ◌<◌, ℕ, zero, suc, Bool, true, false, not, ◌||◌, ◌&&◌, List, [], ◌∷◌, ◌++◌, map, flat_map, drop, length, get_or, cond, refl, sym, ap, ◌∙◌, arith}
use Rattle.std.proofs.lemmas.List.{drop_more, map-append}
use Rattle.path_meaning.specs.Elements.{Element, element_children}
use Rattle.path_grammar.specs.Form as form
use Rattle.path_meaning.specs.Meaning.{item, children, ignored, lists, led, stepped, filtered, filtered_by, is_true, some_true, each_true, some_element}
use Rattle.path_grammar.specs.View.{step, predicate, condition, relative_path}
use Rattle.path_grammar.specs.declared.path.Step.{Step}
use Rattle.path_grammar.specs.declared.path.Predicate.{Predicate}
use Rattle.path_grammar.specs.declared.path.Condition.{Condition}
use Rattle.path_grammar.specs.declared.path.RelativePath.{RelativePath}
use Rattle.path_nodes.specs.steps.Kept.{is_number, joined, parents, passes, passes_by, some_number}
use Rattle.path_nodes.specs.steps.Regions.{at_or_below}
use Rattle.path_nodes.proofs.ListLemmas.{or-nothing}

-- a truth that was compared with another is that one, or it isn't
compared : (truth b equal : Bool) → beq truth b ≡ equal → truth ≡ cond equal b (not b)
compared true true equal h = ap (λ t. cond t true false) h
compared true false equal h = ap (λ t. cond t false true) h
compared false true equal h = ap (λ t. cond t true false) h
compared false false equal h = ap (λ t. cond t false true) h

both-false : (a b : Bool) → (a || b) ≡ false → (a ≡ false) × (b ≡ false)
both-false true b h = cc
both-false false b h = (refl, h)

module _ (sat : ℕ → List Element → Element → Bool) (all : List Element) where
  pub led-next : (xs : List Step) (i : ℕ) (d : Step) → i < length xs → (items new : List Element) → new ≡ stepped sat all (step (get_or xs i d)) (map item items)
      → led sat all (form.steps (map step (drop (i + 1) xs))) new ≡ led sat all (form.steps (map step (drop i xs))) items
  unfolding led
  led-next xs i d lt items new e =
      ap (led sat all (form.steps (map step (drop (i + 1) xs)))) e ∙ sym (ap (λ l. led sat all (form.steps (map step l)) items) (drop_more xs i d lt))

  pub filtered-next : (xs : List Predicate) (i : ℕ) (d : Predicate) → i < length xs → (items new : List Element) → new ≡ filtered_by sat all (predicate (get_or xs i d)) items
      → filtered sat all (form.predicates (map predicate (drop (i + 1) xs))) new ≡ filtered sat all (form.predicates (map predicate (drop i xs))) items
  unfolding filtered
  filtered-next xs i d lt items new e =
      ap (filtered sat all (form.predicates (map predicate (drop (i + 1) xs)))) e ∙ sym (ap (λ l. filtered sat all (form.predicates (map predicate l)) items) (drop_more xs i d lt))

  -- ---- no steps lead from an element to itself, and no paths are ignored

  pub of-itself : (k : ℕ) (e : Element) (steps : List Step) (paths : List RelativePath) → steps ≡ [] → paths ≡ []
      → sat k [] e ≡ is_true sat all (form.contains (form.steps (map step steps)) k (form.paths (map relative_path paths))) e
  unfolding is_true led ignored
  of-itself k e steps paths stay plain =
      sym (
      ap (λ l. is_true sat all (form.contains (form.steps (map step l)) k (form.paths (map relative_path paths))) e) stay
      ∙ ap (λ l. is_true sat all (form.contains form.no_steps k (form.paths (map relative_path l))) e) plain
      ∙ or-nothing false (sat k [] e)
      )

  -- ---- nothing is kept of nothing

  pub by-none : (p : form.Predicate) → filtered_by sat all p [] ≡ []
  unfolding filtered_by
  by-none (form.number k) = refl
  by-none (form.holds c) = refl

  pub filtered-none : (ps : form.Predicates) → filtered sat all ps [] ≡ []
  unfolding filtered
  filtered-none form.no_predicates = refl
  filtered-none (form.predicate_then p ps) = ap (filtered sat all ps) (by-none p) ∙ filtered-none ps

  -- ---- predicates of one element

  by-one : (p : form.Predicate) → is_number p ≡ false → (e : Element) → filtered_by sat all p (e ∷ []) ≡ cond (passes_by sat all p e) (e ∷ []) []
  unfolding filtered_by
  by-one (form.number k) none e = cc
  by-one (form.holds c) none e = refl

  not-number : (xs : List Predicate) (i : ℕ) (d : Predicate) → i < length xs → some_number (form.predicates (map predicate xs)) ≡ false → is_number (predicate (get_or xs i d)) ≡ false
  not-number [] i d lt none = absurd (omega (arith, lt))
  not-number (x ∷ xs) zero d lt none = (both-false (is_number (predicate x)) (some_number (form.predicates (map predicate xs))) none).0
  not-number (x ∷ xs) (suc i) d lt none = not-number xs i d (omega (arith, lt)) (both-false (is_number (predicate x)) (some_number (form.predicates (map predicate xs))) none).1

  module _ (xs : List Predicate) (i : ℕ) (d : Predicate) (lt : i < length xs) (e : Element) where
    pub passes-next : passes_by sat all (predicate (get_or xs i d)) e ≡ true → passes sat all (form.predicates (map predicate (drop (i + 1) xs))) e ≡ passes sat all (form.predicates (map predicate (drop i xs))) e
    passes-next is =
        sym (ap (λ l. passes sat all (form.predicates (map predicate l)) e) (drop_more xs i d lt)
        ∙ ap (λ b. b && passes sat all (form.predicates (map predicate (drop (i + 1) xs))) e) is)

    pub passes-stop : passes_by sat all (predicate (get_or xs i d)) e ≡ false → false ≡ passes sat all (form.predicates (map predicate (drop i xs))) e
    passes-stop is =
        sym (ap (λ l. passes sat all (form.predicates (map predicate l)) e) (drop_more xs i d lt)
        ∙ ap (λ b. b && passes sat all (form.predicates (map predicate (drop (i + 1) xs))) e) is)

    pub stays-one : some_number (form.predicates (map predicate xs)) ≡ false → passes_by sat all (predicate (get_or xs i d)) e ≡ true → e ∷ [] ≡ filtered_by sat all (predicate (get_or xs i d)) (e ∷ [])
    stays-one none is = sym (by-one (predicate (get_or xs i d)) (not-number xs i d lt none) e ∙ ap (λ b. cond b (e ∷ []) []) is)

  -- ---- conditions that one of them decides: the first one, or one of the rest

  module _ (e : Element) where
    first-decides : (b : Bool) (c : form.Condition) (cs : form.Conditions) → is_true sat all c e ≡ b → b ≡ joined b sat all (form.condition_then c cs) e
    unfolding some_true each_true
    first-decides true c cs is = sym (ap (λ t. t || some_true sat all cs e) is)
    first-decides false c cs is = sym (ap (λ t. t && each_true sat all cs e) is)

    rest-decides : (b : Bool) (c : form.Condition) (cs : form.Conditions) → is_true sat all c e ≡ not b → joined b sat all cs e ≡ joined b sat all (form.condition_then c cs) e
    unfolding some_true each_true
    rest-decides true c cs is = sym (ap (λ t. t || some_true sat all cs e) is)
    rest-decides false c cs is = sym (ap (λ t. t && each_true sat all cs e) is)

    pub joined-none : (b : Bool) → not b ≡ joined b sat all form.no_conditions e
    unfolding some_true each_true
    joined-none true = refl
    joined-none false = refl

    -- the next one's truth, as a loop compares it with the deciding one
    module _ (b : Bool) (xs : List Condition) (i : ℕ) (d : Condition) (lt : i < length xs) (truth : Bool) (is : truth ≡ is_true sat all (condition (get_or xs i d)) e) where
      pub decided : beq truth b ≡ true → b ≡ joined b sat all (form.conditions (map condition (drop i xs))) e
      decided equal = rw (drop_more xs i d lt) (first-decides b (condition (get_or xs i d)) (form.conditions (map condition (drop (i + 1) xs))) (sym is ∙ compared truth b true equal))

      pub undecided : beq truth b ≡ false → joined b sat all (form.conditions (map condition (drop (i + 1) xs))) e ≡ joined b sat all (form.conditions (map condition (drop i xs))) e
      undecided other = rw (drop_more xs i d lt) (rest-decides b (condition (get_or xs i d)) (form.conditions (map condition (drop (i + 1) xs))) (sym is ∙ compared truth b false other))

-- ---- the lists that a step makes

pub items-children : (xs : List Element) → map children (map item xs) ≡ map element_children xs
items-children [] = refl
items-children (x ∷ xs) = ap (λ l. element_children x ∷ l) (items-children xs)

pub lists-are : (deep : Bool) (cs : List Element) → flat_map (lists deep) (map item cs) ≡ map element_children (parents deep cs)
lists-are false [] = refl
lists-are false (c ∷ cs) = ap (λ l. element_children c ∷ l) (lists-are false cs)
lists-are true [] = refl
lists-are true (c ∷ cs) =
    ap (λ l. l ++ flat_map (lists true) (map item cs)) (items-children (at_or_below c))
    ∙ ap (λ l. map element_children (at_or_below c) ++ l) (lists-are true cs)
    ∙ sym (map-append element_children (at_or_below c) (flat_map at_or_below cs))

-- whether there is none
pub emptied : {A : Type 0} (f : A → Element) (b : Bool) (xs : List A) → (b ≡ true → xs ≡ []) → (xs ≡ [] → b ≡ true) → not b ≡ some_element (map f xs)
emptied f b [] there none = ap not (none refl)
emptied f true (x ∷ xs) there none = let e : x ∷ xs ≡ [] = there refl in cc
emptied f false (x ∷ xs) there none = refl
