-- The selections for which the steps of a path ask are among those that were read with it, and each of those is allowed.
use Rattle.std.proofs.Common.{◌≡◌, ◌∙◌, ap, ◌+◌, ◌<◌, ◌≤◌, ◌&&◌, true, ℕ, List, [], ◌∷◌, ◌++◌, length, length-append, map, Option, None, subst, refl, arith}
use Rattle.std.specs.List.{list_all}
use Rattle.std.proofs.lemmas.Bool.{and_from}
use Rattle.std.proofs.lemmas.List.{map-append}
use Rattle.std.proofs.lemmas.List.Folds.{list_all-append}
use Rattle.counted_shapes.specs.Accepted.{is_accepted}
use Rattle.ft_base.specs.Selection.{Form}
use Rattle.ft_parser.specs.Selected.{Selects}
use Rattle.path_grammar.specs.Form as form
use Rattle.path_grammar.specs.Form.{joined, or_of, and_of}
use Rattle.path_grammar.specs.Grammar as grammar
use Rattle.path_grammar.specs.Grammar.{Inside, Step, Steps, Predicate, Predicates, Ors, Ands, Primary, Rel, Rels, Path}
use Rattle.selection_grammar.specs.declared.symbol.Placed.{Placed}
use Rattle.path_subset.specs.Paths.{PathForm, PlacedForm, placed_form}
use Rattle.path_subset.specs.Spelled.{Each, SpellsPath}
use Rattle.path_nodes.specs.Asked.{OfEach, OfStep, OfPredicates, OfPredicate, OfCondition, OfConditions, OfPaths}
use Rattle.session_state.specs.Paths.{selections_of}

-- one more after a list
module _ (P : ℕ → Type 0) where
  one_more_step : (xs : List form.Step) (x : form.Step) → OfEach P (form.steps xs) → OfStep P x → OfEach P (form.steps (xs ++ x ∷ []))
  unfolding OfEach
  one_more_step [] x h i = (i, h)
  one_more_step (y ∷ xs) x h i = (h.0, one_more_step xs x h.1 i)

  one_more_predicate : (xs : List form.Predicate) (x : form.Predicate) → OfPredicates P (form.predicates xs) → OfPredicate P x → OfPredicates P (form.predicates (xs ++ x ∷ []))
  unfolding OfPredicates
  one_more_predicate [] x h i = (i, h)
  one_more_predicate (y ∷ xs) x h i = (h.0, one_more_predicate xs x h.1 i)

  one_more_condition : (xs : List form.Condition) (x : form.Condition) → OfConditions P (form.conditions xs) → OfCondition P x → OfConditions P (form.conditions (xs ++ x ∷ []))
  unfolding OfConditions
  one_more_condition [] x h i = (i, h)
  one_more_condition (y ∷ xs) x h i = (h.0, one_more_condition xs x h.1 i)

  one_more_path : (xs : List form.Steps) (x : form.Steps) → OfPaths P (form.paths xs) → OfEach P x → OfPaths P (form.paths (xs ++ x ∷ []))
  unfolding OfPaths
  one_more_path [] x h i = (i, h)
  one_more_path (y ∷ xs) x h i = (h.0, one_more_path xs x h.1 i)

  joined_or : (xs : List form.Condition) → OfConditions P (form.conditions xs) → OfCondition P (joined or_of xs)
  unfolding OfCondition OfConditions
  joined_or [] h = h
  joined_or (x ∷ []) h = h.0
  joined_or (x ∷ y ∷ xs) h = h

  joined_and : (xs : List form.Condition) → OfConditions P (form.conditions xs) → OfCondition P (joined and_of xs)
  unfolding OfCondition OfConditions
  joined_and [] h = h
  joined_and (x ∷ []) h = h.0
  joined_and (x ∷ y ∷ xs) h = h

-- Something holds of each number below a count, and the selections are numbered below it.
module _ (P : ℕ → Type 0) (count : ℕ) (below : (k : ℕ) → k < count → P k) where
  mutual
    unfolding OfEach OfStep OfPredicates OfPredicate OfCondition OfConditions OfPaths

    of_step : {n : ℕ} {u : List Placed} {x : form.Step} {ss : List Inside} → Step n u x ss → n + length ss ≤ count → OfStep P x
    of_step (Step.step slashes test ps) few = of_predicates ps few

    of_steps : {n : ℕ} {u : List Placed} {xs : List form.Step} {ss : List Inside} → Steps n u xs ss → n + length ss ≤ count → OfEach P (form.steps xs)
    of_steps Steps.no_step few = tt
    of_steps (Steps.further_step {xs = xs} {x = x} {ss = ss} {tt = more} before last) few =
        one_more_step P xs x (of_steps before (omega (arith, few, length-append ss more))) (of_step last (omega (arith, few, length-append ss more)))

    of_predicate : {n : ℕ} {u : List Placed} {x : form.Predicate} {ss : List Inside} → Predicate n u x ss → n + length ss ≤ count → OfPredicate P x
    of_predicate (Predicate.number p q r k) few = tt
    of_predicate (Predicate.holds {xs = xs} p inside q) few = joined_or P xs (of_ors inside few)

    of_predicates : {n : ℕ} {u : List Placed} {xs : List form.Predicate} {ss : List Inside} → Predicates n u xs ss → n + length ss ≤ count → OfPredicates P (form.predicates xs)
    of_predicates Predicates.no_predicate few = tt
    of_predicates (Predicates.further_predicate {xs = xs} {x = x} {ss = ss} {tt = more} before last) few =
        one_more_predicate P xs x (of_predicates before (omega (arith, few, length-append ss more))) (of_predicate last (omega (arith, few, length-append ss more)))

    of_ors : {n : ℕ} {u : List Placed} {xs : List form.Condition} {ss : List Inside} → Ors n u xs ss → n + length ss ≤ count → OfConditions P (form.conditions xs)
    of_ors (Ors.first_or {xs = xs} ands) few = (joined_and P xs (of_ands ands few), tt)
    of_ors (Ors.further_or {xs = xs} {ys = ys} {ss = ss} {tt = more} before p ands) few =
        one_more_condition P xs (joined and_of ys) (of_ors before (omega (arith, few, length-append ss more))) (joined_and P ys (of_ands ands (omega (arith, few, length-append ss more))))

    of_ands : {n : ℕ} {u : List Placed} {xs : List form.Condition} {ss : List Inside} → Ands n u xs ss → n + length ss ≤ count → OfConditions P (form.conditions xs)
    of_ands (Ands.first_and primary) few = (of_primary primary few, tt)
    of_ands (Ands.further_and {xs = xs} {x = x} {ss = ss} {tt = more} before p primary) few =
        one_more_condition P xs x (of_ands before (omega (arith, few, length-append ss more))) (of_primary primary (omega (arith, few, length-append ss more)))

    of_primary : {n : ℕ} {u : List Placed} {x : form.Condition} {ss : List Inside} → Primary n u x ss → n + length ss ≤ count → OfCondition P x
    of_primary (Primary.negated {xs = xs} p q inside r) few = joined_or P xs (of_ors inside few)
    of_primary (Primary.parentheses {xs = xs} p inside q) few = joined_or P xs (of_ors inside few)
    of_primary (Primary.attribute p q s) few = tt
    of_primary (Primary.valued p q r t s value) few = tt
    of_primary (Primary.exists rel) few = of_rel rel few
    of_primary (Primary.contains {n = n} {v = v} {ss = ss} {x = x} rel p q selection) few =
        (of_rel rel (omega (arith, few, length-append ss (record { symbols = v; tree = x } ∷ []))), below (n + length ss) (omega (arith, few, length-append ss (record { symbols = v; tree = x } ∷ []))), tt)
    of_primary (Primary.without {n = n} {v = v} {ss = ss} {tt = more} {x = x} rel p q selection r t rels) few =
        let first = length-append ss (grammar.inside v x ∷ []) in
        let all = length-append (ss ++ grammar.inside v x ∷ []) more in
        (of_rel rel (omega (arith, few, all, first)), below (n + length ss) (omega (arith, few, all, first)), of_rels rels (omega (arith, few, all)))

    of_rels : {n : ℕ} {u : List Placed} {ys : List form.Steps} {ss : List Inside} → Rels n u ys ss → n + length ss ≤ count → OfPaths P (form.paths ys)
    of_rels (Rels.first_rel rel) few = (of_rel rel few, tt)
    of_rels (Rels.further_rel {ys = ys} {xs = xs} {ss = ss} {tt = more} before p rel) few =
        one_more_path P ys (form.steps xs) (of_rels before (omega (arith, few, length-append ss more))) (of_rel rel (omega (arith, few, length-append ss more)))

    of_rel : {n : ℕ} {u : List Placed} {xs : List form.Step} {ss : List Inside} → Rel n u xs ss → n + length ss ≤ count → OfEach P (form.steps xs)
    of_rel (Rel.itself p xs) few = of_steps xs few
    of_rel (Rel.some_child {ss = ss} {tt = more} test ps xs) few =
        (of_predicates ps (omega (arith, few, length-append ss more)), of_steps xs (omega (arith, few, length-append ss more)))

asked-below : (u : List Placed) (value : form.Path) (ss : List Inside) → Path u value ss → OfEach (λ k. k < length ss) value.steps
asked-below u value ss (Path.path {xs = xs} {x = x} {ss = before} {tt = last} begun further final) =
    one_more_step (λ k. k < length ss) xs x
    (of_steps (λ k. k < length ss) (length ss) (λ k h. h) further (omega (arith, length-append before last)))
    (of_step (λ k. k < length ss) (length ss) (λ k h. h) final (omega (arith, length-append before last)))

as-many : {insides : List Inside} {found : List PlacedForm} → Each insides found → length insides ≡ length found
as-many Each.none = refl
as-many (Each.further {insides = insides} {found = found} before i x selects) =
    omega (arith, as-many before, length-append insides (i ∷ []), length-append found (placed_form x i.symbols ∷ []))

-- the steps of a path that is read, and so spelled, ask for its selections alone
pub read-asks-below : (text : List ℕ) (value : PathForm) → SpellsPath text value → OfEach (λ k. k < length value.selections) value.path.steps
read-asks-below text value spells =
    subst (λ n. OfEach (λ k. k < n) value.path.steps) (as-many spells.selections) (asked-below _ value.path spells.insides spells.spells)

-- its selections have each `ftnot` and `occurs` where it may stand, as those that symbols make
module _ (accepted : (symbols : List Placed) (bad : Option ℕ) (x : Form) → Selects symbols bad x → is_accepted x ≡ true) where
  each-accepted : {insides : List Inside} {found : List PlacedForm} → Each insides found → list_all is_accepted (map (λ s. s.form) found) ≡ true
  each-accepted Each.none = refl
  each-accepted (Each.further {insides = insides} {found = found} before i x selects) =
      ap (list_all is_accepted) (map-append (λ (s : PlacedForm). s.form) found (placed_form x i.symbols ∷ []))
      ∙ (list_all-append is_accepted (map (λ (s : PlacedForm). s.form) found) (x ∷ [])
      ∙ and_from (list_all is_accepted (map (λ (s : PlacedForm). s.form) found)) (list_all is_accepted (x ∷ [])) (each-accepted before)
      (ap (λ b. b && true) (accepted i.symbols None x selects)))

  pub read-is-accepted : (text : List ℕ) (value : PathForm) → SpellsPath text value → list_all is_accepted (selections_of value) ≡ true
  read-is-accepted text value spells = each-accepted spells.selections
