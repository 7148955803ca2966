-- What is asked by a part is asked by the whole.
use Rattle.std.proofs.Common.{◌≡◌, ◌<◌, ◌↔◌, ℕ, zero, suc, List, [], ◌∷◌, ◌++◌, map, length, get_or, subst, arith, rules}
use Rattle.std.specs.List.{All}
use Rattle.std.proofs.lemmas.List.Elements.{All-nil, All-cons, All-append, All-head, All-tail}
use Rattle.path_grammar.specs.Form as form
use Rattle.path_grammar.specs.View.{step, predicate, condition, relative_path}
use Rattle.path_grammar.specs.declared.path.Step.{Step}
use Rattle.path_grammar.specs.declared.path.Predicate.{Predicate}
use Rattle.path_grammar.specs.declared.path.RelativePath.{RelativePath, out-RelativePath}
use Rattle.path_grammar.specs.declared.path.Condition.{Condition, the_lemmas}
use Rattle.path_nodes.specs.Asked.{OfEach, OfStep, OfPredicates, OfPredicate, OfCondition, OfConditions, OfPaths}
use Rattle.path_nodes.specs.steps.Leading.{in_steps, in_step, in_predicates, in_predicate, in_condition, in_conditions, in_paths}

pub step-is : (s : Step) → step s ≡ form.step s.deep s.test (form.predicates (map predicate s.predicates))
step-is s = search (rules, the_lemmas)

pub path-is : (p : RelativePath) → relative_path p ≡ form.steps (map step (out-RelativePath p).steps)
path-is p = search (rules, the_lemmas)

module _ (P : ℕ → Type 0) where
  pub of-step : (s : Step) → OfStep P (step s) → OfPredicates P (form.predicates (map predicate s.predicates))
  unfolding OfStep
  of-step s h = subst (OfStep P) (step-is s) h

  pub nth-step : (xs : List Step) (i : ℕ) (d : Step) → i < length xs → OfEach P (form.steps (map step xs)) → OfStep P (step (get_or xs i d))
  unfolding OfEach
  nth-step [] i d lt h = absurd (omega (arith, lt))
  nth-step (x ∷ xs) zero d lt h = h.0
  nth-step (x ∷ xs) (suc i) d lt h = nth-step xs i d (omega (arith, lt)) h.1

  pub nth-predicate : (xs : List Predicate) (i : ℕ) (d : Predicate) → i < length xs → OfPredicates P (form.predicates (map predicate xs)) → OfPredicate P (predicate (get_or xs i d))
  unfolding OfPredicates
  nth-predicate [] i d lt h = absurd (omega (arith, lt))
  nth-predicate (x ∷ xs) zero d lt h = h.0
  nth-predicate (x ∷ xs) (suc i) d lt h = nth-predicate xs i d (omega (arith, lt)) h.1

  pub nth-condition : (xs : List Condition) (i : ℕ) (d : Condition) → i < length xs → OfConditions P (form.conditions (map condition xs)) → OfCondition P (condition (get_or xs i d))
  unfolding OfConditions
  nth-condition [] i d lt h = absurd (omega (arith, lt))
  nth-condition (x ∷ xs) zero d lt h = h.0
  nth-condition (x ∷ xs) (suc i) d lt h = nth-condition xs i d (omega (arith, lt)) h.1

-- ---- what the conditions ask for that lead somewhere

-- a condition asks for its own text at most
abbrev pub Asks : (ℕ → Type 0) → form.Condition → Type 0
Asks P (form.contains s k ps) = P k
Asks P (form.or_of cs) = Unit {0}
Asks P (form.and_of cs) = Unit {0}
Asks P (form.not_of c) = Unit {0}
Asks P (form.attribute name value) = Unit {0}
Asks P (form.exists s) = Unit {0}

each-asks : (P : ℕ → Type 0) → ((k : ℕ) → P k) → (c : form.Condition) → Asks P c
each-asks P h (form.contains s k ps) = h k
each-asks P h (form.or_of cs) = tt
each-asks P h (form.and_of cs) = tt
each-asks P h (form.not_of c) = tt
each-asks P h (form.attribute name value) = tt
each-asks P h (form.exists s) = tt

module _ (P : ℕ → Type 0) where
  front : (xs ys : List form.Condition) → All (Asks P) (xs ++ ys) → All (Asks P) xs
  front [] ys h = All-nil (Asks P)
  front (x ∷ xs) ys h = All-cons (Asks P) x xs (All-head (Asks P) x (xs ++ ys) h) (front xs ys (All-tail (Asks P) x (xs ++ ys) h))

  behind : (xs ys : List form.Condition) → All (Asks P) (xs ++ ys) → All (Asks P) ys
  behind [] ys h = h
  behind (x ∷ xs) ys h = behind xs ys (All-tail (Asks P) x (xs ++ ys) h)

  none : All (Asks P) [] ↔ Unit {0}
  none = (λ h. tt, λ h. All-nil (Asks P))

  both : {A B : Type 0} (xs ys : List form.Condition) → All (Asks P) xs ↔ A → All (Asks P) ys ↔ B → All (Asks P) (xs ++ ys) ↔ (A × B)
  both xs ys a b = (λ h. (a.0 (front xs ys h), b.0 (behind xs ys h)), λ h. All-append (Asks P) xs ys (a.1 h.0) (b.1 h.1))

  mutual
    unfolding OfEach in_steps

    -- steps ask for what their conditions ask for
    pub asked-steps : (ss : form.Steps) → All (Asks P) (in_steps ss) ↔ OfEach P ss
    asked-steps form.no_steps = none
    asked-steps (form.step_then s rest) = both (in_step s) (in_steps rest) (asked-step s) (asked-steps rest)

    asked-step : (s : form.Step) → All (Asks P) (in_step s) ↔ OfStep P s
    asked-step (form.step deep test ps) = asked-predicates ps

    pub asked-predicates : (ps : form.Predicates) → All (Asks P) (in_predicates ps) ↔ OfPredicates P ps
    asked-predicates form.no_predicates = none
    asked-predicates (form.predicate_then p rest) = both (in_predicate p) (in_predicates rest) (asked-predicate p) (asked-predicates rest)

    asked-predicate : (p : form.Predicate) → All (Asks P) (in_predicate p) ↔ OfPredicate P p
    asked-predicate (form.number k) = none
    asked-predicate (form.holds c) = asked-condition c

    asked-condition : (c : form.Condition) → All (Asks P) (in_condition c) ↔ OfCondition P c
    asked-condition (form.or_of cs) = asked-conditions cs
    asked-condition (form.and_of cs) = asked-conditions cs
    asked-condition (form.not_of c) = asked-condition c
    asked-condition (form.attribute name value) = none
    asked-condition (form.exists s) =
        (λ h. (asked-steps s).0 (All-tail (Asks P) (form.exists s) (in_steps s) h), λ h. All-cons (Asks P) (form.exists s) (in_steps s) tt ((asked-steps s).1 h))
    asked-condition (form.contains s k ps) =
        let c = form.contains s k ps in
        let inside = in_paths ps ++ in_steps s in
        let parts = both (in_paths ps) (in_steps s) (asked-paths ps) (asked-steps s) in
        (λ h. let p = parts.0 (All-tail (Asks P) c inside h) in (p.1, All-head (Asks P) c inside h, p.0), λ h. All-cons (Asks P) c inside h.1 (parts.1 (h.2, h.0)))

    asked-conditions : (cs : form.Conditions) → All (Asks P) (in_conditions cs) ↔ OfConditions P cs
    asked-conditions form.no_conditions = none
    asked-conditions (form.condition_then c rest) = both (in_condition c) (in_conditions rest) (asked-condition c) (asked-conditions rest)

    asked-paths : (ps : form.Paths) → All (Asks P) (in_paths ps) ↔ OfPaths P ps
    asked-paths form.no_paths = none
    asked-paths (form.path_then p rest) = both (in_steps p) (in_paths rest) (asked-steps p) (asked-paths rest)

-- what holds of every number holds of those for which steps ask
pub of-all : (P : ℕ → Type 0) → ((k : ℕ) → P k) → (s : form.Steps) → OfEach P s
of-all P h s = (asked-steps P s).0 (λ i d lt. each-asks P h (get_or (in_steps s) i d))
