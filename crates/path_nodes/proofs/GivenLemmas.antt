-- Where a test is given holes: only where steps ask for text without content.
use Rattle.std.proofs.Common.{◌≡◌, ℕ, suc, Bool, true, List, [], ◌∷◌, map, length, get_or, refl, ap, arith}
use Rattle.std.specs.List.{All}
use Rattle.std.proofs.Math.Logic.{◌≢◌}
use Rattle.std.proofs.lemmas.Bool.{or_left, or_right}
use Rattle.std.proofs.lemmas.List.Elements.{All-nil, All-cons, All-append}
use Rattle.ft_base.specs.declared.ids.NodeRef.{NodeRef}
use Rattle.ordered_tree.specs.Numbered.{Numbered}
use Rattle.path_grammar.specs.Form as form
use Rattle.path_grammar.specs.Without.{has_without, step_has, predicates_have, predicate_has, condition_has, conditions_have}
use Rattle.path_meaning.specs.Elements.{Element}
use Rattle.path_meaning.specs.Meaning.{ignored}
use Rattle.path_nodes.specs.References.{element_of}
use Rattle.path_nodes.specs.steps.Known.{AreGiven, MayGive}
use Rattle.path_nodes.specs.steps.Leading.{in_steps, in_step, in_predicates, in_predicate, in_condition, in_conditions}
use Rattle.path_nodes.proofs.AskingLemmas.{at-number}

module _ (takes : Bool) where
  -- a condition gives holes by its own paths at most
  abbrev Gives : form.Condition → Type 0
  Gives (form.contains s k ps) = MayGive takes ps
  Gives (form.or_of cs) = Unit {0}
  Gives (form.and_of cs) = Unit {0}
  Gives (form.not_of c) = Unit {0}
  Gives (form.attribute name value) = Unit {0}
  Gives (form.exists s) = Unit {0}

  gives : takes ≡ true → (c : form.Condition) → Gives c
  gives h (form.contains s k ps) = λ some. h
  gives h (form.or_of cs) = tt
  gives h (form.and_of cs) = tt
  gives h (form.not_of c) = tt
  gives h (form.attribute name value) = tt
  gives h (form.exists s) = tt

  mutual
    unfolding has_without in_steps

    given-steps : (ss : form.Steps) → (has_without ss ≡ true → takes ≡ true) → All Gives (in_steps ss)
    given-steps form.no_steps h = All-nil Gives
    given-steps (form.step_then s rest) h =
        All-append Gives (in_step s) (in_steps rest) (given-step s (λ e. h (or_left (step_has s) (has_without rest) e)))
        (given-steps rest (λ e. h (or_right (step_has s) (has_without rest) e)))

    given-step : (s : form.Step) → (step_has s ≡ true → takes ≡ true) → All Gives (in_step s)
    given-step (form.step deep test ps) h = given-predicates ps h

    given-predicates : (ps : form.Predicates) → (predicates_have ps ≡ true → takes ≡ true) → All Gives (in_predicates ps)
    given-predicates form.no_predicates h = All-nil Gives
    given-predicates (form.predicate_then p rest) h =
        All-append Gives (in_predicate p) (in_predicates rest) (given-predicate p (λ e. h (or_left (predicate_has p) (predicates_have rest) e)))
        (given-predicates rest (λ e. h (or_right (predicate_has p) (predicates_have rest) e)))

    given-predicate : (p : form.Predicate) → (predicate_has p ≡ true → takes ≡ true) → All Gives (in_predicate p)
    given-predicate (form.number k) h = All-nil Gives
    given-predicate (form.holds c) h = given-condition c h

    given-condition : (c : form.Condition) → (condition_has c ≡ true → takes ≡ true) → All Gives (in_condition c)
    given-condition (form.or_of cs) h = given-conditions cs h
    given-condition (form.and_of cs) h = given-conditions cs h
    given-condition (form.not_of c) h = given-condition c h
    given-condition (form.attribute name value) h = All-nil Gives
    given-condition (form.exists s) h = All-cons Gives (form.exists s) (in_steps s) tt (given-steps s h)
    given-condition (form.contains s k form.no_paths) h = All-cons Gives (form.contains s k form.no_paths) (in_steps s) (λ some. absurd (some refl)) (given-steps s h)
    given-condition (form.contains s k (form.path_then path rest)) h =
        λ i d lt. gives (h refl) (get_or (in_condition (form.contains s k (form.path_then path rest))) i d)

    given-conditions : (cs : form.Conditions) → (conditions_have cs ≡ true → takes ≡ true) → All Gives (in_conditions cs)
    given-conditions form.no_conditions h = All-nil Gives
    given-conditions (form.condition_then c rest) h =
        All-append Gives (in_condition c) (in_conditions rest) (given-condition c (λ e. h (or_left (condition_has c) (conditions_have rest) e)))
        (given-conditions rest (λ e. h (or_right (condition_has c) (conditions_have rest) e)))

  pub are-given : (ss : form.Steps) → (has_without ss ≡ true → takes ≡ true) → AreGiven takes (in_steps ss)
  are-given ss h number s k ps (rest, is) = at-number Gives (in_steps ss) number (form.contains s k ps) rest is (given-steps ss h)

  -- nothing is ignored where there are no paths
  pub given-holes : (root : Numbered) (satisfies : ℕ → List Element → Element → Bool) (all : List Element) (ps : form.Paths) (e : Element) (holes : List NodeRef)
      → MayGive takes ps → map (element_of root) holes ≡ ignored satisfies all ps e → holes ≢ [] → takes ≡ true
  unfolding ignored
  given-holes root satisfies all form.no_paths e [] h is some = absurd (some refl)
  given-holes root satisfies all form.no_paths e (r ∷ holes) h is some =
      let no : suc (length (map (element_of root) holes)) ≡ 0 = ap length is in absurd (omega (arith, no))
  given-holes root satisfies all (form.path_then path rest) e holes h is some = h (λ (none : form.path_then path rest ≡ form.no_paths). cc)
