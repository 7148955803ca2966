-- The last of several steps or predicates says what is shown.
use Rattle.std.proofs.Common.{◌≡◌, ◌-◌, ℕ, zero, suc, Bool, true, false, List, [], ◌∷◌, length, map, slice_get, refl, sym, ap, ◌∙◌, arith}
use Rattle.std.specs.Prelude.{Option, Some, None, IsTrue}
use Rattle.path_grammar.specs.Form as form
use Rattle.path_grammar.specs.View.{predicate, step, relative_path}
use Rattle.path_grammar.proofs.Views.{view_step}
use Rattle.path_grammar.specs.declared.path.Predicate.{Predicate}
use Rattle.path_grammar.specs.declared.path.RelativePath.{RelativePath}
use Rattle.path_grammar.specs.declared.path.Step.{Step}
use Rattle.path_subset.specs.Shown.{condition_selection, predicate_selection, predicates_selection, step_selection, shown_selection}

-- what each item but the last leaves to those after it, the last one says
module _ {A : Type 0} (say : List A → Option ℕ) (one : A → Option ℕ) (alone : (x : A) → say (x ∷ []) ≡ one x)
    (more : (x y : A) (rest : List A) → say (x ∷ y ∷ rest) ≡ say (y ∷ rest)) where
  said : (xs : List A) (n : ℕ) (last : A) → length xs ≡ suc n → slice_get xs n ≡ Some last → say xs ≡ one last
  said [] n last h e = absurd (omega (arith, h))
  said (x ∷ []) zero last h e = let same : x ≡ last = cc in alone x ∙ ap one same
  said (x ∷ []) (suc n) last h e = absurd (omega (arith, h))
  said (x ∷ y ∷ rest) zero last h e = absurd (omega (arith, h))
  said (x ∷ y ∷ rest) (suc n) last h e = more x y rest ∙ said (y ∷ rest) n last (omega (arith, h)) e

  pub said_by_last : (xs : List A) (last : A) → Some last ≡ slice_get xs (length xs - 1) → say xs ≡ one last
  said_by_last [] last e = cc
  said_by_last (x ∷ xs) last e = said (x ∷ xs) (length xs) last refl (ap (slice_get (x ∷ xs)) (omega arith) ∙ sym e)

pub last_predicate : (xs : List Predicate) (last : Predicate) → Some last ≡ slice_get xs (length xs - 1)
    → predicates_selection (form.predicates (map predicate xs)) ≡ predicate_selection (predicate last)
last_predicate = said_by_last (λ xs. predicates_selection (form.predicates (map predicate xs))) (λ p. predicate_selection (predicate p)) (λ x. refl) (λ x y rest. refl)

pub last_step : (xs : List Step) (last : Step) → Some last ≡ slice_get xs (length xs - 1)
    → shown_selection (form.steps (map step xs)) ≡ predicates_selection (form.predicates (map predicate last.predicates))
last_step = said_by_last (λ xs. shown_selection (form.steps (map step xs))) (λ s. predicates_selection (form.predicates (map predicate s.predicates)))
    (λ s. ap step_selection (view_step s.deep s.test s.predicates)) (λ x y rest. refl)

-- steps to other elements
pub not_itself : (further : List Step) (selection : ℕ) (ignored : List RelativePath) (empty : Bool) → (further ≡ [] → IsTrue empty) → empty ≡ false
    → None ≡ condition_selection (form.contains (form.steps (map step further)) selection (form.paths (map relative_path ignored)))
not_itself [] selection ignored empty told h = let is : empty ≡ true = told refl in cc
not_itself (s ∷ rest) selection ignored empty told h = refl

-- and ignored paths
pub not_alone : (further : List Step) (selection : ℕ) (ignored : List RelativePath) (empty : Bool) → (ignored ≡ [] → IsTrue empty) → empty ≡ false
    → None ≡ condition_selection (form.contains (form.steps (map step further)) selection (form.paths (map relative_path ignored)))
not_alone further selection [] empty told h = let is : empty ≡ true = told refl in cc
not_alone [] selection (path ∷ rest) empty told h = refl
not_alone (s ∷ more) selection (path ∷ rest) empty told h = refl
