-- What the parts of a path stand for, for the search, and whether `contains text` asks for text without content.
use Rattle.std.proofs.Common.{◌≡◌, ℕ, Bool, true, false, List, [], ◌∷◌, map, ap, refl}
use Rattle.std.specs.Prelude.{IsTrue}
use Rattle.path_grammar.specs.Form as form
use Rattle.path_grammar.specs.View as view
use Rattle.path_grammar.specs.Without.{step_has, predicates_have, condition_has}
use Rattle.path_grammar.specs.declared.path.RelativePath.{RelativePath}
use Rattle.path_grammar.specs.declared.path.Step.{Step}
use Rattle.path_grammar.proofs.Views.{view_step, view_number, view_holds, view_or, view_and, view_not, view_attribute, view_exists, view_contains}

pub of_step : (s : Step) → step_has (view.step s) ≡ predicates_have (form.predicates (map view.predicate s.predicates))
unfolding step_has
of_step s = ap step_has (view_step s.deep s.test s.predicates)

pub ruleset views = (of_step, view_number, view_holds, view_or, view_and, view_not, view_attribute, view_exists, view_contains)

-- where there are ignored paths
pub ignoring : (further : List Step) (selection : ℕ) (ignored : List RelativePath) (empty : Bool) → (ignored ≡ [] → IsTrue empty) → empty ≡ false
    → true ≡ condition_has (form.contains (form.steps (map view.step further)) selection (form.paths (map view.relative_path ignored)))
unfolding condition_has
ignoring further selection [] empty told h = let is : empty ≡ true = told refl in cc
ignoring further selection (path ∷ rest) empty told h = refl
