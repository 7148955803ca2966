-- A path for examples.
use Rattle.std.specs.Prelude.{ℕ, false, [], ◌∷◌, codes}
use Rattle.ft_syntax.specs.Examples.{quoted}
use Rattle.path_grammar.specs.Form.{step, steps, holds, predicates, contains, no_steps, no_paths}
use Rattle.path_grammar.specs.declared.path.NameTest.TheVariants as test
use Rattle.path_grammar.specs.declared.path.PathRoot.TheVariants as root
use Rattle.path_subset.specs.Paths.{PathForm, path_form}

-- `collection()/a[. contains text "x"]`, whose selection ends in the text at a place
abbrev pub with_selection_to : ℕ → PathForm
with_selection_to place =
    path_form (record { root = root.Collection; steps = steps (step false (test.Name (codes "a")) (predicates (holds (contains no_steps 0 no_paths) ∷ [])) ∷ []) })
    (record { form = quoted (codes "x"); extent = record { from = 0; to = place } } ∷ [])
