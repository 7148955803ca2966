-- A step makes it a path.
use Rattle.std.specs.Prelude.{[], ◌∷◌, codes}
use Rattle.selection_grammar.specs.declared.symbol.Symbol.TheVariants as S
use Rattle.path_grammar.specs.declared.path.PathRoot.TheVariants as R
use Rattle.path_grammar.specs.Spellings as example
use Rattle.path_grammar.specs.Form.{steps}
use Rattle.path_grammar.specs.Grammar.{collection, child, named, step, no_step, no_predicate, path}
use Rattle.path_grammar.specs.Spellings.{row_from}
use Rattle.path_grammar.proofs.examples.spelled.begun_by_a_root.Goals as goal

pub returns : goal.returns
returns c = (
  row_from 3 (S.Slash ∷ S.Name (codes "a") ∷ []),
  record { root = R.Collection; steps = steps (example.child (codes "a") [] ∷ []) },
  [],
  path (collection (0, 1) (1, 2) (2, 3)) no_step (step (child (3, 4)) (named (4, 5) (codes "a")) no_predicate),
)
