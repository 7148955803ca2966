-- The path, production by production.
use Rattle.std.specs.Prelude.{codes}
use Rattle.path_grammar.specs.Grammar.{collection, child, named, step, no_step, holds, no_predicate, further_predicate, first_or, first_and, exists, some_child, path}
use Rattle.path_grammar.proofs.examples.spelled.spelled_keywords.Goals as goal

pub returns : goal.returns
returns c =
    path (collection (0, 1) (1, 2) (2, 3)) no_step
    (step (child (3, 4)) (named (4, 5) (codes "not")) (further_predicate no_predicate (holds (5, 6)
    (first_or (first_and (exists (some_child (named (6, 7) (codes "or")) no_predicate no_step))))
    (7, 8))))
