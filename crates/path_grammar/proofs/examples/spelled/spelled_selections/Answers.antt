-- The path, production by production.
use Rattle.std.specs.Prelude.{codes}
use Rattle.path_grammar.specs.Grammar.{collection, child, named, step, no_step, further_step, holds, no_predicate, further_predicate, first_or, further_or, first_and, contains, some_child, path}
use Rattle.path_grammar.proofs.Spelled.{selection}
use Rattle.path_grammar.proofs.examples.spelled.spelled_selections.Goals as goal

pub returns : goal.returns
returns c =
    path (collection (0, 1) (1, 2) (2, 3)) no_step
    (step (child (3, 4)) (named (4, 5) (codes "a")) (further_predicate no_predicate (holds (5, 6)
    (further_or
    (first_or (first_and (contains (some_child (named (6, 7) (codes "b")) no_predicate no_step) (7, 8) (8, 9) (selection (9, 10) (codes "u")))))
    (10, 11)
    (first_and (contains (some_child (named (11, 12) (codes "c")) no_predicate (further_step no_step (step (child (12, 13)) (named (13, 14) (codes "d")) no_predicate))) (14, 15) (15, 16) (selection (16, 17) (codes "w")))))
    (17, 18))))
