-- The path, production by production.
use Rattle.std.specs.Prelude.{codes}
use Rattle.path_grammar.specs.Grammar.{collection, deep, named, step, no_step, number, no_predicate, further_predicate, path}
use Rattle.path_grammar.proofs.examples.spelled.spelled_number.Goals as goal

pub returns : goal.returns
returns c =
    path (collection (0, 1) (1, 2) (2, 3)) no_step
    (step (deep (3, 4)) (named (4, 5) (codes "b")) (further_predicate no_predicate (number (5, 6) (6, 7) (7, 8) 2)))
