-- The path, production by production.
use Rattle.std.specs.Prelude.{codes, refl}
use Rattle.path_grammar.specs.Grammar.{collection, child, named, step, no_step, holds, no_predicate, further_predicate, first_or, first_and, contains, without}
use Rattle.path_grammar.specs.Grammar.{first_rel, further_rel, itself, some_child, path}
use Rattle.path_grammar.proofs.Spelled.{selection}
use Rattle.path_grammar.proofs.examples.spelled.spelled_without.Goals as goal

pub returns : goal.returns
returns c = (
  path (collection (0, 1) (1, 2) (2, 3)) no_step
      (step (child (3, 4)) (named (4, 5) (codes "a")) (further_predicate no_predicate (holds (5, 6)
      (first_or (first_and (without (itself (6, 7) no_step) (7, 8) (8, 9) (selection (9, 10) (codes "u")) (10, 11) (11, 12)
      (further_rel
      (first_rel (some_child (named (12, 13) (codes "b")) (further_predicate no_predicate (holds (13, 14)
      (first_or (first_and (contains (some_child (named (14, 15) (codes "c")) no_predicate no_step) (15, 16) (16, 17) (selection (17, 18) (codes "w")))))
      (18, 19))) no_step))
      (19, 20)
      (itself (20, 21) no_step)))))
      (21, 22)))),
  refl,
)
