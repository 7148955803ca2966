-- The path, production by production.
use Rattle.std.specs.Prelude.{codes, refl}
use Rattle.path_grammar.specs.Grammar.{doc, child, named, step, no_step, holds, no_predicate, further_predicate, first_or, first_and, further_and, negated, attribute, contains, itself, path}
use Rattle.path_grammar.proofs.Spelled.{selection}
use Rattle.path_grammar.proofs.examples.spelled.spelled_and_not.Goals as goal

pub returns : goal.returns
returns c = (
  path (doc (0, 1) (1, 2) (2, 3) (3, 4) (codes "x")) no_step
      (step (child (4, 5)) (named (5, 6) (codes "a")) (further_predicate no_predicate (holds (6, 7)
      (first_or (further_and
      (first_and (contains (itself (7, 8) no_step) (8, 9) (9, 10) (selection (10, 11) (codes "u"))))
      (11, 12)
      (negated (12, 13) (13, 14) (first_or (first_and (attribute (14, 15) (15, 16) (codes "k")))) (16, 17))))
      (17, 18)))),
  refl,
)
