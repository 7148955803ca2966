-- By the kind of the predicate.
use Rattle.std.proofs.Common.{refl}
use Rattle.path_grammar.proofs.Views.{view_number, view_holds}
use Rattle.path_nodes.proofs.steps.is_number.Goals as goal

pub returns-in-Number : goal.returns-in-Number
returns-in-Number c = rw (c.in-Number.is, view_number) refl

pub returns-in-Holds : goal.returns-in-Holds
returns-in-Holds c = rw (c.in-Holds.is, view_holds) refl
