-- By the walk.
use Rattle.std.proofs.Common.{sym, subst}
use Rattle.ft_operators.specs.Standing.{Aims}
use Rattle.plan_runs.specs.OpenedParts.{IsWalk}
use Rattle.match_marks.proofs.OpeningLemmas.{least_opened}
use Rattle.match_marks.proofs.opening.open_ways.Goals as goal

pub returns : goal.returns
returns c =
    let opening = c.args.opening.now in
    least_opened opening.looks opening.lists.now.stems opening.version.now c.in_ok-least_run.field-0 c.args.plan.now
    (subst (λ (aims : Aims). IsWalk opening.looks opening.lists.now.stems opening.version.now aims c.args.plan.now.operator) (sym c.in_ok-least_run.ensures) c.in_ok-tuples.ensures)
