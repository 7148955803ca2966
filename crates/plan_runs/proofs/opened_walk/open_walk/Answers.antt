-- The operators of the opened walk are those of the compiled one.
use Rattle.std.proofs.Common.{sym, subst}
use Rattle.std.proofs.lemmas.Result.{IfOk-weaker}
use Rattle.plan_runs.specs.OpenedParts.{IsWalk}
use Rattle.plan_runs.proofs.OpenedPartLemmas.{opened_is_walk}
use Rattle.plan_runs.proofs.opened_walk.open_walk.Goals as goal

pub returns : goal.returns
returns c =
    let opening = c.args.opening.now in
    IfOk-weaker c.open_operator.result _ _
    (λ tuples same.
    subst (λ aims. IsWalk opening.looks opening.lists.now.stems opening.version.now aims c.args.plan.now) (sym same)
    (opened_is_walk opening.looks opening.lists.now.stems opening.version.now c.args.plan.now))
    c.open_operator.ensures
