-- A merge, where one decides it.
use Rattle.std.proofs.Common.{sym}
use Rattle.plan_runs.proofs.OpenedMerges.{merge_opened}
use Rattle.plan_runs.proofs.opening.open_filtered.Goals as goal

pub returns-in_ok-open_merge-in-Some : goal.returns-in_ok-open_merge-in-Some
returns-in_ok-open_merge-in-Some c =
    let opening = c.args.opening.now in
    merge_opened opening.looks opening.lists.now.stems opening.version.now c.in_ok-open_merge-in-Some.field-0 c.args.plan.now c.in-Some.kind c.in-Some.operand.now
    (sym c.in-Some.ensures) c.in_ok-open_merge-in-Some.ensures
