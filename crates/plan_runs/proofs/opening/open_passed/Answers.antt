-- A pass where one decides it, or the walk through its ways.
use Rattle.std.proofs.Common.{◌∙◌, refl, sym}
use Rattle.plan_compiler.specs.declared.node.Node as N
use Rattle.plan_runs.proofs.OpenedHits.{hits_opened}
use Rattle.plan_runs.proofs.OpenedNear.{near_run_opened}
use Rattle.plan_runs.proofs.OpenedWays.{ways_opened}
use Rattle.plan_runs.proofs.opening.open_passed.Goals as goal

pub returns-then-is_near : goal.returns-then-is_near
returns-then-is_near c =
    let opening = c.args.opening.now in
    near_run_opened opening.looks opening.lists.now.stems opening.version.now c.in_ok-open_near.field-0 c.args.plan.now c.requires
    (sym c.is_near.ensures ∙ c.if-is_near.true) c.in_ok-open_near.ensures.aims c.in_ok-open_near.ensures.lists c.in_ok-open_near.ensures.skips

pub returns-in_ok-open_hits-in-Some : goal.returns-in_ok-open_hits-in-Some
returns-in_ok-open_hits-in-Some c =
    let opening = c.args.opening.now in
    hits_opened opening.looks opening.lists.now.stems opening.version.now c.in_ok-open_hits-in-Some.field-0 c.args.plan.now c.in-Some.kind c.in-Some.operand.now c.requires
    (sym c.in-Some.ensures) c.in_ok-open_hits-in-Some.ensures.kind c.in_ok-open_hits-in-Some.ensures.phrases c.in_ok-open_hits-in-Some.ensures.skips

pub returns-in_ok-open_ways-in-None : goal.returns-in_ok-open_ways-in-None
returns-in_ok-open_ways-in-None c =
    let opening = c.args.opening.now in
    ways_opened opening.looks opening.lists.now.stems opening.version.now c.in_ok-open_ways-in-None.field-0 c.args.plan.now (N.Ways c.args.plan.now) refl c.requires
    c.in_ok-open_ways-in-None.ensures.aims c.in_ok-open_ways-in-None.ensures.skips
