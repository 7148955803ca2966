-- The spots of phrases, where these decide it.
use Rattle.std.proofs.Common.{sym, map}
use Rattle.plan_runs.specs.steps.OpenedItems.{opened_variant}
use Rattle.plan_runs.specs.steps.OpenedWords.{opened_group}
use Rattle.plan_runs.specs.steps.RunShapes.{at_edge, outside}
use Rattle.plan_runs.proofs.OpenedPlaced.{edge_placed, outside_placed, placed_opened}
use Rattle.plan_runs.proofs.opening.open_unmerged.Goals as goal

pub returns-in-Some : goal.returns-in-Some
returns-in-Some c =
    let opening = c.args.opening.now in
    let edge = c.in-Some.edge in
    let phrase = c.in-Some.phrase.now in
    placed_opened opening.looks opening.lists.now.stems opening.version.now c.in_ok-placed.placed c.args.plan.now
    (at_edge edge (map (opened_variant opening.looks opening.lists.now.stems opening.version.now) phrase.variants))
    c.requires
    (edge_placed opening.looks opening.lists.now.stems opening.version.now c.args.plan.now.operator edge phrase (sym c.in-Some.ensures))
    c.in_ok-placed.ensures

pub returns-in-Some-outside_of : goal.returns-in-Some-outside_of
returns-in-Some-outside_of c =
    let opening = c.args.opening.now in
    let kind = c.in-Some-outside_of.kind in
    let left = c.in-Some-outside_of.left.now in
    let right = c.in-Some-outside_of.right.now in
    placed_opened opening.looks opening.lists.now.stems opening.version.now c.in_ok-placed-2.placed c.args.plan.now
    (outside kind (opened_group opening.looks opening.lists.now.stems opening.version.now left.variants)
    (opened_group opening.looks opening.lists.now.stems opening.version.now right.variants))
    c.requires
    (outside_placed opening.looks opening.lists.now.stems opening.version.now c.args.plan.now.operator kind left right (sym c.in-Some-outside_of.ensures))
    c.in_ok-placed-2.ensures
