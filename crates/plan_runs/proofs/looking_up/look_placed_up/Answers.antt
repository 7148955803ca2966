-- By the variants of the phrase.
use Rattle.std.proofs.Common.{◌∙◌, ap}
use Rattle.plan_runs.specs.steps.RunShapes.{placed_shape}
use Rattle.plan_runs.specs.steps.RunSkips.{placed_skip}
use Rattle.plan_runs.proofs.looking_up.look_placed_up.Goals as goal

pub returns-in-AtEdge-clause-none : goal.returns-in-AtEdge-clause-none
returns-in-AtEdge-clause-none c h part =
    ap (λ placed. placed_skip c.args.doc.0 part (placed_shape placed)) c.in-AtEdge.is ∙ c.look_variants_up.ensures.none h part

pub returns-in-Apart-clause-none : goal.returns-in-Apart-clause-none
returns-in-Apart-clause-none c h part =
    ap (λ placed. placed_skip c.args.doc.0 part (placed_shape placed)) c.in-Apart.is ∙ c.look_variants_up-in-Apart.ensures.none h part
