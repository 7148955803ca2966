-- By the terms of each variant.
use Rattle.std.proofs.Common.{ap, sym, ◌∙◌}
use Rattle.std.proofs.lemmas.Simd.{map-map}
use Rattle.index_phrases.specs.steps.Aiming.{variant_words}
use Rattle.index_versions.specs.FirstPlaces.{soonest}
use Rattle.plan_runs.specs.steps.RunShapes.{placed_shape}
use Rattle.plan_runs.specs.steps.RunSkips.{placed_skip}
use Rattle.plan_runs.specs.steps.Skips.{variant_skip}
use Rattle.plan_runs.proofs.skipping.placed_skip.Goals as goal

pub returns-in-AtEdge-clause-says : goal.returns-in-AtEdge-clause-says
returns-in-AtEdge-clause-says g c =
    c.variants_skip.ensures.says
    ∙ sym (ap soonest (map-map (variant_skip c.args.doc.0 c.args.part) variant_words c.in-AtEdge.phrase.variants.items))
    ∙ sym (ap (λ placed. placed_skip c.args.doc.0 c.args.part (placed_shape placed)) c.in-AtEdge.is)

pub returns-in-Apart-clause-says : goal.returns-in-Apart-clause-says
returns-in-Apart-clause-says g c =
    c.variants_skip-in-Apart.ensures.says
    ∙ sym (ap soonest (map-map (variant_skip c.args.doc.0 c.args.part) variant_words c.in-Apart.phrases.left.terms.items))
    ∙ sym (ap (λ placed. placed_skip c.args.doc.0 c.args.part (placed_shape placed)) c.in-Apart.is)
