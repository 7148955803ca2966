-- The variants of both stand where their terms do, and keep their cursors.
use Rattle.std.proofs.Common.{◌∙◌, map}
use Rattle.index_phrases.specs.steps.Aiming.{variant_words}
use Rattle.index_phrases.proofs.AimLemmas.{sizes_kept}
use Rattle.spot_merges.specs.Outside.{stands_outside}
use Rattle.plan_runs.specs.steps.RunShapes.{outside}
use Rattle.plan_runs.proofs.GroupLaw.{aimed_spots}
use Rattle.plan_runs.proofs.placed_holding.holds_apart.Goals as goal

pub returns-clause-says : goal.returns-clause-says
returns-clause-says g c =
    let place = c.args.place.now in
    let left = aimed_spots place (map variant_words c.args.phrases.now.left.terms.items) c.aim_variants.new.variants.items c.aim_variants.ensures.aimed in
    let right = aimed_spots place (map variant_words c.args.phrases.now.right.terms.items) c.aim_variants-2.new.variants.items c.aim_variants-2.ensures.aimed in
    c.stand_outside.ensures.outside ∙ (λ i. stands_outside c.args.phrases.now.outside (left i) (right i))

pub returns-clause-same : goal.returns-clause-same
returns-clause-same g c =
    let left = sizes_kept c.aim_variants.new.variants.items c.stand_outside.new.left.items c.stand_outside.ensures.left_lists ∙ c.aim_variants.ensures.same in
    let right = sizes_kept c.aim_variants-2.new.variants.items c.stand_outside.new.right.items c.stand_outside.ensures.right_lists ∙ c.aim_variants-2.ensures.same in
    λ i. outside c.args.phrases.now.outside (record { terms = c.aim_variants.ensures.terms i; sizes = left i }) (record { terms = c.aim_variants-2.ensures.terms i; sizes = right i })
