-- The group stands at the places of its terms, keeps its cursors, and passes each hit at most once.
use Rattle.std.proofs.Common.{ap, ◌∙◌, map, min, arith}
use Rattle.index_phrases.specs.steps.Aiming.{variant_words}
use Rattle.index_phrases.proofs.AimLemmas.{sizes_kept}
use Rattle.plan_runs.proofs.GroupLaw.{aimed_law, all_are_plain, group_law}
use Rattle.plan_runs.proofs.words_holding.count_group.Goals as goal

pub returns-clause-count : goal.returns-clause-count
returns-clause-count g c =
    let place = c.args.place.now in
    let terms = map variant_words c.args.group.now.terms.items in
    c.count_places.ensures.count
    ∙ ap (λ n. min n c.args.most) (aimed_law place terms c.aim_variants.new.variants.items c.aim_variants.ensures.aimed)
    ∙ ap (λ n. min n c.args.most) (group_law place terms)

pub returns-clause-same : goal.returns-clause-same
returns-clause-same g c =
    let sizes = sizes_kept c.aim_variants.new.variants.items c.count_places.new.variants.items c.count_places.ensures.lists ∙ c.aim_variants.ensures.same in
    λ i. record { terms = c.aim_variants.ensures.terms i; sizes = sizes i }

pub returns-clause-price : goal.returns-clause-price
returns-clause-price g c =
    let aimed = c.aim_variants.ensures.price in
    let counted = c.count_places.ensures.counted (all_are_plain c.aim_variants.new.variants.items) in
    omega (arith, aimed, counted)
