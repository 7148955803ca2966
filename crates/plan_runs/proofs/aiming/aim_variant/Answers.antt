-- A variant whose cursors were aimed stands where its terms do.
use Rattle.std.proofs.Common.{refl, true}
use Rattle.plan_runs.proofs.AimLemmas.{aimed_price, aimed_stands}
use Rattle.plan_runs.proofs.aiming.aim_variant.Goals as goal

pub returns-clause-aimed : goal.returns-clause-aimed
returns-clause-aimed g c =
    aimed_stands c.args.place.now (record { items = c.aim_items.new.items; lead = c.args.variant.now.lead; counts = true }) c.args.terms.now.items refl c.aim_items.ensures.aimed

pub returns-clause-price : goal.returns-clause-price
returns-clause-price g c =
    aimed_price c.args.place.now (record { items = c.aim_items.new.items; lead = c.args.variant.now.lead; counts = true }) c.args.terms.now.items c.args.moves.now c.aim_items.new.moves refl
    c.aim_items.ensures.aimed c.aim_items.ensures.price
