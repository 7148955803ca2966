-- The hits may be sought there, rise, and are told in one text.
use Rattle.plan_runs.proofs.near_holding.tree_holds.Goals as goal

pub stand_near_at-requires-clause-may : goal.stand_near_at-requires-clause-may
stand_near_at-requires-clause-may g c = c.requires.may c.args.place.now.doc.0 c.args.place.now.span c.args.place.now.there

pub stand_near_at-requires-clause-rising : goal.stand_near_at-requires-clause-rising
stand_near_at-requires-clause-rising g c = c.requires.rising c.args.place.now.doc.0 c.args.place.now.span

pub stand_near_at-requires-clause-told : goal.stand_near_at-requires-clause-told
stand_near_at-requires-clause-told g c = c.requires.told c.args.place.now.doc.0 c.args.place.now.span
