-- The variants may be aimed there, and their hits rise.
use Rattle.plan_runs.proofs.hits_holding.some_hits_stand.Goals as goal

pub phrases_stand-requires-clause-may : goal.phrases_stand-requires-clause-may
phrases_stand-requires-clause-may g c = c.requires.may c.args.place.now.doc.0 c.args.place.now.span c.args.place.now.there

pub phrases_stand-requires-clause-rising : goal.phrases_stand-requires-clause-rising
phrases_stand-requires-clause-rising g c = c.requires.rising c.args.place.now.doc.0 c.args.place.now.span
