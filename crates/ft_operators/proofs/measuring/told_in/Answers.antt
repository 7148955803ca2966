-- What is read off the hits holds where they begin in order.
use Rattle.ft_operators.proofs.MeasureLemmas.{told_risen, told_unrisen}
use Rattle.ft_operators.proofs.measuring.told_in.Goals as goal

pub returns-then-starts_rise : goal.returns-then-starts_rise
returns-then-starts_rise g c =
    told_risen g.P.PhraseHits.state c.args.unit c.args.node.now c.extents_inside-extents.new.node c.starts_rise.new.node c.args.steps.now c.extents_inside-extents.new.steps c.starts_rise.new.steps
    c.extents_inside-extents.result c.starts_rise.result c.extents_inside-extents.ensures c.starts_rise.ensures c.in-Some.extent c.in-Some.is c.if-starts_rise.true

pub returns-else-starts_rise : goal.returns-else-starts_rise
returns-else-starts_rise g c =
    told_unrisen g.P.PhraseHits.state c.args.unit c.args.node.now c.extents_inside-extents.new.node c.starts_rise.new.node c.args.steps.now c.extents_inside-extents.new.steps c.starts_rise.new.steps
    c.extents_inside-extents.result c.starts_rise.result c.extents_inside-extents.ensures c.starts_rise.ensures
