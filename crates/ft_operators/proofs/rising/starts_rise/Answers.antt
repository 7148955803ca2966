-- A start that is later and was passed is the last one.
use Rattle.std.proofs.Common.{◌∙◌, sym}
use Rattle.ft_operators.proofs.RisingLemmas.{rounds_on}
use Rattle.ft_operators.proofs.rising.starts_rise.Goals as goal

pub loop-start-preserved : goal.loop-start-preserved
loop-start-preserved g c =
    rounds_on c.args.unit _ _ _ _ _ _ c.loop-start.last c.in-Some.start c.loop-start.invariant (sym c.is_later.ensures ∙ c.if-not-is_later.false) c.pass.result c.pass.ensures
