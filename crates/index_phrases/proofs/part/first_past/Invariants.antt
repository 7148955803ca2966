-- Places before those that are left are not past the edge, and those behind them are.
use Rattle.index_phrases.specs.steps.Parting.{is_past, IsSearched}
use Rattle.index_phrases.proofs.part.first_past.Given as goal

abbrev pub invariant-loop-size : goal.invariant-loop-size
invariant-loop-size l =
    IsSearched (is_past l.edge l.bounds l.number l.target.breaks.breaks.now l.target.span) l.target.span.from l.target.span.to l.low l.size

abbrev pub decreases-loop-size : goal.decreases-loop-size
decreases-loop-size l = l.size
