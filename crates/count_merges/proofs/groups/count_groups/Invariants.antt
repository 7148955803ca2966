-- The groups before this one are counted.
use Rattle.count_merges.specs.steps.Passing.{held, is_group_sound, shown_group}
use Rattle.count_merges.proofs.SumLemmas.{Summed}
use Rattle.count_merges.proofs.groups.count_groups.Given as goal

abbrev pub invariant-loop-number : goal.invariant-loop-number
invariant-loop-number g l =
    let unit = g.U.Units.number l.units in
    Summed (held g.H.Hits.stand unit l.window) (is_group_sound unit l.window) (shown_group g.H.Hits.stand g.H.Hits.plain) l.fn.groups.items l.groups.items l.last l.limit l.until l.count l.number l.fn.steps l.steps
