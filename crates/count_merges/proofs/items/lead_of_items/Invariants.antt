-- The window has enough of each item before this one.
use Rattle.count_merges.specs.steps.Passing.{holds_item, is_item_sound, shown_item}
use Rattle.count_merges.proofs.AgreeLemmas.{Agreed}
use Rattle.count_merges.proofs.items.lead_of_items.Given as goal

abbrev pub invariant-loop-number : goal.invariant-loop-number
invariant-loop-number g l =
    let unit = g.U.Units.number l.units in
    Agreed (holds_item g.H.Hits.stand unit l.window) (is_item_sound unit l.window) (shown_item g.H.Hits.stand g.H.Hits.plain) l.fn.items.items l.items.items l.last l.number l.fn.steps l.steps
