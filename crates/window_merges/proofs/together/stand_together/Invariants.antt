-- No choice in one unit has a place before where the search goes on.
use Rattle.std.proofs.Common.{◌-◌}
use Rattle.window_merges.specs.Choices.{are_in_one}
use Rattle.window_merges.specs.Rows.{places_in}
use Rattle.window_merges.specs.steps.Reaching.{has_hit, shown_word}
use Rattle.window_merges.proofs.CloseLemmas.{Narrowing}
use Rattle.window_merges.proofs.together.stand_together.Given as goal

abbrev pub invariant-loop-low : goal.invariant-loop-low
invariant-loop-low g l =
    let stand = g.H.Hits.stand in
    Narrowing (has_hit stand) (λ word. places_in stand l.span word.items) (shown_word stand g.H.Hits.plain) l.fn.words.items l.words.items (are_in_one (g.U.Units.number l.units)) l.span.from l.low l.fn.steps l.steps

abbrev pub decreases-loop-low : goal.decreases-loop-low
decreases-loop-low g l = l.span.to - l.low
