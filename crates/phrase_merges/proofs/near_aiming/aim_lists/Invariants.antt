-- The lists before this one are aimed.
use Rattle.std.proofs.Common.{◌≡◌, drop, map}
use Rattle.ft_operators.specs.Phrases.{aimed_at}
use Rattle.phrase_merges.specs.steps.Passing.{next_of_lists, soonest}
use Rattle.phrase_merges.proofs.ListLoops.{Changing}
use Rattle.phrase_merges.proofs.near_aiming.aim_lists.Given as goal

abbrev pub invariant-loop-number : goal.invariant-loop-number
invariant-loop-number g l =
    let state = g.P.PhraseHits.state in
    let news = map (aimed_at l.doc.0 l.span) (map state l.fn.lists.items) in
    record {
      changing : Changing (aimed_at l.doc.0 l.span) state l.fn.lists.items l.lists.items l.number l.fn.steps l.steps;
      next : soonest l.next (next_of_lists (drop l.number news)) ≡ next_of_lists news;
    }
