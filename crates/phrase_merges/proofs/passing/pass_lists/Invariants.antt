-- The lists before this one were passed.
use Rattle.std.proofs.Common.{◌≡◌, drop, map}
use Rattle.phrase_merges.specs.steps.Passing.{list_behind, next_of_lists, soonest, start_of_lists}
use Rattle.phrase_merges.proofs.ListLoops.{Changing}
use Rattle.phrase_merges.proofs.passing.pass_lists.Given as goal

abbrev pub invariant-loop-number : goal.invariant-loop-number
invariant-loop-number g l =
    let state = g.P.PhraseHits.state in
    let olds = map state l.fn.lists.items in
    let news = map (list_behind l.end) olds in
    record {
      changing : Changing (list_behind l.end) state l.fn.lists.items l.lists.items l.number l.fn.steps l.steps;
      start : start_of_lists l.end l.passed.start (drop l.number olds) ≡ start_of_lists l.end l.fn.start olds;
      next : soonest l.passed.next (next_of_lists (drop l.number news)) ≡ next_of_lists news;
    }
