-- The spots that were to be found after the first are after this one.
use Rattle.std.proofs.Common.{◌≡◌, ◌+◌, ◌*◌, ◌-◌, ◌≤◌}
use Rattle.std.specs.Prelude.{IsTrue}
use Rattle.place_merges.specs.Sources.{all_left, all_lists, all_plain, wanted_words}
use Rattle.place_merges.specs.Spots.{spots_left}
use Rattle.place_merges.proofs.finding.next_spot.Given as goal

abbrev pub invariant-loop-at : goal.invariant-loop-at
invariant-loop-at g l = record {
  left : spots_left l.to (wanted_words g.H.Hits.stand l.fn.variants.items) l.fn.past ≡ spots_left l.to (wanted_words g.H.Hits.stand l.variants.items) l.at;
  from : l.fn.past.place ≤ l.at.place;
  lists : all_lists g.H.Hits.stand l.variants.items ≡ all_lists g.H.Hits.stand l.fn.variants.items;
  plain : all_plain g.H.Hits.plain l.variants.items ≡ all_plain g.H.Hits.plain l.fn.variants.items;
  counted : IsTrue (all_plain g.H.Hits.plain l.fn.variants.items)
      → l.steps + 2 * all_left g.H.Hits.stand l.variants.items ≤ l.fn.steps + 2 * all_left g.H.Hits.stand l.fn.variants.items;
  grown : l.fn.steps ≤ l.steps;
}

abbrev pub decreases-loop-at : goal.decreases-loop-at
decreases-loop-at g l = l.to - l.at.place
