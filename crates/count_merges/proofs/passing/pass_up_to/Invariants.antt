-- From the last end of a window on as many spots are passed as were.
use Rattle.std.proofs.Common.{◌≡◌, ◌≤◌, ◌+◌, ◌*◌, true}
use Rattle.std.specs.Prelude.{IsTrue}
use Rattle.place_merges.specs.Sources.{all_left, all_lists, all_plain}
use Rattle.spot_merges.proofs.CoverLemmas.{way_left}
use Rattle.count_merges.specs.steps.Passing.{SameCounts, is_sound, passed_by}
use Rattle.count_merges.proofs.passing.pass_up_to.Given as goal

abbrev pub invariant-loop-passed : goal.invariant-loop-passed
invariant-loop-passed g l =
    let unit = g.U.Units.number l.units in
    let size = l.window.size in
    let to = l.window.to in
    record {
      same : SameCounts l.last (passed_by g.H.Hits.stand unit size l.words to l.variants.items l.passed) (passed_by g.H.Hits.stand unit size l.words to l.fn.variants.items l.fn.before);
      sound : is_sound unit size l.words to l.passed ≡ true;
      lists : all_lists g.H.Hits.stand l.variants.items ≡ all_lists g.H.Hits.stand l.fn.variants.items;
      plain : all_plain g.H.Hits.plain l.variants.items ≡ all_plain g.H.Hits.plain l.fn.variants.items;
      counted : IsTrue (all_plain g.H.Hits.plain l.fn.variants.items)
          → l.steps + 2 * all_left g.H.Hits.stand l.variants.items ≤ l.fn.steps + 2 * all_left g.H.Hits.stand l.fn.variants.items;
      grown : l.fn.steps ≤ l.steps;
    }

abbrev pub decreases-loop-passed : goal.decreases-loop-passed
decreases-loop-passed g l = way_left g.H.Hits.stand l.window.to l.variants.items l.passed.lead
