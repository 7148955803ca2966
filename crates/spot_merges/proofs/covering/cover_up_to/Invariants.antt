-- After the place each spot is as free as before.
use Rattle.std.proofs.Common.{◌≡◌, ◌≤◌, ◌<◌, ◌+◌, ◌*◌, ◌^◌}
use Rattle.std.specs.Prelude.{IsTrue}
use Rattle.place_merges.specs.Sources.{all_left, all_lists, all_plain}
use Rattle.spot_merges.specs.steps.Covering.{SameAt, is_free}
use Rattle.spot_merges.proofs.CoverLemmas.{way_left}
use Rattle.spot_merges.proofs.covering.cover_up_to.Given as goal

abbrev pub invariant-loop-passed : goal.invariant-loop-passed
invariant-loop-passed g l = record {
  same : SameAt l.place (is_free g.H.Hits.stand l.to l.variants.items l.passed) (is_free g.H.Hits.stand l.to l.fn.variants.items l.fn.cover);
  inside : l.passed.lead.place + l.passed.lead.words < 2 ^ 32;
  lists : all_lists g.H.Hits.stand l.variants.items ≡ all_lists g.H.Hits.stand l.fn.variants.items;
  plain : all_plain g.H.Hits.plain l.variants.items ≡ all_plain g.H.Hits.plain l.fn.variants.items;
  counted : IsTrue (all_plain g.H.Hits.plain l.fn.variants.items)
      → l.steps + 2 * all_left g.H.Hits.stand l.variants.items ≤ l.fn.steps + 2 * all_left g.H.Hits.stand l.fn.variants.items;
  grown : l.fn.steps ≤ l.steps;
}

abbrev pub decreases-loop-passed : goal.decreases-loop-passed
decreases-loop-passed g l = way_left g.H.Hits.stand l.to l.variants.items l.passed.lead
