-- The spots that are ahead stay the same.
use Rattle.std.proofs.Common.{◌≡◌, ◌≤◌, ◌+◌, ◌*◌}
use Rattle.std.specs.Prelude.{IsTrue}
use Rattle.place_merges.specs.Sources.{all_left, all_lists, all_plain}
use Rattle.spot_merges.specs.steps.Covering.{spots_ahead}
use Rattle.spot_merges.proofs.CoverLemmas.{way_left}
use Rattle.spot_merges.proofs.clear.lead_up_to.Given as goal

abbrev pub invariant-loop-lead : goal.invariant-loop-lead
invariant-loop-lead g l = record {
  spots : spots_ahead g.H.Hits.stand l.to l.variants.items l.lead ≡ spots_ahead g.H.Hits.stand l.to l.fn.variants.items l.fn.from;
  forward : l.fn.from.place ≤ l.lead.place;
  lists : all_lists g.H.Hits.stand l.variants.items ≡ all_lists g.H.Hits.stand l.fn.variants.items;
  plain : all_plain g.H.Hits.plain l.variants.items ≡ all_plain g.H.Hits.plain l.fn.variants.items;
  counted : IsTrue (all_plain g.H.Hits.plain l.fn.variants.items)
      → l.steps + 2 * all_left g.H.Hits.stand l.variants.items ≤ l.fn.steps + 2 * all_left g.H.Hits.stand l.fn.variants.items;
  grown : l.fn.steps ≤ l.steps;
}

abbrev pub decreases-loop-lead : goal.decreases-loop-lead
decreases-loop-lead g l = way_left g.H.Hits.stand l.to l.variants.items l.lead
