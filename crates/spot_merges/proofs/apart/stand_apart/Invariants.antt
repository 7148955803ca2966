-- A spot of the left side is apart where one that is left is free.
use Rattle.std.proofs.Common.{◌≡◌, ◌≤◌, ◌<◌, ◌+◌, ◌*◌, ◌^◌, ◌&&◌, length}
use Rattle.std.specs.Prelude.{IsTrue}
use Rattle.std.specs.List.{list_any}
use Rattle.place_merges.specs.Sources.{all_left, all_lists, all_plain, wanted_words}
use Rattle.place_merges.specs.Spots.{spots_left}
use Rattle.spot_merges.specs.Apart.{some_apart}
use Rattle.spot_merges.specs.Edges.{spots_of}
use Rattle.spot_merges.specs.steps.Covering.{is_free}
use Rattle.spot_merges.proofs.apart.stand_apart.Given as goal

abbrev pub invariant-loop-at : goal.invariant-loop-at
invariant-loop-at g l = record {
  says : list_any (is_free g.H.Hits.stand l.span.to l.right.items l.cover) (spots_left l.span.to (wanted_words g.H.Hits.stand l.left.items) l.after)
      ≡ some_apart (spots_of l.span (wanted_words g.H.Hits.stand l.fn.left.items)) (spots_of l.span (wanted_words g.H.Hits.stand l.fn.right.items));
  inside : l.cover.lead.place + l.cover.lead.words < 2 ^ 32;
  left_lists : all_lists g.H.Hits.stand l.left.items ≡ all_lists g.H.Hits.stand l.fn.left.items;
  right_lists : all_lists g.H.Hits.stand l.right.items ≡ all_lists g.H.Hits.stand l.fn.right.items;
  left_plain : all_plain g.H.Hits.plain l.left.items ≡ all_plain g.H.Hits.plain l.fn.left.items;
  right_plain : all_plain g.H.Hits.plain l.right.items ≡ all_plain g.H.Hits.plain l.fn.right.items;
  counted : IsTrue (all_plain g.H.Hits.plain l.fn.left.items && all_plain g.H.Hits.plain l.fn.right.items)
      → l.steps + (2 * all_left g.H.Hits.stand l.left.items + 2 * all_left g.H.Hits.stand l.right.items)
      ≤ l.fn.steps + (2 * all_left g.H.Hits.stand l.fn.left.items + 2 * all_left g.H.Hits.stand l.fn.right.items);
  grown : l.fn.steps ≤ l.steps;
}

abbrev pub decreases-loop-at : goal.decreases-loop-at
decreases-loop-at g l = length (spots_left l.span.to (wanted_words g.H.Hits.stand l.left.items) l.after)
