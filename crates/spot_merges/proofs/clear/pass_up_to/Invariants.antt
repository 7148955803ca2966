-- From the place on each spot is as clear as before.
use Rattle.std.proofs.Common.{◌≡◌, ℕ, ◌≤◌, ◌+◌, ◌*◌}
use Rattle.std.specs.Prelude.{IsTrue}
use Rattle.std.specs.Option.{ForSome}
use Rattle.place_merges.specs.Sources.{all_left, all_lists, all_plain}
use Rattle.spot_merges.specs.steps.Clearing.{is_clear}
use Rattle.spot_merges.specs.steps.Covering.{SameAt}
use Rattle.spot_merges.proofs.CoverLemmas.{way_left}
use Rattle.spot_merges.proofs.clear.pass_up_to.Given as goal

abbrev pub invariant-loop-passed : goal.invariant-loop-passed
invariant-loop-passed g l = record {
  same : (size : ℕ) → SameAt l.place (is_clear g.H.Hits.stand l.to size l.variants.items l.passed) (is_clear g.H.Hits.stand l.to size l.fn.variants.items l.fn.before);
  behind : ForSome l.passed.last (λ last. last ≤ l.place);
  ordered : ForSome l.passed.last (λ last. last ≤ l.passed.lead.place);
  lists : all_lists g.H.Hits.stand l.variants.items ≡ all_lists g.H.Hits.stand l.fn.variants.items;
  plain : all_plain g.H.Hits.plain l.variants.items ≡ all_plain g.H.Hits.plain l.fn.variants.items;
  counted : IsTrue (all_plain g.H.Hits.plain l.fn.variants.items)
      → l.steps + 2 * all_left g.H.Hits.stand l.variants.items ≤ l.fn.steps + 2 * all_left g.H.Hits.stand l.fn.variants.items;
  grown : l.fn.steps ≤ l.steps;
}

abbrev pub decreases-loop-passed : goal.decreases-loop-passed
decreases-loop-passed g l = way_left g.H.Hits.stand l.to l.variants.items l.passed.lead
