-- From one spot of the left side to the next.
use Rattle.std.proofs.Common.{◌≡◌, ◌∙◌, ◌+◌, ◌||◌, false, sym, ap, refl, arith}
use Rattle.std.specs.Prelude.{filter, nat_lt}
use Rattle.std.specs.List.{list_any}
use Rattle.std.proofs.lemmas.Bool.{and_parts, lt-ltb, or_left}
use Rattle.std.proofs.lemmas.Bool.Decides.{nat_tests}
use Rattle.place_merges.specs.Sources.{all_plain, wanted_words}
use Rattle.place_merges.specs.Spots.{some_at, spots_left}
use Rattle.place_merges.proofs.SpotLemmas.{from_place}
use Rattle.spot_merges.specs.Apart.{some_apart}
use Rattle.spot_merges.specs.steps.Covering.{is_free}
use Rattle.spot_merges.proofs.CoverLemmas.{free_is, free_starts}
use Rattle.spot_merges.proofs.SpotTests.{any_from}
use Rattle.spot_merges.proofs.apart.stand_apart.Goals as goal

pub loop-at-init : goal.loop-at-init
loop-at-init g c =
    let to = c.args.span.to in
    let from = c.args.span.from in
    let left = wanted_words g.H.Hits.stand c.args.left.now.items in
    let right = wanted_words g.H.Hits.stand c.args.right.now.items in
    let all = sym (from_place to from) in
    record {
      says = free_starts g.H.Hits.stand to from c.args.left.now.items c.args.right.now.items
          ∙ (λ i. some_apart (filter (some_at to left) (all i)) (filter (some_at to right) (all i)));
      inside = omega arith;
      left_lists = refl;
      right_lists = refl;
      left_plain = refl;
      right_plain = refl;
      counted = λ plain. omega arith;
      grown = omega arith;
    }

pub returns-then-cover-at-clause-apart : goal.returns-then-cover-at-clause-apart
returns-then-cover-at-clause-apart g c =
    let to = c.args.span.to in
    let at = c.in-Some.at in
    let right = c.cover_up_to-cover.new.variants.items in
    let cover = c.cover_up_to-cover.result in
    let left = c.next_spot.new.variants.items in
    let free = is_free g.H.Hits.stand to right cover in
    let rest = spots_left to (wanted_words g.H.Hits.stand left) at in
    sym (or_left (free at) (list_any free rest) (free_is g.H.Hits.stand to right cover at c.cover_up_to-cover.ensures.ahead ∙ lt-ltb cover.end (at.place + at.words) c.if-cover-at.true))
    ∙ any_from to at (some_at to (wanted_words g.H.Hits.stand left)) free (is_free g.H.Hits.stand to c.loop-at.right.items c.loop-at.cover) c.cover_up_to-cover.ensures.same
    ∙ sym (ap (list_any (is_free g.H.Hits.stand to c.loop-at.right.items c.loop-at.cover)) c.in-Some.ensures.spots)
    ∙ c.loop-at.invariant.says

pub loop-at-preserved : goal.loop-at-preserved
loop-at-preserved g c =
    let to = c.args.span.to in
    let at = c.in-Some.at in
    let right = c.cover_up_to-cover.new.variants.items in
    let cover = c.cover_up_to-cover.result in
    let left = c.next_spot.new.variants.items in
    let free = is_free g.H.Hits.stand to right cover in
    let rest = spots_left to (wanted_words g.H.Hits.stand left) at in
    let covered : nat_lt cover.end (at.place + at.words) ≡ false = grind (arith, nat_tests, c.if-cover-at.false) in
    let before = c.loop-at.invariant.grown in
    let then = c.next_spot.ensures.grown in
    let last = c.cover_up_to-cover.ensures.grown in
    record {
      says = sym (ap (λ b. b || list_any free rest) (free_is g.H.Hits.stand to right cover at c.cover_up_to-cover.ensures.ahead ∙ covered))
          ∙ any_from to at (some_at to (wanted_words g.H.Hits.stand left)) free (is_free g.H.Hits.stand to c.loop-at.right.items c.loop-at.cover) c.cover_up_to-cover.ensures.same
          ∙ sym (ap (list_any (is_free g.H.Hits.stand to c.loop-at.right.items c.loop-at.cover)) c.in-Some.ensures.spots)
          ∙ c.loop-at.invariant.says;
      inside = c.cover_up_to-cover.ensures.inside;
      left_lists = c.next_spot.ensures.lists ∙ c.loop-at.invariant.left_lists;
      right_lists = c.cover_up_to-cover.ensures.lists ∙ c.loop-at.invariant.right_lists;
      left_plain = c.next_spot.ensures.plain ∙ c.loop-at.invariant.left_plain;
      right_plain = c.cover_up_to-cover.ensures.plain ∙ c.loop-at.invariant.right_plain;
      counted = λ plain.
          let parts = and_parts (all_plain g.H.Hits.plain c.args.left.now.items) (all_plain g.H.Hits.plain c.args.right.now.items) plain in
          let so_far = c.loop-at.invariant.counted plain in
          let first = c.next_spot.ensures.counted (c.loop-at.invariant.left_plain ∙ parts.0) in
          let second = c.cover_up_to-cover.ensures.counted (c.loop-at.invariant.right_plain ∙ parts.1) in
          omega (arith, so_far, first, second);
      grown = omega (arith, before, then, last);
    }
