-- From one spot of the left side to the next.
use Rattle.std.proofs.Common.{◌≡◌, ◌∙◌, ◌<◌, ◌||◌, true, false, sym, ap, refl, arith}
use Rattle.std.specs.Prelude.{filter}
use Rattle.std.specs.List.{list_any}
use Rattle.std.proofs.lemmas.Bool.{and_parts, or_left}
use Rattle.std.proofs.lemmas.Option.{none-some}
use Rattle.place_merges.specs.Sources.{all_plain, wanted_words}
use Rattle.place_merges.specs.Spots.{some_at, spots_left}
use Rattle.place_merges.proofs.SpotLemmas.{from_place}
use Rattle.spot_merges.specs.Clear.{begins, some_clear}
use Rattle.spot_merges.specs.steps.Clearing.{is_clear}
use Rattle.spot_merges.proofs.ClearLemmas.{clear_starts, window_is}
use Rattle.spot_merges.proofs.SpotTests.{any_from}
use Rattle.spot_merges.proofs.clear.stand_clear.Goals as goal

pub loop-at-init : goal.loop-at-init
loop-at-init g c =
    let to = c.args.span.to in
    let from = c.args.span.from in
    let left = wanted_words g.H.Hits.stand c.args.left.now.items in
    let right = wanted_words g.H.Hits.stand c.args.right.now.items in
    let all = sym (from_place to from) in
    record {
      says = clear_starts c.args.size g.H.Hits.stand to from c.args.left.now.items c.args.right.now.items
          ∙ (λ i. some_clear c.args.size (begins (filter (some_at to left) (all i))) (begins (filter (some_at to right) (all i))));
      behind = λ last is. absurd (none-some last is);
      ordered = λ last is. absurd (none-some last is);
      left_lists = refl;
      right_lists = refl;
      left_plain = refl;
      right_plain = refl;
      counted = λ plain. omega arith;
      grown = omega arith;
    }

pub returns-then-has_window-clause-clear : goal.returns-then-has_window-clause-clear
returns-then-has_window-clause-clear g c =
    let to = c.args.span.to in
    let size = c.args.size in
    let at = c.in-Some.at in
    let passed = c.look_ahead-passed.result in
    let right = c.look_ahead-passed.new.variants.items in
    let left = c.next_spot.new.variants.items in
    let clear = is_clear g.H.Hits.stand to size right passed in
    let then = is_clear g.H.Hits.stand to size c.pass_up_to-passed.new.variants.items c.pass_up_to-passed.result in
    let was = is_clear g.H.Hits.stand to size c.loop-at.right.items c.loop-at.passed in
    let rest = spots_left to (wanted_words g.H.Hits.stand left) at in
    let past = c.pass_up_to-passed.ensures.ahead in
    let forward = c.look_ahead-passed.ensures.forward in
    let found : clear at ≡ true =
    window_is size g.H.Hits.stand to right passed.lead at.place (omega (arith, past, forward)) passed.last
    (λ last is. c.pass_up_to-passed.ensures.behind last (sym c.look_ahead-passed.ensures.last ∙ is)) c.look_ahead-passed.ensures.led
    ∙ sym c.has_window.ensures
    ∙ c.if-has_window.true in
    sym (or_left (clear at) (list_any clear rest) found)
    ∙ any_from to at (some_at to (wanted_words g.H.Hits.stand left)) clear then c.look_ahead-passed.ensures.same
    ∙ any_from to at (some_at to (wanted_words g.H.Hits.stand left)) then was (c.pass_up_to-passed.ensures.same size)
    ∙ sym (ap (list_any was) c.in-Some.ensures.spots)
    ∙ c.loop-at.invariant.says

pub loop-at-preserved : goal.loop-at-preserved
loop-at-preserved g c =
    let to = c.args.span.to in
    let size = c.args.size in
    let at = c.in-Some.at in
    let passed = c.look_ahead-passed.result in
    let right = c.look_ahead-passed.new.variants.items in
    let left = c.next_spot.new.variants.items in
    let clear = is_clear g.H.Hits.stand to size right passed in
    let then = is_clear g.H.Hits.stand to size c.pass_up_to-passed.new.variants.items c.pass_up_to-passed.result in
    let was = is_clear g.H.Hits.stand to size c.loop-at.right.items c.loop-at.passed in
    let rest = spots_left to (wanted_words g.H.Hits.stand left) at in
    let past = c.pass_up_to-passed.ensures.ahead in
    let forward = c.look_ahead-passed.ensures.forward in
    let ahead : at.place < passed.lead.place = omega (arith, past, forward) in
    let none : clear at ≡ false =
    window_is size g.H.Hits.stand to right passed.lead at.place ahead passed.last
    (λ last is. c.pass_up_to-passed.ensures.behind last (sym c.look_ahead-passed.ensures.last ∙ is)) c.look_ahead-passed.ensures.led
    ∙ sym c.has_window.ensures
    ∙ c.if-has_window.false in
    let before = c.loop-at.invariant.grown in
    let one = c.next_spot.ensures.grown in
    let two = c.pass_up_to-passed.ensures.grown in
    let three = c.look_ahead-passed.ensures.grown in
    record {
      says = sym (ap (λ b. b || list_any clear rest) none)
          ∙ any_from to at (some_at to (wanted_words g.H.Hits.stand left)) clear then c.look_ahead-passed.ensures.same
          ∙ any_from to at (some_at to (wanted_words g.H.Hits.stand left)) then was (c.pass_up_to-passed.ensures.same size)
          ∙ sym (ap (list_any was) c.in-Some.ensures.spots)
          ∙ c.loop-at.invariant.says;
      behind = λ last is. c.pass_up_to-passed.ensures.behind last (sym c.look_ahead-passed.ensures.last ∙ is);
      ordered = λ last is. let low = c.pass_up_to-passed.ensures.behind last (sym c.look_ahead-passed.ensures.last ∙ is) in omega (arith, low, ahead);
      left_lists = c.next_spot.ensures.lists ∙ c.loop-at.invariant.left_lists;
      right_lists = c.look_ahead-passed.ensures.lists ∙ c.pass_up_to-passed.ensures.lists ∙ c.loop-at.invariant.right_lists;
      left_plain = c.next_spot.ensures.plain ∙ c.loop-at.invariant.left_plain;
      right_plain = c.look_ahead-passed.ensures.plain ∙ c.pass_up_to-passed.ensures.plain ∙ c.loop-at.invariant.right_plain;
      counted = λ plain.
          let parts = and_parts (all_plain g.H.Hits.plain c.args.left.now.items) (all_plain g.H.Hits.plain c.args.right.now.items) plain in
          let so_far = c.loop-at.invariant.counted plain in
          let passing = c.loop-at.invariant.right_plain ∙ parts.1 in
          let first = c.next_spot.ensures.counted (c.loop-at.invariant.left_plain ∙ parts.0) in
          let second = c.pass_up_to-passed.ensures.counted passing in
          let third = c.look_ahead-passed.ensures.counted (c.pass_up_to-passed.ensures.plain ∙ passing) in
          omega (arith, so_far, first, second, third);
      grown = omega (arith, before, one, two, three);
    }
