-- From one spot that is passed to the next.
use Rattle.std.proofs.Common.{◌∙◌, ◌≤◌, arith}
use Rattle.std.proofs.lemmas.Bool.Decides.{nat_tests}
use Rattle.spot_merges.proofs.ClearLemmas.{last_before, one_passed}
use Rattle.spot_merges.proofs.clear.pass_up_to.Goals as goal

pub loop-passed-preserved : goal.loop-passed-preserved
loop-passed-preserved g c =
    let to = c.args.to in
    let passed = c.loop-passed.passed in
    let items = c.loop-passed.variants.items in
    let last = c.last_with-last.result in
    let next = c.next_lead-lead.result in
    let so_far = c.loop-passed.invariant.grown in
    let then = c.next_lead-lead.ensures.grown in
    let forward : passed.lead.place ≤ next.place = grind (arith, nat_tests, c.next_lead-lead.ensures.ahead) in
    record {
      same = λ size.
          let one = one_passed size g.H.Hits.stand to items c.next_lead-lead.new.variants.items passed last next c.args.place c.last_with-last.ensures c.next_lead-lead.ensures.spots
          c.loop-passed.invariant.ordered c.loop-passed-test.true in
          record { same = λ other past. one.same other past ∙ (c.loop-passed.invariant.same size).same other past };
      behind = last_before passed last c.args.place c.last_with-last.ensures c.loop-passed.invariant.behind c.loop-passed-test.true;
      ordered = last_before passed last next.place c.last_with-last.ensures (λ before is. let order = c.loop-passed.invariant.ordered before is in omega (arith, order, forward)) forward;
      lists = c.next_lead-lead.ensures.lists ∙ c.loop-passed.invariant.lists;
      plain = c.next_lead-lead.ensures.plain ∙ c.loop-passed.invariant.plain;
      counted = λ plain.
          let earlier = c.loop-passed.invariant.counted plain in
          let more = c.next_lead-lead.ensures.counted (c.loop-passed.invariant.plain ∙ plain) in
          omega (arith, earlier, more);
      grown = omega (arith, so_far, then);
    }
