-- From one spot to the next.
use Rattle.std.proofs.Common.{◌∙◌, arith}
use Rattle.count_merges.proofs.PassLemmas.{one_passed, step_sound}
use Rattle.count_merges.proofs.passing.pass_up_to.Goals as goal

pub loop-passed-preserved : goal.loop-passed-preserved
loop-passed-preserved g c =
    let unit = g.U.Units.number c.args.units.now in
    let rises = g.met.U.Units.rises c.args.units.now in
    let size = c.args.window.size in
    let to = c.args.window.to in
    let passed = c.loop-passed.passed in
    let so_far = c.loop-passed.invariant.grown in
    let then = c.next_lead-lead.ensures.grown in
    record {
      same = record {
        same = λ other past.
            one_passed unit rises size c.args.words to g.H.Hits.stand passed c.args.last c.loop-passed.invariant.sound c.loop-passed-test.true c.requires.below
            c.loop-passed.variants.items c.next_lead-lead.new.variants.items c.next_lead-lead.result c.count_with-count.result c.next_event-event.result
            c.count_with-count.ensures c.next_lead-lead.ensures.spots other past
            ∙ c.loop-passed.invariant.same.same other past;
      };
      sound =
          step_sound unit rises size c.args.words to g.H.Hits.stand passed c.args.last c.loop-passed.invariant.sound c.loop-passed-test.true c.requires.below
          c.next_lead-lead.result c.count_with-count.result c.next_event-event.result c.count_with-count.ensures (omega arith) c.next_lead-lead.ensures.ahead c.next_lead-lead.ensures.last
          c.next_event-event.ensures;
      lists = c.next_lead-lead.ensures.lists ∙ c.loop-passed.invariant.lists;
      plain = c.next_lead-lead.ensures.plain ∙ c.loop-passed.invariant.plain;
      counted = λ plain.
          let earlier = c.loop-passed.invariant.counted plain in
          let more = c.next_lead-lead.ensures.counted (c.loop-passed.invariant.plain ∙ plain) in
          omega (arith, earlier, more);
      grown = omega (arith, so_far, then);
    }
