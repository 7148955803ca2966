-- Word by word.
use Rattle.std.proofs.Common.{arith}
use Rattle.window_merges.specs.steps.Reaching.{has_hit, shown_word}
use Rattle.window_merges.proofs.CloseLemmas.{reached_moved, reached_same, reaching_fails, reaching_goes_on}
use Rattle.window_merges.proofs.first_hits.first_hits.Goals as goal

pub returns-then-first-limit-clause-reaches : goal.returns-then-first-limit-clause-reaches
returns-then-first-limit-clause-reaches g c =
    reaching_fails (has_hit g.H.Hits.stand) (shown_word g.H.Hits.stand g.H.Hits.plain) c.args.words.now.items c.loop-number.words.items c.args.place c.args.limit c.loop-number.near c.loop-number.far c.loop-number.number
    c.args.steps.now c.loop-number.steps c.lead_of_sources-first.new.steps c.loop-number.invariant c.index_mut.result.now c.lead_of_sources-first.new.sources
    (omega (arith, c.loop-number-test.true, c.len-number-end.ensures, c.loop-number.invariant.same.long)) c.index_mut.ensures.value
    c.lead_of_sources-first.result c.lead_of_sources-first.ensures.leads c.lead_of_sources-first.ensures.same c.lead_of_sources-first.ensures.moved c.requires c.if-first-limit.true

pub returns-then-first-limit-clause-same : goal.returns-then-first-limit-clause-same
returns-then-first-limit-clause-same g c =
    reached_same (has_hit g.H.Hits.stand) (shown_word g.H.Hits.stand g.H.Hits.plain) c.args.words.now.items c.loop-number.words.items c.args.place c.args.limit c.loop-number.near c.loop-number.far c.loop-number.number
    c.args.steps.now c.loop-number.steps c.lead_of_sources-first.new.steps c.loop-number.invariant c.index_mut.result.now c.lead_of_sources-first.new.sources
    (omega (arith, c.loop-number-test.true, c.len-number-end.ensures, c.loop-number.invariant.same.long)) c.index_mut.ensures.value
    c.lead_of_sources-first.result c.lead_of_sources-first.ensures.leads c.lead_of_sources-first.ensures.same c.lead_of_sources-first.ensures.moved

pub returns-then-first-limit-clause-moved : goal.returns-then-first-limit-clause-moved
returns-then-first-limit-clause-moved g c =
    reached_moved (has_hit g.H.Hits.stand) (shown_word g.H.Hits.stand g.H.Hits.plain) c.args.words.now.items c.loop-number.words.items c.args.place c.args.limit c.loop-number.near c.loop-number.far c.loop-number.number
    c.args.steps.now c.loop-number.steps c.lead_of_sources-first.new.steps c.loop-number.invariant c.index_mut.result.now c.lead_of_sources-first.new.sources
    (omega (arith, c.loop-number-test.true, c.len-number-end.ensures, c.loop-number.invariant.same.long)) c.index_mut.ensures.value
    c.lead_of_sources-first.result c.lead_of_sources-first.ensures.leads c.lead_of_sources-first.ensures.same c.lead_of_sources-first.ensures.moved

pub loop-number-preserved : goal.loop-number-preserved
loop-number-preserved g c =
    reaching_goes_on (has_hit g.H.Hits.stand) (shown_word g.H.Hits.stand g.H.Hits.plain) c.args.words.now.items c.loop-number.words.items c.args.place c.args.limit c.loop-number.near c.loop-number.far c.loop-number.number
    c.args.steps.now c.loop-number.steps c.lead_of_sources-first.new.steps c.loop-number.invariant c.index_mut.result.now c.lead_of_sources-first.new.sources
    (omega (arith, c.loop-number-test.true, c.len-number-end.ensures, c.loop-number.invariant.same.long)) c.index_mut.ensures.value
    c.lead_of_sources-first.result c.lead_of_sources-first.ensures.leads c.lead_of_sources-first.ensures.same c.lead_of_sources-first.ensures.moved
    c.lead_of_sources-first.ensures.found (omega (arith, c.if-first-limit.false)) c.min-near.result c.max-far.result c.min-near.ensures c.max-far.ensures
