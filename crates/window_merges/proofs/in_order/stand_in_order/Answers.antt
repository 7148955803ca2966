-- Word by word.
use Rattle.std.proofs.Common.{arith, ap, eqb, sym, ◌∙◌}
use Rattle.window_merges.specs.Rows.{places_in}
use Rattle.window_merges.specs.steps.Reaching.{has_hit, shown_word}
use Rattle.window_merges.proofs.OrderLemmas.{nowhere_in_order, rising_ends, rising_fails, rising_goes_on, rising_moved}
use Rattle.window_merges.proofs.WordLemmas.{known}
use Rattle.window_merges.proofs.in_order.stand_in_order.Goals as goal

pub returns-then-span-clause-ordered : goal.returns-then-span-clause-ordered
returns-then-span-clause-ordered g c =
    c.is_empty.ensures
    ∙ ap (λ n. eqb n 0) c.args.words.now.ok.0
    ∙ sym (nowhere_in_order (has_hit g.H.Hits.stand) (λ word. places_in g.H.Hits.stand c.args.span word.items) (shown_word g.H.Hits.stand g.H.Hits.plain) c.args.span.from c.args.span.to
    (known g.H.Hits.stand c.args.span) c.args.words.now.items c.if-span.true)

pub returns-then-place-span-clause-ordered : goal.returns-then-place-span-clause-ordered
returns-then-place-span-clause-ordered g c =
    sym (rising_fails (has_hit g.H.Hits.stand) (λ word. places_in g.H.Hits.stand c.args.span word.items) (shown_word g.H.Hits.stand g.H.Hits.plain) c.args.span.from c.args.span.to
    (known g.H.Hits.stand c.args.span) c.args.words.now.items c.loop-number.words.items c.loop-number.place c.loop-number.number
    c.args.steps.now c.loop-number.steps c.lead_of_sources-place.new.steps c.loop-number.invariant c.index_mut.result.now c.lead_of_sources-place.new.sources
    (omega (arith, c.loop-number-test.true, c.len-number-end.ensures, c.loop-number.invariant.same.long)) c.index_mut.ensures.value
    c.lead_of_sources-place.result c.lead_of_sources-place.ensures.leads c.lead_of_sources-place.ensures.same c.lead_of_sources-place.ensures.moved c.if-place-span.true)

pub returns-then-place-span-clause-lists : goal.returns-then-place-span-clause-lists
returns-then-place-span-clause-lists g c =
    let moved = rising_moved (has_hit g.H.Hits.stand) (λ word. places_in g.H.Hits.stand c.args.span word.items) (shown_word g.H.Hits.stand g.H.Hits.plain) c.args.span.from c.args.span.to
    (known g.H.Hits.stand c.args.span) c.args.words.now.items c.loop-number.words.items c.loop-number.place c.loop-number.number
    c.args.steps.now c.loop-number.steps c.lead_of_sources-place.new.steps c.loop-number.invariant c.index_mut.result.now c.lead_of_sources-place.new.sources
    (omega (arith, c.loop-number-test.true, c.len-number-end.ensures, c.loop-number.invariant.same.long)) c.index_mut.ensures.value
    c.lead_of_sources-place.result c.lead_of_sources-place.ensures.leads c.lead_of_sources-place.ensures.same c.lead_of_sources-place.ensures.moved in
    moved.lists

pub returns-then-place-span-clause-plain : goal.returns-then-place-span-clause-plain
returns-then-place-span-clause-plain g c =
    let moved = rising_moved (has_hit g.H.Hits.stand) (λ word. places_in g.H.Hits.stand c.args.span word.items) (shown_word g.H.Hits.stand g.H.Hits.plain) c.args.span.from c.args.span.to
    (known g.H.Hits.stand c.args.span) c.args.words.now.items c.loop-number.words.items c.loop-number.place c.loop-number.number
    c.args.steps.now c.loop-number.steps c.lead_of_sources-place.new.steps c.loop-number.invariant c.index_mut.result.now c.lead_of_sources-place.new.sources
    (omega (arith, c.loop-number-test.true, c.len-number-end.ensures, c.loop-number.invariant.same.long)) c.index_mut.ensures.value
    c.lead_of_sources-place.result c.lead_of_sources-place.ensures.leads c.lead_of_sources-place.ensures.same c.lead_of_sources-place.ensures.moved in
    moved.plain

pub loop-number-preserved : goal.loop-number-preserved
loop-number-preserved g c =
    rising_goes_on (has_hit g.H.Hits.stand) (λ word. places_in g.H.Hits.stand c.args.span word.items) (shown_word g.H.Hits.stand g.H.Hits.plain) c.args.span.from c.args.span.to
    (known g.H.Hits.stand c.args.span) c.args.words.now.items c.loop-number.words.items c.loop-number.place c.loop-number.number
    c.args.steps.now c.loop-number.steps c.lead_of_sources-place.new.steps c.loop-number.invariant c.index_mut.result.now c.lead_of_sources-place.new.sources
    (omega (arith, c.loop-number-test.true, c.len-number-end.ensures, c.loop-number.invariant.same.long)) c.index_mut.ensures.value
    c.lead_of_sources-place.result c.lead_of_sources-place.ensures.leads c.lead_of_sources-place.ensures.same c.lead_of_sources-place.ensures.moved
    c.lead_of_sources-place.ensures.found (omega (arith, c.if-place-span.false))

pub returns-clause-ordered : goal.returns-clause-ordered
returns-clause-ordered g c =
    sym (rising_ends (has_hit g.H.Hits.stand) (λ word. places_in g.H.Hits.stand c.args.span word.items) (shown_word g.H.Hits.stand g.H.Hits.plain) c.args.span.from c.args.span.to
    (known g.H.Hits.stand c.args.span) c.args.words.now.items c.loop-number.words.items c.loop-number.place c.loop-number.number
    c.args.steps.now c.loop-number.steps c.loop-number.invariant (omega (arith, c.loop-number-test.false, c.len-number-end.ensures, c.loop-number.invariant.same.long)))
