-- Window by window.
use Rattle.std.proofs.Common.{arith, sym, ◌∙◌, ◌+◌, ◌-◌}
use Rattle.std.proofs.lemmas.Bool.{eqb-false}
use Rattle.window_merges.specs.Choices.{are_close}
use Rattle.window_merges.specs.Rows.{places_in}
use Rattle.window_merges.specs.steps.Reaching.{has_hit, shown_word}
use Rattle.window_merges.proofs.ChoiceLemmas.{close_enough, close_rule}
use Rattle.window_merges.proofs.CloseLemmas.{narrowing_ends, narrowing_fails, narrowing_found, narrowing_goes_on, narrowing_starts}
use Rattle.window_merges.proofs.WordLemmas.{known}
use Rattle.window_merges.proofs.close.stand_close.Goals as goal

pub loop-low-init : goal.loop-low-init
loop-low-init g c =
    let some = eqb-false c.args.words.now.len 0 (sym c.is_empty.ensures ∙ c.if-is_empty.false) in
    narrowing_starts (has_hit g.H.Hits.stand) (λ word. places_in g.H.Hits.stand c.args.span word.items) c.args.span.from c.args.span.to (known g.H.Hits.stand c.args.span) (are_close c.args.size)
    (shown_word g.H.Hits.stand g.H.Hits.plain) c.args.words.now.items c.args.steps.now (omega (arith, some, c.args.words.now.ok.0))

pub returns-then-far-span-clause-close : goal.returns-then-far-span-clause-close
returns-then-far-span-clause-close g c =
    sym (narrowing_fails (has_hit g.H.Hits.stand) (λ word. places_in g.H.Hits.stand c.args.span word.items) c.args.span.from c.args.span.to (known g.H.Hits.stand c.args.span) (are_close c.args.size)
    (shown_word g.H.Hits.stand g.H.Hits.plain) c.args.words.now.items c.loop-low.words.items c.first_hits-far.new.words.items c.loop-low.low c.args.steps.now c.loop-low.steps c.first_hits-far.new.steps
    c.loop-low.invariant c.first_hits-far.result.near c.first_hits-far.result.far c.first_hits-far.ensures.reaches c.first_hits-far.ensures.same c.first_hits-far.ensures.moved c.loop-low-test.true c.if-far-span.true)

pub returns-then-far-low-clause-close : goal.returns-then-far-low-clause-close
returns-then-far-low-clause-close g c =
    sym (narrowing_found (has_hit g.H.Hits.stand) (λ word. places_in g.H.Hits.stand c.args.span word.items) c.args.span.from c.args.span.to (known g.H.Hits.stand c.args.span) (are_close c.args.size)
    (shown_word g.H.Hits.stand g.H.Hits.plain) c.args.words.now.items c.loop-low.words.items c.first_hits-far.new.words.items c.loop-low.low c.args.steps.now c.loop-low.steps c.first_hits-far.new.steps
    c.loop-low.invariant c.first_hits-far.result.near c.first_hits-far.result.far c.first_hits-far.ensures.reaches c.first_hits-far.ensures.same c.first_hits-far.ensures.moved (omega (arith, c.if-far-span.false))
    (close_enough c.args.size c.loop-low.low c.first_hits-far.result.near c.first_hits-far.result.far c.first_hits-far.ensures.reaches.begins c.first_hits-far.ensures.reaches.from c.if-far-low.true))

pub loop-low-preserved : goal.loop-low-preserved
loop-low-preserved g c =
    narrowing_goes_on (has_hit g.H.Hits.stand) (λ word. places_in g.H.Hits.stand c.args.span word.items) c.args.span.from c.args.span.to (known g.H.Hits.stand c.args.span) (are_close c.args.size)
    (shown_word g.H.Hits.stand g.H.Hits.plain) c.args.words.now.items c.loop-low.words.items c.first_hits-far.new.words.items c.loop-low.low c.args.steps.now c.loop-low.steps c.first_hits-far.new.steps
    c.loop-low.invariant c.first_hits-far.result.near c.first_hits-far.result.far c.first_hits-far.ensures.reaches c.first_hits-far.ensures.same c.first_hits-far.ensures.moved (c.first_hits-far.result.far - c.args.size + 1)
    (close_rule c.args.size c.loop-low.low c.first_hits-far.result.far (omega (arith, c.if-far-low.false))) (omega (arith, c.if-far-low.false, c.first_hits-far.ensures.reaches.from))

pub returns-clause-close : goal.returns-clause-close
returns-clause-close g c =
    sym (narrowing_ends (has_hit g.H.Hits.stand) (λ word. places_in g.H.Hits.stand c.args.span word.items) c.args.span.from c.args.span.to (known g.H.Hits.stand c.args.span) (are_close c.args.size)
    (shown_word g.H.Hits.stand g.H.Hits.plain) c.args.words.now.items c.loop-low.words.items c.loop-low.low c.args.steps.now c.loop-low.steps c.loop-low.invariant (omega (arith, c.loop-low-test.false)))
