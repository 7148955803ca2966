-- Unit by unit.
use Rattle.std.proofs.Common.{arith, sym, ◌∙◌}
use Rattle.std.proofs.lemmas.Bool.{eqb-false}
use Rattle.window_merges.specs.Choices.{are_in_one}
use Rattle.window_merges.specs.Rows.{places_in}
use Rattle.window_merges.specs.steps.Reaching.{has_hit, shown_word}
use Rattle.window_merges.proofs.CloseLemmas.{narrowing_ends, narrowing_fails, narrowing_found, narrowing_goes_on, narrowing_starts, reaches_order}
use Rattle.window_merges.proofs.UnitLemmas.{earlier, unit_enough, unit_rule}
use Rattle.window_merges.proofs.WordLemmas.{known}
use Rattle.window_merges.proofs.together.stand_together.Goals as goal

pub loop-low-init : goal.loop-low-init
loop-low-init g c =
    let some = eqb-false c.args.words.now.len 0 (sym c.is_empty.ensures ∙ c.if-is_empty.false) in
    narrowing_starts (has_hit g.H.Hits.stand) (λ word. places_in g.H.Hits.stand c.args.span word.items) c.args.span.from c.args.span.to (known g.H.Hits.stand c.args.span) (are_in_one (g.U.Units.number c.args.units.now))
    (shown_word g.H.Hits.stand g.H.Hits.plain) c.args.words.now.items c.args.steps.now (omega (arith, some, c.args.words.now.ok.0))

pub returns-then-far-span-clause-together : goal.returns-then-far-span-clause-together
returns-then-far-span-clause-together g c =
    sym (narrowing_fails (has_hit g.H.Hits.stand) (λ word. places_in g.H.Hits.stand c.args.span word.items) c.args.span.from c.args.span.to (known g.H.Hits.stand c.args.span) (are_in_one (g.U.Units.number c.args.units.now))
    (shown_word g.H.Hits.stand g.H.Hits.plain) c.args.words.now.items c.loop-low.words.items c.first_hits-near.new.words.items c.loop-low.low c.args.steps.now c.loop-low.steps c.first_hits-near.new.steps
    c.loop-low.invariant c.first_hits-near.result.near c.first_hits-near.result.far c.first_hits-near.ensures.reaches c.first_hits-near.ensures.same c.first_hits-near.ensures.moved c.loop-low-test.true c.if-far-span.true)

pub returns-then-number_of-clause-together : goal.returns-then-number_of-clause-together
returns-then-number_of-clause-together g c =
    sym (narrowing_found (has_hit g.H.Hits.stand) (λ word. places_in g.H.Hits.stand c.args.span word.items) c.args.span.from c.args.span.to (known g.H.Hits.stand c.args.span) (are_in_one (g.U.Units.number c.args.units.now))
    (shown_word g.H.Hits.stand g.H.Hits.plain) c.args.words.now.items c.loop-low.words.items c.first_hits-near.new.words.items c.loop-low.low c.args.steps.now c.loop-low.steps c.first_hits-near.new.steps
    c.loop-low.invariant c.first_hits-near.result.near c.first_hits-near.result.far c.first_hits-near.ensures.reaches c.first_hits-near.ensures.same c.first_hits-near.ensures.moved (omega (arith, c.if-far-span.false))
    (unit_enough (g.U.Units.number c.args.units.now) (g.met.U.Units.rises c.args.units.now) c.first_hits-near.result.near c.first_hits-near.result.far
    (sym c.number_of.ensures ∙ c.if-number_of.true ∙ c.number_of-in-loop-low.ensures)))

pub number_of-requires : goal.number_of-requires
number_of-requires g c =
    let order = reaches_order (has_hit g.H.Hits.stand) c.loop-low.words.items c.loop-low.low c.args.span.to c.first_hits-near.result.near c.first_hits-near.result.far
    (omega (arith, c.loop-low.invariant.some, c.loop-low.invariant.same.long)) c.first_hits-near.ensures.reaches (omega (arith, c.if-far-span.false)) in
    grind (arith, order)

pub first_place-low-requires-clause-apart : goal.first_place-low-requires-clause-apart
first_place-low-requires-clause-apart g c =
    let order = reaches_order (has_hit g.H.Hits.stand) c.loop-low.words.items c.loop-low.low c.args.span.to c.first_hits-near.result.near c.first_hits-near.result.far
    (omega (arith, c.loop-low.invariant.some, c.loop-low.invariant.same.long)) c.first_hits-near.ensures.reaches (omega (arith, c.if-far-span.false)) in
    let rises = g.met.U.Units.rises c.args.units.now c.first_hits-near.result.near c.first_hits-near.result.far order in
    omega (arith, rises, c.if-number_of.false, c.number_of.ensures, c.number_of-in-loop-low.ensures)

pub first_place-low-requires-clause-order : goal.first_place-low-requires-clause-order
first_place-low-requires-clause-order g c =
    earlier (g.U.Units.number c.args.units.now) (g.met.U.Units.rises c.args.units.now) c.first_hits-near.result.near c.first_hits-near.result.far (first_place-low-requires-clause-apart g c)

pub loop-low-preserved : goal.loop-low-preserved
loop-low-preserved g c =
    narrowing_goes_on (has_hit g.H.Hits.stand) (λ word. places_in g.H.Hits.stand c.args.span word.items) c.args.span.from c.args.span.to (known g.H.Hits.stand c.args.span) (are_in_one (g.U.Units.number c.args.units.now))
    (shown_word g.H.Hits.stand g.H.Hits.plain) c.args.words.now.items c.loop-low.words.items c.first_hits-near.new.words.items c.loop-low.low c.args.steps.now c.loop-low.steps c.first_hits-near.new.steps
    c.loop-low.invariant c.first_hits-near.result.near c.first_hits-near.result.far c.first_hits-near.ensures.reaches c.first_hits-near.ensures.same c.first_hits-near.ensures.moved c.first_place-low.result
    (unit_rule (g.U.Units.number c.args.units.now) (g.met.U.Units.rises c.args.units.now) c.first_hits-near.result.far c.first_place-low.result c.first_place-low.ensures.first) (omega (arith, c.first_hits-near.ensures.reaches.begins, c.first_place-low.ensures.after))

pub returns-clause-together : goal.returns-clause-together
returns-clause-together g c =
    sym (narrowing_ends (has_hit g.H.Hits.stand) (λ word. places_in g.H.Hits.stand c.args.span word.items) c.args.span.from c.args.span.to (known g.H.Hits.stand c.args.span) (are_in_one (g.U.Units.number c.args.units.now))
    (shown_word g.H.Hits.stand g.H.Hits.plain) c.args.words.now.items c.loop-low.words.items c.loop-low.low c.args.steps.now c.loop-low.steps c.loop-low.invariant (omega (arith, c.loop-low-test.false)))
