-- One list more was reached.
use Rattle.std.proofs.Common.{ap, subst, sym, ◌∙◌, arith, set, ℕ, Option, ◌+◌}
use Rattle.phrase_merges.specs.steps.Ahead.{number_at, sooner}
use Rattle.phrase_merges.proofs.AheadLemmas.{Gathering, gather_count, gather_on}
use Rattle.phrase_merges.proofs.reaching.least_number.Goals as goal

pub loop-number-preserved : goal.loop-number-preserved
loop-number-preserved g c =
    let state = g.P.PhraseHits.state in
    let made = c.sooner-least.ensures ∙ ap (sooner c.loop-number.least) c.number_of.ensures in
    let many = gather_count state c.args.by c.args.unit (number_at c.args.edge c.args.unit) c.args.place c.args.sources.now.items c.loop-number.sources.items c.loop-number.number c.loop-number.least
    c.args.steps.now c.loop-number.steps c.loop-number.invariant in
    subst (λ (least : Option ℕ). Gathering state c.args.by c.args.unit (number_at c.args.edge c.args.unit) c.args.place c.args.sources.now.items
    (set c.loop-number.sources.items c.loop-number.number c.reach-first.new.source) (c.loop-number.number + 1) least c.args.steps.now c.reach-first.new.steps) (sym made)
    (gather_on state c.args.by c.args.unit c.args.edge c.args.place c.args.sources.now.items c.loop-number.sources.items c.loop-number.number c.loop-number.least
    c.args.steps.now c.loop-number.steps c.reach-first.new.steps c.index_mut.result.now c.reach-first.new.source c.reach-first.result c.loop-number.invariant
    (omega (arith, c.loop-number-test.true, c.len-number-end.ensures, many)) c.index_mut.ensures.value
    c.reach-first.ensures.first c.reach-first.ensures.left c.reach-first.ensures.rises c.reach-first.ensures.aims c.reach-first.ensures.grown)
