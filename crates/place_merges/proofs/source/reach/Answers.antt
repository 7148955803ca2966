-- The source is sought where it stands before the place, and elsewhere it is where it is to be.
use Rattle.std.proofs.Common.{◌<◌, ◌≤◌, sym, subst, arith}
use Rattle.place_merges.proofs.SourceLemmas.{Told, known, source_sought, stays_at_hit}
use Rattle.place_merges.proofs.source.reach.Goals as goal

pub returns-then-first-place-clause-reached : goal.returns-then-first-place-clause-reached
returns-then-first-place-clause-reached g c =
    let t : Told (g.H.Hits.stand c.args.source.now) c.in-Some.first = known (g.H.Hits.stand c.args.source.now) c.in-Some.first c.in-Some.ensures.first in
    stays_at_hit c.args.place (g.H.Hits.stand c.args.source.now) t.hit t.is (subst (λ n. c.args.place ≤ n) (sym t.from) c.if-first-place.true)

pub returns-clause-moved : goal.returns-clause-moved
returns-clause-moved g c =
    let t : Told (g.H.Hits.stand c.args.source.now) c.in-Some.first = known (g.H.Hits.stand c.args.source.now) c.in-Some.first c.in-Some.ensures.first in
    source_sought g.H.Hits.stand g.H.Hits.plain c.args.source.now c.seek.new.self c.args.place c.args.steps.now c.seek.new.steps t.hit
    t.is (subst (λ n. n < c.args.place) (sym t.from) (omega (arith, c.if-first-place.false))) c.seek.ensures.moved c.seek.ensures.plain c.seek.ensures.counted c.seek.ensures.grown
