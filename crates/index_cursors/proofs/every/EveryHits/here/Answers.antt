-- At the end of the span there is no hit; else there is that of the place.
use Rattle.std.proofs.Common.{◌<◌, ◌-◌, Some, ap, sym, subst, ◌∙◌, arith}
use Rattle.std.specs.Prelude.{IsTrue}
use Rattle.ft_base.specs.Hits.{HitPlace, hit_at, is_sorted}
use Rattle.index_cursors.proofs.RangeLemmas.{every-sorted, every-hit, every-end}
use Rattle.index_cursors.proofs.every.EveryHits.here.Goals as goal

pub returns-then-self-clause-hit : goal.returns-then-self-clause-hit
returns-then-self-clause-hit c =
    let i = c.self.inside in
    sym (every-end i.breaks.breaks.now i.from i.to i.at c.self.invariant.0 c.self.invariant.1 c.if-self.true) ∙ ap hit_at c.self.view_is

pub returns-then-self-clause-sorted : goal.returns-then-self-clause-sorted
returns-then-self-clause-sorted c =
    let i = c.self.inside in
    subst (λ (v : HitPlace). IsTrue (is_sorted v.hits)) c.self.view_is (every-sorted i.breaks.breaks.now i.from (i.to - i.from))

pub returns-clause-hit : goal.returns-clause-hit
returns-clause-hit c =
    let i = c.self.inside in
    let less : i.at < i.to = omega (arith, c.if-self.false) in
    ap Some c.hit.ensures ∙ sym (every-hit i.breaks.breaks.now i.from i.to i.at c.self.invariant.0 c.self.invariant.1 less) ∙ ap hit_at c.self.view_is

pub returns-clause-sorted : goal.returns-clause-sorted
returns-clause-sorted c =
    let i = c.self.inside in
    subst (λ (v : HitPlace). IsTrue (is_sorted v.hits)) c.self.view_is (every-sorted i.breaks.breaks.now i.from (i.to - i.from))
