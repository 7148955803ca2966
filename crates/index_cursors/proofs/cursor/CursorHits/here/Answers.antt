-- The hit of the first place that is left, where there is one.
use Rattle.std.proofs.Common.{Some, None, ap, sym, subst, ◌∙◌}
use Rattle.std.specs.Prelude.{IsTrue}
use Rattle.ft_base.specs.Hits.{HitPlace, hit_at, is_sorted}
use Rattle.index_cursors.proofs.SpanLemmas.{span-sorted}
use Rattle.index_cursors.proofs.CursorLemmas.{reads}
use Rattle.index_cursors.proofs.cursor.CursorHits.here.Goals as goal

pub returns-in-Some-clause-hit : goal.returns-in-Some-clause-hit
returns-in-Some-clause-hit c =
    let i = c.self.inside in
    ap Some c.hit.ensures ∙ reads i.breaks.breaks.now i.to i.first i.at i.places c.self.invariant.0 c.self.invariant.1 (Some c.in-Some.place) (sym c.in-Some.is ∙ c.self.invariant.2)
    ∙ ap hit_at c.self.view_is

pub returns-in-Some-clause-sorted : goal.returns-in-Some-clause-sorted
returns-in-Some-clause-sorted c =
    let i = c.self.inside in
    subst (λ (v : HitPlace). IsTrue (is_sorted v.hits)) c.self.view_is (span-sorted i.breaks.breaks.now i.to i.first i.places c.self.invariant.4)

pub returns-in-None-clause-hit : goal.returns-in-None-clause-hit
returns-in-None-clause-hit c =
    let i = c.self.inside in
    reads i.breaks.breaks.now i.to i.first i.at i.places c.self.invariant.0 c.self.invariant.1 None (sym c.in-None.is ∙ c.self.invariant.2)
    ∙ ap hit_at c.self.view_is

pub returns-in-None-clause-sorted : goal.returns-in-None-clause-sorted
returns-in-None-clause-sorted c =
    let i = c.self.inside in
    subst (λ (v : HitPlace). IsTrue (is_sorted v.hits)) c.self.view_is (span-sorted i.breaks.breaks.now i.to i.first i.places c.self.invariant.4)
