-- The first place that is left is the word of the hit.
use Rattle.std.proofs.Common.{ap, subst, ◌∙◌}
use Rattle.std.specs.Prelude.{IsTrue, option_map}
use Rattle.ft_base.specs.declared.hit.Hit.{Hit}
use Rattle.ft_base.specs.Hits.{HitPlace, hit_at, is_sorted}
use Rattle.index_cursors.proofs.SpanLemmas.{span-sorted}
use Rattle.index_cursors.proofs.CursorLemmas.{reads-first}
use Rattle.index_cursors.proofs.cursor.Cursor.first_word.Goals as goal

pub returns-clause-first : goal.returns-clause-first
returns-clause-first c =
    let i = c.self.inside in
    reads-first i.breaks.breaks.now i.to i.first i.at i.places c.self.invariant.0 c.self.invariant.1 i.word c.self.invariant.2
    ∙ ap (λ (v : HitPlace). option_map (λ (hit : Hit). hit.from) (hit_at v)) c.self.view_is

pub returns-clause-sorted : goal.returns-clause-sorted
returns-clause-sorted c =
    let i = c.self.inside in
    subst (λ (v : HitPlace). IsTrue (is_sorted v.hits)) c.self.view_is (span-sorted i.breaks.breaks.now i.to i.first i.places c.self.invariant.4)
