-- Where there is a hit, the end is not reached.
use Rattle.std.proofs.Common.{◌<◌, ◌-◌, length, sym, subst, arith}
use Rattle.std.proofs.lemmas.List.FromFn.{length-map-range_with_len}
use Rattle.ft_base.specs.Hits.{HitPlace}
use Rattle.index_cursors.specs.SpanHits.{word_hit}
use Rattle.index_cursors.proofs.every.EveryHits.next.Goals as goal

pub returns-else-self-clause-moved : goal.returns-else-self-clause-moved
returns-else-self-clause-moved g c =
    let i = c.self.inside in
    let there = subst (λ (v : HitPlace). v.place < length v.hits) (sym c.self.view_is) c.requires in
    let size = length-map-range_with_len (word_hit i.breaks.breaks.now) i.from (i.to - i.from) in
    absurd (omega (arith, c.if-self.false, there, size, c.self.invariant))
