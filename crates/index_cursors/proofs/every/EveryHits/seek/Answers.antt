-- As many hits are passed as places stand before the position, up to the end.
use Rattle.std.proofs.Common.{◌-◌, ap, ◌∙◌}
use Rattle.std.specs.Prelude.{map}
use Rattle.std.specs.List.{range_with_len}
use Rattle.ft_base.specs.Hits.{hit_place, sought}
use Rattle.index_cursors.specs.SpanHits.{word_hit}
use Rattle.index_cursors.proofs.RangeLemmas.{every-sought}
use Rattle.index_cursors.proofs.every.EveryHits.seek.Goals as goal

pub returns-clause-moved : goal.returns-clause-moved
returns-clause-moved g c =
    let i = c.self.inside in
    ap (λ n. hit_place (map (word_hit i.breaks.breaks.now) (range_with_len i.from (i.to - i.from))) (n - i.from)) c.moved-self-inside.ensures
    ∙ every-sought i.breaks.breaks.now i.from i.to i.at c.self.invariant.0 c.self.invariant.1 c.args.from
    ∙ ap (sought c.args.from) c.self.view_is
