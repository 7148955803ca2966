-- A hit that doesn't begin before the place is the first that doesn't.
use Rattle.std.proofs.Common.{arith, sym, ◌∙◌}
use Rattle.phrase_merges.proofs.AheadLemmas.{reached}
use Rattle.phrase_merges.proofs.reaching.reach.Goals as goal

pub returns-then-place-from-clause-left : goal.returns-then-place-from-clause-left
returns-then-place-from-clause-left g c =
    sym (reached c.args.by c.args.unit c.args.place (g.P.PhraseHits.state c.loop-hit.source).rest c.in-Some.hit c.loop-hit.invariant.rises c.in-Some.ensures.hit (omega (arith, c.if-place-from.true, c.from.ensures, c.number_at.ensures)))
    ∙ c.loop-hit.invariant.left
