-- A word that is free settles it; one that is covered leaves those after it.
use Rattle.std.proofs.Common.{◌∙◌, sym, ap, not}
use Rattle.ft_operators.proofs.FreeLemmas.{is_free, any_here, any_after, any_none}
use Rattle.ft_operators.proofs.standing_out.some_is_free.Goals as goal

pub returns-then-not-are_covering : goal.returns-then-not-are_covering
returns-then-not-are_covering c =
    sym (any_here (is_free c.args.hits.now) c.loop-place.place c.args.to c.loop-place-test.true (ap not (sym c.are_covering.ensures ∙ c.if-not-are_covering.true))) ∙ c.loop-place.invariant

pub loop-place-preserved : goal.loop-place-preserved
loop-place-preserved c =
    sym (any_after (is_free c.args.hits.now) c.loop-place.place c.args.to c.loop-place-test.true (ap not (sym c.are_covering.ensures ∙ c.if-not-are_covering.false))) ∙ c.loop-place.invariant

pub returns : goal.returns
returns c = sym (any_none (is_free c.args.hits.now) c.loop-place.place c.args.to c.loop-place-test.false) ∙ c.loop-place.invariant
