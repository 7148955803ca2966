-- What is aimed is the frame, and it holds as many hits at once as before.
use Rattle.std.proofs.Common.{◌≤◌, ap, sym, subst, arith}
use Rattle.ft_operators.specs.Course.{every}
use Rattle.ft_operators.specs.Walk.{before_first}
use Rattle.ft_operators.proofs.TupleLemmas.{aimed_shape}
use Rattle.ft_operators.proofs.tuples.Tuples.aim.Goals as goal

pub invariant_of-self : goal.invariant_of-self
invariant_of-self g c =
    let self = c.args.self.now in
    let same = aimed_shape g.P.PhraseHits.state (every self.item) self.node c.aim_node.new.node c.args.doc.0 c.args.span _ _ c.aim_node.ensures in
    let room = ap (λ s. s.room) same in
    let fits = self.fits in
    record {
      fits = omega arith;
      filters = subst (λ s. s.filters ≤ self.room.filters) (sym same) self.filters;
      hits = subst (λ s. s.hits ≤ self.room.hits) (sym same) self.hits;
    }

pub returns-clause-walk : goal.returns-clause-walk
returns-clause-walk g c =
    (λ i. before_first (c.own_span-self.ensures i) (c.aim_node.ensures.framed i).aims (c.aim_node.ensures.framed i).operator)
