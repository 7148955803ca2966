-- The node inside moves, and its includes are held.
use Rattle.std.proofs.Common.{◌≤◌, ap, sym, refl, subst, arith, vec_capacity}
use Rattle.ft_operators.specs.Course.{every}
use Rattle.ft_operators.specs.Standing.{one_on}
use Rattle.ft_operators.specs.steps.Nodes.{standing}
use Rattle.ft_operators.proofs.SeenLemmas.{seen_may, seen_next}
use Rattle.ft_operators.proofs.TupleLemmas.{moved_shape, answer_shown, next_shown, walk_may}
use Rattle.ft_operators.proofs.tuples.Tuples.next.Goals as goal

pub go_on-self-requires : goal.go_on-self-requires
go_on-self-requires g c =
    let self = c.args.self.now in
    seen_may g.P.PhraseHits.state c.every-every.result (every self.item) c.every-every.ensures self.node _
    (walk_may g.P.PhraseHits.state (every self.item) self.node self.node self.there (vec_capacity self.held) c.requires self.fits)

pub invariant_of-self : goal.invariant_of-self
invariant_of-self g c =
    let self = c.args.self.now in
    let at = standing g.P.PhraseHits.state (every self.item) in
    let same = moved_shape g.P.PhraseHits.state (every self.item) self.node c.go_on-self.new.node (one_on (at self.node)) refl _ _ 0 _ _ c.go_on-self.result c.hold.new.held.items
    (seen_next g.P.PhraseHits.state c.every-every.result (every c.args.self.now.item) c.every-every.ensures c.args.self.now.node c.go_on-self.new.node _ _ _ _ _ c.go_on-self.ensures) in
    let room = ap (λ s. s.room) same in
    let fits = self.fits in
    let kept = c.go_on-self.ensures.kept_room in
    let held = (c.hold.ensures (every self.item)).kept_room in
    record {
      fits = omega arith;
      filters = subst (λ s. s.filters ≤ self.room.filters) (sym same) self.filters;
      hits = subst (λ s. s.hits ≤ self.room.hits) (sym same) self.hits;
    }

pub returns-clause-walk : goal.returns-clause-walk
returns-clause-walk g c =
    let self = c.args.self.now in
    next_shown g.P.PhraseHits.state (every self.item) self.node c.go_on-self.new.node self.there c.requires _ _ _ _ _ c.go_on-self.result c.hold.new.held.items
    (seen_next g.P.PhraseHits.state c.every-every.result (every c.args.self.now.item) c.every-every.ensures c.args.self.now.node c.go_on-self.new.node _ _ _ _ _ c.go_on-self.ensures) (c.hold.ensures (every self.item)) self.fits

pub returns-clause-there : goal.returns-clause-there
returns-clause-there g c = answer_shown c.go_on-self.result ((standing g.P.PhraseHits.state (every c.args.self.now.item) c.go_on-self.new.node).rest)
    (seen_next g.P.PhraseHits.state c.every-every.result (every c.args.self.now.item) c.every-every.ensures c.args.self.now.node c.go_on-self.new.node _ _ _ _ _ c.go_on-self.ensures).there
