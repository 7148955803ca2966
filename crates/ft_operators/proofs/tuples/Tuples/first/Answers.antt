-- The node inside moves, and its includes are held.
use Rattle.std.proofs.Common.{◌≤◌, ◌∙◌, ap, sym, refl, subst, arith}
use Rattle.ft_operators.specs.Course.{every}
use Rattle.ft_operators.specs.Standing.{at_prefix}
use Rattle.ft_operators.specs.steps.Nodes.{frame_of, standing}
use Rattle.ft_operators.proofs.SeenLemmas.{seen_first}
use Rattle.ft_operators.proofs.TupleLemmas.{standing_shape, moved_shape, answer_shown, every_shown, first_shown}
use Rattle.ft_operators.proofs.tuples.Tuples.first.Goals as goal

pub first-self-requires : goal.first-self-requires
first-self-requires g c =
    let self = c.args.self.now in
    let room = ap (λ s. s.room) (standing_shape g.P.PhraseHits.state c.every-every.result self.node self.node) in
    let fits = self.fits in
    omega arith

pub invariant_of-self : goal.invariant_of-self
invariant_of-self g c =
    let self = c.args.self.now in
    let at = standing g.P.PhraseHits.state (every self.item) in
    let same = moved_shape g.P.PhraseHits.state (every self.item) self.node c.first-self.new.node (at_prefix (every self.item) (at self.node)) refl _ _ 0 _ _ c.first-self.result c.hold.new.held.items
    (seen_first g.P.PhraseHits.state c.every-every.result (every c.args.self.now.item) c.every-every.ensures c.args.self.now.node c.first-self.new.node _ _ _ _ _ c.first-self.ensures) in
    let room = ap (λ s. s.room) same in
    let fits = self.fits in
    let kept = c.first-self.ensures.kept_room in
    let held = (c.hold.ensures (every self.item)).kept_room in
    record {
      fits = omega arith;
      filters = subst (λ s. s.filters ≤ self.room.filters) (sym same) self.filters;
      hits = subst (λ s. s.hits ≤ self.room.hits) (sym same) self.hits;
    }

pub returns-clause-walk : goal.returns-clause-walk
returns-clause-walk g c =
    let self = c.args.self.now in
    first_shown g.P.PhraseHits.state (every self.item) self.node c.first-self.new.node _ _ _ _ _ c.first-self.result c.hold.new.held.items
    (seen_first g.P.PhraseHits.state c.every-every.result (every c.args.self.now.item) c.every-every.ensures c.args.self.now.node c.first-self.new.node _ _ _ _ _ c.first-self.ensures) (c.hold.ensures (every self.item)) self.fits
    ∙ every_shown self.item (frame_of g.P.PhraseHits.state self.node)

pub returns-clause-there : goal.returns-clause-there
returns-clause-there g c = answer_shown c.first-self.result ((standing g.P.PhraseHits.state (every c.args.self.now.item) c.first-self.new.node).rest)
    (seen_first g.P.PhraseHits.state c.every-every.result (every c.args.self.now.item) c.every-every.ensures c.args.self.now.node c.first-self.new.node _ _ _ _ _ c.first-self.ensures).there
