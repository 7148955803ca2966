-- The node inside is asked, and the includes of its way are held again.
use Rattle.std.proofs.Common.{◌≤◌, ap, sym, subst, true, ◌&&◌, arith, vec_capacity}
use Rattle.ft_operators.specs.Course.{every}
use Rattle.ft_operators.specs.Chains.{spare_filters, spare_hits}
use Rattle.ft_operators.specs.Standing.{frame}
use Rattle.ft_operators.specs.steps.Cleaning.{MayAsk}
use Rattle.ft_operators.specs.steps.Nodes.{standing}
use Rattle.ft_operators.proofs.SeenLemmas.{seen_asked}
use Rattle.ft_operators.proofs.AnswerLemmas.{asked_may, asked_answer, asked_shown}
use Rattle.ft_operators.proofs.TupleLemmas.{kept_shape}
use Rattle.ft_operators.proofs.tuples.Tuples.clean.Goals as goal

pub is_clean-clean-requires : goal.is_clean-clean-requires
is_clean-clean-requires g c =
    let self = c.args.self.now in
    let filters = self.filters in
    let hits = self.hits in
    subst (λ course. MayAsk (standing g.P.PhraseHits.state course self.node) (vec_capacity self.held) (spare_filters c.args.chain.now) (spare_hits c.args.chain.now)) (sym c.every-every.ensures)
    (asked_may g.P.PhraseHits.state (every self.item) self.node self.node self.there (vec_capacity self.held) (spare_filters c.args.chain.now) (spare_hits c.args.chain.now) c.requires.there self.fits
    (omega (arith, c.requires.filters)) (omega (arith, c.requires.hits)))

pub invariant_of-self : goal.invariant_of-self
invariant_of-self g c =
    let self = c.args.self.now in
    let same = kept_shape g.P.PhraseHits.state c.every-every.result self.node c.is_clean-clean.new.node (ap frame c.is_clean-clean.ensures.same) in
    let room = ap (λ s. s.room) same in
    let fits = self.fits in
    let kept = c.is_clean-clean.ensures.kept_room in
    let held = (c.hold.ensures (every self.item)).kept_room in
    record {
      fits = omega arith;
      filters = subst (λ s. s.filters ≤ self.room.filters) (sym same) self.filters;
      hits = subst (λ s. s.hits ≤ self.room.hits) (sym same) self.hits;
    }

pub returns-clause-clean : goal.returns-clause-clean
returns-clause-clean g c plain =
    let self = c.args.self.now in
    asked_answer g.P.PhraseHits.state (every self.item) self.node c.is_clean-clean.new.node self.there c.args.chain.now c.is_clean-clean.new.chain _ _ _ _ c.is_clean-clean.result c.requires.there
    (seen_asked g.P.PhraseHits.state c.every-every.result (every c.args.self.now.item) c.every-every.ensures c.args.self.now.node c.is_clean-clean.new.node _ _ _ _ _ _ c.is_clean-clean.result c.is_clean-clean.ensures) (λ i. plain i && true)

pub returns-clause-walk : goal.returns-clause-walk
returns-clause-walk g c =
    let self = c.args.self.now in
    let fits = self.fits in
    asked_shown g.P.PhraseHits.state (every self.item) self.node c.is_clean-clean.new.node self.there (vec_capacity c.is_clean-clean.new.held) _ c.hold.new.held.items c.requires.there
    (seen_asked g.P.PhraseHits.state c.every-every.result (every c.args.self.now.item) c.every-every.ensures c.args.self.now.node c.is_clean-clean.new.node _ _ _ _ _ _ c.is_clean-clean.result c.is_clean-clean.ensures).same
    (c.hold.ensures (every self.item)) (omega (arith, c.is_clean-clean.ensures.kept_room))
