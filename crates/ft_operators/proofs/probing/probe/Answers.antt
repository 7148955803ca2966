-- Some way has all its includes kept exactly where some Match has.
use Rattle.std.proofs.Common.{◌≤◌, ◌∙◌, ap, sym, subst, true, ◌&&◌, None, arith}
use Rattle.std.specs.List.{list_any}
use Rattle.all_matches.specs.Chain.{kept_by}
use Rattle.ft_operators.specs.Course.{every, firsts, ways_on}
use Rattle.ft_operators.specs.Chains.{all_kept, links_of}
use Rattle.ft_operators.specs.steps.Nodes.{frame_of}
use Rattle.ft_operators.proofs.AnswerLemmas.{passed_shown}
use Rattle.ft_operators.proofs.CleanLemmas.{some_kept}
use Rattle.ft_operators.proofs.FrameLemmas.{frame_same}
use Rattle.ft_operators.proofs.TupleLemmas.{kept_shape, standing_shape}
use Rattle.ft_operators.proofs.probing.probe.Goals as goal

pub some_is_kept-requires : goal.some_is_kept-requires
some_is_kept-requires g c =
    let negated = c.args.negated.now in
    let same = ap (λ s. s.room) (standing_shape g.P.PhraseHits.state c.firsts-firsts.result negated.node negated.node) in
    let fits = negated.fits in
    omega arith

pub invariant_of-negated : goal.invariant_of-negated
invariant_of-negated g c =
    let negated = c.args.negated.now in
    let same = kept_shape g.P.PhraseHits.state c.firsts-firsts.result negated.node c.some_is_kept.new.node c.some_is_kept.ensures.same in
    let room = ap (λ s. s.room) same in
    let fits = negated.fits in
    let kept = c.some_is_kept.ensures.kept_room in
    record {
      fits = omega arith;
      filters = subst (λ s. s.filters ≤ negated.room.filters) (sym same) negated.filters;
      hits = subst (λ s. s.hits ≤ negated.room.hits) (sym same) negated.hits;
    }

pub returns-clause-kept : goal.returns-clause-kept
returns-clause-kept g c bare =
    let negated = c.args.negated.now in
    let kept = kept_by (links_of c.args.chain.now) in
    c.some_is_kept.ensures.found tt
    ∙ ap (λ f. list_any (all_kept kept) (ways_on c.firsts-firsts.result f.operator)) (frame_same g.P.PhraseHits.state c.firsts-firsts.result negated.node)
    ∙ ap (λ course. list_any (all_kept kept) (ways_on course (frame_of g.P.PhraseHits.state negated.node).operator)) (c.firsts-firsts.ensures ∙ (λ i. firsts negated.item (c.bounds.ensures i) (c.untold.ensures i) None))
    ∙ some_kept (every negated.item) (frame_of g.P.PhraseHits.state negated.node).operator (links_of c.args.chain.now) (λ i. bare i && true)

pub returns-clause-walk : goal.returns-clause-walk
returns-clause-walk g c =
    let negated = c.args.negated.now in
    passed_shown g.P.PhraseHits.state negated.item c.firsts-firsts.result negated.node c.some_is_kept.new.node c.some_is_kept.ensures.same
