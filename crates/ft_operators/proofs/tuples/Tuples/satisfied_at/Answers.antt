-- The walk is aimed, and goes through its ways until one is clean.
use Rattle.std.proofs.Common.{◌≤◌, ◌∙◌, ap, sym, subst, ◌&&◌, arith}
use Rattle.std.specs.List.{list_any}
use Rattle.all_matches.specs.Chain.{kept_by}
use Rattle.all_matches.specs.Ways.{clean_under}
use Rattle.ft_operators.specs.Course.{tellings, ways_on}
use Rattle.ft_operators.specs.Chains.{links_of}
use Rattle.ft_base.specs.declared.unit.TextUnit.TheVariants.{Words}
use Rattle.ft_operators.specs.Extents.{extent_beside}
use Rattle.ft_operators.specs.steps.Cleaning.{tells}
use Rattle.ft_operators.specs.steps.Measuring.{are_held, holds}
use Rattle.ft_operators.specs.steps.Nodes.{standing}
use Rattle.ft_operators.proofs.AnswerLemmas.{satisfied_ways, through_shown}
use Rattle.ft_operators.proofs.FrameLemmas.{frame_same}
use Rattle.ft_operators.proofs.TupleLemmas.{told_shape, told_frame, told_kept}
use Rattle.ft_operators.proofs.tuples.Tuples.satisfied_at.Goals as goal

pub some_is_clean-requires-clause-fits : goal.some_is_clean-requires-clause-fits
some_is_clean-requires-clause-fits g c =
    let self = c.aim.new.self in
    let node = c.told_of-told.new.node in
    let same = ap (λ s. s.room) (told_shape g.P.PhraseHits.state c.tellings-tellings.result self.node node c.told_of-told.ensures.same) in
    let fits = self.fits in
    omega arith

pub some_is_clean-requires-clause-filters : goal.some_is_clean-requires-clause-filters
some_is_clean-requires-clause-filters g c =
    let self = c.aim.new.self in
    let node = c.told_of-told.new.node in
    let same = ap (λ s. s.filters) (told_shape g.P.PhraseHits.state c.tellings-tellings.result self.node node c.told_of-told.ensures.same) in
    let filters = self.filters in
    let room = ap (λ r. r.filters) c.aim.ensures.room in
    omega (arith, c.requires.filters)

pub some_is_clean-requires-clause-hits : goal.some_is_clean-requires-clause-hits
some_is_clean-requires-clause-hits g c =
    let self = c.aim.new.self in
    let node = c.told_of-told.new.node in
    let same = ap (λ s. s.hits) (told_shape g.P.PhraseHits.state c.tellings-tellings.result self.node node c.told_of-told.ensures.same) in
    let hits = self.hits in
    let room = ap (λ r. r.hits) c.aim.ensures.room in
    omega (arith, c.requires.hits)

pub invariant_of-self : goal.invariant_of-self
invariant_of-self g c =
    let self = c.aim.new.self in
    let same = told_kept g.P.PhraseHits.state c.tellings-tellings.result self.node c.told_of-told.new.node c.told_of-told.ensures.same c.some_is_clean.new.node c.some_is_clean.ensures.search.same in
    let room = ap (λ s. s.room) same in
    let fits = self.fits in
    let kept = c.some_is_clean.ensures.search.kept_room in
    record {
      fits = omega arith;
      filters = subst (λ s. s.filters ≤ self.room.filters) (sym same) self.filters;
      hits = subst (λ s. s.hits ≤ self.room.hits) (sym same) self.hits;
    }

pub returns-clause-answer : goal.returns-clause-answer
returns-clause-answer g c plain =
    let self = c.aim.new.self in
    let state = g.P.PhraseHits.state in
    let links = links_of c.args.chain.now in
    let node = c.told_of-told.new.node in
    let aimed = ap (λ w. w.operator) c.aim.ensures.walk in
    let operator = ap (λ f. f.operator) (frame_same state c.tellings-tellings.result node) ∙ ap (λ f. f.operator) c.told_of-told.ensures.same ∙ aimed in
    let item = ap (λ w. w.item) c.aim.ensures.walk in
    let told = c.told_of-told.result in
    let held = ap (λ o. are_held told.extents o) (sym aimed) ∙ c.told_of-told.ensures.held in
    let out = ap (λ o. holds told.beside (extent_beside Words o)) (sym aimed) ∙ c.told_of-told.ensures.beside in
    c.some_is_clean.ensures.search.found ((λ i. tells (c.tellings-tellings.ensures i) (operator i)) ∙ (λ i. plain i && (held i && out i)))
    ∙ ap (λ course. list_any (clean_under (kept_by links)) (ways_on course (standing state c.tellings-tellings.result node).operator)) c.tellings-tellings.ensures
    ∙ (λ i. list_any (clean_under (kept_by links)) (ways_on (tellings (item i) told.extents told.beside) (operator i)))
    ∙ satisfied_ways _ told.extents told.beside _ links c.requires.none plain held out

pub returns-clause-walk : goal.returns-clause-walk
returns-clause-walk g c =
    let self = c.aim.new.self in
    let state = g.P.PhraseHits.state in
    let new = c.some_is_clean.new.node in
    let same = told_frame state c.tellings-tellings.result self.node c.told_of-told.new.node c.told_of-told.ensures.same new c.some_is_clean.ensures.search.same in
    through_shown state self.item self.node new same self.there self.held.items c.some_is_clean.new.held.items (ap (λ w. w.tuple) c.aim.ensures.walk) ∙ c.aim.ensures.walk
