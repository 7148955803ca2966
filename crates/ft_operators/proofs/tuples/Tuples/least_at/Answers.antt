-- The walk is aimed, and goes through its ways for the least of the clean ones.
use Rattle.std.proofs.Common.{◌≤◌, ◌∙◌, ap, sym, subst, ◌&&◌, arith, filter, map}
use Rattle.std.proofs.lemmas.Result.{on_ok_weaker}
use Rattle.all_matches.specs.Chain.{kept_by}
use Rattle.all_matches.specs.Ways.{clean_under, way_includes}
use Rattle.best_hits.specs.Best.{spans_of}
use Rattle.best_hits.specs.Least.{least as least_of}
use Rattle.ft_operators.specs.Course.{tellings, ways_on}
use Rattle.ft_operators.specs.Chains.{links_of}
use Rattle.ft_base.specs.declared.unit.TextUnit.TheVariants.{Words}
use Rattle.ft_operators.specs.Extents.{extent_beside}
use Rattle.ft_operators.specs.Ordered.{comes_in_order}
use Rattle.ft_operators.specs.steps.Cleaning.{tells}
use Rattle.ft_operators.specs.steps.Measuring.{are_held, holds}
use Rattle.ft_operators.specs.steps.Nodes.{standing}
use Rattle.ft_operators.proofs.AnswerLemmas.{through_shown}
use Rattle.ft_operators.proofs.ComparingLemmas.{least_told}
use Rattle.ft_operators.proofs.FrameLemmas.{frame_same}
use Rattle.ft_operators.proofs.TupleLemmas.{told_shape, told_frame, told_kept}
use Rattle.ft_operators.proofs.tuples.Tuples.least_at.Goals as goal

pub least_of_clean-requires-clause-fits : goal.least_of_clean-requires-clause-fits
least_of_clean-requires-clause-fits g c =
    let self = c.aim.new.self in
    let node = c.told_of-told.new.node in
    let same = ap (λ s. s.room) (told_shape g.P.PhraseHits.state c.tellings-tellings.result self.node node (c.told_of-told.ensures.same ∙ c.comes_in_order-in_order.ensures.same)) in
    let fits = self.fits in
    omega arith

pub least_of_clean-requires-clause-filters : goal.least_of_clean-requires-clause-filters
least_of_clean-requires-clause-filters g c =
    let self = c.aim.new.self in
    let node = c.told_of-told.new.node in
    let same = ap (λ s. s.filters) (told_shape g.P.PhraseHits.state c.tellings-tellings.result self.node node (c.told_of-told.ensures.same ∙ c.comes_in_order-in_order.ensures.same)) in
    let filters = self.filters in
    let room = ap (λ r. r.filters) c.aim.ensures.room in
    omega (arith, c.requires.filters)

pub least_of_clean-requires-clause-hits : goal.least_of_clean-requires-clause-hits
least_of_clean-requires-clause-hits g c =
    let self = c.aim.new.self in
    let node = c.told_of-told.new.node in
    let same = ap (λ s. s.hits) (told_shape g.P.PhraseHits.state c.tellings-tellings.result self.node node (c.told_of-told.ensures.same ∙ c.comes_in_order-in_order.ensures.same)) in
    let hits = self.hits in
    let room = ap (λ r. r.hits) c.aim.ensures.room in
    omega (arith, c.requires.hits)

pub invariant_of-self : goal.invariant_of-self
invariant_of-self g c =
    let self = c.aim.new.self in
    let same = told_kept g.P.PhraseHits.state c.tellings-tellings.result self.node c.told_of-told.new.node (c.told_of-told.ensures.same ∙ c.comes_in_order-in_order.ensures.same) c.least_of_clean.new.node c.least_of_clean.ensures.walk.same in
    let room = ap (λ s. s.room) same in
    let fits = self.fits in
    let kept = c.least_of_clean.ensures.walk.kept_room in
    record {
      fits = omega arith;
      filters = subst (λ s. s.filters ≤ self.room.filters) (sym same) self.filters;
      hits = subst (λ s. s.hits ≤ self.room.hits) (sym same) self.hits;
    }

pub least_of_clean-requires-clause-order : goal.least_of_clean-requires-clause-order
least_of_clean-requires-clause-order g c in_order =
    let node = c.told_of-told.new.node in
    let operator = ap (λ f. f.operator) (frame_same g.P.PhraseHits.state c.tellings-tellings.result node) ∙ ap (λ f. f.operator) (c.told_of-told.ensures.same ∙ c.comes_in_order-in_order.ensures.same) in
    ap comes_in_order operator ∙ sym c.comes_in_order-in_order.ensures.found ∙ in_order

pub returns-clause-least : goal.returns-clause-least
returns-clause-least g c =
    let self = c.aim.new.self in
    let state = g.P.PhraseHits.state in
    let links = links_of c.args.chain.now in
    let node = c.told_of-told.new.node in
    let aimed = ap (λ f. f.operator) c.comes_in_order-in_order.ensures.same ∙ ap (λ w. w.operator) c.aim.ensures.walk in
    let operator = ap (λ f. f.operator) (frame_same state c.tellings-tellings.result node) ∙ ap (λ f. f.operator) c.told_of-told.ensures.same ∙ aimed in
    let item = ap (λ w. w.item) c.aim.ensures.walk in
    let told = c.told_of-told.result in
    let held = ap (λ o. are_held told.extents o) (sym aimed) ∙ c.told_of-told.ensures.held in
    let out = ap (λ o. holds told.beside (extent_beside Words o)) (sym aimed) ∙ c.told_of-told.ensures.beside in
    on_ok_weaker c.least_of_clean.result (λ said plain.
    ap spans_of
    (said ((λ i. tells (c.tellings-tellings.ensures i) (operator i)) ∙ (λ i. plain i && (held i && out i)))
    ∙ ap (λ course. least_of (map way_includes (filter (clean_under (kept_by links)) (ways_on course (standing state c.tellings-tellings.result node).operator)))) c.tellings-tellings.ensures
    ∙ (λ i. least_of (map way_includes (filter (clean_under (kept_by links)) (ways_on (tellings (item i) told.extents told.beside) (operator i))))))
    ∙ least_told _ told.extents told.beside _ links c.requires.none held out) c.least_of_clean.ensures.least

pub returns-clause-walk : goal.returns-clause-walk
returns-clause-walk g c =
    let self = c.aim.new.self in
    let state = g.P.PhraseHits.state in
    let new = c.least_of_clean.new.node in
    let same = told_frame state c.tellings-tellings.result self.node c.told_of-told.new.node (c.told_of-told.ensures.same ∙ c.comes_in_order-in_order.ensures.same) new c.least_of_clean.ensures.walk.same in
    through_shown state self.item self.node new same self.there self.held.items c.least_of_clean.new.held.items (ap (λ w. w.tuple) c.aim.ensures.walk) ∙ c.aim.ensures.walk
