-- A negated selection is clean exactly where no way of its operand is kept.
use Rattle.std.proofs.Common.{◌∙◌, ap, arith, subst, vec_capacity}
use Rattle.std.specs.Prelude.{⊤}
use Rattle.all_matches.specs.Chain.{kept_by}
use Rattle.ft_operators.specs.Chains.{all_kept, links_of}
use Rattle.ft_operators.specs.Course.{firsts}
use Rattle.ft_operators.specs.steps.Cleaning.{Searched}
use Rattle.ft_operators.specs.steps.Nodes.{standing}
use Rattle.ft_operators.proofs.CleanLemmas.{asked_negated, excludes_course}
use Rattle.ft_operators.proofs.FrameLemmas.{frames_same}
use Rattle.ft_operators.proofs.cleaning.negation_is_clean.Goals as goal

pub some_is_kept-requires : goal.some_is_kept-requires
some_is_kept-requires g c =
    let same = frames_same g.P.PhraseHits.state c.firsts-firsts.result c.args.course c.args.negation.now.operand in
    let room = ap (λ f. f.shape.room) same in
    omega (arith, room, c.requires.fits)

pub returns : goal.returns
returns g c =
    let state = g.P.PhraseHits.state in
    let at = standing state c.args.course in
    let course = excludes_course c.args.course (links_of c.args.chain.now) in
    let is = c.firsts-firsts.ensures ∙ ap (λ bounds. firsts c.args.course.item bounds c.args.course.extents c.args.course.beside) c.bounds.ensures in
    let first = standing state course in
    let old = c.args.negation.now.operand in
    let new = c.some_is_kept.new.node in
    asked_negated c.args.course c.args.negation.now.there (at old) (at new) (first old) (first new) c.args.chain.now (vec_capacity c.args.held.now) (vec_capacity c.some_is_kept.new.held)
    c.args.steps.now c.some_is_kept.new.steps c.some_is_kept.result c.requires.there
    (frames_same state course c.args.course old) (frames_same state course c.args.course new)
    (subst (λ e. Searched e ⊤ (all_kept (kept_by (links_of c.args.chain.now))) (standing state e old) (standing state e new) (vec_capacity c.args.held.now) (vec_capacity c.some_is_kept.new.held)
    c.args.steps.now c.some_is_kept.new.steps c.some_is_kept.result) is c.some_is_kept.ensures)
