-- A node is asked as its inside is, and that as the operands are.
use Rattle.std.proofs.Common.{◌<◌, ◌∙◌, ap, arith, length, subst, sym, vec_capacity}
use Rattle.all_matches.specs.Filters.{choices}
use Rattle.ft_operators.specs.Course.{asked_for, course_inside, without_bounds}
use Rattle.ft_operators.specs.Standing.{course_now}
use Rattle.ft_operators.specs.steps.Nodes.{standing}
use Rattle.ft_operators.proofs.SeenLemmas.{seen_asked}
use Rattle.ft_operators.proofs.CleanLemmas.{may_inside, asked_inside, asked_phrase, asked_apart, asked_barred, asked_both, asked_first, asked_second, held_includes, lead_chosen, link_with, asked_filtered}
use Rattle.ft_operators.proofs.ChainLemmas.{put_and_taken}
use Rattle.ft_operators.proofs.FrameLemmas.{shaped_Both, shaped_Choice, shaped_Filtered, shaped_MildNot}
use Rattle.ft_operators.proofs.NodeLemmas.{standing_Choice, standing_Both, standing_MildNot, standing_Negated, standing_Filtered, inside_Phrase, inside_Choice, inside_Both, inside_MildNot, inside_Negated, inside_Filtered}
use Rattle.ft_operators.proofs.cleaning.+clean.Goals as goal

pub is_clean-fork_is_clean-requires : goal.is_clean-fork_is_clean-requires
is_clean-fork_is_clean-requires g t c κs within =
    let is = inside_Choice g.P.PhraseHits.state c.args.course c.args.node.now c.in-Choice.fork c.deref_mut.result.now c.in-Choice.is c.deref_mut.ensures.value in
    let deep = ap (λ s. s.weight) (shaped_Choice c.args.node.now c.in-Choice.fork c.deref_mut.result.now c.in-Choice.is c.deref_mut.ensures.value) in
    (omega (arith, c.decreases), (within.0, (within.1, may_inside _ _ _ _ _ is c.requires)))

pub is_clean-returns-in-Choice : goal.is_clean-returns-in-Choice
is_clean-returns-in-Choice g t c =
    let state = g.P.PhraseHits.state in
    let course = c.args.course in
    asked_inside course _ _ _ _ _ _ _ _ _ _ _ (inside_Choice state course c.args.node.now c.in-Choice.fork c.deref_mut.result.now c.in-Choice.is c.deref_mut.ensures.value) (standing_Choice state course _) c.fork_is_clean.ensures

pub is_clean-pair_is_clean-requires : goal.is_clean-pair_is_clean-requires
is_clean-pair_is_clean-requires g t c κs within =
    let is = inside_Both g.P.PhraseHits.state c.args.course c.args.node.now c.in-Both.pair c.deref_mut-in-Both.result.now c.in-Both.is c.deref_mut-in-Both.ensures.value in
    let deep = ap (λ s. s.weight) (shaped_Both c.args.node.now c.in-Both.pair c.deref_mut-in-Both.result.now c.in-Both.is c.deref_mut-in-Both.ensures.value) in
    (omega (arith, c.decreases), (within.0, (within.1, may_inside _ _ _ _ _ is c.requires)))

pub is_clean-returns-in-Both : goal.is_clean-returns-in-Both
is_clean-returns-in-Both g t c =
    let state = g.P.PhraseHits.state in
    let course = c.args.course in
    asked_inside course _ _ _ _ _ _ _ _ _ _ _ (inside_Both state course c.args.node.now c.in-Both.pair c.deref_mut-in-Both.result.now c.in-Both.is c.deref_mut-in-Both.ensures.value) (standing_Both state course _) c.pair_is_clean.ensures

pub is_clean-apart_is_clean-requires : goal.is_clean-apart_is_clean-requires
is_clean-apart_is_clean-requires g t c κs within =
    let is = inside_MildNot g.P.PhraseHits.state c.args.course c.args.node.now c.in-MildNot.pair c.deref_mut-in-MildNot.result.now c.in-MildNot.is c.deref_mut-in-MildNot.ensures.value in
    let deep = ap (λ s. s.weight) (shaped_MildNot c.args.node.now c.in-MildNot.pair c.deref_mut-in-MildNot.result.now c.in-MildNot.is c.deref_mut-in-MildNot.ensures.value) in
    (omega (arith, c.decreases), (within.0, (within.1, may_inside _ _ _ _ _ is c.requires)))

pub is_clean-returns-in-MildNot : goal.is_clean-returns-in-MildNot
is_clean-returns-in-MildNot g t c =
    let state = g.P.PhraseHits.state in
    let course = c.args.course in
    asked_inside course _ _ _ _ _ _ _ _ _ _ _ (inside_MildNot state course c.args.node.now c.in-MildNot.pair c.deref_mut-in-MildNot.result.now c.in-MildNot.is c.deref_mut-in-MildNot.ensures.value) (standing_MildNot state course _) c.apart_is_clean.ensures

pub is_clean-sieve_is_clean-requires : goal.is_clean-sieve_is_clean-requires
is_clean-sieve_is_clean-requires g t c κs within =
    let is = inside_Filtered g.P.PhraseHits.state c.args.course c.args.node.now c.in-Filtered.sieve c.deref_mut-in-Filtered.result.now c.in-Filtered.is c.deref_mut-in-Filtered.ensures.value in
    let deep = ap (λ s. s.weight) (shaped_Filtered c.args.node.now c.in-Filtered.sieve c.deref_mut-in-Filtered.result.now c.in-Filtered.is c.deref_mut-in-Filtered.ensures.value) in
    (omega (arith, c.decreases), (within.0, (within.1, may_inside _ _ _ _ _ is c.requires)))

pub is_clean-returns-in-Filtered : goal.is_clean-returns-in-Filtered
is_clean-returns-in-Filtered g t c =
    let state = g.P.PhraseHits.state in
    let course = c.args.course in
    asked_inside course _ _ _ _ _ _ _ _ _ _ _ (inside_Filtered state course c.args.node.now c.in-Filtered.sieve c.deref_mut-in-Filtered.result.now c.in-Filtered.is c.deref_mut-in-Filtered.ensures.value) (standing_Filtered state course _) c.sieve_is_clean.ensures

pub is_clean-negation_is_clean-requires : goal.is_clean-negation_is_clean-requires
is_clean-negation_is_clean-requires g t c =
    may_inside _ _ _ _ _ (inside_Negated g.P.PhraseHits.state c.args.course c.args.node.now c.in-Negated.negation c.deref_mut-in-Negated.result.now c.in-Negated.is c.deref_mut-in-Negated.ensures.value) c.requires

pub is_clean-returns-in-Negated : goal.is_clean-returns-in-Negated
is_clean-returns-in-Negated g t c =
    let state = g.P.PhraseHits.state in
    let course = c.args.course in
    asked_inside course _ _ _ _ _ _ _ _ _ _ _ (inside_Negated state course c.args.node.now c.in-Negated.negation c.deref_mut-in-Negated.result.now c.in-Negated.is c.deref_mut-in-Negated.ensures.value) (standing_Negated state course _) c.negation_is_clean.ensures

pub is_clean-returns-in-Phrase : goal.is_clean-returns-in-Phrase
is_clean-returns-in-Phrase g t c =
    let state = g.P.PhraseHits.state in
    asked_phrase c.args.course (state c.in-Phrase.field-0) (standing state c.args.course c.args.node.now) c.args.chain.now (vec_capacity c.args.held.now) c.args.steps.now (inside_Phrase state c.args.course c.args.node.now c.in-Phrase.field-0 c.in-Phrase.is)

pub fork_is_clean-returns-then-fork : goal.fork_is_clean-returns-then-fork
fork_is_clean-returns-then-fork g t c =
    let at = standing g.P.PhraseHits.state c.args.course in
    let fork = c.args.fork.now in
    asked_second c.args.course fork.second (at fork.left) (at fork.right) (at c.is_clean.new.node) c.args.chain.now c.is_clean.new.chain (vec_capacity c.args.held.now) (vec_capacity c.is_clean.new.held)
    c.args.steps.now c.is_clean.new.steps c.is_clean.result c.if-fork.true c.is_clean.ensures

pub fork_is_clean-returns-else-fork : goal.fork_is_clean-returns-else-fork
fork_is_clean-returns-else-fork g t c =
    let at = standing g.P.PhraseHits.state c.args.course in
    let fork = c.args.fork.now in
    asked_first c.args.course fork.second (at fork.left) (at fork.right) (at c.is_clean-else-fork.new.node) c.args.chain.now c.is_clean-else-fork.new.chain (vec_capacity c.args.held.now)
    (vec_capacity c.is_clean-else-fork.new.held) c.args.steps.now c.is_clean-else-fork.new.steps c.is_clean-else-fork.result c.if-fork.false c.is_clean-else-fork.ensures

pub pair_is_clean-returns-then-not-is_clean : goal.pair_is_clean-returns-then-not-is_clean
pair_is_clean-returns-then-not-is_clean g t c =
    let state = g.P.PhraseHits.state in
    let at = standing state c.args.course in
    let pair = c.args.pair.now in
    asked_barred c.args.course (at pair.left) (at c.is_clean.new.node) (λ ways. standing state (course_now c.args.course ways) pair.right) (vec_capacity c.args.held.now) _ _ c.requires c.args.chain.now c.is_clean.new.chain
    (vec_capacity c.is_clean.new.held) c.args.steps.now c.is_clean.new.steps c.is_clean.result c.if-not-is_clean.true c.is_clean.ensures

pub pair_is_clean-returns : goal.pair_is_clean-returns
pair_is_clean-returns g t c =
    let state = g.P.PhraseHits.state in
    let course = c.args.course in
    let at = standing state course in
    let pair = c.args.pair.now in
    let beside = c.course_now-beside.ensures.course ∙ ap (λ s. course_now course s.rest) c.is_clean.ensures.same in
    asked_both course (at pair.left) (at c.is_clean.new.node) (λ ways. standing state (course_now course ways) pair.right) (vec_capacity c.args.held.now) _ _ c.requires
    (λ ways. standing state (course_now course ways) c.is_clean-2.new.node) c.args.chain.now c.is_clean.new.chain c.is_clean-2.new.chain (vec_capacity c.is_clean.new.held) (vec_capacity c.course_now-beside.new.held)
    (vec_capacity c.is_clean-2.new.held) c.args.steps.now c.is_clean.new.steps c.is_clean-2.new.steps c.is_clean.result c.is_clean-2.result c.if-not-is_clean.false c.course_now-beside.ensures.room c.is_clean.ensures
    (seen_asked state c.course_now-beside.result (course_now course (at pair.left).rest) beside pair.right c.is_clean-2.new.node _ _ _ _ _ _ c.is_clean-2.result c.is_clean-2.ensures)

pub apart_is_clean-returns : goal.apart_is_clean-returns
apart_is_clean-returns g t c =
    let at = standing g.P.PhraseHits.state c.args.course in
    let pair = c.args.pair.now in
    asked_apart c.args.course (at pair.left) (standing g.P.PhraseHits.state (without_bounds c.args.course) pair.right) (at c.is_clean.new.node) c.args.chain.now c.is_clean.new.chain (vec_capacity c.args.held.now) (vec_capacity c.is_clean.new.held)
    c.args.steps.now c.is_clean.new.steps c.is_clean.result c.is_clean.ensures

pub sieve_is_clean-push_filter-requires-clause-lead : goal.sieve_is_clean-push_filter-requires-clause-lead
sieve_is_clean-push_filter-requires-clause-lead g t c =
    let sieve = c.args.sieve.now in
    let inside = course_inside sieve.kind c.args.course in
    let operand = standing g.P.PhraseHits.state inside sieve.operand in
    let includes = held_includes c.args.course sieve.kind sieve.lead operand _ _ _ _ _ _ _ c.requires c.clear.ensures.items c.clear.ensures.capacity (c.gather.ensures inside) in
    subst (λ hits. sieve.lead < length (asked_for c.args.course.windows (choices sieve.kind hits))) (sym (c.deref.ensures.value ∙ includes)) (lead_chosen sieve.kind c.args.course sieve.lead operand.rest c.requires.there)

pub sieve_is_clean-returns : goal.sieve_is_clean-returns
sieve_is_clean-returns g t c =
    let state = g.P.PhraseHits.state in
    let sieve = c.args.sieve.now in
    let inside = course_inside sieve.kind c.args.course in
    let at = standing state inside in
    let gathered = c.gather.ensures inside in
    let asked = seen_asked state c.course_inside-inside.result inside c.course_inside-inside.ensures sieve.operand c.is_clean-clean.new.node _ _ _ _ _ _ c.is_clean-clean.result c.is_clean-clean.ensures in
    let includes = held_includes c.args.course sieve.kind sieve.lead (at sieve.operand) _ _ _ _ _ _ _ c.requires c.clear.ensures.items c.clear.ensures.capacity gathered in
    let kept =
    put_and_taken c.args.chain.now c.push_filter.new.chain c.is_clean-clean.new.chain c.pop.new.self (link_with c.args.course.windows sieve.kind sieve.lead c.deref.result.now) c.push_filter.ensures.links
    c.push_filter.ensures.filters c.push_filter.ensures.hits c.is_clean-clean.ensures.kept c.pop.ensures.links c.pop.ensures.filters c.pop.ensures.hits in
    asked_filtered c.args.course sieve.kind sieve.lead (at sieve.operand) (at c.is_clean-clean.new.node) c.args.chain.now c.push_filter.new.chain c.is_clean-clean.new.chain c.pop.new.self c.deref.result.now
    (vec_capacity c.args.held.now) (vec_capacity c.gather.new.held) (vec_capacity c.is_clean-clean.new.held) c.args.steps.now c.is_clean-clean.new.steps c.is_clean-clean.result c.requires.there
    (c.deref.ensures.value ∙ includes) (omega (arith, c.clear.ensures.capacity, gathered.kept_room)) c.push_filter.ensures.links asked kept
