-- Kind by kind, one operand after the other.
use Rattle.std.proofs.Common.{◌≡◌, ◌∙◌, ap, sym, subst, arith, length, vec_capacity, drop, refl}
use Rattle.all_matches.specs.Filters.{after}
use Rattle.ft_operators.specs.Course.{course_inside, every, without_bounds}
use Rattle.ft_operators.specs.Standing.{course_now}
use Rattle.ft_operators.specs.steps.Forms.{choice_of, both_of, sieve_of}
use Rattle.ft_operators.specs.steps.Nodes.{standing}
use Rattle.ft_operators.specs.steps.Walking.{Replaced}
use Rattle.ft_operators.proofs.NodeLemmas.{inside_Phrase, inside_Choice, inside_Both, inside_MildNot, inside_Negated, inside_Filtered}
use Rattle.ft_operators.proofs.GatherLemmas.{gathered_inside, gathered_left, gathered_right, gathered_both, gathered_apart, gathered_negated, gathered_filtered}
use Rattle.ft_operators.proofs.gathering.+gather.Goals as goal

pub replace_after-requires : goal.replace_after-requires
replace_after-requires g t c = omega (arith, c.len-place.ensures, c.args.held.now.ok.0, (c.gather-in-Filtered.ensures (every (record { from = 0; to = 0 }))).from)

pub returns-in-Phrase : goal.returns-in-Phrase
returns-in-Phrase g t c course =
    gathered_inside _ _ _ _ _ _ (inside_Phrase g.P.PhraseHits.state course c.args.node.now c.in-Phrase.phrase c.in-Phrase.is) c.put_present.ensures

pub returns-then-deref : goal.returns-then-deref
returns-then-deref g t c course =
    let state = g.P.PhraseHits.state in
    let fork = c.deref-then-deref.result.now in
    let second = ap (λ x. x.second) (c.deref-then-deref.ensures ∙ sym c.deref.ensures) ∙ c.if-deref.true in
    gathered_inside _ _ _ _ _ _
    (inside_Choice state course c.args.node.now c.in-Choice.fork fork c.in-Choice.is c.deref-then-deref.ensures
    ∙ ap (λ b. choice_of course b (standing state course fork.left) (standing state course fork.right)) second)
    (gathered_right course (standing state course fork.left) (standing state course fork.right) _ _ _ _ (c.gather.ensures course))

pub returns-else-deref : goal.returns-else-deref
returns-else-deref g t c course =
    let state = g.P.PhraseHits.state in
    let fork = c.deref-else-deref.result.now in
    let second = ap (λ x. x.second) (c.deref-else-deref.ensures ∙ sym c.deref.ensures) ∙ c.if-deref.false in
    gathered_inside _ _ _ _ _ _
    (inside_Choice state course c.args.node.now c.in-Choice.fork fork c.in-Choice.is c.deref-else-deref.ensures
    ∙ ap (λ b. choice_of course b (standing state course fork.left) (standing state course fork.right)) second)
    (gathered_left course (standing state course fork.left) (standing state course fork.right) _ _ _ _ (c.gather-else-deref.ensures course))

pub returns-in-Both : goal.returns-in-Both
returns-in-Both g t c course =
    let state = g.P.PhraseHits.state in
    let first = c.deref-in-Both.result.now in
    let then = c.deref-in-Both-2.result.now in
    let same = ap (λ x. standing state course x.left) (c.deref-in-Both-2.ensures ∙ sym c.deref-in-Both.ensures) in
    gathered_inside _ _ _ _ _ _
    (inside_Both state course c.args.node.now c.in-Both.pair then c.in-Both.is c.deref-in-Both-2.ensures
    ∙ ap (λ s. both_of course s (standing state (course_now course s.rest) then.right)) same)
    (gathered_both course (standing state course first.left) (standing state (course_now course (standing state course first.left).rest) then.right) _ _ _ _ _ _ (c.gather-in-Both.ensures course) (c.gather-in-Both-2.ensures (course_now course (standing state course first.left).rest)))

pub returns-in-MildNot : goal.returns-in-MildNot
returns-in-MildNot g t c course =
    let state = g.P.PhraseHits.state in
    let pair = c.deref-in-MildNot.result.now in
    gathered_inside _ _ _ _ _ _
    (inside_MildNot state course c.args.node.now c.in-MildNot.pair pair c.in-MildNot.is c.deref-in-MildNot.ensures)
    (gathered_apart course (standing state course pair.left) (standing state (without_bounds course) pair.right) _ _ _ _ (c.gather-in-MildNot.ensures course))

pub returns-in-Negated : goal.returns-in-Negated
returns-in-Negated g t c course =
    let state = g.P.PhraseHits.state in
    let negation = c.in-Negated.field-0.value in
    gathered_inside _ _ _ _ _ _
    (inside_Negated state course c.args.node.now c.in-Negated.field-0 negation c.in-Negated.is refl)
    (gathered_negated course negation.there (standing state course negation.operand) (vec_capacity c.args.held.now) c.args.held.now.items)

pub returns-in-Filtered : goal.returns-in-Filtered
returns-in-Filtered g t c course =
    let state = g.P.PhraseHits.state in
    let first = c.deref-in-Filtered.result.now in
    let then = c.deref-in-Filtered-2.result.now in
    let inside = course_inside then.kind course in
    let same = ap (λ x. standing state inside x.operand) (c.deref-in-Filtered-2.ensures ∙ sym c.deref-in-Filtered.ensures) in
    let mid = c.gather-in-Filtered.new.held in
    let new = c.replace_after.new.held in
    let place : c.len-place.result ≡ length c.args.held.now.items = omega (arith, c.len-place.ensures, c.args.held.now.ok.0) in
    gathered_inside _ _ _ _ _ _
    (inside_Filtered state course c.args.node.now c.in-Filtered.sieve then c.in-Filtered.is c.deref-in-Filtered-2.ensures
    ∙ ap (λ s. sieve_of course then.kind then.lead s) same)
    (gathered_filtered course then.kind then.lead (standing state inside first.operand) _ _ _ _ _ _ (c.gather-in-Filtered.ensures inside)
    (subst (λ n. Replaced n (after then.kind (drop n mid.items)) (vec_capacity mid) (vec_capacity new) mid.items new.items) place c.replace_after.ensures))
