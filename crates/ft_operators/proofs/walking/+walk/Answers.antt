-- A node moves as its inside does, and that as the operands do.
use Rattle.std.proofs.Common.{◌≤◌, ◌∙◌, ap, sym, subst, arith, refl, vec_capacity, true}
use Rattle.ft_operators.specs.Course.{course_inside, without_bounds}
use Rattle.ft_operators.specs.Standing.{at_prefix, course_now, frame, one_on}
use Rattle.ft_operators.specs.steps.Forms.{phrase_of}
use Rattle.ft_operators.specs.steps.Nodes.{standing, apart_standing, pair_standing, sieve_standing}
use Rattle.ft_operators.specs.steps.Walking.{MayGoOn}
use Rattle.ft_operators.proofs.BothLemmas.{both_first, both_next_left, pair_settled, pairing_on}
use Rattle.ft_operators.proofs.FrameLemmas.{frames_same, shaped_Both, shaped_Choice, shaped_Filtered, shaped_MildNot}
use Rattle.ft_operators.proofs.SeenLemmas.{apart_may, apart_room, counted, first_shape, next_shape, pair_room, seen_apart, seen_first, seen_may, seen_next}
use Rattle.ft_operators.proofs.TupleLemmas.{kept_shape, standing_room, standing_shape}
use Rattle.ft_operators.proofs.NodeLemmas.{standing_Phrase, standing_Choice, standing_Both, standing_MildNot, standing_Negated, standing_Filtered, inside_Phrase, inside_Choice, inside_Both, inside_MildNot, inside_Negated, inside_Filtered, moved_inside}
use Rattle.ft_operators.proofs.SieveLemmas.{lead_below}
use Rattle.ft_operators.proofs.ApartLemmas.{apart_first, apart_next, sifting_may, apart_settled, sifting_left_may, sifting_on, sifting_fewer, apart_end, trying_may, trying_on, trying_fewer, tried_barred, tried_out}
use Rattle.ft_operators.proofs.WalkLemmas.{choice_first_left, choice_first_right, negation_first, negation_next, sieve_first, sieve_next_choice, sieve_next_way, settling_may, settling_on, settled_here, settled_none, settling_fewer}
use Rattle.ft_operators.proofs.walking.+walk.Goals as goal

pub first-first_of_fork-requires : goal.first-first_of_fork-requires
first-first_of_fork-requires g t c κs within =
    let is = inside_Choice g.P.PhraseHits.state c.args.course c.args.node.now c.in-Choice.fork c.deref_mut.result.now c.in-Choice.is c.deref_mut.ensures.value in
    let deep = ap (λ s. s.weight) (shaped_Choice c.args.node.now c.in-Choice.fork c.deref_mut.result.now c.in-Choice.is c.deref_mut.ensures.value) in
    (omega (arith, c.decreases), (within.0, (within.1, subst (λ s. s.shape.room ≤ vec_capacity c.args.held.now) is c.requires)))

pub first-first_of_pair-requires : goal.first-first_of_pair-requires
first-first_of_pair-requires g t c κs within =
    let is = inside_Both g.P.PhraseHits.state c.args.course c.args.node.now c.in-Both.pair c.deref_mut-in-Both.result.now c.in-Both.is c.deref_mut-in-Both.ensures.value in
    let deep = ap (λ s. s.weight) (shaped_Both c.args.node.now c.in-Both.pair c.deref_mut-in-Both.result.now c.in-Both.is c.deref_mut-in-Both.ensures.value) in
    (omega (arith, c.decreases), (within.0, (within.1, subst (λ s. s.shape.room ≤ vec_capacity c.args.held.now) is c.requires)))

pub first-first_of_sieve-requires : goal.first-first_of_sieve-requires
first-first_of_sieve-requires g t c κs within =
    let is = inside_Filtered g.P.PhraseHits.state c.args.course c.args.node.now c.in-Filtered.sieve c.deref_mut-in-Filtered.result.now c.in-Filtered.is c.deref_mut-in-Filtered.ensures.value in
    let deep = ap (λ s. s.weight) (shaped_Filtered c.args.node.now c.in-Filtered.sieve c.deref_mut-in-Filtered.result.now c.in-Filtered.is c.deref_mut-in-Filtered.ensures.value) in
    (omega (arith, c.decreases), (within.0, (within.1, subst (λ s. s.shape.room ≤ vec_capacity c.args.held.now) is c.requires)))

pub first-returns-in-Phrase : goal.first-returns-in-Phrase
first-returns-in-Phrase g t c =
    let state = g.P.PhraseHits.state in
    let course = c.args.course in
    moved_inside _ _ _ _ _ _ _ _ _ (standing_Phrase state course c.first_of_phrase.new.phrase)
    (ap (λ p. at_prefix course (phrase_of (state p))) c.in-Phrase.phrase-is
    ∙ ap (at_prefix course) (sym (inside_Phrase state course c.args.node.now c.in-Phrase.phrase c.in-Phrase.is)))
    (c.first_of_phrase.ensures course (vec_capacity c.args.held.now) refl)

pub first-returns-in-Choice : goal.first-returns-in-Choice
first-returns-in-Choice g t c =
    let state = g.P.PhraseHits.state in
    let course = c.args.course in
    moved_inside _ _ _ _ _ _ _ _ _ (standing_Choice state course _)
    (ap (at_prefix course) (sym (inside_Choice state course c.args.node.now c.in-Choice.fork c.deref_mut.result.now c.in-Choice.is c.deref_mut.ensures.value)))
    c.first_of_fork.ensures

pub first-returns-in-Both : goal.first-returns-in-Both
first-returns-in-Both g t c =
    let state = g.P.PhraseHits.state in
    let course = c.args.course in
    moved_inside _ _ _ _ _ _ _ _ _ (standing_Both state course _)
    (ap (at_prefix course) (sym (inside_Both state course c.args.node.now c.in-Both.pair c.deref_mut-in-Both.result.now c.in-Both.is c.deref_mut-in-Both.ensures.value)))
    c.first_of_pair.ensures

pub first-returns-in-Negated : goal.first-returns-in-Negated
first-returns-in-Negated g t c =
    let state = g.P.PhraseHits.state in
    let course = c.args.course in
    let old = c.deref_mut-in-Negated.result.now in
    moved_inside _ _ _ _ _ _ _ _ _ (standing_Negated state course _)
    (ap (at_prefix course) (sym (inside_Negated state course c.args.node.now c.in-Negated.negation old c.in-Negated.is c.deref_mut-in-Negated.ensures.value)))
    (negation_first course old.there (standing state course old.operand) (vec_capacity c.args.held.now) c.args.steps.now)

pub first-returns-in-Filtered : goal.first-returns-in-Filtered
first-returns-in-Filtered g t c =
    let state = g.P.PhraseHits.state in
    let course = c.args.course in
    moved_inside _ _ _ _ _ _ _ _ _ (standing_Filtered state course _)
    (ap (at_prefix course) (sym (inside_Filtered state course c.args.node.now c.in-Filtered.sieve c.deref_mut-in-Filtered.result.now c.in-Filtered.is c.deref_mut-in-Filtered.ensures.value)))
    c.first_of_sieve.ensures

pub go_on-next_of_fork-requires : goal.go_on-next_of_fork-requires
go_on-next_of_fork-requires g t c κs within =
    let is = inside_Choice g.P.PhraseHits.state c.args.course c.args.node.now c.in-Choice.fork c.deref_mut.result.now c.in-Choice.is c.deref_mut.ensures.value in
    let deep = ap (λ s. s.weight) (shaped_Choice c.args.node.now c.in-Choice.fork c.deref_mut.result.now c.in-Choice.is c.deref_mut.ensures.value) in
    (omega (arith, c.decreases), (within.0, (within.1, subst (λ s. MayGoOn s (vec_capacity c.args.held.now)) is c.requires)))

pub go_on-next_of_pair-requires : goal.go_on-next_of_pair-requires
go_on-next_of_pair-requires g t c κs within =
    let is = inside_Both g.P.PhraseHits.state c.args.course c.args.node.now c.in-Both.pair c.deref_mut-in-Both.result.now c.in-Both.is c.deref_mut-in-Both.ensures.value in
    let deep = ap (λ s. s.weight) (shaped_Both c.args.node.now c.in-Both.pair c.deref_mut-in-Both.result.now c.in-Both.is c.deref_mut-in-Both.ensures.value) in
    (omega (arith, c.decreases), (within.0, (within.1, subst (λ s. MayGoOn s (vec_capacity c.args.held.now)) is c.requires)))

pub go_on-next_of_sieve-requires : goal.go_on-next_of_sieve-requires
go_on-next_of_sieve-requires g t c κs within =
    let is = inside_Filtered g.P.PhraseHits.state c.args.course c.args.node.now c.in-Filtered.sieve c.deref_mut-in-Filtered.result.now c.in-Filtered.is c.deref_mut-in-Filtered.ensures.value in
    let deep = ap (λ s. s.weight) (shaped_Filtered c.args.node.now c.in-Filtered.sieve c.deref_mut-in-Filtered.result.now c.in-Filtered.is c.deref_mut-in-Filtered.ensures.value) in
    (omega (arith, c.decreases), (within.0, (within.1, subst (λ s. MayGoOn s (vec_capacity c.args.held.now)) is c.requires)))

pub go_on-returns-in-Phrase : goal.go_on-returns-in-Phrase
go_on-returns-in-Phrase g t c =
    let state = g.P.PhraseHits.state in
    let course = c.args.course in
    moved_inside _ _ _ _ _ _ _ _ _ (standing_Phrase state course c.next_of_phrase.new.phrase)
    (ap (λ p. one_on (phrase_of (state p))) c.in-Phrase.phrase-is
    ∙ ap one_on (sym (inside_Phrase state course c.args.node.now c.in-Phrase.phrase c.in-Phrase.is)))
    (c.next_of_phrase.ensures (vec_capacity c.args.held.now))

pub go_on-returns-in-Choice : goal.go_on-returns-in-Choice
go_on-returns-in-Choice g t c =
    let state = g.P.PhraseHits.state in
    let course = c.args.course in
    moved_inside _ _ _ _ _ _ _ _ _ (standing_Choice state course _)
    (ap one_on (sym (inside_Choice state course c.args.node.now c.in-Choice.fork c.deref_mut.result.now c.in-Choice.is c.deref_mut.ensures.value)))
    c.next_of_fork.ensures

pub go_on-returns-in-Both : goal.go_on-returns-in-Both
go_on-returns-in-Both g t c =
    let state = g.P.PhraseHits.state in
    let course = c.args.course in
    moved_inside _ _ _ _ _ _ _ _ _ (standing_Both state course _)
    (ap one_on (sym (inside_Both state course c.args.node.now c.in-Both.pair c.deref_mut-in-Both.result.now c.in-Both.is c.deref_mut-in-Both.ensures.value)))
    c.next_of_pair.ensures

pub go_on-returns-in-Negated : goal.go_on-returns-in-Negated
go_on-returns-in-Negated g t c =
    let state = g.P.PhraseHits.state in
    let course = c.args.course in
    let old = c.deref_mut-in-Negated.result.now in
    moved_inside _ _ _ _ _ _ _ _ _ (standing_Negated state course _)
    (ap one_on (sym (inside_Negated state course c.args.node.now c.in-Negated.negation old c.in-Negated.is c.deref_mut-in-Negated.ensures.value)))
    (negation_next course old.there (standing state course old.operand) (vec_capacity c.args.held.now) c.args.steps.now)

pub go_on-returns-in-Filtered : goal.go_on-returns-in-Filtered
go_on-returns-in-Filtered g t c =
    let state = g.P.PhraseHits.state in
    let course = c.args.course in
    moved_inside _ _ _ _ _ _ _ _ _ (standing_Filtered state course _)
    (ap one_on (sym (inside_Filtered state course c.args.node.now c.in-Filtered.sieve c.deref_mut-in-Filtered.result.now c.in-Filtered.is c.deref_mut-in-Filtered.ensures.value)))
    c.next_of_sieve.ensures

pub first_of_fork-returns-then-first : goal.first_of_fork-returns-then-first
first_of_fork-returns-then-first g t c =
    let at = standing g.P.PhraseHits.state c.args.course in
    let right = at c.args.fork.now.right in
    choice_first_left c.args.course c.args.fork.now.second (at c.args.fork.now.left) (at c.first.new.node) right right _ _ 0 _ _ 0 _ true c.first.ensures c.if-first.true

pub first_of_fork-returns : goal.first_of_fork-returns
first_of_fork-returns g t c =
    let at = standing g.P.PhraseHits.state c.args.course in
    choice_first_right c.args.course c.args.fork.now.second (at c.args.fork.now.left) (at c.first.new.node) (at c.args.fork.now.right) (at c.first-2.new.node) _ _ _ _ _ _ _ _ c.first.ensures c.if-first.false c.first-2.ensures

pub first_of_pair-settle_pair-requires : goal.first_of_pair-settle_pair-requires
first_of_pair-settle_pair-requires g t c κs within =
    let state = g.P.PhraseHits.state in
    let course = c.args.course in
    let pair = c.args.pair.now in
    let kept = first_shape state course pair.left c.first-there.new.node _ _ _ _ _ c.first-there.ensures in
    let weight = ap (λ s. s.weight) kept in
    let room = ap (λ s. s.room) kept in
    let old = pair_room state course pair.left pair.right in
    let new = pair_room state course c.first-there.new.node pair.right in
    (omega arith, (within.0, (within.1, (c.first-there.ensures.there, omega (arith, c.requires, c.first-there.ensures.kept_room)))))

pub first_of_pair-returns : goal.first_of_pair-returns
first_of_pair-returns g t c =
    let state = g.P.PhraseHits.state in
    let course = c.args.course in
    let at = standing state course in
    let pair = c.args.pair.now in
    let beside = course_now course (at pair.left).rest in
    both_first course (at pair.left) (at c.first-there.new.node) (at pair.right) (standing state beside pair.right) (pair_standing state course c.settle_pair.new.pair) (frames_same state course beside pair.right)
    _ _ _ _ _ _ _ _ c.first-there.ensures c.settle_pair.ensures

pub next_of_pair-settle_pair-requires : goal.next_of_pair-settle_pair-requires
next_of_pair-settle_pair-requires g t c κs within =
    let state = g.P.PhraseHits.state in
    let course = c.args.course in
    let pair = c.args.pair.now in
    let right = next_shape state c.course_now-beside.result pair.right c.go_on.new.node _ _ _ _ _ c.go_on.ensures in
    let left = next_shape state course pair.left c.go_on-there.new.node _ _ _ _ _ c.go_on-there.ensures in
    let right_weight = ap (λ s. s.weight) right in
    let left_weight = ap (λ s. s.weight) left in
    let right_room = ap (λ s. s.room) right in
    let left_room = ap (λ s. s.room) left in
    let old = pair_room state course pair.left pair.right in
    let new = pair_room state course c.go_on-there.new.node c.go_on.new.node in (
      omega arith,
      (within.0, (within.1, (c.go_on-there.ensures.there, omega (arith, c.requires.fits, c.course_now-beside.ensures.room, c.go_on.ensures.kept_room, c.go_on-there.ensures.kept_room)))),
    )

pub next_of_pair-returns : goal.next_of_pair-returns
next_of_pair-returns g t c =
    let state = g.P.PhraseHits.state in
    let course = c.args.course in
    let at = standing state course in
    let pair = c.args.pair.now in
    let beside = course_now course (at pair.left).rest in
    let m = seen_next state c.course_now-beside.result beside c.course_now-beside.ensures.course pair.right c.go_on.new.node _ _ _ _ _ c.go_on.ensures in
    both_next_left course (at pair.left) (standing state beside pair.right) _ c.requires (standing state beside c.go_on.new.node) _ _ _ _ _ m c.course_now-beside.ensures.room
    (at c.go_on-there.new.node) (at c.go_on.new.node) (pair_standing state course c.settle_pair.new.pair) _ _ _ _ _ _ c.if-go_on.false (frames_same state course beside c.go_on.new.node)
    c.go_on-there.ensures c.settle_pair.ensures

pub settle_pair-first-requires : goal.settle_pair-first-requires
settle_pair-first-requires g t c κs within =
    let state = g.P.PhraseHits.state in
    let course = c.args.course in
    let old = c.args.pair.now in
    let now = c.loop-there.pair in
    let same = kept_shape state course old.right now.right c.loop-there.invariant.same_right in
    let weight = ap (λ s. s.weight) same in
    let room = ap (λ s. s.room) same in
    let seen = standing_room state c.course_now-beside.result now.right now.right in
    let pair = pair_room state course old.left old.right in
    (omega arith, (within.0, (within.1, omega (arith, c.requires.fits, c.loop-there.invariant.kept_room, c.course_now-beside.ensures.room))))

pub settle_pair-returns-then-first : goal.settle_pair-returns-then-first
settle_pair-returns-then-first g t c =
    let state = g.P.PhraseHits.state in
    let course = c.args.course in
    let now = c.loop-there.pair in
    let beside = c.course_now-beside.result in
    let is = c.course_now-beside.ensures.course in
    pair_settled course _ _ _ _ _ _ _ _ _ c.loop-there.invariant beside is (standing state beside now.right) (standing state beside c.first.new.node) (frames_same state beside course now.right)
    _ _ _ _ c.course_now-beside.ensures.room c.first.ensures (standing state (course_now course (standing state course now.left).rest) c.first.new.node)
    (ap (λ e. standing state e c.first.new.node) (sym is)) c.loop-there-test.true c.if-first.true

pub settle_pair-go_on-there-requires : goal.settle_pair-go_on-there-requires
settle_pair-go_on-there-requires g t c κs within =
    let state = g.P.PhraseHits.state in
    let course = c.args.course in
    let old = c.args.pair.now in
    let now = c.loop-there.pair in
    let same = kept_shape state course old.left now.left c.loop-there.invariant.same_left in
    let weight = ap (λ s. s.weight) same in
    let room = ap (λ s. s.room) same in
    let seen = standing_room state course now.left now.left in
    let pair = pair_room state course old.left old.right in (
      omega arith,
      (
        within.0,
        (
          within.1,
          record {
            there = sym c.loop-there.invariant.there_now ∙ c.loop-there-test.true;
            fits = omega (arith, c.requires.fits, c.loop-there.invariant.kept_room, c.course_now-beside.ensures.room, c.first.ensures.kept_room);
          },
        ),
      ),
    )

pub settle_pair-loop-there-preserved : goal.settle_pair-loop-there-preserved
settle_pair-loop-there-preserved g t c =
    let state = g.P.PhraseHits.state in
    let course = c.args.course in
    let now = c.loop-there.pair in
    let beside = c.course_now-beside.result in
    pairing_on course _ _ _ _ _ _ _ _ _ c.loop-there.invariant beside c.course_now-beside.ensures.course (standing state beside now.right) (standing state beside c.first.new.node)
    (frames_same state beside course now.right) _ _ _ _ c.course_now-beside.ensures.room c.first.ensures (standing state course c.first.new.node) (standing state course c.go_on-there.new.node)
    (frames_same state course beside c.first.new.node) _ _ _ c.go_on-there.ensures c.if-first.false

pub first_of_sieve-settle-requires : goal.first_of_sieve-settle-requires
first_of_sieve-settle-requires g t c κs within =
    let state = g.P.PhraseHits.state in
    let sieve = c.args.sieve.now in
    let inside = course_inside sieve.kind c.args.course in
    let m = seen_first state c.course_inside-inside.result inside c.course_inside-inside.ensures sieve.operand c.first-there.new.node _ _ _ _ _ c.first-there.ensures in
    let kept = first_shape state inside sieve.operand c.first-there.new.node _ _ _ _ _ m in
    let weight = ap (λ s. s.weight) kept in
    let room = ap (λ s. s.room) kept in
    let old = standing_room state inside sieve.operand sieve.operand in
    let new = standing_room state inside c.first-there.new.node c.first-there.new.node in
    (omega arith, (within.0, (within.1, (m.there, omega (arith, c.requires, m.kept_room)))))

pub first_of_sieve-returns : goal.first_of_sieve-returns
first_of_sieve-returns g t c =
    let state = g.P.PhraseHits.state in
    let course = c.args.course in
    let sieve = c.args.sieve.now in
    let inside = course_inside sieve.kind course in
    sieve_first course sieve.kind sieve.lead (standing state inside sieve.operand) (standing state inside c.first-there.new.node) (sieve_standing state course c.settle.new.sieve)
    _ _ _ _ _ _ _ _ (seen_first state c.course_inside-inside.result inside c.course_inside-inside.ensures sieve.operand c.first-there.new.node _ _ _ _ _ c.first-there.ensures) c.settle.ensures

pub next_of_sieve-overflow_add-sieve : goal.next_of_sieve-overflow_add-sieve
next_of_sieve-overflow_add-sieve g t c =
    let sieve = c.args.sieve.now in
    omega (arith, lead_below sieve.kind c.args.course sieve.lead ((standing g.P.PhraseHits.state (course_inside sieve.kind c.args.course) sieve.operand).rest) c.requires.there, counted g.P.PhraseHits.state c.args.sieve.now.kind c.args.sieve.now.operand _ _ _ c.course_inside-inside.ensures c.choice_count-count.ensures.count, c.choice_count-count.type_inv)

pub next_of_sieve-returns-then-sieve-count : goal.next_of_sieve-returns-then-sieve-count
next_of_sieve-returns-then-sieve-count g t c =
    let operand = standing g.P.PhraseHits.state (course_inside c.args.sieve.now.kind c.args.course) c.args.sieve.now.operand in
    sieve_next_choice c.args.course c.args.sieve.now.kind c.args.sieve.now.lead operand operand operand _ 0 _ _ 0 0 true true
    c.choice_count-count.result (counted g.P.PhraseHits.state c.args.sieve.now.kind c.args.sieve.now.operand _ _ _ c.course_inside-inside.ensures c.choice_count-count.ensures.count) c.if-sieve-count.true c.choice_count-count.ensures.room

pub next_of_sieve-settle-requires : goal.next_of_sieve-settle-requires
next_of_sieve-settle-requires g t c κs within =
    let state = g.P.PhraseHits.state in
    let sieve = c.args.sieve.now in
    let inside = course_inside sieve.kind c.args.course in
    let m = seen_next state c.course_inside-inside.result inside c.course_inside-inside.ensures sieve.operand c.go_on-there.new.node _ _ _ _ _ c.go_on-there.ensures in
    let kept = next_shape state inside sieve.operand c.go_on-there.new.node _ _ _ _ _ m in
    let weight = ap (λ s. s.weight) kept in
    let room = ap (λ s. s.room) kept in
    let old = standing_room state inside sieve.operand sieve.operand in
    let new = standing_room state inside c.go_on-there.new.node c.go_on-there.new.node in
    (omega arith, (within.0, (within.1, (m.there, omega (arith, c.requires.fits, c.choice_count-count.ensures.room, m.kept_room)))))

pub next_of_sieve-returns : goal.next_of_sieve-returns
next_of_sieve-returns g t c =
    let state = g.P.PhraseHits.state in
    let course = c.args.course in
    let sieve = c.args.sieve.now in
    let inside = course_inside sieve.kind course in
    sieve_next_way course sieve.kind sieve.lead (standing state inside sieve.operand) (standing state inside c.go_on-there.new.node) (sieve_standing state course c.settle.new.sieve)
    _ _ _ _ _ _ _ _ c.choice_count-count.result _ (counted g.P.PhraseHits.state c.args.sieve.now.kind c.args.sieve.now.operand _ _ _ c.course_inside-inside.ensures c.choice_count-count.ensures.count) c.if-sieve-count.false c.requires.there c.choice_count-count.ensures.room
    (seen_next state c.course_inside-inside.result inside c.course_inside-inside.ensures sieve.operand c.go_on-there.new.node _ _ _ _ _ c.go_on-there.ensures) c.settle.ensures

pub settle-choice_count-requires : goal.settle-choice_count-requires
settle-choice_count-requires g t c =
    seen_may g.P.PhraseHits.state c.course_inside-inside.result _ c.course_inside-inside.ensures c.loop-there.sieve.operand _
    (settling_may c.args.course _ _ _ _ _ _ _ _ _ _ c.loop-there.invariant _ c.requires.fits (omega arith) c.loop-there-test.true)

pub settle-returns-then-choice_count-gt0 : goal.settle-returns-then-choice_count-gt0
settle-returns-then-choice_count-gt0 g t c =
    settled_here c.args.course _ _ _ _ _ _ _ _ _ _ c.loop-there.invariant c.choice_count.result _ (counted g.P.PhraseHits.state c.loop-there.sieve.kind c.loop-there.sieve.operand _ _ _ c.course_inside-inside.ensures c.choice_count.ensures.count) c.if-choice_count-gt0.true c.choice_count.ensures.room

pub settle-go_on-there-requires : goal.settle-go_on-there-requires
settle-go_on-there-requires g t c κs within =
    let state = g.P.PhraseHits.state in
    let course = c.args.course in
    let old = c.args.sieve.now in
    let now = c.loop-there.sieve in
    let was = standing_shape state (course_inside old.kind course) old.operand old.operand in
    let is = standing_shape state (course_inside now.kind course) now.operand now.operand in
    let same = ap (λ s. s.weight) (sym is ∙ c.loop-there.invariant.same_shape ∙ was) in
    let may = settling_may c.args.course _ _ _ _ _ _ _ _ _ _ c.loop-there.invariant _ c.requires.fits (omega arith) c.loop-there-test.true in (
      omega arith,
      (within.0, (within.1, seen_may state c.course_inside-inside.result (course_inside now.kind course) c.course_inside-inside.ensures now.operand _ (record { there = may.there; fits = omega (arith, may.fits, c.choice_count.ensures.room) }))),
    )

pub settle-loop-there-smaller : goal.settle-loop-there-smaller
settle-loop-there-smaller g t c =
    let state = g.P.PhraseHits.state in
    let now = c.loop-there.sieve in
    let inside = course_inside now.kind c.args.course in
    let at = standing state inside in
    settling_fewer (at now.operand) (at c.go_on-there.new.node) _ _ _ _ _ (sym c.loop-there.invariant.there ∙ c.loop-there-test.true)
    (seen_next state c.course_inside-inside.result inside c.course_inside-inside.ensures now.operand c.go_on-there.new.node _ _ _ _ _ c.go_on-there.ensures)

pub settle-loop-there-preserved : goal.settle-loop-there-preserved
settle-loop-there-preserved g t c =
    let state = g.P.PhraseHits.state in
    let now = c.loop-there.sieve in
    let inside = course_inside now.kind c.args.course in
    settling_on c.args.course _ _ _ _ _ _ _ _ _ _ c.loop-there.invariant c.choice_count.result _ _ _ (standing state inside c.go_on-there.new.node) _ (counted g.P.PhraseHits.state c.loop-there.sieve.kind c.loop-there.sieve.operand _ _ _ c.course_inside-inside.ensures c.choice_count.ensures.count) c.if-choice_count-gt0.false c.choice_count.ensures.room
    (seen_next state c.course_inside-inside.result inside c.course_inside-inside.ensures now.operand c.go_on-there.new.node _ _ _ _ _ c.go_on-there.ensures)

pub settle-returns : goal.settle-returns
settle-returns g t c = settled_none c.args.course _ _ _ _ _ _ _ _ _ _ c.loop-there.invariant c.loop-there-test.false

pub first-first_apart-requires : goal.first-first_apart-requires
first-first_apart-requires g t c κs within =
    let is = inside_MildNot g.P.PhraseHits.state c.args.course c.args.node.now c.in-MildNot.pair c.deref_mut-in-MildNot.result.now c.in-MildNot.is c.deref_mut-in-MildNot.ensures.value in
    let deep = ap (λ s. s.weight) (shaped_MildNot c.args.node.now c.in-MildNot.pair c.deref_mut-in-MildNot.result.now c.in-MildNot.is c.deref_mut-in-MildNot.ensures.value) in
    (omega (arith, c.decreases), (within.0, (within.1, subst (λ s. s.shape.room ≤ vec_capacity c.args.held.now) is c.requires)))

pub first-returns-in-MildNot : goal.first-returns-in-MildNot
first-returns-in-MildNot g t c =
    let state = g.P.PhraseHits.state in
    let course = c.args.course in
    moved_inside _ _ _ _ _ _ _ _ _ (standing_MildNot state course _)
    (ap (at_prefix course) (sym (inside_MildNot state course c.args.node.now c.in-MildNot.pair c.deref_mut-in-MildNot.result.now c.in-MildNot.is c.deref_mut-in-MildNot.ensures.value)))
    c.first_apart.ensures

pub go_on-next_apart-requires : goal.go_on-next_apart-requires
go_on-next_apart-requires g t c κs within =
    let is = inside_MildNot g.P.PhraseHits.state c.args.course c.args.node.now c.in-MildNot.pair c.deref_mut-in-MildNot.result.now c.in-MildNot.is c.deref_mut-in-MildNot.ensures.value in
    let deep = ap (λ s. s.weight) (shaped_MildNot c.args.node.now c.in-MildNot.pair c.deref_mut-in-MildNot.result.now c.in-MildNot.is c.deref_mut-in-MildNot.ensures.value) in
    (omega (arith, c.decreases), (within.0, (within.1, subst (λ s. MayGoOn s (vec_capacity c.args.held.now)) is c.requires)))

pub go_on-returns-in-MildNot : goal.go_on-returns-in-MildNot
go_on-returns-in-MildNot g t c =
    let state = g.P.PhraseHits.state in
    let course = c.args.course in
    moved_inside _ _ _ _ _ _ _ _ _ (standing_MildNot state course _)
    (ap one_on (sym (inside_MildNot state course c.args.node.now c.in-MildNot.pair c.deref_mut-in-MildNot.result.now c.in-MildNot.is c.deref_mut-in-MildNot.ensures.value)))
    c.next_apart.ensures

pub first_apart-settle_apart-requires : goal.first_apart-settle_apart-requires
first_apart-settle_apart-requires g t c κs within =
    let state = g.P.PhraseHits.state in
    let course = c.args.course in
    let pair = c.args.pair.now in
    let kept = first_shape state course pair.left c.first-there.new.node _ _ _ _ _ c.first-there.ensures in
    let weight = ap (λ s. s.weight) kept in
    let room = ap (λ s. s.room) kept in
    let old = apart_room state course pair.left pair.right in
    let new = apart_room state course c.first-there.new.node pair.right in
    (omega arith, (within.0, (within.1, (c.first-there.ensures.there, omega (arith, c.requires, c.first-there.ensures.kept_room)))))

pub first_apart-returns : goal.first_apart-returns
first_apart-returns g t c =
    let state = g.P.PhraseHits.state in
    let course = c.args.course in
    apart_first course (standing state course c.args.pair.now.left) (standing state course c.first-there.new.node) (standing state (without_bounds course) c.args.pair.now.right) (apart_standing state course c.settle_apart.new.pair)
    _ _ _ _ _ _ _ _ c.first-there.ensures c.settle_apart.ensures

pub next_apart-settle_apart-requires : goal.next_apart-settle_apart-requires
next_apart-settle_apart-requires g t c κs within =
    let state = g.P.PhraseHits.state in
    let course = c.args.course in
    let pair = c.args.pair.now in
    let kept = next_shape state course pair.left c.go_on-there.new.node _ _ _ _ _ c.go_on-there.ensures in
    let weight = ap (λ s. s.weight) kept in
    let room = ap (λ s. s.room) kept in
    let old = apart_room state course pair.left pair.right in
    let new = apart_room state course c.go_on-there.new.node pair.right in
    (omega arith, (within.0, (within.1, (c.go_on-there.ensures.there, omega (arith, c.requires.fits, c.go_on-there.ensures.kept_room)))))

pub next_apart-returns : goal.next_apart-returns
next_apart-returns g t c =
    let state = g.P.PhraseHits.state in
    let course = c.args.course in
    apart_next course (standing state course c.args.pair.now.left) (standing state course c.go_on-there.new.node) (standing state (without_bounds course) c.args.pair.now.right) (apart_standing state course c.settle_apart.new.pair)
    _ _ _ _ _ _ _ _ c.go_on-there.ensures c.settle_apart.ensures

pub settle_apart-is_admitted-requires : goal.settle_apart-is_admitted-requires
settle_apart-is_admitted-requires g t c κs within =
    let state = g.P.PhraseHits.state in
    let same_left = ap (λ s. s.weight) (kept_shape state c.args.course c.args.pair.now.left c.loop-there.pair.left c.loop-there.invariant.same_left) in
    let same_right = ap (λ s. s.weight) (kept_shape state (without_bounds c.args.course) c.args.pair.now.right c.loop-there.pair.right c.loop-there.invariant.same_right) in
    (omega arith, (within.0, (within.1, sifting_may c.args.course _ _ _ _ _ _ _ _ _ c.loop-there.invariant _ c.requires.fits (omega arith) c.loop-there-test.true)))

pub settle_apart-returns-then-is_admitted : goal.settle_apart-returns-then-is_admitted
settle_apart-returns-then-is_admitted g t c =
    apart_settled c.args.course _ _ _ _ _ _ _ _ _ c.loop-there.invariant _ _ _ _ _ c.is_admitted.ensures c.loop-there-test.true c.if-is_admitted.true

pub settle_apart-go_on-there-requires : goal.settle_apart-go_on-there-requires
settle_apart-go_on-there-requires g t c κs within =
    let state = g.P.PhraseHits.state in
    let now = kept_shape state c.args.course c.args.pair.now.left c.loop-there.pair.left c.loop-there.invariant.same_left in
    let tried = kept_shape state c.args.course c.loop-there.pair.left c.is_admitted.new.pair.left (ap frame c.is_admitted.ensures.same_left) in
    let same = ap (λ s. s.weight) (tried ∙ now) in (
      omega arith,
      (within.0, (within.1, sifting_left_may c.args.course _ _ _ _ _ _ _ _ _ c.loop-there.invariant _ _ _ _ _ c.is_admitted.ensures _ c.requires.fits (omega arith) c.loop-there-test.true)),
    )

pub settle_apart-loop-there-smaller : goal.settle_apart-loop-there-smaller
settle_apart-loop-there-smaller g t c =
    sifting_fewer c.args.course _ _ _ _ _ _ _ _ _ c.loop-there.invariant _ _ _ _ _ c.is_admitted.ensures _ _ _ _ c.go_on-there.ensures c.loop-there-test.true

pub settle_apart-loop-there-preserved : goal.settle_apart-loop-there-preserved
settle_apart-loop-there-preserved g t c =
    sifting_on c.args.course _ _ _ _ _ _ _ _ _ c.loop-there.invariant _ _ _ _ _ c.is_admitted.ensures _ _ _ _ c.go_on-there.ensures c.if-is_admitted.false

pub settle_apart-returns : goal.settle_apart-returns
settle_apart-returns g t c = apart_end c.args.course _ _ _ _ _ _ _ _ _ c.loop-there.invariant c.loop-there-test.false

pub is_admitted-course_out-beside-requires : goal.is_admitted-course_out-beside-requires
is_admitted-course_out-beside-requires g t c =
    let at = standing g.P.PhraseHits.state c.args.course in
    let pair = c.args.pair.now in
    apart_may c.args.course (at pair.left) (standing g.P.PhraseHits.state (without_bounds c.args.course) pair.right) _ c.requires

pub is_admitted-first-there-requires : goal.is_admitted-first-there-requires
is_admitted-first-there-requires g t c κs within =
    let state = g.P.PhraseHits.state in
    let pair = c.args.pair.now in
    let both = apart_room state c.args.course pair.left pair.right in
    let right = standing_room state c.course_out-beside.result pair.right pair.right in
    (omega arith, (within.0, (within.1, omega (arith, both, right, c.requires.fits, c.course_out-beside.ensures.room))))

pub is_admitted-go_on-there-requires : goal.is_admitted-go_on-there-requires
is_admitted-go_on-there-requires g t c κs within =
    let state = g.P.PhraseHits.state in
    let course = c.args.course in
    let pair = c.args.pair.now in
    let beside = c.course_out-beside.result in
    let same = ap (λ s. s.weight) (kept_shape state beside pair.right c.loop-there.pair.right c.loop-there.invariant.same_right) in
    let may = trying_may beside _ _ _ _ _ _ _ _ _ _ c.loop-there.invariant course _ (seen_apart state course beside pair.left pair.right _ c.requires) (omega arith) c.loop-there-test.true in
    (omega arith, (within.0, (within.1, record { there = may.right_there; fits = omega (arith, may.fits, c.with_way-tried.ensures.room) })))

pub is_admitted-loop-there-smaller : goal.is_admitted-loop-there-smaller
is_admitted-loop-there-smaller g t c =
    trying_fewer c.course_out-beside.result _ _ _ _ _ _ _ _ _ _ c.loop-there.invariant _ _ _ _ _ c.loop-there-test.true c.go_on-there.ensures

pub is_admitted-loop-there-preserved : goal.is_admitted-loop-there-preserved
is_admitted-loop-there-preserved g t c =
    let state = g.P.PhraseHits.state in
    let course = c.args.course in
    let pair = c.args.pair.now in
    let beside = c.course_out-beside.result in
    let may = trying_may beside _ _ _ _ _ _ _ _ _ _ c.loop-there.invariant course _ (seen_apart state course beside pair.left pair.right _ c.requires) (omega arith) c.loop-there-test.true in
    trying_on beside _ _ _ _ _ _ _ _ _ _ c.loop-there.invariant c.with_way-tried.result _ _ _ _ _ c.loop-there-test.true (c.with_way-tried.ensures.tried course beside may) c.with_way-tried.ensures.room c.go_on-there.ensures

pub is_admitted-returns-then-is_barred : goal.is_admitted-returns-then-is_barred
is_admitted-returns-then-is_barred g t c =
    let state = g.P.PhraseHits.state in
    let course = c.args.course in
    let pair = c.args.pair.now in
    let beside = c.course_out-beside.result in
    let all = without_bounds course in
    let may = trying_may beside _ _ _ _ _ _ _ _ _ _ c.loop-there.invariant course _ (seen_apart state course beside pair.left pair.right _ c.requires) (omega arith) c.loop-there-test.true in
    tried_barred beside _ _ _ _ _ _ _ _ _ _ c.loop-there.invariant course c.course_out-beside.ensures.course (standing state all pair.right) (standing state all c.loop-there.pair.right)
    (frames_same state all beside pair.right) (frames_same state all beside c.loop-there.pair.right)
    c.with_way-tried.result _ c.loop-there-test.true (c.with_way-tried.ensures.tried course beside may) (sym c.is_barred.ensures ∙ c.if-is_barred.true) c.with_way-tried.ensures.room

pub is_admitted-returns : goal.is_admitted-returns
is_admitted-returns g t c =
    let state = g.P.PhraseHits.state in
    let course = c.args.course in
    let beside = c.course_out-beside.result in
    let all = without_bounds course in
    tried_out beside _ _ _ _ _ _ _ _ _ _ c.loop-there.invariant course c.course_out-beside.ensures.course (standing state all c.args.pair.now.right) (standing state all c.loop-there.pair.right)
    (frames_same state all beside c.args.pair.now.right) (frames_same state all beside c.loop-there.pair.right) _ c.admits.ensures c.loop-there-test.false
