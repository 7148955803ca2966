-- Place by place.
use Rattle.std.proofs.Common.{◌≡◌, sym, ◌∙◌, suc, ◌+◌, ◌-◌, ◌<◌, ◌≤◌, arith, Some, None}
use Rattle.phrase_merges.proofs.ApartLemmas.{any_after, end_is, first_ends, found_after, near_after, passing_on, passing_starts, second_ends, too_far}
use Rattle.phrase_merges.proofs.apart.stands_after.Goals as goal

pub loop-end-init : goal.loop-end-init
loop-end-init g c = passing_starts c.args.low c.args.high c.args.unit g.P.PhraseHits.state c.args.first.now.items c.args.second.now.items c.args.steps.now c.requires.first c.requires.second

pub returns-in-None-clause-after : goal.returns-in-None-clause-after
returns-in-None-clause-after g c =
    let from_is : c.from-after.result + 1 + c.from.result ≡ suc (c.in-Some.end + c.args.low) = omega (arith, c.from-after.ensures, c.from.ensures) in
    sym (second_ends c.args.low c.args.high c.args.unit g.P.PhraseHits.state _ c.args.first.now.items c.loop-end.first.items c.args.second.now.items c.loop-end.second.items c.loop-end.place
    c.args.steps.now c.loop-end.steps c.loop-end.invariant c.in-Some.end (c.from-after.result + 1 + c.from.result) from_is c.in-Some.ensures.least
    c.in-None.ensures.least)

pub returns-in-None-high-clause-after : goal.returns-in-None-high-clause-after
returns-in-None-high-clause-after g c =
    let from_is : c.from-after.result + 1 + c.from.result ≡ suc (c.in-Some.end + c.args.low) = omega (arith, c.from-after.ensures, c.from.ensures) in
    let high : c.args.high ≡ None = sym c.loop-end.invariant.high_same ∙ c.in-None-high.is in
    sym (found_after c.args.low c.args.high c.args.unit g.P.PhraseHits.state _ c.args.first.now.items c.loop-end.first.items c.args.second.now.items c.loop-end.second.items c.loop-end.place
    c.args.steps.now c.loop-end.steps c.loop-end.invariant c.in-Some.end (c.from-after.result + 1 + c.from.result) from_is c.in-Some.ensures.least
    c.in-Some-least_number.start c.in-Some-least_number.ensures.least
    (λ a b ends from to. any_after c.args.low c.args.high c.args.unit a b high (omega (arith, from_is, ends, from))))

pub returns-then-start-after-clause-after : goal.returns-then-start-after-clause-after
returns-then-start-after-clause-after g c =
    let from_is : c.from-after.result + 1 + c.from.result ≡ suc (c.in-Some.end + c.args.low) = omega (arith, c.from-after.ensures, c.from.ensures) in
    let high : c.args.high ≡ Some c.in-Some-high.high = sym c.loop-end.invariant.high_same ∙ c.in-Some-high.is in
    let near : c.in-Some-least_number.start ≤ suc (c.in-Some.end + c.in-Some-high.high) = omega (arith, c.if-start-after.true, c.from-start.ensures, c.from-after.ensures, c.from-reach.ensures) in
    sym (found_after c.args.low c.args.high c.args.unit g.P.PhraseHits.state _ c.args.first.now.items c.loop-end.first.items c.args.second.now.items c.loop-end.second.items c.loop-end.place
    c.args.steps.now c.loop-end.steps c.loop-end.invariant c.in-Some.end (c.from-after.result + 1 + c.from.result) from_is c.in-Some.ensures.least
    c.in-Some-least_number.start c.in-Some-least_number.ensures.least
    (λ a b ends from to. near_after c.args.low c.args.high c.in-Some-high.high c.args.unit a b high (omega (arith, from_is, ends, from)) (omega (arith, ends, to, near))))

pub loop-end-smaller : goal.loop-end-smaller
loop-end-smaller g c =
    let from_is : c.from-after.result + 1 + c.from.result ≡ suc (c.in-Some.end + c.args.low) = omega (arith, c.from-after.ensures, c.from.ensures) in
    let order = end_is c.args.low c.args.high c.args.unit g.P.PhraseHits.state _ c.args.first.now.items c.loop-end.first.items c.args.second.now.items c.loop-end.second.items c.loop-end.place
    c.args.steps.now c.loop-end.steps c.loop-end.invariant c.in-Some.end (c.from-after.result + 1 + c.from.result) from_is c.in-Some.ensures.least in
    let small = c.loop-end.invariant.place_is in
    omega (arith, order, small, c.if-start-after.false, c.from-after.ensures)

pub loop-end-preserved : goal.loop-end-preserved
loop-end-preserved g c =
    let from_is : c.from-after.result + 1 + c.from.result ≡ suc (c.in-Some.end + c.args.low) = omega (arith, c.from-after.ensures, c.from.ensures) in
    let high : c.args.high ≡ Some c.in-Some-high.high = sym c.loop-end.invariant.high_same ∙ c.in-Some-high.is in
    let later = c.from-start.result - 1 - c.from-reach.result in
    let less : later + c.in-Some-high.high < c.in-Some-least_number.start = omega (arith, c.if-start-after.false, c.from-start.ensures, c.from-reach.ensures) in
    let order : c.in-Some.end ≤ later = omega (arith, c.if-start-after.false, c.from-after.ensures) in
    let small : later ≤ 4294967296 = omega (arith, c.from-start.ensures) in
    passing_on c.args.low c.args.high c.args.unit g.P.PhraseHits.state _ c.args.first.now.items c.loop-end.first.items c.args.second.now.items c.loop-end.second.items c.loop-end.place
    c.args.steps.now c.loop-end.steps c.loop-end.invariant c.in-Some.end (c.from-after.result + 1 + c.from.result) from_is c.in-Some.ensures.least
    c.in-Some-least_number.start c.in-Some-least_number.ensures.least (Some c.in-Some-high.high) c.least_number.new.sources.items c.least_number-in-Some.new.sources.items later c.least_number-in-Some.new.steps (sym high)
    (λ a b after from. too_far c.args.low c.args.high c.in-Some-high.high c.in-Some-least_number.start later c.args.unit a b high less after from) order small
    c.least_number.ensures.left c.least_number.ensures.rises c.least_number.ensures.aims
    c.least_number-in-Some.ensures.left c.least_number-in-Some.ensures.rises c.least_number-in-Some.ensures.aims
    (omega (arith, c.least_number.ensures.grown, c.least_number-in-Some.ensures.grown))

pub returns-clause-after : goal.returns-clause-after
returns-clause-after g c =
    sym (first_ends c.args.low c.args.high c.args.unit g.P.PhraseHits.state _ c.args.first.now.items c.loop-end.first.items c.args.second.now.items c.loop-end.second.items c.loop-end.place
    c.args.steps.now c.loop-end.steps c.loop-end.invariant c.in_default.ensures.least)
