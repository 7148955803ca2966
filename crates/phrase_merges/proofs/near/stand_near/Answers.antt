-- Place by place.
use Rattle.std.proofs.Common.{◌≡◌, subst, sym, ◌∙◌, ◌+◌, ◌-◌, ◌≤◌, arith, ℕ}
use Rattle.std.proofs.lemmas.Bool.{eqb-false}
use Rattle.phrase_merges.specs.Choices.{are_near}
use Rattle.phrase_merges.specs.declared.edge.Edge.TheVariants.{Start, End}
use Rattle.phrase_merges.specs.steps.Ahead.{number_at}
use Rattle.phrase_merges.proofs.NearLemmas.{found_near, ends_near}
use Rattle.phrase_merges.proofs.PhraseLemmas.{Narrowing, narrow_fails, narrow_found, narrow_goes_on, narrow_starts}
use Rattle.phrase_merges.proofs.near.stand_near.Goals as goal

pub loop-far-init : goal.loop-far-init
loop-far-init g c =
    let some = eqb-false c.args.phrases.now.len 0 (sym c.is_empty.ensures ∙ c.if-is_empty.false) in
    narrow_starts g.P.PhraseHits.state End c.args.unit (number_at Start c.args.unit) (are_near c.args.size c.args.unit) c.args.phrases.now.items c.args.steps.now
    (omega (arith, some, c.args.phrases.now.ok.0)) c.requires

pub returns-then-far-low-clause-near : goal.returns-then-far-low-clause-near
returns-then-far-low-clause-near g c =
    let near : c.in-Some.far ≤ c.loop-far.low + (c.args.size + 1) = omega (arith, c.if-far-low.true, c.from-far.ensures, c.from-reach.ensures) in
    sym (narrow_found g.P.PhraseHits.state End c.args.unit (number_at Start c.args.unit) (are_near c.args.size c.args.unit) c.args.phrases.now.items c.loop-far.phrases.items
    c.loop-far.low c.in-Some.far c.args.steps.now c.loop-far.steps c.loop-far.invariant c.in-Some.ensures.farthest
    (λ chosen good short. found_near c.args.size c.args.unit c.loop-far.low c.in-Some.far chosen near good short))

pub loop-far-preserved : goal.loop-far-preserved
loop-far-preserved g c =
    let low : c.in-Some.far - (c.args.size + 1) ≡ c.from-far.result - (c.from-reach.result + 1) = omega (arith, c.from-far.ensures, c.from-reach.ensures) in
    let order : c.loop-far.low ≤ c.in-Some.far - (c.args.size + 1) = omega (arith, c.if-far-low.false, c.from-far.ensures, c.from-reach.ensures) in
    let small : c.in-Some.far - (c.args.size + 1) ≤ 4294967296 = omega arith in
    subst (λ (place : ℕ). Narrowing g.P.PhraseHits.state End c.args.unit (number_at Start c.args.unit) (are_near c.args.size c.args.unit) c.args.phrases.now.items c.farthest.new.phrases.items place
    c.args.steps.now c.farthest.new.steps) low
    (narrow_goes_on g.P.PhraseHits.state End c.args.unit (number_at Start c.args.unit) (are_near c.args.size c.args.unit) c.args.phrases.now.items c.loop-far.phrases.items c.farthest.new.phrases.items
    c.loop-far.low (c.in-Some.far - (c.args.size + 1)) c.in-Some.far c.args.steps.now c.loop-far.steps c.farthest.new.steps c.loop-far.invariant c.in-Some.ensures.farthest order small
    (λ chosen reaches passes. ends_near c.args.size c.args.unit c.in-Some.far chosen reaches passes)
    c.farthest.ensures.left c.farthest.ensures.rises c.farthest.ensures.aims c.farthest.ensures.grown)

pub returns-clause-near : goal.returns-clause-near
returns-clause-near g c =
    sym (narrow_fails g.P.PhraseHits.state End c.args.unit (number_at Start c.args.unit) (are_near c.args.size c.args.unit) c.args.phrases.now.items c.loop-far.phrases.items c.loop-far.low
    c.args.steps.now c.loop-far.steps c.loop-far.invariant c.in_default.ensures.farthest)
