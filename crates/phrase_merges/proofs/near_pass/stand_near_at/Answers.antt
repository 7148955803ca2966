-- End by end.
use Rattle.std.proofs.Common.{◌∙◌, ap, sym, subst, arith, Some, None}
use Rattle.ft_operators.specs.Walk.{own_span}
use Rattle.phrase_merges.specs.NearTrees.{passage_of}
use Rattle.phrase_merges.specs.steps.Passing.{aimed}
use Rattle.phrase_merges.proofs.NearPassLemmas.{Ahead, ends_left, fewer_ends, no_start, pass_fails, pass_finds, pass_goes_on, pass_keeps, pass_moves, pass_says, pass_starts}
use Rattle.phrase_merges.proofs.near_pass.stand_near_at.Goals as goal

pub loop-next-init : goal.loop-next-init
loop-next-init g c = record {
  ahead = pass_starts c.args.doc.0 c.args.span (passage_of g.P.PhraseHits.state c.args.tree.now) (passage_of g.P.PhraseHits.state c.aim-next.new.tree) c.aim-next.result
      c.requires.told c.requires.rising c.aim-next.ensures.aimed;
  grown = c.aim-next.ensures.grown;
}

pub returns-then-is_some-clause-says : goal.returns-then-is_some-clause-says
returns-then-is_some-clause-says g c =
    let state = g.P.PhraseHits.state in
    let old = passage_of state c.args.tree.now in
    let whole = aimed c.args.doc.0 c.args.span old in
    let now = passage_of state c.loop-next.tree in
    let after = passage_of state c.pass-passed.new.tree in
    let so_far : Ahead whole now None (Some c.in-Some.end) = subst (Ahead whole now None) c.in-Some.is c.loop-next.invariant.ahead in
    let on = pass_goes_on whole now after None c.in-Some.end c.pass-passed.result so_far c.pass-passed.ensures.moved in
    sym (pass_finds whole after c.pass-passed.result.start c.pass-passed.result.next on (sym c.is_some.ensures ∙ c.if-is_some.true))
    ∙ pass_says (own_span c.args.span) c.args.doc.0 c.args.span old after c.pass-passed.result.start c.pass-passed.result.next on

pub returns-then-is_some-clause-aims : goal.returns-then-is_some-clause-aims
returns-then-is_some-clause-aims g c =
    let state = g.P.PhraseHits.state in
    let old = passage_of state c.args.tree.now in
    let whole = aimed c.args.doc.0 c.args.span old in
    let now = passage_of state c.loop-next.tree in
    let after = passage_of state c.pass-passed.new.tree in
    let so_far : Ahead whole now None (Some c.in-Some.end) = subst (Ahead whole now None) c.in-Some.is c.loop-next.invariant.ahead in
    let on = pass_goes_on whole now after None c.in-Some.end c.pass-passed.result so_far c.pass-passed.ensures.moved in
    (pass_keeps c.args.doc.0 c.args.span old after c.pass-passed.result.start c.pass-passed.result.next on).0

pub returns-then-is_some-clause-lists : goal.returns-then-is_some-clause-lists
returns-then-is_some-clause-lists g c =
    let state = g.P.PhraseHits.state in
    let old = passage_of state c.args.tree.now in
    let whole = aimed c.args.doc.0 c.args.span old in
    let now = passage_of state c.loop-next.tree in
    let after = passage_of state c.pass-passed.new.tree in
    let so_far : Ahead whole now None (Some c.in-Some.end) = subst (Ahead whole now None) c.in-Some.is c.loop-next.invariant.ahead in
    let on = pass_goes_on whole now after None c.in-Some.end c.pass-passed.result so_far c.pass-passed.ensures.moved in
    (pass_keeps c.args.doc.0 c.args.span old after c.pass-passed.result.start c.pass-passed.result.next on).1

pub loop-next-smaller : goal.loop-next-smaller
loop-next-smaller g c =
    let state = g.P.PhraseHits.state in
    let old = passage_of state c.args.tree.now in
    let whole = aimed c.args.doc.0 c.args.span old in
    let now = passage_of state c.loop-next.tree in
    let after = passage_of state c.pass-passed.new.tree in
    let so_far : Ahead whole now None (Some c.in-Some.end) = subst (Ahead whole now None) c.in-Some.is c.loop-next.invariant.ahead in
    let fewer = fewer_ends c.in-Some.end c.pass-passed.result.next (omega arith)
    (pass_moves whole now after None c.in-Some.end c.pass-passed.result so_far c.pass-passed.ensures.moved) in
    let was = ap ends_left c.in-Some.is in
    omega (arith, fewer, was)

pub loop-next-preserved : goal.loop-next-preserved
loop-next-preserved g c =
    let state = g.P.PhraseHits.state in
    let old = passage_of state c.args.tree.now in
    let whole = aimed c.args.doc.0 c.args.span old in
    let now = passage_of state c.loop-next.tree in
    let after = passage_of state c.pass-passed.new.tree in
    let so_far : Ahead whole now None (Some c.in-Some.end) = subst (Ahead whole now None) c.in-Some.is c.loop-next.invariant.ahead in
    let on = pass_goes_on whole now after None c.in-Some.end c.pass-passed.result so_far c.pass-passed.ensures.moved in
    record {
      ahead = subst (λ start. Ahead whole after start c.pass-passed.result.next) (no_start c.pass-passed.result.start (sym c.is_some.ensures ∙ c.if-is_some.false)) on;
      grown = omega (arith, c.loop-next.invariant.grown, c.pass-passed.ensures.grown);
    }

pub returns-clause-says : goal.returns-clause-says
returns-clause-says g c =
    let state = g.P.PhraseHits.state in
    let old = passage_of state c.args.tree.now in
    let whole = aimed c.args.doc.0 c.args.span old in
    let now = passage_of state c.loop-next.tree in
    let last : Ahead whole now None None = subst (Ahead whole now None) c.in_default.is c.loop-next.invariant.ahead in
    sym (pass_fails whole now last) ∙ pass_says (own_span c.args.span) c.args.doc.0 c.args.span old now None None last

pub returns-clause-aims : goal.returns-clause-aims
returns-clause-aims g c =
    let state = g.P.PhraseHits.state in
    let old = passage_of state c.args.tree.now in
    let whole = aimed c.args.doc.0 c.args.span old in
    let now = passage_of state c.loop-next.tree in
    let last : Ahead whole now None None = subst (Ahead whole now None) c.in_default.is c.loop-next.invariant.ahead in
    (pass_keeps c.args.doc.0 c.args.span old now None None last).0

pub returns-clause-lists : goal.returns-clause-lists
returns-clause-lists g c =
    let state = g.P.PhraseHits.state in
    let old = passage_of state c.args.tree.now in
    let whole = aimed c.args.doc.0 c.args.span old in
    let now = passage_of state c.loop-next.tree in
    let last : Ahead whole now None None = subst (Ahead whole now None) c.in_default.is c.loop-next.invariant.ahead in
    (pass_keeps c.args.doc.0 c.args.span old now None None last).1
