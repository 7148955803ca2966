-- One phrase more was gone on.
use Rattle.std.proofs.Common.{arith}
use Rattle.std.proofs.lemmas.List.{length-map}
use Rattle.ft_operators.specs.Tuples.{walk_of}
use Rattle.index_phrases.specs.Cursors.{state_of}
use Rattle.match_marks.specs.steps.WindowRuns.{walks_of}
use Rattle.match_marks.proofs.WalkedHits.{own_at}
use Rattle.match_marks.proofs.WindowSearch.{gathered_walks, gathering_at, gathering_count, gathering_on}
use Rattle.match_marks.proofs.window.join_from.Goals as goal

pub seek-hit-requires : goal.seek-hit-requires
seek-hit-requires g c =
    let many = gathering_count c.args.from c.args.phrases.now.items c.loop-number.phrases.items c.loop-number.number c.loop-number.firsts c.args.steps.now c.loop-number.steps c.loop-number.invariant in
    let long = length-map c.args.phrases.now.items (walk_of state_of) in
    record {
      hits = own_at (walks_of c.args.phrases.now.items) c.loop-number.number (walk_of state_of c.index_mut.result.now) (omega (arith, c.loop-number-test.true, c.len-number-end.ensures, many, long))
          (gathering_at c.args.from c.args.phrases.now.items c.loop-number.phrases.items c.loop-number.number c.loop-number.firsts c.args.steps.now c.loop-number.steps c.loop-number.invariant
          c.index_mut.result.now c.index_mut.ensures.value)
          c.requires.hits;
    }

pub loop-number-preserved : goal.loop-number-preserved
loop-number-preserved g c =
    let many = gathering_count c.args.from c.args.phrases.now.items c.loop-number.phrases.items c.loop-number.number c.loop-number.firsts c.args.steps.now c.loop-number.steps c.loop-number.invariant in
    gathering_on c.args.from c.args.phrases.now.items c.loop-number.phrases.items c.loop-number.number c.loop-number.firsts c.args.steps.now c.loop-number.steps c.loop-number.invariant
    c.seek-hit.new.steps c.index_mut.result.now c.seek-hit.new.phrase c.seek-hit.result c.with_hit-firsts.result (omega (arith, c.loop-number-test.true, c.len-number-end.ensures, many))
    c.index_mut.ensures.value c.seek-hit.ensures.walk c.seek-hit.ensures.hit c.with_hit-firsts.ensures c.seek-hit.ensures.grown

pub returns-then-firsts-clause-walks : goal.returns-then-firsts-clause-walks
returns-then-firsts-clause-walks g c =
    let many = gathering_count c.args.from c.args.phrases.now.items c.loop-number.phrases.items c.loop-number.number c.loop-number.firsts c.args.steps.now c.loop-number.steps c.loop-number.invariant in
    gathered_walks c.args.from c.args.phrases.now.items c.loop-number.phrases.items c.loop-number.number c.loop-number.firsts c.args.steps.now c.loop-number.steps c.loop-number.invariant
    (omega (arith, c.loop-number-test.false, c.len-number-end.ensures, many))

pub returns-else-firsts-clause-walks : goal.returns-else-firsts-clause-walks
returns-else-firsts-clause-walks g c =
    let many = gathering_count c.args.from c.args.phrases.now.items c.loop-number.phrases.items c.loop-number.number c.loop-number.firsts c.args.steps.now c.loop-number.steps c.loop-number.invariant in
    gathered_walks c.args.from c.args.phrases.now.items c.loop-number.phrases.items c.loop-number.number c.loop-number.firsts c.args.steps.now c.loop-number.steps c.loop-number.invariant
    (omega (arith, c.loop-number-test.false, c.len-number-end.ensures, many))
