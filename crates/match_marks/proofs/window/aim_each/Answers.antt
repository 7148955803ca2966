-- Phrase by phrase.
use Rattle.std.proofs.Common.{arith}
use Rattle.ft_operators.specs.Tuples.{walk_of}
use Rattle.index_phrases.specs.Cursors.{state_of}
use Rattle.phrase_merges.proofs.ListLoops.{changing_at, changing_count, changing_ends, changing_on}
use Rattle.match_marks.specs.steps.WindowRuns.{started}
use Rattle.match_marks.proofs.WalkedHits.{may_at}
use Rattle.match_marks.proofs.window.aim_each.Goals as goal

pub go_to_first-requires : goal.go_to_first-requires
go_to_first-requires g c =
    let made = started c.args.doc.0 c.args.span in
    let many = changing_count made (walk_of state_of) c.args.phrases.now.items c.loop-number.phrases.items c.loop-number.number c.args.steps.now c.loop-number.steps c.loop-number.invariant in
    record {
      may = may_at c.args.doc.0 c.args.span c.args.phrases.now.items c.loop-number.number (walk_of state_of c.index_mut.result.now)
          (omega (arith, c.loop-number-test.true, c.len-number-end.ensures, many))
          (changing_at made (walk_of state_of) c.args.phrases.now.items c.loop-number.phrases.items c.loop-number.number c.args.steps.now c.loop-number.steps c.index_mut.result.now c.loop-number.invariant c.index_mut.ensures.value)
          c.requires.may;
    }

pub loop-number-preserved : goal.loop-number-preserved
loop-number-preserved g c =
    let made = started c.args.doc.0 c.args.span in
    let many = changing_count made (walk_of state_of) c.args.phrases.now.items c.loop-number.phrases.items c.loop-number.number c.args.steps.now c.loop-number.steps c.loop-number.invariant in
    changing_on made (walk_of state_of) c.args.phrases.now.items c.loop-number.phrases.items c.loop-number.number c.args.steps.now c.loop-number.steps c.go_to_first.new.steps
    c.index_mut.result.now c.go_to_first.new.phrase c.loop-number.invariant (omega (arith, c.loop-number-test.true, c.len-number-end.ensures, many)) c.index_mut.ensures.value
    c.go_to_first.ensures.walk c.go_to_first.ensures.grown

pub returns-clause-walks : goal.returns-clause-walks
returns-clause-walks g c =
    let made = started c.args.doc.0 c.args.span in
    let many = changing_count made (walk_of state_of) c.args.phrases.now.items c.loop-number.phrases.items c.loop-number.number c.args.steps.now c.loop-number.steps c.loop-number.invariant in
    changing_ends made (walk_of state_of) c.args.phrases.now.items c.loop-number.phrases.items c.loop-number.number c.args.steps.now c.loop-number.steps c.loop-number.invariant
    (omega (arith, c.loop-number-test.false, c.len-number-end.ensures, many))
