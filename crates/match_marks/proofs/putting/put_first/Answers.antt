-- One way after the other is put, until so many were, or none is left.
use Rattle.std.proofs.Common.{◌≤◌, ◌++◌, ◌∙◌, ap, sym, drop, flat_map, take, arith}
use Rattle.std.proofs.lemmas.List.{drop-drop}
use Rattle.ft_base.specs.Lists.{is_not_empty}
use Rattle.all_matches.specs.Ways.{Way, way_includes}
use Rattle.best_hits.specs.Best.{spans_of}
use Rattle.ft_operators.specs.Standing.{includes_now}
use Rattle.ft_operators.specs.Tuples.{walk_of}
use Rattle.ft_operators.specs.Walk.{Walk, aimed_walk, at_next_way, walk_at}
use Rattle.index_phrases.specs.Cursors.{state_of}
use Rattle.plan_runs.specs.steps.OpenedOperators.{aims_of}
use Rattle.match_marks.specs.steps.ShownRuns.{ways_there}
use Rattle.match_marks.proofs.PuttingLemmas.{spans_more, ways_end}
use Rattle.match_marks.proofs.putting.put_first.Goals as goal

pub returns-then-not-there-clause-spans : goal.returns-then-not-there-clause-spans
returns-then-not-there-clause-spans g c =
    let ways = ways_there (aims_of c.args.run.now.tuples) c.args.doc.0 c.args.span in
    c.loop-number.invariant.spans
    ∙ ap (λ list. c.args.spans.now.items ++ spans_of (flat_map way_includes list))
    (ways_end c.loop-number._number c.args.run.now.most ways (sym c.loop-number.invariant.there ∙ c.if-not-there.true) (omega (arith, c.loop-number-test.true)))

pub loop-number-preserved : goal.loop-number-preserved
loop-number-preserved g c =
    let ways = ways_there (aims_of c.args.run.now.tuples) c.args.doc.0 c.args.span in
    let n = c.loop-number._number in
    let aimed = aimed_walk c.args.doc.0 c.args.span (walk_of state_of c.args.run.now.tuples) in
    let there = sym c.loop-number.invariant.there ∙ c.if-not-there.false in
    let walk = c.next-there.ensures.walk ∙ ap at_next_way c.loop-number.invariant.walk ∙ ap (λ rest. walk_at rest aimed) (drop-drop 1 n ways) in
    let first = c.loop-number.invariant.grown in
    let then = c.next-there.ensures.grown in
    record {
      walk = walk;
      there = c.next-there.ensures.there ∙ ap (λ (w : Walk). is_not_empty w.rest) walk;
      spans = spans_more c.args.spans.now.items c.loop-number.spans.items c.put_present.new.spans.items n ways there c.loop-number.invariant.spans
          (c.in_ok-put_present.ensures ∙ ap (λ (w : Walk). c.loop-number.spans.items ++ spans_of (includes_now w.rest)) c.loop-number.invariant.walk);
      most = c.loop-number.invariant.most;
      grown = omega (arith, first, then);
    }
