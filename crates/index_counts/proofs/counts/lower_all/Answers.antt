-- One term more is lowered, and in the end all.
use Rattle.std.proofs.Common.{◌<◌, ◌≤◌, length, refl, arith}
use Rattle.index_document.specs.Terms.{terms_of, words_of}
use Rattle.index_document.proofs.TermLemmas.{terms_of-ascending}
use Rattle.index_counts.proofs.CountLemmas.{lowered-more, next-counted, fallen-more, all-lowered}
use Rattle.index_counts.proofs.counts.lower_all.Goals as goal

pub lower-requires : goal.lower-requires
lower-requires c =
    let words = words_of c.args.index.now.leaves in
    let k = c.loop-number.number in
    let there : k < length (terms_of words) = omega (arith, c.loop-number-test.true, c.term_count-number-end.ensures) in
    next-counted (terms_of words) k c.term-term.result (terms_of-ascending words) there c.term-term.ensures c.args.counts.now c.loop-number.counts words refl c.requires c.loop-number.invariant.counts

pub loop-number-preserved : goal.loop-number-preserved
loop-number-preserved c =
    let words = words_of c.args.index.now.leaves in
    let k = c.loop-number.number in
    let now = c.loop-number.counts in
    let new = c.lower.new.counts in
    let there : k < length (terms_of words) = omega (arith, c.loop-number-test.true, c.term_count-number-end.ensures) in
    record {
      counts = lowered-more (terms_of words) k c.term-term.result (terms_of-ascending words) there c.term-term.ensures c.args.counts.now now new c.loop-number.invariant.counts c.in_ok-count.ensures.lowered;
      gone = rw (c.in_ok-push_if.ensures, c.loop-number.invariant.gone)
          (fallen-more (terms_of words) k c.term-term.result (terms_of-ascending words) there c.term-term.ensures now new c.args.gone.now.items _ c.in_ok-count.count
          c.in_ok-count.ensures.lowered c.in_ok-count.ensures.count refl);
    }

pub returns-clause-counts : goal.returns-clause-counts
returns-clause-counts c =
    let words = words_of c.args.index.now.leaves in
    let end : length (terms_of words) ≤ c.loop-number.number = omega (arith, c.loop-number-test.false, c.term_count-number-end.ensures) in
    all-lowered c.args.counts.now c.loop-number.counts words c.loop-number.number end c.loop-number.invariant.counts
