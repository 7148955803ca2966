-- One term more is raised, and in the end all.
use Rattle.std.proofs.Common.{◌<◌, ◌≤◌, length, arith}
use Rattle.index_document.specs.Terms.{terms_of, words_of}
use Rattle.index_document.proofs.TermLemmas.{terms_of-ascending}
use Rattle.index_counts.proofs.CountLemmas.{shifted-more, all-shifted}
use Rattle.index_counts.proofs.counts.raise_all.Goals as goal

pub loop-number-preserved : goal.loop-number-preserved
loop-number-preserved c =
    let words = words_of c.args.index.now.leaves in
    let k = c.loop-number.number in
    let there : k < length (terms_of words) = omega (arith, c.loop-number-test.true, c.term_count-number-end.ensures) in
    shifted-more (terms_of words) k c.term.result (terms_of-ascending words) there c.term.ensures c.args.counts.now c.loop-number.counts c.raise.new.counts c.loop-number.invariant c.in_ok-raise.ensures

pub returns : goal.returns
returns c =
    let words = words_of c.args.index.now.leaves in
    let end : length (terms_of words) ≤ c.loop-number.number = omega (arith, c.loop-number-test.false, c.term_count-number-end.ensures) in
    all-shifted c.args.counts.now c.loop-number.counts words c.loop-number.number end c.loop-number.invariant
