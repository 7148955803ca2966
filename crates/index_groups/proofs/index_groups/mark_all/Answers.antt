-- In the end all terms are marked.
use Rattle.std.proofs.Common.{◌≤◌, length, arith}
use Rattle.index_document.specs.Terms.{terms_of, words_of}
use Rattle.index_groups.proofs.GroupLemmas.{all_marked}
use Rattle.index_groups.proofs.index_groups.mark_all.Goals as goal

pub returns : goal.returns
returns c =
    let words = words_of c.args.index.now.leaves in
    let end : length (terms_of words) ≤ c.loop-number.number = omega (arith, c.loop-number-test.false, c.term_count-number-end.ensures) in
    all_marked words c.loop-number.number c.args.index.now.doc c.args.groups.now c.loop-number.groups end c.loop-number.invariant
