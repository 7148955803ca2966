-- The leaves up to one that begins at the end or after it have all of the words; before that one leaf more has its part of them.
use Rattle.std.proofs.Common.{◌≡◌, ◌≤◌, ◌<◌, ◌+◌, ◌-◌, ◌++◌, length, take, ap, sym, ◌∙◌, arith, append_assoc}
use Rattle.std.specs.Prelude.{slice_range}
use Rattle.index_document.specs.Terms.{words_of}
use Rattle.index_document.proofs.RangeLemmas.{range-of-leaves, range-of-one-more}
use Rattle.index_document.proofs.leaf_terms.push_terms.Goals as goal

pub returns-then-before-to : goal.returns-then-before-to
returns-then-before-to c =
    let leaves = c.args.leaves.now.leaves in
    let last : c.args.to ≤ length (words_of (take c.loop-number.number leaves)) = omega (arith, c.words_before-before.ensures, c.if-before-to.true) in
    c.loop-number.invariant ∙ ap (λ ws. c.args.terms.now.items ++ ws) (range-of-leaves leaves c.loop-number.number c.args.from c.args.to last)

pub loop-number-preserved : goal.loop-number-preserved
loop-number-preserved c =
    let leaves = c.args.leaves.now.leaves in
    let number = c.loop-number.number in
    let from = c.args.from in
    let to = c.args.to in
    let old = c.args.terms.now.items in
    let words = words_of (take number leaves) in
    let leaf = c.get.result.now in
    let before : c.words_before-before.result ≡ length words = c.words_before-before.ensures in
    let there : number < length leaves = omega (arith, c.loop-number-test.true, c.count-count.ensures) in
    let last : length words ≤ to = omega (arith, before, c.if-before-to.false) in
    let first : c.saturating_sub.result ≡ from - length words = c.saturating_sub.ensures ∙ ap (λ n. from - n) before in
    let end : to - c.words_before-before.result ≡ to - length words = ap (λ n. to - n) before in
    let more = range-of-one-more leaves number from to leaf there c.get.ensures last in
    c.in_ok-push_part.ensures
    ∙ (λ i. c.loop-number.invariant i ++ slice_range (c.terms.ensures i) (first i) (end i))
    ∙ append_assoc old (slice_range words from to) (slice_range leaf.words (from - length words) (to - length words))
    ∙ ap (λ ws. old ++ ws) (sym more)
