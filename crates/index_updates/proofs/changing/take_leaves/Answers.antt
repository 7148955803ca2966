-- One leaf more is gone.
use Rattle.std.proofs.Common.{◌∙◌, arith}
use Rattle.index_meaning.specs.Documents.{document_at, without_leaf}
use Rattle.index_updates.proofs.TurnLemmas.{leaf_at, taken-left, taken-there, taken-words, turned-others}
use Rattle.index_updates.proofs.changing.take_leaves.Goals as goal

pub loop-leaf-preserved : goal.loop-leaf-preserved
loop-leaf-preserved g c =
    let doc = c.args.doc.0 in
    let now = c.loop-leaf.version in
    let next = c.take_leaf.new.self in
    let taken = c.args.taken.now in
    let i = c.loop-leaf.leaf-index in
    let h = c.loop-leaf-test.true in
    let is = c.in_ok-take_leaf.ensures.ok in
    let document = without_leaf (leaf_at taken i).0 (document_at doc now) in
    let words = taken-words doc now next taken i h is in
    record {
      there = taken-there doc now next taken i h is c.loop-leaf.invariant.there;
      left = taken-left doc now next taken i h is ∙ c.loop-leaf.invariant.left;
      others = turned-others doc c.args.version.now now next document is c.loop-leaf.invariant.others;
      counted = omega (arith, words, c.in_ok-take_leaf.ensures.counted, c.loop-leaf.invariant.counted);
    }
