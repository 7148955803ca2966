-- One leaf more is there.
use Rattle.std.proofs.Common.{◌∙◌, arith}
use Rattle.index_meaning.specs.Documents.{document_at, leaf_of, with_leaf}
use Rattle.index_updates.proofs.TurnLemmas.{put-left, put-new, put-words, turned-others}
use Rattle.index_updates.proofs.changing.put_leaves.Goals as goal

pub loop-leaf-preserved : goal.loop-leaf-preserved
loop-leaf-preserved g c =
    let doc = c.args.doc.0 in
    let now = c.loop-leaf.version in
    let next = c.put_leaf.new.self in
    let put = c.args.put.now in
    let i = c.loop-leaf.leaf-index in
    let leaf = c.leaf-item.result in
    let h = c.loop-leaf-test.true in
    let here = c.leaf-item.is in
    let is = c.in_ok-put_leaf.ensures.ok in
    let document = with_leaf leaf.after (leaf_of leaf.leaf.0 leaf.words) (document_at doc now) in
    let words = put-words doc now next put i leaf h here is in
    record {
      new = put-new doc now next put i leaf h here is c.loop-leaf.invariant.new;
      left = put-left doc now next put i leaf h here is ∙ c.loop-leaf.invariant.left;
      others = turned-others doc c.args.version.now now next document is c.loop-leaf.invariant.others;
      counted = omega (arith, words, c.in_ok-put_leaf.ensures.counted, c.loop-leaf.invariant.counted);
    }
