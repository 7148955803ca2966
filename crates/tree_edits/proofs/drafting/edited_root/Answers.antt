-- The root that was taken out of the list is that of the new document.
use Rattle.std.proofs.Common.{◌+◌, max, sym, ap, ◌∙◌, arith}
use Rattle.doc_grammar.specs.Limits.{node_count}
use Rattle.ordered_tree.specs.Numbered.{plain}
use Rattle.ordered_tree.specs.RefView.{ref_node}
use Rattle.tree_edits.proofs.DraftedLemmas.{Taken, drafted}
use Rattle.tree_edits.proofs.drafting.edited_root.Goals as goal

pub returns : goal.returns
returns c =
    let root = c.args.tree.now.root in
    let refs = c.in-Ok-spare_references.refs in
    let slots = max c.args.tree.now.slots (node_count (plain root) + c.args.count) in
    let taken : Taken c.args.chosen.now c.args.how c.args.content.now c.args.tree.now (ref_node c.args.old) c.in-Ok.marks.items refs c.in-Some.root slots = record {
      prefix = c.pop.new.self.items;
      made = c.in_ok-list.list.items;
      size = c.slot_count.result;
      same = c.requires.same;
      stay = c.requires.root;
      few_nodes = omega (arith, c.requires.few_nodes, c.requires.counted);
      once = c.requires.once;
      marked = c.in-Ok.ensures;
      below = c.slot_count.ensures.below;
      size_is = c.slot_count.ensures.count;
      few_slots = c.slot_count.ensures.few;
      rooted = sym c.root-root.ensures.root ∙ c.root-root.ensures.first;
      apart = c.in-Ok-spare_references.ensures.apart;
      count = c.in-Ok-spare_references.ensures.count ∙ c.requires.counted;
      refs_below = c.in-Ok-spare_references.ensures.below;
      slots_are = ap (λ n. max c.args.tree.now.slots (node_count (plain root) + n)) c.requires.counted;
      row_is = c.in_ok-list.ensures;
      popped = c.in-Some.ensures.items;
    } in
    drafted c.args.chosen.now c.args.how c.args.content.now c.args.tree.now (ref_node c.args.old) c.in-Ok.marks.items refs c.in-Some.root slots taken
