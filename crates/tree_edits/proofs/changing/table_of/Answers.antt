-- Each text is put where its reference is, and no other one has that.
use Rattle.std.proofs.Common.{◌<◌, [], Some, length, get_or, sym, ap, ◌∙◌, subst}
use Rattle.std.proofs.lemmas.List.{get_or_default, length-set}
use Rattle.ordered_tree.specs.declared.texts.TextAt.{TextAt}
use Rattle.tree_edits.proofs.References.{distinct_from}
use Rattle.tree_edits.proofs.TableLemmas.{one_more, place_below}
use Rattle.tree_edits.proofs.changing.table_of.Goals as goal

abbrev no_text : TextAt
no_text = record { node = record { 0 = 0 }; text = record { ref_ptr = (0, 0); now = [] } }

pub hold-requires : goal.hold-requires
hold-requires c =
    let ts = c.args.texts.now in
    let i = c.loop-text.text-index in
    subst (λ n. (get_or ts i no_text).node.0 < n) (sym c.loop-text.invariant.size) (place_below ts c.args.size c.requires.below i no_text c.loop-text-test.true)

pub loop-text-preserved : goal.loop-text-preserved
loop-text-preserved c =
    let ts = c.args.texts.now in
    let i = c.loop-text.text-index in
    let u = get_or ts i no_text in
    let table = c.loop-text.table.items in
    let below : u.node.0 < length table = subst (λ n. u.node.0 < n) (sym c.loop-text.invariant.size) (place_below ts c.args.size c.requires.below i no_text c.loop-text-test.true) in
    record {
      size = ap length c.hold.ensures ∙ length-set table u.node.0 (Some u) ∙ c.loop-text.invariant.size;
      held = λ t.
          one_more table c.hold.new.table.items ts i u t c.loop-text-test.true (get_or_default ts i no_text u c.loop-text-test.true) (distinct_from _ c.requires.apart) below c.hold.ensures
          (c.loop-text.invariant.held t);
    }
