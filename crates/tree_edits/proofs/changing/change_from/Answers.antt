-- A table holds a text exactly where it stays.
use Rattle.std.proofs.Common.{◌≡◌, not, None, filter, map, ap, ◌∙◌}
use Rattle.std.proofs.lemmas.List.Elements.{filter_agree}
use Rattle.std.proofs.lemmas.Result.{IfOk-weaker}
use Rattle.ordered_tree.specs.Leaves.{leaf_of, text_of, texts}
use Rattle.ordered_tree.specs.RefView.{ref_node}
use Rattle.tree_edits.specs.Changed.{Made, Text, put, put_by, stays, taken}
use Rattle.tree_edits.specs.declared.change.Change.{Change}
use Rattle.tree_edits.specs.steps.TextTable.{is_held}
use Rattle.tree_edits.proofs.TableLemmas.{put_by_agree}
use Rattle.tree_edits.proofs.changing.change_from.Goals as goal

pub returns : goal.returns
returns c =
    let old = c.args.old.now.root in
    let new = ref_node c.args.new.now in
    let olds = c.in_ok-old.old in
    let news = c.in_ok-new.new in
    let went : map (λ (t : Text). leaf_of t.0) (filter (λ t. not (is_held news.table.items t)) (map text_of olds.list.items)) ≡ taken old new =
    ap (λ l. map (λ (t : Text). leaf_of t.0) (filter (λ t. not (is_held news.table.items t)) l)) c.in_ok-old.ensures.list
    ∙ ap (map (λ (t : Text). leaf_of t.0)) (filter_agree (λ t. not (is_held news.table.items t)) (λ t. not (stays (texts new) t)) (λ t. ap not (c.in_ok-new.ensures.table t)) (texts old)) in
    let came : put_by (is_held olds.table.items) None (map text_of news.list.items) ≡ put old new =
    ap (put_by (is_held olds.table.items) None) c.in_ok-new.ensures.list
    ∙ put_by_agree (is_held olds.table.items) (stays (texts old)) c.in_ok-old.ensures.table None (texts new) in
    IfOk-weaker c.change_between.result
    (λ change. change ≡ record {
      taken = map (λ (t : Text). leaf_of t.0) (filter (λ t. not (is_held news.table.items t)) (map text_of olds.list.items));
      put = put_by (is_held olds.table.items) None (map text_of news.list.items);
    })
    (λ change. Made old change new)
    (λ change is. record { keeps_order = c.requires.order; went = ap (λ (x : Change). x.taken) is ∙ went; came = ap (λ (x : Change). x.put) is ∙ came })
    c.change_between.ensures
