-- Content before the element, and after it.
use Rattle.std.proofs.Common.{◌≡◌, sym, ap, ◌∙◌}
use Rattle.std.proofs.lemmas.Result.{on_ok_weaker}
use Rattle.ordered_tree.specs.RefView.{ref_node}
use Rattle.tree_edits.specs.Edits.{append, inserted, joined, only}
use Rattle.tree_edits.proofs.RowsJoined.{row, one_more, still_joined}
use Rattle.tree_edits.proofs.editing.put_in.Goals as goal

pub returns-in_ok-join_all-in-Before : goal.returns-in_ok-join_all-in-Before
returns-in_ok-join_all-in-Before c =
    let old = row c.args.list.now.items in
    let n = ref_node c.args.tree in
    let content = row c.args.content in
    let middle = row c.join_all.new.list.items in
    on_ok_weaker c.join_tree-in-Before.result (λ says h.
    let first : middle ≡ joined (append old content) = c.in_ok-join_all-in-Before.ensures h in
    one_more old middle (row c.join_tree-in-Before.new.list.items) content (only n) first (says (still_joined old middle content first))
    ∙ ap (λ how. joined (append old (inserted how content n))) (sym c.in-Before.is)) c.join_tree-in-Before.ensures

pub returns-in_ok-join_tree-in-After : goal.returns-in_ok-join_tree-in-After
returns-in_ok-join_tree-in-After c =
    let old = row c.args.list.now.items in
    let n = ref_node c.args.tree in
    let content = row c.args.content in
    let middle = row c.join_tree-in-After.new.list.items in
    on_ok_weaker c.join_all-in-After.result (λ says h.
    let first : middle ≡ joined (append old (only n)) = c.in_ok-join_tree-in-After.ensures h in
    one_more old middle (row c.join_all-in-After.new.list.items) (only n) content first (says (still_joined old middle (only n) first))
    ∙ ap (λ how. joined (append old (inserted how content n))) (sym c.in-After.is)) c.join_all-in-After.ensures
