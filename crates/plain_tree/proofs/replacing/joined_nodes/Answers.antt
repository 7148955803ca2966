-- Three lists of nodes are joined, one after the other.
use Rattle.std.proofs.Common.{ap, ◌∙◌}
use Rattle.plain_tree.specs.Document.{are_joined}
use Rattle.plain_tree.specs.Edits.{append}
use Rattle.plain_tree.proofs.JoiningLemmas.{joined_are}
use Rattle.plain_tree.proofs.TreesJoined.{row, three_joined}
use Rattle.plain_tree.proofs.replacing.joined_nodes.Goals as goal

pub join_all-requires-2 : goal.join_all-requires-2
join_all-requires-2 c = ap are_joined c.in_ok-join_all.ensures.all ∙ joined_are (append (row c.new-list.result.items) (row c.in_ok-copy_kids.field-0))

pub join_all-requires-3 : goal.join_all-requires-3
join_all-requires-3 c = ap are_joined c.in_ok-join_all-2.ensures.all ∙ joined_are (append (row c.join_all.new.list.items) (row c.args.content))

pub returns : goal.returns
returns c =
    three_joined c.args.prefix.now c.args.content c.args.suffix.now c.new-list.result.items c.join_all.new.list.items c.join_all-2.new.list.items c.join_all-3.new.list.items
    c.in_ok-copy_kids.field-0 c.in_ok-copy_kids-2.field-0 c.new-list.ensures.items c.in_ok-copy_kids.ensures c.in_ok-copy_kids-2.ensures
    c.in_ok-join_all.ensures.all c.in_ok-join_all-2.ensures.all c.in_ok-join_all-3.ensures.all
