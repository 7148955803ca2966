-- What was edited is a document.
use Rattle.std.proofs.Common.{◌≡◌}
use Rattle.plain_tree.specs.Edits.{at_place, joined, only}
use Rattle.plain_tree.specs.View.{node}
use Rattle.plain_tree.specs.steps.Changes.{changed}
use Rattle.plain_tree.proofs.JoiningLemmas.{document_made}
use Rattle.plain_tree.proofs.TreesJoined.{row}
use Rattle.plain_tree.proofs.editing.edit.Goals as goal

pub returns-in-Ok-clause-document : goal.returns-in-Ok-clause-document
returns-in-Ok-clause-document c =
    let made = at_place (changed c.args.change (row c.args.content)) c.args.place.now (node c.replace-tree.result) in
    let is : only (node c.edit_tree-tree.result.0) ≡ joined made = rw c.in-Ok.is at c.edit_tree-tree.ensures.edited in
    document_made (node c.edit_tree-tree.result.0) made c.edit_tree-tree.ensures.element is
