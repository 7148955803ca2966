-- An element with nothing in it has no text.
use Rattle.std.proofs.Common.{◌≡◌, ◌∙◌, ap, map, []}
use Rattle.std.proofs.lemmas.Result.{IfOk-weaker}
use Rattle.ordered_tree.specs.Leaves.{texts}
use Rattle.ordered_tree.specs.Numbering.{numbered}
use Rattle.plain_tree.specs.Document.{element, nodes}
use Rattle.plain_tree.specs.View.{node}
use Rattle.plain_tree.proofs.Views.{node_elem}
use Rattle.index_tests.proofs.BareLemmas.{bare-texts}
use Rattle.index_tests.proofs.updates.bare.Goals as goal

pub returns : goal.returns
returns c =
    let name = c.in_ok-name.name in
    let attrs = c.new-attrs.result in
    let is = c.from_tree.ensures ∙ node_elem name attrs c.new-kids.result ∙ ap (λ kids. element name attrs (nodes (map node kids))) c.new-kids.ensures in
    IfOk-weaker c.read-2.result (λ read. read.tree.root ≡ numbered 0 c.from_tree.result) (λ read. texts read.tree.root ≡ [])
    (λ read made. ap texts made ∙ bare-texts c.from_tree.result name attrs is) c.read-2.ensures
