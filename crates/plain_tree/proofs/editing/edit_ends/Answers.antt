-- Content after the last child.
use Rattle.std.proofs.Common.{◌≡◌, length, take, drop, ap, sym, ◌∙◌, arith}
use Rattle.std.proofs.lemmas.Result.{on_ok_weaker}
use Rattle.plain_tree.specs.Document.{element}
use Rattle.plain_tree.specs.Edits.{append, joined, only}
use Rattle.plain_tree.specs.steps.Changes.{with_content}
use Rattle.plain_tree.proofs.EditingLemmas.{into_last}
use Rattle.plain_tree.proofs.TreesJoined.{row}
use Rattle.plain_tree.proofs.editing.edit_ends.Goals as goal

pub returns-in-Last-clause-edited : goal.returns-in-Last-clause-edited
returns-in-Last-clause-edited c =
    let ts = c.args.row.now.items in
    let inner = row c.args.content in
    let all : c.len-count.result ≡ length ts = omega (arith, c.len-count.ensures) in
    on_ok_weaker c.replace_range-in-Last.result
    (λ is name attrs.
    ap (λ ns. only (element name attrs ns)) (into_last ts c.args.content c.replace_range-in-Last.new.row.items (is ∙ ap (λ k. joined (append (row (take k ts)) (append inner (row (drop k ts))))) all))
    ∙ ap (λ e. joined (with_content e inner (element name attrs (row ts)))) (sym c.in-Last.is))
    c.replace_range-in-Last.ensures.ok
