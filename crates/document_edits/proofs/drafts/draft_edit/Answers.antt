-- The draft is the edit at the places.
use Rattle.std.proofs.Common.{◌≡◌, map}
use Rattle.std.proofs.lemmas.Result.{IfOk-weaker}
use Rattle.ordered_tree.specs.Numbered.{plain}
use Rattle.ordered_tree.specs.RefView.{ref_node}
use Rattle.plain_tree.specs.Document.{nodes}
use Rattle.plain_tree.specs.View as view
use Rattle.tree_edits.specs.Changed.{touched}
use Rattle.tree_edits.specs.Drafted.{IsDrafted}
use Rattle.tree_edits.specs.Acts.{act_on}
use Rattle.document_edits.specs.Edited.{edited}
use Rattle.document_edits.specs.Targets.{places_of, touched_by}
use Rattle.document_edits.proofs.DraftLemmas.{drafted-plain, root-kept}
use Rattle.document_edits.proofs.TouchedLemmas.{touched-places}
use Rattle.document_edits.proofs.drafts.draft_edit.Goals as goal

pub draft-requires-clause-root : goal.draft-requires-clause-root
draft-requires-clause-root c =
    root-kept c.args.tree.now.root c.args.chosen.now c.args.how c.root-root.ensures.element c.requires.there c.requires.root

pub returns-clause-plain : goal.returns-clause-plain
returns-clause-plain c =
    let root = c.args.tree.now.root in
    let content = nodes (map view.node c.args.content.now) in
    IfOk-weaker c.draft.result (IsDrafted (act_on c.args.chosen.now c.args.how) content c.args.tree.now)
    (λ draft. plain (ref_node draft.root) ≡ edited c.args.how content (places_of root c.args.chosen.now) (plain root))
    (λ draft drafted. drafted-plain root (ref_node draft.root) c.args.chosen.now drafted.refs c.args.how content c.requires.there drafted.document)
    c.draft.ensures.drafted

pub returns-clause-words : goal.returns-clause-words
returns-clause-words c =
    let root = c.args.tree.now.root in
    let content = nodes (map view.node c.args.content.now) in
    IfOk-weaker c.draft.result (IsDrafted (act_on c.args.chosen.now c.args.how) content c.args.tree.now)
    (λ draft. touched root (ref_node draft.root) ≡ touched_by c.args.how content (places_of root c.args.chosen.now) (plain root))
    (λ draft drafted. touched-places root drafted.refs content drafted.apart drafted.count c.args.chosen.now c.requires.there c.args.how (ref_node draft.root) drafted.document)
    c.draft.ensures.drafted
