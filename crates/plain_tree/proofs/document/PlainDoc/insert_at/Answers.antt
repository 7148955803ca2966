-- An insertion is a change of its own kind.
use Rattle.std.proofs.Common.{◌≡◌, sym, ap, ◌∙◌}
use Rattle.std.proofs.lemmas.Result.{on_ok_weaker}
use Rattle.plain_tree.specs.Edits.{at_place, inserted, joined, may_insert}
use Rattle.plain_tree.specs.View.{node}
use Rattle.plain_tree.specs.steps.Changes.{changed, may_change}
use Rattle.plain_tree.proofs.EditingLemmas.{insertion_allowed, insertion_changed}
use Rattle.plain_tree.proofs.TreesJoined.{row}
use Rattle.plain_tree.proofs.document.PlainDoc.insert_at.Goals as goal

pub returns-clause-edited : goal.returns-clause-edited
returns-clause-edited c =
    let place = c.as_slice.result.now in
    let root = node c.self.inside.root in
    let content = row c.args.content in
    on_ok_weaker c.edit.result
    (λ is. is
    ∙ ap (λ ch. joined (at_place (changed ch content) place root)) c.insertion.ensures
    ∙ ap joined (insertion_changed c.args.how content place root)
    ∙ ap (λ p. joined (at_place (inserted c.args.how content) p root)) c.as_slice.ensures
    ∙ ap (λ r. joined (at_place (inserted c.args.how content) c.args.place.now r)) c.self.view_is)
    c.edit.ensures.edited

pub returns-clause-no_such_place : goal.returns-clause-no_such_place
returns-clause-no_such_place c =
    let place = c.as_slice.result.now in
    let root = node c.self.inside.root in
    let same : may_change c.insertion.result place root ≡ may_insert c.args.how c.args.place.now c.args.self.now =
    ap (λ ch. may_change ch place root) c.insertion.ensures
    ∙ insertion_allowed c.args.how place root
    ∙ ap (λ p. may_insert c.args.how p root) c.as_slice.ensures
    ∙ ap (may_insert c.args.how c.args.place.now) c.self.view_is in
    let exactly = c.edit.ensures.no_such_place in
    (λ h. sym same ∙ exactly.0 h, λ h. exactly.1 (same ∙ h))
