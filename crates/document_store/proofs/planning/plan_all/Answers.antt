-- The next document with its references is planned for.
use Rattle.std.proofs.Common.{◌≤◌, ◌+◌, ◌∙◌, All, drop, length, refl, rules, subst, sym}
use Rattle.ft_base.specs.Lists.{is_empty}
use Rattle.ordered_tree.specs.Stored.{Stored}
use Rattle.path_nodes.specs.References.{IsElement}
use Rattle.tree_edits.specs.Acts.{stays}
use Rattle.document_store.specs.Targets.{edit_of}
use Rattle.document_store.specs.declared.planning.Planned.{Planned}
use Rattle.document_store.specs.steps.Planning.{IsDraftOf}
use Rattle.document_store.proofs.PlanLemmas.{Planning, next-asked, next-less, next-more, planning-last}
use Rattle.document_store.proofs.planning.plan_all.Goals as goal
use Rattle.document_store.proofs.planning.plan_all.Goals.{in-Some+in_ok-push, in_default}

pub draft_of-requires-clause-there : goal.draft_of-requires-clause-there
draft_of-requires-clause-there c =
    subst (λ (t : Stored). All (IsElement t.root) c.index-targets-at.result) (sym c.tree.ensures.tree)
    (next-asked (edit_of c.args.how c.args.content.now) c.args.documents.now c.args.targets.now (stays c.args.how) (is_empty c.args.content.now) c.loop-at.at c.loop-at.planned.items
    (c.entry.result.0.now, c.entry.result.1.now) c.loop-at.invariant c.entry.ensures c.index-targets-at.result c.index-targets-at.is).there

pub loop-at-preserved : goal.loop-at-preserved
loop-at-preserved c =
    let edit = edit_of c.args.how c.args.content.now in
    let all = c.args.documents.now in
    let targets = c.args.targets.now in
    let refs = c.index-targets-at.result in
    let made : IsDraftOf edit c.entry.result.1.now.tree.root refs c.in_ok-draft.field-0 =
    subst (λ (t : Stored). IsDraftOf edit t.root refs c.in_ok-draft.field-0) c.tree.ensures.tree c.in_ok-draft.ensures in
    elim c.match-branch-2.branch [
      | in-Some+in_ok-push w ↦
          let p : Planned = record { at = c.loop-at.at; draft = w.in-Some.draft } in
          subst (λ ps. Planning edit all targets (stays c.args.how) (is_empty c.args.content.now) (c.loop-at.at + 1) ps (drop (c.loop-at.at + 1) all) (drop (c.loop-at.at + 1) targets))
          (sym ((λ i. (w.planned-is i).items) ∙ w.in_ok-push.ensures.items))
          (next-more edit all targets (stays c.args.how) (is_empty c.args.content.now) c.loop-at.at c.loop-at.planned.items
          (c.entry.result.0.now, c.entry.result.1.now) c.loop-at.invariant c.entry.ensures refs c.index-targets-at.is c.in_ok-draft.field-0 p refl w.in-Some.is made)
      | in_default w ↦
          subst (λ ps. Planning edit all targets (stays c.args.how) (is_empty c.args.content.now) (c.loop-at.at + 1) ps (drop (c.loop-at.at + 1) all) (drop (c.loop-at.at + 1) targets))
          (sym (λ i. (w.planned-is i).items))
          (next-less edit all targets (stays c.args.how) (is_empty c.args.content.now) c.loop-at.at c.loop-at.planned.items
          (c.entry.result.0.now, c.entry.result.1.now) c.loop-at.invariant c.entry.ensures refs c.index-targets-at.is c.in_ok-draft.field-0 w.in_default.is made)
    ]

pub returns : goal.returns
returns c =
    let end : length c.args.documents.now ≤ c.loop-at.at = search rules in
    planning-last (edit_of c.args.how c.args.content.now) c.args.documents.now c.args.targets.now (stays c.args.how) (is_empty c.args.content.now) c.loop-at.at c.loop-at.planned.items
    c.loop-at.invariant end
