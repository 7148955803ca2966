-- A path that was read asks for its own selections, and these are allowed; so its plans may be kept.
use Rattle.std.proofs.Common.{◌≡◌, ◌∙◌, sym, ap, subst, refl, length}
use Rattle.std.specs.Prelude.{None, Ok}
use Rattle.kept_plans.specs.Preparation.{CanKeep}
use Rattle.path_subset.specs.Paths.{read_form, PathForm}
use Rattle.session_state.specs.Paths.{missing_document, missing_list, selections_of}
use Rattle.session_state.specs.PlannedPaths.{plans_under, AskBelow}
use Rattle.session_state.proofs.PathLemmas.{as-many-under, can-keep-under}
use Rattle.session_state.proofs.SelectionNumbers.{read-asks-below, read-is-accepted}
use Rattle.session_state.proofs.paths.ready_read.Goals as goal

pub plans_of-requires : goal.plans_of-requires
plans_of-requires c =
    let text = c.args.text.now in
    let p = read_form c.args.path in
    read-is-accepted c.selected_law.ensures text p ((c.spelled_law.ensures text p).0 c.requires)

pub ready_with-requires : goal.ready_with-requires
ready_with-requires c =
    let p = read_form c.args.path in
    let text = c.args.text.now in
    let prepared = c.args.prepared.now in
    let plans : c.in-Ok.plans.items ≡ plans_under prepared.lists text p =
    c.in-Ok.ensures.plans ∙ ap (λ t. plans_under prepared.lists t p) c.as_bytes.ensures.value in
    subst (CanKeep prepared) (sym plans) (can-keep-under prepared.lists text p prepared refl c.in-Ok.ensures.counted)

pub returns-in_ok-ready_with-in-Ok : goal.returns-in_ok-ready_with-in-Ok
returns-in_ok-ready_with-in-Ok c =
    let p = read_form c.args.path in
    let text = c.args.text.now in
    let prepared = c.args.prepared.now in
    let ready = c.in_ok-ready_with-in-Ok.field-0 in
    let same : p ≡ read_form ready.path = sym c.in_ok-ready_with-in-Ok.ensures.path in
    let plans : ready.plans.items ≡ plans_under prepared.lists text p =
    c.in_ok-ready_with-in-Ok.ensures.plans ∙ (c.in-Ok.ensures.plans ∙ ap (λ t. plans_under prepared.lists t p) c.as_bytes.ensures.value) in
    let as_many = ap length plans ∙ as-many-under prepared.lists text p in
    record {
      read = c.requires ∙ ap Ok same;
      document = subst (λ (q : PathForm). missing_document q.path.root c.args.collection.now.documents ≡ None) same c.in-Ok.ensures.document;
      lists = subst (λ (q : PathForm). missing_list prepared.lists (selections_of q) ≡ None) same c.in-Ok.ensures.lists;
      plans = plans ∙ ap (plans_under prepared.lists text) same;
      numbered = subst (λ (q : PathForm). AskBelow (length ready.plans.items) q.path.steps) same
          (subst (λ n. AskBelow n p.path.steps) (sym as_many) (read-asks-below text p ((c.spelled_law.ensures text p).0 c.requires)));
      next = c.in_ok-ready_with-in-Ok.ensures.next;
    }
