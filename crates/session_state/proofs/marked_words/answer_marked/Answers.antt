-- A path that may be gone along is answered by its plans, and these are kept; or its refusal is the reply.
use Rattle.std.proofs.Common.{◌≡◌, ◌∙◌, ◌≤◌, ◌+◌, sym, ap, subst, length, map}
use Rattle.std.specs.Prelude.{IfOk, OnErr, if◌then◌else◌, Result}
use Rattle.ft_base.specs.declared.memory.Memory.{Memory}
use Rattle.kept_plans.specs.Kept.{all_used}
use Rattle.kept_plans.specs.Preparation.{texts_of, with_kept}
use Rattle.path_grammar.specs.Form.{steps}
use Rattle.path_grammar.specs.View.{step}
use Rattle.path_subset.specs.Answer.{path_read}
use Rattle.path_subset.specs.Paths.{read_form}
use Rattle.reply_lines.specs.Replies.{is_refusal}
use Rattle.reply_lines.specs.declared.reply.Reply.{Reply}
use Rattle.session_state.specs.KeptTexts.{kept_after}
use Rattle.session_state.specs.MarkedWords.{answer_marked, answer_marked_read}
use Rattle.session_state.specs.PathPrices.{are_cheap, is_cheap_path, read_price}
use Rattle.session_state.specs.PlannedPaths.{AskBelow}
use Rattle.session_state.specs.ReadyPaths.{IsReady, IsReadyPath}
use Rattle.session_state.specs.StateView.{held_of, state_of}
use Rattle.session_state.proofs.MarkedLemmas.{marked-prices, planned-marks, ready-marks, refused-marks}
use Rattle.session_state.proofs.PathLemmas.{ready-plan, texts-under}
use Rattle.session_state.proofs.marked_words.answer_marked.Goals as goal

pub answer_planned-answered-requires-clause-plans : goal.answer_planned-answered-requires-clause-plans
answer_planned-answered-requires-clause-plans g c =
    let ready : IsReadyPath c.args.collection.now.documents c.args.prepared.now c.args.text.now c.in-Ok-Path.ready =
    subst (IsReady c.args.collection.now.documents c.args.prepared.now c.args.text.now) c.in-Ok-Path.field-0-is c.in-Ok-Path.ensures in
    subst (λ ps. AskBelow (length ps) (steps (map step c.planned.result.steps.now))) (sym c.planned.ensures.plans)
    (subst (AskBelow (length c.in-Ok-Path.ready.plans.items)) (sym c.planned.ensures.steps) ready.numbered)

pub keep_accepted-requires : goal.keep_accepted-requires
keep_accepted-requires g c =
    let ready : IsReadyPath c.args.collection.now.documents c.args.prepared.now c.args.text.now c.in-Ok-Path.ready =
    subst (IsReady c.args.collection.now.documents c.args.prepared.now c.args.text.now) c.in-Ok-Path.field-0-is c.in-Ok-Path.ensures in
    ready.next

pub returns-in-Ok-Path-clause-reply : goal.returns-in-Ok-Path-clause-reply
returns-in-Ok-Path-clause-reply g c =
    let says = g.J.Judge.says in
    let lists = c.args.prepared.now.lists in
    let text = c.args.text.now in
    let state = state_of c.args.collection.now lists in
    let p = read_form c.in-Ok-Path.ready.path in
    let planned = c.planned.result in
    let ready : IsReadyPath c.args.collection.now.documents c.args.prepared.now text c.in-Ok-Path.ready =
    subst (IsReady c.args.collection.now.documents c.args.prepared.now text) c.in-Ok-Path.field-0-is c.in-Ok-Path.ensures in
    let plan = ready-plan c.args.collection.now.documents c.args.prepared.now text c.in-Ok-Path.ready ready planned c.planned.ensures.root c.planned.ensures.steps
    c.planned.ensures.plans in
    let whole = planned-marks says state p planned plan text c.shown-number.result c.shown-number.ensures
    ∙ (sym (ready-marks says state text p ready.document ready.lists) ∙ ap (answer_marked_read says state text) (sym ready.read)) in
    subst (λ (r : Result Reply Memory). IfOk r (λ reply. reply ≡ answer_marked says state text)) (sym c.keep_accepted.ensures.same)
    (subst (λ e. IfOk c.answer_planned-answered.result (λ reply. reply ≡ e)) whole c.answer_planned-answered.ensures.reply)

pub returns-in-Ok-Path-clause-kept : goal.returns-in-Ok-Path-clause-kept
returns-in-Ok-Path-clause-kept g c =
    let old = c.args.prepared.now in
    let text = c.args.text.now in
    let p = read_form c.in-Ok-Path.ready.path in
    let ready : IsReadyPath c.args.collection.now.documents old text c.in-Ok-Path.ready =
    subst (IsReady c.args.collection.now.documents old text) c.in-Ok-Path.field-0-is c.in-Ok-Path.ensures in
    let kept : all_used (texts_of c.in-Ok-Path.ready.plans.items) old.kept ≡ kept_after text (path_read text) old.kept =
    ap (λ ts. all_used ts old.kept) (ap texts_of ready.plans ∙ texts-under old.lists text p) ∙ ap (λ r. kept_after text r old.kept) (sym ready.read) in
    subst (λ k. IfOk c.keep_accepted.result (λ reply. c.keep_accepted.new.prepared ≡ (if is_refusal reply then old else with_kept k old))) kept
    (subst (λ (r : Result Reply Memory). IfOk r (λ reply. c.keep_accepted.new.prepared
    ≡ (if is_refusal reply then old else with_kept (all_used (texts_of c.in-Ok-Path.ready.plans.items) old.kept) old)))
    (sym c.keep_accepted.ensures.same) c.keep_accepted.ensures.kept)

pub returns-in-Ok-Path-clause-err : goal.returns-in-Ok-Path-clause-err
returns-in-Ok-Path-clause-err g c =
    subst (λ (r : Result Reply Memory). OnErr r (c.keep_accepted.new.prepared ≡ c.args.prepared.now)) (sym c.keep_accepted.ensures.same)
    c.keep_accepted.ensures.err

pub returns-in-Ok-Path-clause-price : goal.returns-in-Ok-Path-clause-price
returns-in-Ok-Path-clause-price g c cheap =
    let says = g.J.Judge.says in
    let lists = c.args.prepared.now.lists in
    let text = c.args.text.now in
    let held = held_of c.args.collection.now lists in
    let p = read_form c.in-Ok-Path.ready.path in
    let planned = c.planned.result in
    let ready : IsReadyPath c.args.collection.now.documents c.args.prepared.now text c.in-Ok-Path.ready =
    subst (IsReady c.args.collection.now.documents c.args.prepared.now text) c.in-Ok-Path.field-0-is c.in-Ok-Path.ensures in
    let plan = ready-plan c.args.collection.now.documents c.args.prepared.now text c.in-Ok-Path.ready ready planned c.planned.ensures.root c.planned.ensures.steps
    c.planned.ensures.plans in
    subst (λ n. c.answer_planned-answered.new.moves ≤ c.args.moves.now + n)
    (marked-prices says held p planned plan ∙ ap (read_price says held) (sym ready.read))
    (c.answer_planned-answered.ensures.price (ap are_cheap plan.plans ∙ sym (ap (is_cheap_path lists) ready.read) ∙ cheap))

pub returns-in-Ok-Refused-clause-reply : goal.returns-in-Ok-Refused-clause-reply
returns-in-Ok-Refused-clause-reply g c =
    let state = state_of c.args.collection.now c.args.prepared.now.lists in
    let text = c.args.text.now in
    let why = subst (IsReady c.args.collection.now.documents c.args.prepared.now text) c.in-Ok-Refused.field-0-is c.in-Ok-Refused.ensures in
    sym (refused-marks g.J.Judge.says state text c.in-Ok-Refused.why (path_read text) why)
