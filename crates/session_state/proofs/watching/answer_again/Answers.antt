-- The path is asked by its plans, or refused.
use Rattle.std.proofs.Common.{◌≡◌, ◌∙◌, ◌≤◌, ◌+◌, sym, ap, subst, ℕ, List, length, map}
use Rattle.std.specs.Prelude.{None}
use Rattle.document_store.specs.Indexed.{Indexed}
use Rattle.path_grammar.specs.Form.{steps}
use Rattle.path_grammar.specs.View.{step}
use Rattle.path_meaning.specs.Collection.{Named}
use Rattle.path_subset.specs.Answer.{path_read}
use Rattle.path_subset.specs.Paths.{read_form}
use Rattle.session_state.specs.PathPrices.{are_cheap, is_cheap_path, price_of_unknown}
use Rattle.session_state.specs.PlannedPaths.{AskBelow}
use Rattle.session_state.specs.ReadyPaths.{path_refusal, IsReady, IsReadyPath}
use Rattle.session_state.specs.Standings.{unknown_price, AreKnown}
use Rattle.session_state.specs.StateView.{state_of}
use Rattle.session_state.specs.steps.Again.{held_with}
use Rattle.session_state.specs.steps.Turns.{planned_through}
use Rattle.session_state.proofs.PathLemmas.{all-found, ready-plan}
use Rattle.session_state.proofs.StandingLemmas.{planned-price, planned-through, read-lines}
use Rattle.session_state.proofs.WatchingLemmas.{again-answers}
use Rattle.session_state.proofs.watching.answer_again.Goals as goal

pub answer_planned-again-requires-clause-plans : goal.answer_planned-again-requires-clause-plans
answer_planned-again-requires-clause-plans g c =
    let stamped = c.args.stamped.now in
    let text = c.args.watch.now.path in
    let ready : IsReadyPath stamped.indexed.documents c.args.prepared.now text c.in-Ok-Path.ready =
    subst (λ (i : Indexed). IsReadyPath i.documents c.args.prepared.now text c.in-Ok-Path.ready) c.collection.ensures
    (subst (λ (t : List ℕ). IsReadyPath c.collection.result.now.documents c.args.prepared.now t c.in-Ok-Path.ready) c.as_str.ensures
    (subst (IsReady c.collection.result.now.documents c.args.prepared.now c.as_str.result.now) c.in-Ok-Path.field-0-is c.in-Ok-Path.ensures)) in
    subst (λ ps. AskBelow (length ps) (steps (map step c.planned.result.steps.now))) (sym c.planned.ensures.plans)
    (subst (AskBelow (length c.in-Ok-Path.ready.plans.items)) (sym c.planned.ensures.steps) ready.numbered)

pub answer_planned-again-requires-clause-known : goal.answer_planned-again-requires-clause-known
answer_planned-again-requires-clause-known g c =
    let stamped = c.args.stamped.now in
    let text = c.args.watch.now.path in
    let ready : IsReadyPath stamped.indexed.documents c.args.prepared.now text c.in-Ok-Path.ready =
    subst (λ (i : Indexed). IsReadyPath i.documents c.args.prepared.now text c.in-Ok-Path.ready) c.collection.ensures
    (subst (λ (t : List ℕ). IsReadyPath c.collection.result.now.documents c.args.prepared.now t c.in-Ok-Path.ready) c.as_str.ensures
    (subst (IsReady c.collection.result.now.documents c.args.prepared.now c.as_str.result.now) c.in-Ok-Path.field-0-is c.in-Ok-Path.ensures)) in
    let says = g.J.Judge.says in
    let lists = c.args.prepared.now.lists in
    let p = read_form c.in-Ok-Path.ready.path in
    let plan = ready-plan stamped.indexed.documents c.args.prepared.now text c.in-Ok-Path.ready ready c.planned.result c.planned.ensures.root c.planned.ensures.steps c.planned.ensures.plans in
    let lines = planned-through says stamped.indexed.abbreviations lists p c.planned.result plan ∙ sym (read-lines says stamped.indexed.abbreviations lists text p ready.read) in
    subst (λ (ls : Named → List (List ℕ)). AreKnown c.args.watch.now.standing ls stamped.stamps stamped.indexed.documents) (sym lines) c.requires.known

pub returns-in-Ok-Path-clause-again : goal.returns-in-Ok-Path-clause-again
returns-in-Ok-Path-clause-again g c =
    let stamped = c.args.stamped.now in
    let text = c.args.watch.now.path in
    let ready : IsReadyPath stamped.indexed.documents c.args.prepared.now text c.in-Ok-Path.ready =
    subst (λ (i : Indexed). IsReadyPath i.documents c.args.prepared.now text c.in-Ok-Path.ready) c.collection.ensures
    (subst (λ (t : List ℕ). IsReadyPath c.collection.result.now.documents c.args.prepared.now t c.in-Ok-Path.ready) c.as_str.ensures
    (subst (IsReady c.collection.result.now.documents c.args.prepared.now c.as_str.result.now) c.in-Ok-Path.field-0-is c.in-Ok-Path.ensures)) in
    let says = g.J.Judge.says in
    let lists = c.args.prepared.now.lists in
    let p = read_form c.in-Ok-Path.ready.path in
    let plan = ready-plan stamped.indexed.documents c.args.prepared.now text c.in-Ok-Path.ready ready c.planned.result c.planned.ensures.root c.planned.ensures.steps c.planned.ensures.plans in
    let lines = planned-through says stamped.indexed.abbreviations lists p c.planned.result plan ∙ sym (read-lines says stamped.indexed.abbreviations lists text p ready.read) in
    let found : path_refusal stamped.indexed.documents lists (path_read text) ≡ None =
    ap (path_refusal stamped.indexed.documents lists) ready.read ∙ all-found (state_of stamped.indexed lists) p ready.document ready.lists in
    again-answers says (held_with stamped lists) c.args.watch.now found (planned_through says stamped.indexed.abbreviations c.planned.result) lines c.answer_planned-again.result c.answer_planned-again.ensures.again

pub returns-in-Ok-Path-clause-price : goal.returns-in-Ok-Path-clause-price
returns-in-Ok-Path-clause-price g c cheap =
    let stamped = c.args.stamped.now in
    let text = c.args.watch.now.path in
    let ready : IsReadyPath stamped.indexed.documents c.args.prepared.now text c.in-Ok-Path.ready =
    subst (λ (i : Indexed). IsReadyPath i.documents c.args.prepared.now text c.in-Ok-Path.ready) c.collection.ensures
    (subst (λ (t : List ℕ). IsReadyPath c.collection.result.now.documents c.args.prepared.now t c.in-Ok-Path.ready) c.as_str.ensures
    (subst (IsReady c.collection.result.now.documents c.args.prepared.now c.as_str.result.now) c.in-Ok-Path.field-0-is c.in-Ok-Path.ensures)) in
    let says = g.J.Judge.says in
    let lists = c.args.prepared.now.lists in
    let p = read_form c.in-Ok-Path.ready.path in
    let plan = ready-plan stamped.indexed.documents c.args.prepared.now text c.in-Ok-Path.ready ready c.planned.result c.planned.ensures.root c.planned.ensures.steps c.planned.ensures.plans in
    let lines = planned-through says stamped.indexed.abbreviations lists p c.planned.result plan ∙ sym (read-lines says stamped.indexed.abbreviations lists text p ready.read) in
    let held = held_with stamped lists in
    let all = ap are_cheap plan.plans ∙ sym (ap (is_cheap_path lists) ready.read) ∙ cheap in
    subst (λ (n : ℕ). c.answer_planned-again.new.moves ≤ c.args.moves.now + n)
    (ap (λ (price : Named → ℕ). unknown_price c.args.watch.now.standing price stamped.stamps stamped.indexed.documents) (planned-price says held p c.planned.result plan)
    ∙ ap (price_of_unknown says held c.args.watch.now.standing) (sym ready.read)) (c.answer_planned-again.ensures.price all)

pub returns-in-Ok-Refused-clause-again : goal.returns-in-Ok-Refused-clause-again
returns-in-Ok-Refused-clause-again g c =
    let stamped = c.args.stamped.now in
    let lists = c.args.prepared.now.lists in
    let why = subst (IsReady c.collection.result.now.documents c.args.prepared.now c.as_str.result.now) c.in-Ok-Refused.field-0-is c.in-Ok-Refused.ensures in
    (λ i. path_refusal (sym c.collection.ensures i).documents lists (path_read (sym c.as_str.ensures i))) ∙ why
