-- The elements that the path selects are edited, and its plans are kept.
use Rattle.std.proofs.Common.{◌≡◌, ◌∙◌, ◌≤◌, ◌+◌, sym, ap, subst, ℕ, List, false, map}
use Rattle.std.specs.Prelude.{IfOk, Result}
use Rattle.ft_base.specs.declared.memory.Memory.{Memory}
use Rattle.kept_plans.specs.Preparation.{texts_of}
use Rattle.path_subset.specs.Answer.{path_read}
use Rattle.path_subset.specs.Paths.{read_form}
use Rattle.reply_lines.specs.declared.reply.Reply.{Reply}
use Rattle.session_state.specs.Edits.{edit_path, target_refusal, touched_path}
use Rattle.session_state.specs.Held.{Held}
use Rattle.session_state.specs.KeptTexts.{keep_plans}
use Rattle.session_state.specs.PathPrices.{are_cheap, is_cheap_path, read_price}
use Rattle.session_state.specs.ReadyPaths.{IsReadyPath}
use Rattle.plan_compiler.specs.NamedLists.{NamedLists}
use Rattle.session_state.specs.Standings.{AreCurrent}
use Rattle.session_state.specs.StampsAfter.{KeepOthersRead}
use Rattle.session_state.specs.StateView.{prepared_of}
use Rattle.session_state.specs.steps.Chosen.{edit_of, planned_places}
use Rattle.reply_lines.specs.Replies.{is_refusal}
use Rattle.session_state.proofs.EditLemmas.{edit-kept, replied, touched-ready, with_prepared_in}
use Rattle.session_state.proofs.PathLemmas.{planned-prices, ready-plan, texts-under}
use Rattle.session_state.proofs.ChosenLemmas.{planned-places}
use Rattle.session_state.proofs.StandingLemmas.{edited-current, keeps-others, kept-by-lists}
use Rattle.session_state.proofs.StateLemmas.{held_as}
use Rattle.session_state.proofs.session.Session.edit_ready.Goals as goal

pub keep_accepted-requires : goal.keep_accepted-requires
keep_accepted-requires g c =
    (subst (λ (h : Held). IsReadyPath h.state.documents (prepared_of h.state) c.args.path.now c.args.ready) (sym c.self.view_is) c.requires).next

pub returns-clause-answer : goal.returns-clause-answer
returns-clause-answer g c =
    let inside = c.self.inside in
    let was = held_as inside.stamped inside.prepared inside.marks inside.watches in
    let text = c.args.path.now in
    let p = read_form c.args.ready.path in
    let edit = c.args.edit.now in
    let ready : IsReadyPath was.state.documents (prepared_of was.state) text c.args.ready =
    subst (λ (h : Held). IsReadyPath h.state.documents (prepared_of h.state) text c.args.ready) (sym c.self.view_is) c.requires in
    let plan = ready-plan was.state.documents (prepared_of was.state) text c.args.ready ready c.planned-planned.result c.planned-planned.ensures.root
    c.planned-planned.ensures.steps c.planned-planned.ensures.plans in
    let q = c.keep_accepted.new.prepared in
    let documents = c.edit_along-edited.new.stamped.indexed.documents in
    let texts = ap texts_of ready.plans ∙ texts-under inside.prepared.lists text p in
    let done = edit-kept g.J.Judge.says was.state edit.targets (edit_of edit) text p ready.read c.planned-planned.result plan ready.document ready.lists
    c.edit_along-edited.result documents q (texts_of c.args.ready.plans.items) texts c.edit_along-edited.ensures.answer c.keep_accepted.ensures.kept in
    let abbreviations = c.edit_along-edited.new.stamped.indexed.abbreviations in
    subst (λ (h : Held). IfOk c.keep_accepted.result (λ reply. replied (with_prepared_in (record was.state { documents = documents; abbreviations = abbreviations }) q) reply
    ≡ keep_plans text (edit_path g.J.Judge.says h.state edit.targets (edit_of edit) text))) c.self.view_is
    (subst (λ (r : Result Reply Memory). IfOk r (λ reply. replied (with_prepared_in (record was.state { documents = documents; abbreviations = abbreviations }) q) reply
    ≡ keep_plans text (edit_path g.J.Judge.says was.state edit.targets (edit_of edit) text))) (sym c.keep_accepted.ensures.same)
    (subst (λ (keys : List (List ℕ)). IfOk c.edit_along-edited.result (λ reply. replied (with_prepared_in (record was.state { documents = documents; abbreviations = keys }) q) reply
    ≡ keep_plans text (edit_path g.J.Judge.says was.state edit.targets (edit_of edit) text))) (sym c.edit_along-edited.ensures.abbreviations) done))

pub returns-clause-price : goal.returns-clause-price
returns-clause-price g c cheap =
    let says = g.J.Judge.says in
    let inside = c.self.inside in
    let was = held_as inside.stamped inside.prepared inside.marks inside.watches in
    let text = c.args.path.now in
    let p = read_form c.args.ready.path in
    let ready : IsReadyPath was.state.documents (prepared_of was.state) text c.args.ready =
    subst (λ (h : Held). IsReadyPath h.state.documents (prepared_of h.state) text c.args.ready) (sym c.self.view_is) c.requires in
    let plan = ready-plan was.state.documents (prepared_of was.state) text c.args.ready ready c.planned-planned.result c.planned-planned.ensures.root
    c.planned-planned.ensures.steps c.planned-planned.ensures.plans in
    let own = ap (λ (h : Held). is_cheap_path h.state.lists (path_read text)) c.self.view_is ∙ cheap in
    let all = ap are_cheap plan.plans ∙ sym (ap (is_cheap_path was.state.lists) ready.read) ∙ own in
    subst (λ (h : Held). c.edit_along-edited.new.moves ≤ c.args.moves.now + read_price says h (path_read text)) c.self.view_is
    (subst (λ (n : ℕ). c.edit_along-edited.new.moves ≤ c.args.moves.now + n)
    (planned-prices says was p c.planned-planned.result plan ∙ ap (read_price says was) (sym ready.read)) (c.edit_along-edited.ensures.price all))

pub returns-clause-rows : goal.returns-clause-rows
returns-clause-rows g c =
    let inside = c.self.inside in
    let was = held_as inside.stamped inside.prepared inside.marks inside.watches in
    let text = c.args.path.now in
    let p = read_form c.args.ready.path in
    let edit = c.args.edit.now in
    let ready : IsReadyPath was.state.documents (prepared_of was.state) text c.args.ready =
    subst (λ (h : Held). IsReadyPath h.state.documents (prepared_of h.state) text c.args.ready) (sym c.self.view_is) c.requires in
    let plan = ready-plan was.state.documents (prepared_of was.state) text c.args.ready ready c.planned-planned.result c.planned-planned.ensures.root
    c.planned-planned.ensures.steps c.planned-planned.ensures.plans in
    subst (λ (h : Held). c.edit_along-edited.new.rows ≤ c.args.rows.now + touched_path g.J.Judge.says h.state edit.targets (edit_of edit) text) c.self.view_is
    (subst (λ (n : ℕ). c.edit_along-edited.new.rows ≤ c.args.rows.now + n)
    (touched-ready g.J.Judge.says was.state edit.targets (edit_of edit) text p ready.read c.planned-planned.result plan) c.edit_along-edited.ensures.rows)

pub invariant_of-self : goal.invariant_of-self
invariant_of-self g c =
    let says = g.J.Judge.says in
    let inside = c.self.inside in
    let edit = c.args.edit.now in
    let documents = inside.stamped.indexed.documents in
    let places = map (planned_places says inside.stamped.indexed.abbreviations c.planned-planned.result) documents in
    let edited = c.edit_along-edited.ensures in
    subst (λ (l : NamedLists). AreCurrent says c.edit_along-edited.new.stamped l inside.watches)
    (sym (kept-by-lists (texts_of c.args.ready.plans.items) inside.prepared c.keep_accepted.new.prepared c.edit_along-edited.result c.keep_accepted.ensures.kept c.keep_accepted.ensures.err))
    (edited-current says inside.prepared.lists inside.watches inside.stamped c.edit_along-edited.new.stamped c.self.invariant (edit_of edit) places
    (target_refusal edit.targets (edit_of edit) places) c.edit_along-edited.result edited.answer edited.abbreviations edited.stamps edited.next edited.err edited.refused)

pub returns-clause-stamps : goal.returns-clause-stamps
returns-clause-stamps g c =
    let says = g.J.Judge.says in
    let inside = c.self.inside in
    let was = held_as inside.stamped inside.prepared inside.marks inside.watches in
    let text = c.args.path.now in
    let p = read_form c.args.ready.path in
    let ready : IsReadyPath was.state.documents (prepared_of was.state) text c.args.ready =
    subst (λ (h : Held). IsReadyPath h.state.documents (prepared_of h.state) text c.args.ready) (sym c.self.view_is) c.requires in
    let plan = ready-plan was.state.documents (prepared_of was.state) text c.args.ready ready c.planned-planned.result c.planned-planned.ensures.root
    c.planned-planned.ensures.steps c.planned-planned.ensures.plans in
    let after = c.edit_along-edited.new.stamped.stamps in
    subst (λ (h : Held). IfOk c.keep_accepted.result (λ reply. is_refusal reply ≡ false → KeepOthersRead says h.state (path_read text) h.stamps after)) c.self.view_is
    (subst (λ (r : Result Reply Memory). IfOk r (λ reply. is_refusal reply ≡ false → KeepOthersRead says was.state (path_read text) was.stamps after)) (sym c.keep_accepted.ensures.same)
    (keeps-others says was.state text p ready.read (planned-places says was.state p c.planned-planned.result plan) inside.stamped.next inside.stamped.stamps after c.stamps-stamps.ensures.kept.as_many
    c.edit_along-edited.result c.edit_along-edited.ensures.stamps))
