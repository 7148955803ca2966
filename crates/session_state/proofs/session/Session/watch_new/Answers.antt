-- The watch is set, and its path's plans are kept.
use Rattle.std.proofs.Common.{◌≡◌, ◌∙◌, ◌≤◌, ◌+◌, refl, sym, ap, subst, ℕ, List, [], ◌∷◌, ◌++◌, false}
use Rattle.std.specs.Prelude.{None, Result, IfOk, OnOk}
use Rattle.std.specs.Str.{bytes_eq}
use Rattle.indexmap.specs.IndexMap.{insert_entry}
use Rattle.document_store.specs.Indexed.{Indexed}
use Rattle.ft_base.specs.declared.memory.Memory.{Memory}
use Rattle.kept_plans.specs.Kept.{all_used}
use Rattle.kept_plans.specs.Preparation.{texts_of}
use Rattle.plan_compiler.specs.NamedLists.{NamedLists}
use Rattle.path_meaning.specs.Collection.{Named}
use Rattle.path_subset.specs.Answer.{path_read}
use Rattle.path_subset.specs.Paths.{read_form}
use Rattle.reply_lines.specs.Replies.{is_refusal}
use Rattle.reply_lines.specs.declared.reply.Reply.{Reply}
use Rattle.session_state.specs.Held.{Held}
use Rattle.session_state.specs.KeptTexts.{kept_after}
use Rattle.session_state.specs.KeptWatches.{kept_watch, standings_of, watches_of}
use Rattle.session_state.specs.PathPrices.{are_cheap, is_cheap_path, read_price}
use Rattle.session_state.specs.ReadyPaths.{path_refusal, IsReady, IsReadyPath}
use Rattle.session_state.specs.Standings.{answers_now, answers_to, AreCurrent}
use Rattle.session_state.specs.Watches.{watch_refusal, watched, with_watches}
use Rattle.session_state.proofs.EditLemmas.{replied, with_prepared_in}
use Rattle.session_state.proofs.PathLemmas.{all-found, planned-prices, ready-plan, texts-under}
use Rattle.session_state.proofs.StandingLemmas.{accepted-when, kept-by-lists, now-current, planned-through, read-lines, set-current}
use Rattle.session_state.proofs.StateLemmas.{held_as}
use Rattle.session_state.proofs.WatchingLemmas.{put-standings, watch-replied}
use Rattle.session_state.proofs.session.Session.watch_new.Goals as goal

pub invariant_of-self : goal.invariant_of-self
invariant_of-self g c =
    let says = g.J.Judge.says in
    let inside = c.self.inside in
    let was = held_as inside.stamped inside.prepared inside.marks inside.watches in
    let stamped = inside.stamped in
    let lists = inside.prepared.lists in
    let text = c.args.path.now in
    let name = c.args.name.now in
    let p = read_form c.in-Ok-Path.ready.path in
    let ready : IsReadyPath stamped.indexed.documents inside.prepared text c.in-Ok-Path.ready =
    subst (λ (i : Indexed). IsReadyPath i.documents inside.prepared text c.in-Ok-Path.ready) c.collection.ensures
    (subst (λ (t : List ℕ). IsReadyPath c.collection.result.now.documents inside.prepared t c.in-Ok-Path.ready) c.as_str.ensures
    (subst (IsReady c.collection.result.now.documents inside.prepared c.as_str.result.now) c.in-Ok-Path.field-0-is c.in-Ok-Path.ensures)) in
    let plan = ready-plan stamped.indexed.documents inside.prepared text c.in-Ok-Path.ready ready c.planned.result c.planned.ensures.root c.planned.ensures.steps c.planned.ensures.plans in
    let lines = planned-through says stamped.indexed.abbreviations lists p c.planned.result plan ∙ sym (read-lines says stamped.indexed.abbreviations lists text p ready.read) in
    let set : OnOk c.set_watch-set.result (c.set_watch-set.new.watches ≡ insert_entry bytes_eq inside.watches name (kept_watch text (answers_to says was text))) =
    subst (λ (ls : Named → List (List ℕ)). OnOk c.set_watch-set.result (c.set_watch-set.new.watches ≡ insert_entry bytes_eq inside.watches name (kept_watch text (answers_now ls stamped.stamps stamped.indexed.documents))))
    lines c.set_watch-set.ensures.set in
    let q = c.keep_accepted.new.prepared in
    subst (λ (l : NamedLists). AreCurrent says stamped l c.set_watch-set.new.watches)
    (sym (kept-by-lists (texts_of c.in-Ok-Path.ready.plans.items) inside.prepared q c.set_watch-set.result c.keep_accepted.ensures.kept c.keep_accepted.ensures.err))
    (set-current says stamped lists name (kept_watch text (answers_to says was text)) inside.watches c.set_watch-set.new.watches c.set_watch-set.result set c.set_watch-set.ensures.err c.self.invariant
    (now-current says stamped lists (kept_watch text (answers_to says was text)) refl c.stamps-stamps.ensures.kept))

pub returns-in-Ok-Path-clause-answer : goal.returns-in-Ok-Path-clause-answer
returns-in-Ok-Path-clause-answer g c =
    let says = g.J.Judge.says in
    let inside = c.self.inside in
    let was = held_as inside.stamped inside.prepared inside.marks inside.watches in
    let stamped = inside.stamped in
    let lists = inside.prepared.lists in
    let text = c.args.path.now in
    let name = c.args.name.now in
    let p = read_form c.in-Ok-Path.ready.path in
    let ready : IsReadyPath stamped.indexed.documents inside.prepared text c.in-Ok-Path.ready =
    subst (λ (i : Indexed). IsReadyPath i.documents inside.prepared text c.in-Ok-Path.ready) c.collection.ensures
    (subst (λ (t : List ℕ). IsReadyPath c.collection.result.now.documents inside.prepared t c.in-Ok-Path.ready) c.as_str.ensures
    (subst (IsReady c.collection.result.now.documents inside.prepared c.as_str.result.now) c.in-Ok-Path.field-0-is c.in-Ok-Path.ensures)) in
    let plan = ready-plan stamped.indexed.documents inside.prepared text c.in-Ok-Path.ready ready c.planned.result c.planned.ensures.root c.planned.ensures.steps c.planned.ensures.plans in
    let lines = planned-through says stamped.indexed.abbreviations lists p c.planned.result plan ∙ sym (read-lines says stamped.indexed.abbreviations lists text p ready.read) in
    let set : OnOk c.set_watch-set.result (c.set_watch-set.new.watches ≡ insert_entry bytes_eq inside.watches name (kept_watch text (answers_to says was text))) =
    subst (λ (ls : Named → List (List ℕ)). OnOk c.set_watch-set.result (c.set_watch-set.new.watches ≡ insert_entry bytes_eq inside.watches name (kept_watch text (answers_now ls stamped.stamps stamped.indexed.documents))))
    lines c.set_watch-set.ensures.set in
    let found : path_refusal stamped.indexed.documents lists (path_read text) ≡ None = ap (path_refusal stamped.indexed.documents lists) ready.read ∙ all-found was.state p ready.document ready.lists in
    let new : watch_refusal name was.state.watches ≡ None = ap (λ (h : Held). watch_refusal name h.state.watches) c.self.view_is ∙ c.requires in
    let q = c.keep_accepted.new.prepared in
    let after = c.set_watch-set.new.watches in
    let used : kept_after text (path_read text) was.state.kept ≡ all_used (texts_of c.in-Ok-Path.ready.plans.items) was.state.kept =
    ap (λ r. kept_after text r was.state.kept) ready.read ∙ ap (λ ts. all_used ts was.state.kept) (sym (ap texts_of ready.plans ∙ texts-under lists text p)) in
    let done = watch-replied says was inside.watches refl refl c.stamps-stamps.ensures.kept.as_many name text new found c.set_watch-set.result after q
    (texts_of c.in-Ok-Path.ready.plans.items) used c.set_watch-set.ensures.done set c.keep_accepted.ensures.kept in
    subst (λ (h : Held). IfOk c.keep_accepted.result (λ reply. replied (with_prepared_in (with_watches (watches_of after) was.state) q) reply ≡ watched says h.state name text)) c.self.view_is
    (subst (λ (r : Result Reply Memory). IfOk r (λ reply. replied (with_prepared_in (with_watches (watches_of after) was.state) q) reply ≡ watched says was.state name text))
    (sym c.keep_accepted.ensures.same) done)

pub returns-in-Ok-Path-clause-standings : goal.returns-in-Ok-Path-clause-standings
returns-in-Ok-Path-clause-standings g c =
    let says = g.J.Judge.says in
    let inside = c.self.inside in
    let was = held_as inside.stamped inside.prepared inside.marks inside.watches in
    let stamped = inside.stamped in
    let lists = inside.prepared.lists in
    let text = c.args.path.now in
    let name = c.args.name.now in
    let p = read_form c.in-Ok-Path.ready.path in
    let ready : IsReadyPath stamped.indexed.documents inside.prepared text c.in-Ok-Path.ready =
    subst (λ (i : Indexed). IsReadyPath i.documents inside.prepared text c.in-Ok-Path.ready) c.collection.ensures
    (subst (λ (t : List ℕ). IsReadyPath c.collection.result.now.documents inside.prepared t c.in-Ok-Path.ready) c.as_str.ensures
    (subst (IsReady c.collection.result.now.documents inside.prepared c.as_str.result.now) c.in-Ok-Path.field-0-is c.in-Ok-Path.ensures)) in
    let plan = ready-plan stamped.indexed.documents inside.prepared text c.in-Ok-Path.ready ready c.planned.result c.planned.ensures.root c.planned.ensures.steps c.planned.ensures.plans in
    let lines = planned-through says stamped.indexed.abbreviations lists p c.planned.result plan ∙ sym (read-lines says stamped.indexed.abbreviations lists text p ready.read) in
    let set : OnOk c.set_watch-set.result (c.set_watch-set.new.watches ≡ insert_entry bytes_eq inside.watches name (kept_watch text (answers_to says was text))) =
    subst (λ (ls : Named → List (List ℕ)). OnOk c.set_watch-set.result (c.set_watch-set.new.watches ≡ insert_entry bytes_eq inside.watches name (kept_watch text (answers_now ls stamped.stamps stamped.indexed.documents))))
    lines c.set_watch-set.ensures.set in
    let found : path_refusal stamped.indexed.documents lists (path_read text) ≡ None = ap (path_refusal stamped.indexed.documents lists) ready.read ∙ all-found was.state p ready.document ready.lists in
    let new : watch_refusal name was.state.watches ≡ None = ap (λ (h : Held). watch_refusal name h.state.watches) c.self.view_is ∙ c.requires in
    let after = c.set_watch-set.new.watches in
    let more = ap (λ (h : Held). h.standings ++ answers_to says h text ∷ []) c.self.view_is in
    subst (λ (r : Result Reply Memory). IfOk r (λ reply. is_refusal reply ≡ false → standings_of after ≡ c.args.self.now.standings ++ answers_to says c.args.self.now text ∷ [])) (sym c.keep_accepted.ensures.same)
    (accepted-when c.set_watch-set.result (λ is. ap standings_of is ∙ (put-standings says was inside.watches refl refl c.stamps-stamps.ensures.kept.as_many name text new found ∙ more)) set)

pub returns-in-Ok-Path-clause-price : goal.returns-in-Ok-Path-clause-price
returns-in-Ok-Path-clause-price g c cheap =
    let says = g.J.Judge.says in
    let inside = c.self.inside in
    let was = held_as inside.stamped inside.prepared inside.marks inside.watches in
    let stamped = inside.stamped in
    let lists = inside.prepared.lists in
    let text = c.args.path.now in
    let name = c.args.name.now in
    let p = read_form c.in-Ok-Path.ready.path in
    let ready : IsReadyPath stamped.indexed.documents inside.prepared text c.in-Ok-Path.ready =
    subst (λ (i : Indexed). IsReadyPath i.documents inside.prepared text c.in-Ok-Path.ready) c.collection.ensures
    (subst (λ (t : List ℕ). IsReadyPath c.collection.result.now.documents inside.prepared t c.in-Ok-Path.ready) c.as_str.ensures
    (subst (IsReady c.collection.result.now.documents inside.prepared c.as_str.result.now) c.in-Ok-Path.field-0-is c.in-Ok-Path.ensures)) in
    let plan = ready-plan stamped.indexed.documents inside.prepared text c.in-Ok-Path.ready ready c.planned.result c.planned.ensures.root c.planned.ensures.steps c.planned.ensures.plans in
    let own = ap (λ (h : Held). is_cheap_path h.state.lists (path_read text)) c.self.view_is ∙ cheap in
    let all = ap are_cheap plan.plans ∙ sym (ap (is_cheap_path was.state.lists) ready.read) ∙ own in
    subst (λ (h : Held). c.set_watch-set.new.moves ≤ c.args.moves.now + read_price says h (path_read text)) c.self.view_is
    (subst (λ (n : ℕ). c.set_watch-set.new.moves ≤ c.args.moves.now + n)
    (planned-prices says was p c.planned.result plan ∙ ap (read_price says was) (sym ready.read)) (c.set_watch-set.ensures.price all))
