-- A command that is refused leaves what is held as it is.
use Rattle.std.proofs.Common.{◌≡◌, ◌∙◌, sym, ap, refl, ℕ, Bool, true, false, cond, ◌++◌, ◌∷◌, List, []}
use Rattle.std.specs.Prelude.{nat_le, length, Option, Some, None, Result, Ok, Err, IfOk, ⊤}
use Rattle.document_store.specs.declared.fault.NotEdited.{NotEdited}
use Rattle.document_store.specs.declared.fault.NotLoaded.{NotLoaded}
use Rattle.document_store.specs.declared.fault.NotLoaded.TheVariants as unloaded
use Rattle.document_store.specs.declared.fault.NotRemoved.TheVariants.{NoSuchName}
use Rattle.document_store.specs.Documents.{added, changed_roots, dropped, edited_documents, edited_within, has_name, limit_of, loadable, loaded, or_limited, without, Edit}
use Rattle.doc_profile.specs.Readings.{fragment_of}
use Rattle.doc_profile.specs.declared.fault.DocFault.{DocFault}
use Rattle.ft_base.specs.Limits.{max_documents, max_marks}
use Rattle.ft_base.specs.declared.fault.QueryFault.{QueryFault}
use Rattle.ft_base.specs.declared.memory.Memory.{Memory}
use Rattle.path_meaning.specs.Collection.{Named}
use Rattle.path_subset.specs.Answer.{path_read}
use Rattle.path_subset.specs.Paths.{PathForm}
use Rattle.plain_tree.specs.Document.{Node, nodes}
use Rattle.plain_tree.specs.declared.place.How.{How}
use Rattle.plan_compiler.specs.NamedLists.{NamedLists}
use Rattle.plan_runs.specs.Judgement.{Judgement}
use Rattle.reply_lines.specs.Replies.{is_refusal}
use Rattle.reply_lines.specs.declared.command.Command.{Command}
use Rattle.reply_lines.specs.declared.command.Command.TheVariants as command
use Rattle.reply_lines.specs.declared.reply.FullOf.TheVariants as full
use Rattle.reply_lines.specs.declared.reply.Refusal.{Refusal}
use Rattle.reply_lines.specs.declared.reply.Refusal.TheVariants as refusal
use Rattle.reply_lines.specs.declared.reply.Reply.{Reply}
use Rattle.reply_lines.specs.declared.reply.Reply.TheVariants as reply
use Rattle.reply_lines.specs.declared.reply.Reply.TheVariants.{Done, Refused}
use Rattle.session_state.specs.declared.edit.Targets.{Targets}
use Rattle.session_state.specs.declared.edit.Targets.TheVariants.{One, Any}
use Rattle.session_state.specs.declared.shown.Shown.TheVariants.{Names, Texts}
use Rattle.word_lists.specs.KeySets.{key_set_of}
use Rattle.session_state.specs.Abbreviations.{abbreviations_put}
use Rattle.session_state.specs.DocumentReplies.{edit_refusal, load_refusal, removal_refusal, replied_by}
use Rattle.session_state.specs.Edits.{deletion, edit_placed, edit_read, edit_selected, edit_with, places_selected, stays_if_refused, target_refusal}
use Rattle.session_state.specs.Held.{Held}
use Rattle.session_state.specs.KeptTexts.{keep_plans}
use Rattle.session_state.specs.MarkedWords.{answer_marked}
use Rattle.session_state.specs.Marks.{at_mark, has_mark, mark_named, mark_put, mark_taken, with_marks, without_mark}
use Rattle.session_state.specs.Paths.{answer, missing_refusal}
use Rattle.standing_queries.specs.Answers.{Answers}
use Rattle.session_state.specs.StampsAfter.{changes_stamps, changes_watches, standings_after, KeepsStamps}
use Rattle.session_state.specs.State.{Mark, State, Watch, with_documents}
use Rattle.session_state.specs.Step.{changes_marks, changes_version, shown_at, step, with_lists}
use Rattle.session_state.specs.Watches.{change_answered, change_found, has_watch, watch_answered, watch_named, watch_refusal, watch_set, watch_taken, with_watch_reply, without_watch}

-- Where the reply is a refusal, what comes with it is what was there.
abbrev pub Stays : {X : Type 0} → X → X × Reply → Type 0
Stays old answered = is_refusal answered.1 ≡ true → answered.0 ≡ old

-- ---- what is answered by tests

refused-if : {X : Type 0} (test : Bool) (old : X) (why : Refusal) (more : X × Reply) → Stays old more → Stays old (cond test (old, Refused why) more)
refused-if true old why more h refused = refl
refused-if false old why more h refused = h refused

refused-else : {X : Type 0} (test : Bool) (old : X) (why : Refusal) (more : X × Reply) → Stays old more → Stays old (cond test more (old, Refused why))
refused-else true old why more h refused = h refused
refused-else false old why more h refused = refl

done : {X : Type 0} (old new : X) → Stays old (new, Done)
done old new refused = let no : ⊥ = cc in absurd no

-- ---- documents, marks, watches and lists

-- Where the collection answers that all stays, the documents are what was there.
abbrev pub Keeps : {E : Type 0} → List Named → List Named × Result ⊤ E → Type 0
Keeps old (documents, Ok done) = ⊤
Keeps old (documents, Err why) = documents ≡ old

keeps-if : {E : Type 0} (test : Bool) (old : List Named) (why : E) (more : List Named × Result ⊤ E) → Keeps old more → Keeps old (cond test (old, Err why) more)
keeps-if true old why more h = refl
keeps-if false old why more h = h

keeps-replied : {E : Type 0} (refuse : E → Refusal) (old : List Named) (answered : List Named × Result ⊤ E) → Keeps old answered → Stays old (replied_by refuse answered)
keeps-replied refuse old (documents, Ok done) h refused = let no : ⊥ = cc in absurd no
keeps-replied refuse old (documents, Err why) h refused = h

keeps-added : (documents : List Named) (name : List ℕ) (document : Result Node NotLoaded) → Keeps documents (added documents name document)
keeps-added documents name (Err why) = refl
keeps-added documents name (Ok root) = tt

stays-loaded : (documents : List Named) (name : List ℕ) (document : Result Node NotLoaded) → Stays documents (replied_by (load_refusal name) (loaded documents name document))
stays-loaded documents name document =
    let room : List Named × Result ⊤ NotLoaded = cond (nat_le max_documents (length documents)) (documents, Err unloaded.Full) (added documents name document) in
    keeps-replied (load_refusal name) documents (loaded documents name document)
    (keeps-if (has_name name documents) documents unloaded.NameTaken room
    (keeps-if (nat_le max_documents (length documents)) documents unloaded.Full (added documents name document) (keeps-added documents name document)))

keeps-dropped : (documents : List Named) (name : List ℕ) (there : Bool) → Keeps documents (cond there (without name documents, Ok tt) (documents, Err NoSuchName))
keeps-dropped documents name true = tt
keeps-dropped documents name false = refl

stays-dropped : (documents : List Named) (name : List ℕ) → Stays documents (replied_by (removal_refusal name) (dropped documents name))
stays-dropped documents name = keeps-replied (removal_refusal name) documents (dropped documents name) (keeps-dropped documents name (has_name name documents))

stays-marked : (marks : List Mark) (name : List ℕ) (documents : List Named) (abbreviations : List (List ℕ)) → Stays marks (mark_put marks name documents abbreviations)
stays-marked marks name documents abbreviations =
    let more : List Mark = marks ++ record { name = name; documents = documents; abbreviations = abbreviations } ∷ [] in
    refused-if (has_mark name marks) marks (refusal.NameTaken name) (cond (nat_le max_marks (length marks)) (marks, Refused (refusal.Full full.Marks)) (more, Done))
    (refused-if (nat_le max_marks (length marks)) marks (refusal.Full full.Marks) (more, Done) (done marks more))

stays-unmarked : (marks : List Mark) (name : List ℕ) → Stays marks (mark_taken marks name)
stays-unmarked marks name =
    refused-else (has_mark name marks) marks (refusal.NoSuchName name) (without_mark name marks, Done) (done marks (without_mark name marks))

stays-unwatched : (watches : List Watch) (name : List ℕ) → Stays watches (watch_taken watches name)
stays-unwatched watches name =
    refused-else (has_watch name watches) watches (refusal.NoSuchName name) (without_watch name watches, Done) (done watches (without_watch name watches))

-- ---- the state round them

in-documents : (state : State) (answered : List Named × Reply) → Stays state.documents answered → Stays state (with_documents state answered)
in-documents state (documents, reply) h refused = ap (λ (ds : List Named). record state { documents = ds }) (h refused)

in-marks : (state : State) (answered : List Mark × Reply) → Stays state.marks answered → Stays state (with_marks state answered)
in-marks state (marks, reply) h refused = ap (λ (ms : List Mark). record state { marks = ms }) (h refused)

in-watches : (state : State) (answered : List Watch × Reply) → Stays state.watches answered → Stays state (with_watch_reply state answered)
in-watches state (watches, reply) h refused = ap (λ (ws : List Watch). record state { watches = ws }) (h refused)

first : {X : Type 0} (test : Bool) (x y : X) → test ≡ true → cond test x y ≡ x
first test x y h = ap (λ t. cond t x y) h

in-lists : (state : State) (answered : NamedLists × Reply) → Stays state (with_lists state answered)
in-lists state (lists, reply) refused = first (is_refusal reply) state _ refused

in-plans : (path : List ℕ) (state : State) (answered : State × Reply) → Stays state answered → Stays state (keep_plans path answered)
in-plans path state (after, reply) h refused = first (is_refusal reply) after _ refused ∙ h refused

stays-abbreviated : (state : State) (keys : Result (List (List ℕ)) ℕ) → Stays state (abbreviations_put state keys)
stays-abbreviated state (Err line) refused = refl
stays-abbreviated state (Ok keys) refused = done state (record state { abbreviations = keys }) refused

-- ---- edits

limited : (documents after : List Named) (limit : Option NotEdited) → Keeps documents (or_limited documents limit after)
limited documents after (Some why) = refl
limited documents after None = tt

stays-within : (documents : List Named) (edit : Edit) (places : List (List (List ℕ))) → Stays documents (replied_by edit_refusal (edited_within edit places documents))
unfolding edited_within
stays-within documents edit places =
    keeps-replied edit_refusal documents (or_limited documents (limit_of (changed_roots edit places documents)) (edited_documents edit places documents))
    (limited documents (edited_documents edit places documents) (limit_of (changed_roots edit places documents)))

stays-placed : (documents : List Named) (edit : Edit) (places : List (List (List ℕ))) (why : Option Refusal) → Stays documents (edit_placed documents edit places why)
stays-placed documents edit places (Some why) refused = refl
stays-placed documents edit places None refused = stays-within documents edit places refused

module _ (says : Judgement) (state : State) where
  stays-selected : (targets : Targets) (edit : Edit) (p : PathForm) (why : Option Refusal) → Stays state (stays_if_refused state why (edit_selected says state targets edit p))
  stays-selected targets edit p (Some why) refused = refl
  stays-selected targets edit p None refused =
      let places = places_selected says state p in
      in-documents state (edit_placed state.documents edit places (target_refusal targets edit places))
      (stays-placed state.documents edit places (target_refusal targets edit places)) refused

  stays-read : (targets : Targets) (edit : Edit) (read : Result PathForm QueryFault) → Stays state (edit_read says state targets edit read)
  stays-read targets edit (Err fault) refused = refl
  stays-read targets edit (Ok p) refused = stays-selected targets edit p (missing_refusal state.documents state.lists p) refused

  stays-with : (how : Option How) (path : List ℕ) (content : Result (List Node) DocFault) → Stays state (edit_with says state how path content)
  stays-with how path (Err fault) refused = refl
  stays-with how path (Ok content) refused = stays-read One (record { how = how; content = nodes content }) (path_read path) refused

  stays-shown : (name path : List ℕ) (mark : Option Mark) → Stays state (shown_at says state name path mark)
  stays-shown name path None refused = refl
  stays-shown name path (Some mark) refused = in-plans path state (state, answer says Names (at_mark state mark) path) (λ _. refl) refused

  -- by the reply to the query of a path
  stays-answered : (name path : List ℕ) (told : Reply) → Stays state (watch_answered state name path told)
  stays-answered name path (reply.Nodes lines) = done state (watch_answered state name path (reply.Nodes lines)).0
  stays-answered name path reply.Done = λ _. refl
  stays-answered name path (reply.Texts lines) = λ _. refl
  stays-answered name path (reply.Shown lines) = λ _. refl
  stays-answered name path (reply.Changed lines) = λ _. refl
  stays-answered name path (reply.Explained text) = λ _. refl
  stays-answered name path (reply.Counts counts) = λ _. refl
  stays-answered name path (reply.Refused why) = λ _. refl

  stays-told : (name : List ℕ) (w : Watch) (told : Reply) → Stays state (change_answered state name w told)
  stays-told name w (reply.Nodes lines) = λ refused. let no : ⊥ = cc in absurd no
  stays-told name w reply.Done = λ _. refl
  stays-told name w (reply.Texts lines) = λ _. refl
  stays-told name w (reply.Shown lines) = λ _. refl
  stays-told name w (reply.Changed lines) = λ _. refl
  stays-told name w (reply.Explained text) = λ _. refl
  stays-told name w (reply.Counts counts) = λ _. refl
  stays-told name w (reply.Refused why) = λ _. refl

  stays-watched : (name path : List ℕ) (why : Option Refusal) → Stays state (watch_set says state name path why)
  stays-watched name path (Some why) refused = refl
  stays-watched name path None refused =
      in-plans path state (watch_answered state name path (answer says Names state path)) (stays-answered name path (answer says Names state path)) refused

  stays-changed : (name : List ℕ) (watch : Option Watch) → Stays state (change_found says state name watch)
  stays-changed name None refused = refl
  stays-changed name (Some w) refused = stays-told name w (answer says Names state w.path) refused

  -- a refused command leaves the state
  pub stays : (c : Command) → Stays state (step says state c)
  unfolding step
  stays (command.Load name block) = in-documents state (replied_by (load_refusal name) (loaded state.documents name (loadable block))) (stays-loaded state.documents name (loadable block))
  stays (command.Drop name) = in-documents state (replied_by (removal_refusal name) (dropped state.documents name)) (stays-dropped state.documents name)
  stays (command.Insert how path block) = in-plans path state (edit_with says state (Some how) path (fragment_of block)) (stays-with (Some how) path (fragment_of block))
  stays (command.Replace path block) = in-plans path state (edit_with says state None path (fragment_of block)) (stays-with None path (fragment_of block))
  stays (command.Delete path) = in-plans path state (edit_read says state Any deletion (path_read path)) (stays-read Any deletion (path_read path))
  stays (command.Stop name block) = in-lists state _
  stays (command.Abbreviations block) = stays-abbreviated state (key_set_of block)
  stays (command.Stems block) = in-lists state _
  stays (command.Thesaurus name block) = in-lists state _
  stays (command.Query path) = in-plans path state (state, answer says Names state path) (λ _. refl)
  stays (command.QueryAt name path) = stays-shown name path (mark_named name state.marks)
  stays (command.Print path) = in-plans path state (state, answer says Texts state path) (λ _. refl)
  stays (command.Show path) = in-plans path state (state, answer_marked says state path) (λ _. refl)
  stays (command.Mark name) = in-marks state (mark_put state.marks name state.documents state.abbreviations) (stays-marked state.marks name state.documents state.abbreviations)
  stays (command.Unmark name) = in-marks state (mark_taken state.marks name) (stays-unmarked state.marks name)
  stays (command.Watch name path) = stays-watched name path (watch_refusal name state.watches)
  stays (command.Changes name) = stays-changed name (watch_named name state.watches)
  stays (command.Unwatch name) = in-watches state (watch_taken state.watches name) (stays-unwatched state.watches name)
  stays (command.Explain text) = λ _. refl
  stays command.Stats = λ _. refl
  stays (command.BadCommand line) = λ _. refl
  stays (command.BadName line) = λ _. refl

-- ---- all that is held

-- what some commands alone change stays where one is refused
stays-where : {X : Type 0} (changes : Bool) (old new : X) (reply : Reply) → (changes ≡ false → new ≡ old) → (changes ≡ true → is_refusal reply ≡ true → new ≡ old)
    → is_refusal reply ≡ true → new ≡ old
stays-where true old new reply kept refused is = refused refl is
stays-where false old new reply kept refused is = kept refl

-- A command was answered, and what is held is the same as before, as far as these facts say.
module _ (says : Judgement) (before after : Held) (c : Command)
    (version : changes_version c ≡ false → after.version ≡ before.version)
    (marks : changes_marks c ≡ false → after.mark_versions ≡ before.mark_versions)
    (stamps : changes_stamps c ≡ false → after.stamps ≡ before.stamps)
    (standings : changes_watches c ≡ false → after.standings ≡ before.standings) where
  same-state : (reply : Reply) → (after.state, reply) ≡ step says before.state c → is_refusal reply ≡ true → after.state ≡ before.state
  same-state reply answered refused =
      let told : reply ≡ (step says before.state c).1 = ap (λ (x : State × Reply). x.1) answered in
      ap (λ (x : State × Reply). x.0) answered ∙ stays says before.state c (ap is_refusal (sym told) ∙ refused)

  pub refused-held : (result : Result Reply Memory) → IfOk result (λ reply. (after.state, reply) ≡ step says before.state c)
      → (changes_version c ≡ true → IfOk result (λ reply. is_refusal reply ≡ true → after.version ≡ before.version))
      → (changes_marks c ≡ true → IfOk result (λ reply. is_refusal reply ≡ true → after.mark_versions ≡ before.mark_versions))
      → (changes_stamps c ≡ true → IfOk result (λ reply. is_refusal reply ≡ true → after.stamps ≡ before.stamps))
      → (changes_watches c ≡ true → IfOk result (λ reply. is_refusal reply ≡ true → after.standings ≡ before.standings))
      → IfOk result (λ reply. is_refusal reply ≡ true → after ≡ before)
  refused-held (Ok reply) answered changed set stamped asked =
      λ refused i.
      record {
        state = same-state reply answered refused i;
        version = stays-where (changes_version c) before.version after.version reply version changed refused i;
        mark_versions = stays-where (changes_marks c) before.mark_versions after.mark_versions reply marks set refused i;
        stamps = stays-where (changes_stamps c) before.stamps after.stamps reply stamps stamped refused i;
        standings = stays-where (changes_watches c) before.standings after.standings reply standings asked refused i;
      }
  refused-held (Err e) answered changed set stamped asked = tt

-- ---- stamps and answers after an accepted command

keeps-stamps : (says : Judgement) (state : State) (c : Command) (before after : List ℕ) → (changes_stamps c ≡ true → KeepsStamps says state c before after)
    → (changes_stamps c ≡ false → after ≡ before) → KeepsStamps says state c before after
unfolding KeepsStamps
keeps-stamps says state (command.Load name block) before after changed kept = changed refl
keeps-stamps says state (command.Drop name) before after changed kept = changed refl
keeps-stamps says state (command.Insert how path block) before after changed kept = changed refl
keeps-stamps says state (command.Replace path block) before after changed kept = changed refl
keeps-stamps says state (command.Delete path) before after changed kept = changed refl
keeps-stamps says state (command.Stop name block) before after changed kept = tt
keeps-stamps says state (command.Stems block) before after changed kept = tt
keeps-stamps says state (command.Abbreviations block) before after changed kept = tt
keeps-stamps says state (command.Thesaurus name block) before after changed kept = tt
keeps-stamps says state (command.Query path) before after changed kept = kept refl
keeps-stamps says state (command.QueryAt name path) before after changed kept = kept refl
keeps-stamps says state (command.Print path) before after changed kept = kept refl
keeps-stamps says state (command.Show path) before after changed kept = kept refl
keeps-stamps says state (command.Mark name) before after changed kept = kept refl
keeps-stamps says state (command.Unmark name) before after changed kept = kept refl
keeps-stamps says state (command.Watch name path) before after changed kept = kept refl
keeps-stamps says state (command.Changes name) before after changed kept = kept refl
keeps-stamps says state (command.Unwatch name) before after changed kept = kept refl
keeps-stamps says state (command.Explain text) before after changed kept = kept refl
keeps-stamps says state command.Stats before after changed kept = kept refl
keeps-stamps says state (command.BadCommand line) before after changed kept = kept refl
keeps-stamps says state (command.BadName line) before after changed kept = kept refl

pub stamps-after : (says : Judgement) (state : State) (c : Command) (before after : List ℕ) (result : Result Reply Memory)
    → (changes_stamps c ≡ true → IfOk result (λ reply. is_refusal reply ≡ false → KeepsStamps says state c before after)) → (changes_stamps c ≡ false → after ≡ before)
    → IfOk result (λ reply. is_refusal reply ≡ false → KeepsStamps says state c before after)
stamps-after says state c before after (Ok reply) changed kept = λ accepted. keeps-stamps says state c before after (λ is. changed is accepted) kept
stamps-after says state c before after (Err e) changed kept = tt

-- what no command but those of watches changes
other-standings : (says : Judgement) (held : Held) (c : Command) → changes_watches c ≡ false → standings_after says held c ≡ held.standings
unfolding standings_after
other-standings says held (command.Load name block) is = refl
other-standings says held (command.Drop name) is = refl
other-standings says held (command.Insert how path block) is = refl
other-standings says held (command.Replace path block) is = refl
other-standings says held (command.Delete path) is = refl
other-standings says held (command.Stop name block) is = refl
other-standings says held (command.Stems block) is = refl
other-standings says held (command.Abbreviations block) is = refl
other-standings says held (command.Thesaurus name block) is = refl
other-standings says held (command.Query path) is = refl
other-standings says held (command.QueryAt name path) is = refl
other-standings says held (command.Print path) is = refl
other-standings says held (command.Show path) is = refl
other-standings says held (command.Mark name) is = refl
other-standings says held (command.Unmark name) is = refl
other-standings says held (command.Watch name path) is = let no : ⊥ = cc in absurd no
other-standings says held (command.Changes name) is = let no : ⊥ = cc in absurd no
other-standings says held (command.Unwatch name) is = let no : ⊥ = cc in absurd no
other-standings says held (command.Explain text) is = refl
other-standings says held command.Stats is = refl
other-standings says held (command.BadCommand line) is = refl
other-standings says held (command.BadName line) is = refl

pub standings-now : (says : Judgement) (held : Held) (c : Command) (after : List Answers) (result : Result Reply Memory)
    → (changes_watches c ≡ true → IfOk result (λ reply. is_refusal reply ≡ false → after ≡ standings_after says held c)) → (changes_watches c ≡ false → after ≡ held.standings)
    → IfOk result (λ reply. is_refusal reply ≡ false → after ≡ standings_after says held c)
standings-now says held c after (Ok reply) changed kept = λ accepted. by (changes_watches c) refl accepted
  where
    by : (test : Bool) → changes_watches c ≡ test → is_refusal reply ≡ false → after ≡ standings_after says held c
    by true is accepted = changed is accepted
    by false is accepted = kept is ∙ sym (other-standings says held c is)
standings-now says held c after (Err e) changed kept = tt
