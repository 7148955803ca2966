-- What a command does to what a session holds.
use Rattle.std.specs.Prelude.{ℕ, Bool, true, false, if◌then◌else◌, List, [], ◌∷◌, Option, Some, None}
use Rattle.document_store.specs.Documents.{dropped, loadable, loaded, tokens_loaded, tokens_named}
use Rattle.doc_profile.specs.Readings.{fragment_of}
use Rattle.kept_plans.specs.Kept.{emptied}
use Rattle.plan_runs.specs.Judgement.{Judgement}
use Rattle.plan_compiler.specs.NamedLists.{NamedLists}
use Rattle.reply_lines.specs.Replies.{is_refusal}
use Rattle.reply_lines.specs.declared.command.Command.{Command}
use Rattle.reply_lines.specs.declared.command.Command.TheVariants as command
use Rattle.reply_lines.specs.declared.reply.Refusal.TheVariants as refusal
use Rattle.reply_lines.specs.declared.reply.Reply.{Reply}
use Rattle.reply_lines.specs.declared.reply.Reply.TheVariants.{Refused}
use Rattle.thesaurus_file.specs.Lines.{thesaurus_of}
use Rattle.word_lists.specs.Stems.{stems_of}
use Rattle.word_lists.specs.KeySets.{key_set_of}
use Rattle.session_state.specs.declared.edit.Targets.TheVariants.{Any}
use Rattle.session_state.specs.declared.shown.Shown.{Shown}
use Rattle.session_state.specs.declared.shown.Shown.TheVariants.{Names, Texts}
use Rattle.session_state.specs.DocumentReplies.{load_refusal, removal_refusal, replied_by}
use Rattle.session_state.specs.Edits.{deleted, deletion, inserted_into, replaced, touched_path, touched_with}
use Rattle.session_state.specs.Explained.{explained}
use Rattle.session_state.specs.KeptTexts.{keep_plans}
use Rattle.session_state.specs.Abbreviations.{abbreviations_put}
use Rattle.session_state.specs.Lists.{stems_put, stop_list_put, thesaurus_put}
use Rattle.session_state.specs.MarkedWords.{answer_marked}
use Rattle.session_state.specs.Marks.{at_mark, mark_named, marked, unmarked}
use Rattle.session_state.specs.Paths.{answer}
use Rattle.session_state.specs.State.{State, Mark, with_documents}
use Rattle.session_state.specs.Stats.{counts}
use Rattle.session_state.specs.Watches.{changed, unwatched, watched}

-- a state with other lists, and the reply. Plans are made under lists, so that none is kept where a list came.
abbrev pub with_lists : State → NamedLists × Reply → State × Reply
with_lists state (lists, reply) =
    ((if is_refusal reply then state else record state { lists = lists; kept = emptied state.kept }), reply)

-- the state after an answer to a path
abbrev pub shown : Judgement → Shown → State → List ℕ → State × Reply
shown says what state path = keep_plans path (state, answer says what state path)

-- the same by the documents of a mark, if there is one of that name
abbrev pub shown_at : Judgement → State → List ℕ → List ℕ → Option Mark → State × Reply
shown_at says state name path None = (state, Refused (refusal.NoSuchName name))
shown_at says state name path (Some mark) = keep_plans path (state, answer says Names (at_mark state mark) path)

-- the state that a command leaves, and its reply, by what is said of selections
unfoldable pub step : Judgement → State → Command → State × Reply
step says state (command.Load name block) = with_documents state (replied_by (load_refusal name) (loaded state.documents name (loadable block)))
step says state (command.Drop name) = with_documents state (replied_by (removal_refusal name) (dropped state.documents name))
step says state (command.Insert how path block) = keep_plans path (inserted_into says state how path block)
step says state (command.Replace path block) = keep_plans path (replaced says state path block)
step says state (command.Delete path) = keep_plans path (deleted says state path)
step says state (command.Stop name block) = with_lists state (stop_list_put state.lists name (key_set_of block))
step says state (command.Abbreviations block) = abbreviations_put state (key_set_of block)
step says state (command.Stems block) = with_lists state (stems_put state.lists (stems_of block))
step says state (command.Thesaurus name block) = with_lists state (thesaurus_put state.lists name (thesaurus_of block))
step says state (command.Query path) = shown says Names state path
step says state (command.QueryAt name path) = shown_at says state name path (mark_named name state.marks)
step says state (command.Print path) = shown says Texts state path
step says state (command.Show path) = keep_plans path (state, answer_marked says state path)
step says state (command.Mark name) = marked state name
step says state (command.Unmark name) = unmarked state name
step says state (command.Watch name path) = watched says state name path
step says state (command.Changes name) = changed says state name
step says state (command.Unwatch name) = unwatched state name
step says state (command.Explain text) = (state, explained text)
step says state command.Stats = (state, counts state)
step says state (command.BadCommand line) = (state, Refused (refusal.BadCommand line))
step says state (command.BadName line) = (state, Refused (refusal.BadName line))

-- ---- what commands change, the rows of the index, and the steps of its cursors

-- whether a command loads a document, takes one out or edits some; no other puts or takes rows
abbrev pub changes_documents : Command → Bool
changes_documents (command.Load name block) = true
changes_documents (command.Drop name) = true
changes_documents (command.Insert how path block) = true
changes_documents (command.Replace path block) = true
changes_documents (command.Delete path) = true
changes_documents _ = false

-- whether a command changes the version of the index: besides those, the one that says where sentences end
abbrev pub changes_version : Command → Bool
changes_version (command.Abbreviations block) = true
changes_version command = changes_documents command

-- whether a command sets a mark or gives one up
abbrev pub changes_marks : Command → Bool
changes_marks (command.Mark name) = true
changes_marks (command.Unmark name) = true
changes_marks _ = false

-- whether a command has a path, by which elements are selected, or asks again by the path of a watch; no other moves cursors
abbrev pub has_path : Command → Bool
has_path (command.Insert how path block) = true
has_path (command.Replace path block) = true
has_path (command.Delete path) = true
has_path (command.Query path) = true
has_path (command.QueryAt name path) = true
has_path (command.Print path) = true
has_path (command.Show path) = true
has_path (command.Watch name path) = true
has_path (command.Changes name) = true
has_path _ = false

-- how many rows a command may put or take: one for each token of a document that is loaded or taken out, and for each word of the texts
-- that don't stay where documents are edited
unfoldable pub rows_for : Judgement → State → Command → ℕ
rows_for says state (command.Load name block) = tokens_loaded state.documents name (loadable block)
rows_for says state (command.Drop name) = tokens_named state.documents name
rows_for says state (command.Insert how path block) = touched_with says state (Some how) path (fragment_of block)
rows_for says state (command.Replace path block) = touched_with says state None path (fragment_of block)
rows_for says state (command.Delete path) = touched_path says state Any deletion path
rows_for says state _ = 0

-- ---- commands one after the other

-- the replies to commands, in order
abbrev pub replies : Judgement → State → List Command → List Reply
replies says state [] = []
replies says state (command ∷ commands) = (step says state command).1 ∷ replies says (step says state command).0 commands

-- the state that commands leave
abbrev pub state_after : Judgement → State → List Command → State
state_after says state [] = state
state_after says state (command ∷ commands) = state_after says (step says state command).0 commands
