-- What commands do to the stamps of documents, and to the answers that watches keep under them.
use Rattle.std.specs.Prelude.{◌≡◌, ℕ, Bool, true, false, List, [], ◌∷◌, ◌++◌, Result, Ok, Err, ⊤}
use Rattle.ft_base.specs.Lists.{is_empty}
use Rattle.ft_base.specs.declared.fault.QueryFault.{QueryFault}
use Rattle.path_subset.specs.Answer.{path_read}
use Rattle.path_subset.specs.Paths.{PathForm}
use Rattle.plan_runs.specs.Judgement.{Judgement}
use Rattle.reply_lines.specs.declared.command.Command.{Command}
use Rattle.reply_lines.specs.declared.command.Command.TheVariants as command
use Rattle.stamped_documents.specs.Stamps.{without_stamp}
use Rattle.standing_queries.specs.Answers.{Answers}
use Rattle.session_state.specs.Edits.{places_selected}
use Rattle.session_state.specs.Held.{Held}
use Rattle.session_state.specs.Standings.{answers_to, standings_changed, without_standing}
use Rattle.session_state.specs.State.{State}
use Rattle.session_state.specs.Watches.{watch_named}

-- ---- stamps

-- whether a command gives documents stamps: it loads, takes out or edits some, or changes a list or the abbreviations
abbrev pub changes_stamps : Command → Bool
changes_stamps (command.Load name block) = true
changes_stamps (command.Drop name) = true
changes_stamps (command.Insert how path block) = true
changes_stamps (command.Replace path block) = true
changes_stamps (command.Delete path) = true
changes_stamps (command.Stop name block) = true
changes_stamps (command.Stems block) = true
changes_stamps (command.Abbreviations block) = true
changes_stamps (command.Thesaurus name block) = true
changes_stamps _ = false

-- One stamp more comes behind those that were there.
pub record HasOneMore (before after : List ℕ) : Type 0 where
  pub stamp : ℕ
  pub more : after ≡ before ++ stamp ∷ []

-- Documents of which nothing is edited keep their stamps.
abbrev pub KeepOthers : List (List (List ℕ)) → List ℕ → List ℕ → Type 0
KeepOthers [] [] [] = ⊤
KeepOthers (places ∷ rest) (b ∷ before) (a ∷ after) = (is_empty places ≡ true → a ≡ b) × KeepOthers rest before after
KeepOthers places before after = ⊥

abbrev pub KeepOthersRead : Judgement → State → Result PathForm QueryFault → List ℕ → List ℕ → Type 0
KeepOthersRead says state (Err fault) before after = ⊤
KeepOthersRead says state (Ok p) before after = KeepOthers (places_selected says state p) before after

-- Which stamps an accepted command keeps: it gives new ones to documents that it loads or edits alone, unless it changes lists or abbreviations.
unfoldable pub KeepsStamps : Judgement → State → Command → List ℕ → List ℕ → Type 0
KeepsStamps says state (command.Load name block) before after = HasOneMore before after
KeepsStamps says state (command.Drop name) before after = after ≡ without_stamp name state.documents before
KeepsStamps says state (command.Insert how path block) before after = KeepOthersRead says state (path_read path) before after
KeepsStamps says state (command.Replace path block) before after = KeepOthersRead says state (path_read path) before after
KeepsStamps says state (command.Delete path) before after = KeepOthersRead says state (path_read path) before after
KeepsStamps says state (command.Stop name block) before after = ⊤
KeepsStamps says state (command.Stems block) before after = ⊤
KeepsStamps says state (command.Abbreviations block) before after = ⊤
KeepsStamps says state (command.Thesaurus name block) before after = ⊤
KeepsStamps says state _ before after = after ≡ before

-- ---- answers

-- whether a command sets a watch, tells its changes or gives it up
abbrev pub changes_watches : Command → Bool
changes_watches (command.Watch name path) = true
changes_watches (command.Changes name) = true
changes_watches (command.Unwatch name) = true
changes_watches _ = false

-- what watches keep after an accepted command: a watch that is set, or whose changes are told, keeps what its path answers now
unfoldable pub standings_after : Judgement → Held → Command → List Answers
standings_after says held (command.Watch name path) = held.standings ++ answers_to says held path ∷ []
standings_after says held (command.Changes name) = standings_changed says held name (watch_named name held.state.watches)
standings_after says held (command.Unwatch name) = without_standing name held.state.watches held.standings
standings_after says held _ = held.standings
