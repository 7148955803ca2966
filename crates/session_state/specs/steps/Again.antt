-- What a watch is answered when it is asked again.
use Rattle.std.specs.Prelude.{◌≡◌, ℕ, List, [], None, Some}
use Rattle.path_subset.specs.Answer.{path_read}
use Rattle.plan_compiler.specs.NamedLists.{NamedLists}
use Rattle.plan_runs.specs.Judgement.{Judgement}
use Rattle.stamped_documents.specs.Stamped.{StampedDocuments}
use Rattle.standing_queries.specs.Answers.{all_lines}
use Rattle.standing_queries.specs.Changes.{changes}
use Rattle.session_state.specs.declared.watches.KeptWatch.{KeptWatch}
use Rattle.session_state.specs.declared.watching.Again.{Again}
use Rattle.session_state.specs.declared.watching.Again.TheVariants as again
use Rattle.session_state.specs.Held.{Held}
use Rattle.session_state.specs.KeptWatches.{kept_watch}
use Rattle.session_state.specs.ReadyPaths.{path_refusal}
use Rattle.session_state.specs.Standings.{answers_to}
use Rattle.session_state.specs.StateView.{state_of}

-- documents with their stamps, and lists, as what a session without marks and watches holds
abbrev pub held_with : StampedDocuments → NamedLists → Held
held_with stamped lists =
    record { state = state_of stamped.indexed lists; version = stamped.indexed.version; mark_versions = []; stamps = stamped.stamps; standings = [] }

-- The watch keeps what its path answers now.
abbrev pub watch_again : Judgement → Held → KeptWatch → KeptWatch
watch_again says held watch = kept_watch watch.path (answers_to says held watch.path)

-- all that a path names is there, the watch keeps what its path answers now, and the lines are the changes since what it kept
pub record AreAnswers (says : Judgement) (held : Held) (old new : KeptWatch) (told : List (List ℕ)) : Type 0 where
  pub found : path_refusal held.state.documents held.state.lists (path_read old.path) ≡ None
  pub watch : new ≡ watch_again says held old
  pub lines : told ≡ changes (all_lines old.standing) (all_lines (answers_to says held old.path))

-- Either that, or its path is refused.
abbrev pub IsAgain : Judgement → Held → KeptWatch → Again → Type 0
IsAgain says held watch (again.Answers new lines) = AreAnswers says held watch new lines
IsAgain says held watch (again.Refused why) = path_refusal held.state.documents held.state.lists (path_read watch.path) ≡ Some why
