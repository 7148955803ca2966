-- What a session holds: its state, what the versions of its index mean, that of now and that of each mark, the stamps of its documents, and
-- what each watch answered last, document by document.
use Rattle.std.specs.Prelude.{ℕ, List, []}
use Rattle.index_meaning.specs.Documents.{Numbered}
use Rattle.session_state.specs.State.{State, opening}
use Rattle.standing_queries.specs.Answers.{Answers}

pub record Held : Type 0 where
  pub state : State
  pub version : List Numbered
  pub mark_versions : List (List Numbered)
  pub stamps : List ℕ
  pub standings : List Answers

-- a session that holds nothing
abbrev pub nothing_held : Held
nothing_held = record { state = opening; version = []; mark_versions = []; stamps = []; standings = [] }
