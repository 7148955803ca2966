-- Watches as the code holds them: names, each with a path and what this answered last, document by document.
use Rattle.std.specs.Prelude.{ℕ, List, map}
use Rattle.standing_queries.specs.Answers.{all_lines, Answers}
use Rattle.session_state.specs.declared.watches.KeptWatch.{KeptWatch}
use Rattle.session_state.specs.State.{Watch}

-- the lines that are kept are those of all documents
abbrev pub to_watch : List ℕ × KeptWatch → Watch
to_watch e = record { name = e.0; path = e.1.path; lines = all_lines e.1.standing }

abbrev pub watches_of : List (List ℕ × KeptWatch) → List Watch
watches_of entries = map to_watch entries

abbrev pub standings_of : List (List ℕ × KeptWatch) → List Answers
standings_of entries = map (λ e. e.1.standing) entries

-- a path with what it answered
abbrev pub kept_watch : List ℕ → Answers → KeptWatch
kept_watch path standing = record { path = path; standing = standing }
