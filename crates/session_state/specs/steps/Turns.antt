-- What is told of the documents to a watch, by a path with its plans.
use Rattle.std.specs.Prelude.{ℕ, if◌then◌else◌, List, [], ◌∷◌, Some, None, is_some}
use Rattle.path_meaning.specs.Collection.{Named}
use Rattle.plan_runs.specs.Judgement.{Judgement}
use Rattle.standing_queries.specs.Answers.{kept_under, Answers}
use Rattle.standing_queries.specs.declared.turn.Turn.{Turn}
use Rattle.session_state.specs.declared.planned.PlannedPath.{PlannedPath}
use Rattle.session_state.specs.declared.shown.Shown.TheVariants.{Names}
use Rattle.session_state.specs.Edits.{leads_through}
use Rattle.session_state.specs.PlannedPaths.{planned_lines}

-- the lines of the elements of a document to which a path leads; none where it doesn't go through the document
abbrev pub planned_through : Judgement → List (List ℕ) → PlannedPath → Named → List (List ℕ)
planned_through says abbreviations path d = if leads_through path.root.now d.name then planned_lines says abbreviations Names path d else []

-- a document's turn brings its lines, unless some are kept under its stamp
abbrev pub turn_now : Answers → (Named → List (List ℕ)) → ℕ → Named → Turn
turn_now kept lines stamp d = record { stamp = stamp; fresh = if is_some (kept_under stamp kept) then None else Some (lines d) }

abbrev pub turns_now : Answers → (Named → List (List ℕ)) → List ℕ → List Named → List Turn
turns_now kept lines [] documents = []
turns_now kept lines (s ∷ stamps) [] = []
turns_now kept lines (s ∷ stamps) (d ∷ documents) = turn_now kept lines s d ∷ turns_now kept lines stamps documents
