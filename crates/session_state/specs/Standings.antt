-- The lines of a path document by document, each under the stamp of its document, and what kept ones know of those of now.
use Rattle.std.specs.Prelude.{◌≡◌, ℕ, ◌+◌, ◌<◌, if◌then◌else◌, List, [], ◌∷◌, Option, Some, None, Result, Ok, Err, ⊤, is_some}
use Rattle.std.specs.List.{AllByRecursion}
use Rattle.std.specs.Str.{bytes_eq}
use Rattle.ft_base.specs.declared.fault.QueryFault.{QueryFault}
use Rattle.path_meaning.specs.Collection.{Named}
use Rattle.path_subset.specs.Answer.{path_read}
use Rattle.path_subset.specs.Paths.{PathForm}
use Rattle.plan_compiler.specs.NamedLists.{NamedLists}
use Rattle.plan_runs.specs.Judgement.{Judgement}
use Rattle.stamped_documents.specs.Stamped.{StampedDocuments}
use Rattle.standing_queries.specs.Answers.{kept_under, Answers}
use Rattle.session_state.specs.declared.shown.Shown.TheVariants.{Names}
use Rattle.session_state.specs.declared.watches.KeptWatch.{KeptWatch}
use Rattle.session_state.specs.Edits.{leads_through}
use Rattle.session_state.specs.Held.{Held}
use Rattle.session_state.specs.Paths.{lines_of, selected_in}
use Rattle.session_state.specs.State.{Watch}

-- ---- the lines of now

-- the lines that name the elements of a document that a path selects; none where it doesn't lead through the document
abbrev pub lines_in : Judgement → List (List ℕ) → NamedLists → PathForm → Named → List (List ℕ)
lines_in says abbreviations lists p d = if leads_through p.path.root d.name then lines_of Names d.name d.root (selected_in says abbreviations lists p d.root) else []

-- a text that is no path has none
abbrev pub lines_read : Judgement → List (List ℕ) → NamedLists → Result PathForm QueryFault → Named → List (List ℕ)
lines_read says abbreviations lists (Err fault) d = []
lines_read says abbreviations lists (Ok p) d = lines_in says abbreviations lists p d

-- the lines of each document under its stamp
abbrev pub answers_now : (Named → List (List ℕ)) → List ℕ → List Named → Answers
answers_now lines [] documents = []
answers_now lines (s ∷ stamps) [] = []
answers_now lines (s ∷ stamps) (d ∷ documents) = (s, lines d) ∷ answers_now lines stamps documents

-- what a path answers now
abbrev pub answers_to : Judgement → Held → List ℕ → Answers
answers_to says held path = answers_now (lines_read says held.state.abbreviations held.state.lists (path_read path)) held.stamps held.state.documents

-- ---- the answers that watches keep

-- the answers of the watch of a name, by those of all watches in order
abbrev pub standing_of : List ℕ → List Watch → List Answers → Answers
standing_of name [] standings = []
standing_of name (w ∷ ws) [] = []
standing_of name (w ∷ ws) (a ∷ more) = if bytes_eq name w.name then a else standing_of name ws more

-- the answers, where the watch of a name keeps these
abbrev pub with_standing : List ℕ → Answers → List Watch → List Answers → List Answers
with_standing name answers [] standings = standings
with_standing name answers (w ∷ ws) [] = []
with_standing name answers (w ∷ ws) (a ∷ more) = if bytes_eq name w.name then answers ∷ more else a ∷ with_standing name answers ws more

-- the answers without those of the watch of a name
abbrev pub without_standing : List ℕ → List Watch → List Answers → List Answers
without_standing name [] standings = standings
without_standing name (w ∷ ws) [] = []
without_standing name (w ∷ ws) (a ∷ more) = if bytes_eq name w.name then more else a ∷ without_standing name ws more

abbrev pub standings_changed : Judgement → Held → List ℕ → Option Watch → List Answers
standings_changed says held name None = held.standings
standings_changed says held name (Some w) = with_standing name (answers_to says held w.path) held.state.watches held.standings

-- ---- what kept answers know

-- Lines are these, where there are any.
abbrev pub AreThose : Option (List (List ℕ)) → List (List ℕ) → Type 0
AreThose None lines = ⊤
AreThose (Some kept) lines = kept ≡ lines

-- What is kept under the stamp of a document are its lines.
abbrev pub AreKnown : Answers → (Named → List (List ℕ)) → List ℕ → List Named → Type 0
AreKnown kept lines [] documents = ⊤
AreKnown kept lines (s ∷ stamps) [] = ⊤
AreKnown kept lines (s ∷ stamps) (d ∷ documents) = AreThose (kept_under s kept) (lines d) × AreKnown kept lines stamps documents

-- What a watch keeps under the stamps of documents are the lines of its path in them, and no stamp comes that it keeps already.
pub record IsCurrent (says : Judgement) (stamped : StampedDocuments) (lists : NamedLists) (w : KeptWatch) : Type 0 where
  pub known : AreKnown w.standing (lines_read says stamped.indexed.abbreviations lists (path_read w.path)) stamped.stamps stamped.indexed.documents
  pub below : AllByRecursion (λ a. a.0 < stamped.next) w.standing

abbrev pub AreCurrent : Judgement → StampedDocuments → NamedLists → List (List ℕ × KeptWatch) → Type 0
AreCurrent says stamped lists watches = AllByRecursion (λ e. IsCurrent says stamped lists e.1) watches

-- ---- which documents are asked again

-- what documents cost of which nothing is known
abbrev pub unknown_price : Answers → (Named → ℕ) → List ℕ → List Named → ℕ
unknown_price kept price [] documents = 0
unknown_price kept price (s ∷ stamps) [] = 0
unknown_price kept price (s ∷ stamps) (d ∷ documents) = (if is_some (kept_under s kept) then 0 else price d) + unknown_price kept price stamps documents
