-- The elements that a path selects in documents, by their references.
use Rattle.std.specs.Prelude.{◌≡◌, ℕ, if◌then◌else◌, List, [], ◌∷◌, map, All, ⊤}
use Rattle.std.specs.List.{sum_by}
use Rattle.document_store.specs.Documents.{Edit}
use Rattle.document_store.specs.Loaded.{LoadedTree, to_document}
use Rattle.document_edits.specs.Targets.{places_of}
use Rattle.ft_base.specs.declared.ids.NodeRef.{NodeRef}
use Rattle.path_meaning.specs.Collection.{Named}
use Rattle.path_nodes.specs.References.{IsElement}
use Rattle.plain_tree.specs.Document.{nodes}
use Rattle.plain_tree.specs.View.{node}
use Rattle.plan_runs.specs.Judgement.{Judgement}
use Rattle.plan_runs.specs.RunMeaning.{RunMeaning}
use Rattle.session_state.specs.declared.edit.Edit as code
use Rattle.session_state.specs.declared.planned.PlannedPath.{PlannedPath}
use Rattle.session_state.specs.Edits.{leads_through}
use Rattle.session_state.specs.PlannedPaths.{planned_in, planned_price}

-- what the code's edit is
abbrev pub edit_of : code.Edit → Edit
edit_of edit = record { how = edit.how; content = nodes (map node edit.content.now) }

-- the places of the elements of a document to which a path leads; none where it doesn't go through the document
abbrev pub planned_places : Judgement → List (List ℕ) → PlannedPath → Named → List (List ℕ)
planned_places says abbreviations path d =
    if leads_through path.root.now d.name then map (λ e. e.place) (planned_in says abbreviations path d.root) else []

-- what the tests cost for which a path asks in a document
abbrev pub price_through : Judgement → List (List ℕ) → PlannedPath → List RunMeaning → Named → ℕ
price_through says abbreviations path runs d =
    if leads_through path.root.now d.name then planned_price says abbreviations path runs d.root else 0

abbrev pub prices_through : Judgement → List (List ℕ) → PlannedPath → List RunMeaning → List Named → ℕ
prices_through says abbreviations path runs documents = sum_by (price_through says abbreviations path runs) documents

-- References name the elements of a document to which a path leads.
pub record AreLedTo (says : Judgement) (abbreviations : List (List ℕ)) (path : PlannedPath) (e : List ℕ × LoadedTree) (refs : List NodeRef) : Type 0 where
  pub there : All (IsElement e.1.tree.root) refs
  pub places : places_of e.1.tree.root refs ≡ planned_places says abbreviations path (to_document e)

-- Lists of references do, one for each document.
abbrev pub AreLedToEach : Judgement → List (List ℕ) → PlannedPath → List (List ℕ × LoadedTree) → List (List NodeRef) → Type 0
AreLedToEach says abbreviations path [] [] = ⊤
AreLedToEach says abbreviations path [] (refs ∷ rest) = ⊥
AreLedToEach says abbreviations path (e ∷ es) [] = ⊥
AreLedToEach says abbreviations path (e ∷ es) (refs ∷ rest) = AreLedTo says abbreviations path e refs × AreLedToEach says abbreviations path es rest
