-- What the commands that edit do: to which elements, and why they are refused.
use Rattle.std.specs.Prelude.{ℕ, ◌==◌, Bool, true, false, ◌&&◌, not, nat_lt, if◌then◌else◌, List, [], length, map, bytes_eq}
use Rattle.std.specs.Prelude.{Option, Some, None, Result, Ok, Err}
use Rattle.std.specs.List.{list_any, sum_by}
use Rattle.document_store.specs.Documents.{Edit, edited_within, touched_in}
use Rattle.doc_profile.specs.Readings.{fragment_of}
use Rattle.doc_profile.specs.declared.fault.DocFault.{DocFault}
use Rattle.ft_base.specs.Lists.{is_empty}
use Rattle.ft_base.specs.declared.fault.QueryFault.{QueryFault}
use Rattle.path_grammar.specs.declared.path.PathRoot.{PathRoot}
use Rattle.path_grammar.specs.declared.path.PathRoot.TheVariants.{Collection, Doc}
use Rattle.path_meaning.specs.Collection.{Named}
use Rattle.path_subset.specs.Answer.{path_read}
use Rattle.path_subset.specs.Paths.{PathForm}
use Rattle.plain_tree.specs.Document.{Node, nodes, no_nodes}
use Rattle.plain_tree.specs.declared.place.How.{How}
use Rattle.plan_runs.specs.Judgement.{Judgement}
use Rattle.reply_lines.specs.declared.reply.Refusal.{Refusal}
use Rattle.reply_lines.specs.declared.reply.Refusal.TheVariants as refusal
use Rattle.reply_lines.specs.declared.reply.Reply.{Reply}
use Rattle.reply_lines.specs.declared.reply.Reply.TheVariants.{Refused}
use Rattle.tree_edits.specs.Acts.{stays}
use Rattle.session_state.specs.declared.edit.Targets.{Targets}
use Rattle.session_state.specs.declared.edit.Targets.TheVariants.{One, Any}
use Rattle.session_state.specs.DocumentReplies.{edit_refusal, replied_by}
use Rattle.session_state.specs.Paths.{missing_refusal, selected_in}
use Rattle.session_state.specs.State.{State, with_documents}

-- ---- the elements of which an edit is

-- whether a path goes through the document of a name
abbrev pub leads_through : PathRoot → List ℕ → Bool
leads_through Collection name = true
leads_through (Doc asked) name = bytes_eq asked name

-- the places of the elements that a path selects, of each document in order
abbrev pub places_selected : Judgement → State → PathForm → List (List (List ℕ))
places_selected says state p =
    map (λ d. if leads_through p.path.root d.name then map (λ e. e.place) (selected_in says state.abbreviations state.lists p d.root) else []) state.documents

abbrev pub target_count : List (List (List ℕ)) → ℕ
target_count places = sum_by length places

abbrev pub has_root : List (List (List ℕ)) → Bool
has_root places = list_any (list_any is_empty) places

-- ---- edits

abbrev pub is_one : Targets → Bool
is_one One = true
is_one Any = false

-- why so many elements can't be edited: there are none, too many, or a root is among them that doesn't stay where it is
abbrev pub targets_refused : Targets → Option How → ℕ → Bool → Option Refusal
targets_refused targets how count rooted =
    if count == 0 then Some refusal.NoTarget
    else if is_one targets && nat_lt 1 count then Some (refusal.ManyTargets count)
    else if not (stays how) && rooted then Some refusal.RootTarget
    else None

abbrev pub target_refusal : Targets → Edit → List (List (List ℕ)) → Option Refusal
target_refusal targets edit places = targets_refused targets edit.how (target_count places) (has_root places)

-- the documents after an edit, unless one of them would exceed a limit
abbrev pub edit_placed : List Named → Edit → List (List (List ℕ)) → Option Refusal → List Named × Reply
edit_placed documents edit places (Some why) = (documents, Refused why)
edit_placed documents edit places None = replied_by edit_refusal (edited_within edit places documents)

-- ---- what is refused before, in the order in which it is tried

abbrev pub edit_selected : Judgement → State → Targets → Edit → PathForm → State × Reply
edit_selected says state targets edit p =
    with_documents state
    (edit_placed state.documents edit (places_selected says state p) (target_refusal targets edit (places_selected says state p)))

abbrev pub stays_if_refused : State → Option Refusal → State × Reply → State × Reply
stays_if_refused state (Some why) edited = (state, Refused why)
stays_if_refused state None edited = edited

abbrev pub edit_read : Judgement → State → Targets → Edit → Result PathForm QueryFault → State × Reply
edit_read says state targets edit (Err fault) = (state, Refused (refusal.Query fault))
edit_read says state targets edit (Ok p) =
    stays_if_refused state (missing_refusal state.documents state.lists p) (edit_selected says state targets edit p)

-- the elements that a path selects are edited
abbrev pub edit_path : Judgement → State → Targets → Edit → List ℕ → State × Reply
edit_path says state targets edit path = edit_read says state targets edit (path_read path)

-- content comes from a block; that it is read as no fragment is told before any fault of the path
abbrev pub edit_with : Judgement → State → Option How → List ℕ → Result (List Node) DocFault → State × Reply
edit_with says state how path (Err fault) = (state, Refused (refusal.Document fault))
edit_with says state how path (Ok content) = edit_path says state One (record { how = how; content = nodes content }) path

abbrev pub inserted_into : Judgement → State → How → List ℕ → List ℕ → State × Reply
inserted_into says state how path block = edit_with says state (Some how) path (fragment_of block)

abbrev pub replaced : Judgement → State → List ℕ → List ℕ → State × Reply
replaced says state path block = edit_with says state None path (fragment_of block)

abbrev pub deletion : Edit
deletion = record { how = None; content = no_nodes }

abbrev pub deleted : Judgement → State → List ℕ → State × Reply
deleted says state path = edit_path says state Any deletion path

-- ---- how many rows of the index an edit may put and take

-- as many as it touches words, where it is carried out
abbrev pub touched_placed : List Named → Edit → List (List (List ℕ)) → Option Refusal → ℕ
touched_placed documents edit places (Some why) = 0
touched_placed documents edit places None = touched_in edit places documents

abbrev pub touched_read : Judgement → State → Targets → Edit → Result PathForm QueryFault → ℕ
touched_read says state targets edit (Err fault) = 0
touched_read says state targets edit (Ok p) =
    touched_placed state.documents edit (places_selected says state p) (target_refusal targets edit (places_selected says state p))

abbrev pub touched_path : Judgement → State → Targets → Edit → List ℕ → ℕ
touched_path says state targets edit path = touched_read says state targets edit (path_read path)

abbrev pub touched_with : Judgement → State → Option How → List ℕ → Result (List Node) DocFault → ℕ
touched_with says state how path (Err fault) = 0
touched_with says state how path (Ok content) = touched_path says state One (record { how = how; content = nodes content }) path
