-- The reply to a path: the elements that it selects, or why it is refused. `says` says whether tokens satisfy a selection under lists.
use Rattle.std.specs.Prelude.{◌≡◌, ℕ, zero, suc, Bool, false, if◌then◌else◌, List, [], ◌∷◌, map, flat_map, Option, Some, None, Result, Ok, Err}
use Rattle.element_lines.specs.Lines.{element_line, printed_line}
use Rattle.ft_base.specs.Selection.{Form}
use Rattle.ft_base.specs.declared.fault.QueryFault.{QueryFault}
use Rattle.path_meaning.specs.Collection.{Named, documents}
use Rattle.path_meaning.specs.Elements.{Element}
use Rattle.path_meaning.specs.Meaning.{selected}
use Rattle.path_grammar.specs.declared.path.PathRoot.{PathRoot}
use Rattle.path_grammar.specs.declared.path.PathRoot.TheVariants.{Collection, Doc}
use Rattle.path_subset.specs.Answer.{path_read}
use Rattle.path_subset.specs.Paths.{PathForm}
use Rattle.plain_tree.specs.Document.{Node}
use Rattle.plan_runs.specs.Judgement.{Judgement}
use Rattle.plan_compiler.specs.Missing.{missing_among, names}
use Rattle.plan_compiler.specs.NamedLists.{NamedLists}
use Rattle.reply_lines.specs.declared.reply.Refusal.{Refusal}
use Rattle.reply_lines.specs.declared.reply.Refusal.TheVariants as refusal
use Rattle.reply_lines.specs.declared.reply.Reply.{Reply}
use Rattle.reply_lines.specs.declared.reply.Reply.TheVariants as reply
use Rattle.reply_lines.specs.declared.reply.Reply.TheVariants.{Refused}
use Rattle.session_state.specs.declared.shown.Shown.{Shown}
use Rattle.session_state.specs.declared.shown.Shown.TheVariants.{Names, Texts}
use Rattle.document_store.specs.Documents.{has_name}
use Rattle.session_state.specs.IgnoredText.{tokens_left}
use Rattle.session_state.specs.State.{State}

-- ---- which elements are selected

-- the selections of a path, in the order of its text
abbrev pub selections_of : PathForm → List Form
selections_of p = map (λ s. s.form) p.selections

-- whether an element's tokens under the abbreviations, without those of the elements that are ignored, satisfy the selection of that number,
-- under these lists. They don't satisfy one that isn't there
unfoldable pub satisfies : Judgement → List (List ℕ) → NamedLists → List Form → ℕ → List Element → Element → Bool
satisfies says abbreviations lists [] k ignored e = false
satisfies says abbreviations lists (first ∷ rest) zero ignored e = says first lists (tokens_left abbreviations ignored e)
satisfies says abbreviations lists (first ∷ rest) (suc k) ignored e = satisfies says abbreviations lists rest k ignored e

-- the elements of a document that a path selects
abbrev pub selected_in : Judgement → List (List ℕ) → NamedLists → PathForm → Node → List Element
selected_in says abbreviations lists p root = selected (satisfies says abbreviations lists (selections_of p)) p.path.steps root

-- ---- how they are shown

-- the lines of a document's elements: those that name them, or their printed forms
abbrev pub lines_of : Shown → List ℕ → Node → List Element → List (List ℕ)
lines_of Names name root found = map (element_line name root) found
lines_of Texts name root found = map (λ e. printed_line e.node) found

-- the lines for a path, document by document in the order of loading
abbrev pub lines_for : Judgement → Shown → State → PathForm → List (List ℕ)
lines_for says shown state p =
    flat_map (λ d. lines_of shown d.name d.root (selected_in says state.abbreviations state.lists p d.root)) (documents p.path.root state.documents)

abbrev pub reply_with : Shown → List (List ℕ) → Reply
reply_with Names lines = reply.Nodes lines
reply_with Texts lines = reply.Texts lines

-- ---- what is refused, in the order in which it is tried

-- the document with which a path begins, if there is none of that name
abbrev pub missing_document : PathRoot → List Named → Option (List ℕ)
missing_document Collection all = None
missing_document (Doc name) all = if has_name name all then None else Some name

-- the first list that isn't there, in the order of the selections and of what each is printed as
abbrev pub missing_list : NamedLists → List Form → Option (List ℕ)
missing_list lists selections = missing_among lists (flat_map names selections)

-- why a path is refused, by what isn't there
abbrev pub refusal_found : Option (List ℕ) → Option (List ℕ) → Option Refusal
refusal_found (Some name) list = Some (refusal.NoSuchDoc name)
refusal_found None (Some name) = Some (refusal.NoSuchList name)
refusal_found None None = None

-- the same by the documents and the lists that are there
abbrev pub missing_refusal : List Named → NamedLists → PathForm → Option Refusal
missing_refusal documents lists p = refusal_found (missing_document p.path.root documents) (missing_list lists (selections_of p))

-- ---- the reply

abbrev pub unless_refused : Option Refusal → Reply → Reply
unless_refused (Some why) reply = Refused why
unless_refused None reply = reply

abbrev pub answer_read : Judgement → Shown → State → Result PathForm QueryFault → Reply
answer_read says shown state (Err fault) = Refused (refusal.Query fault)
answer_read says shown state (Ok p) =
    unless_refused (missing_refusal state.documents state.lists p) (reply_with shown (lines_for says shown state p))

-- the reply to a path
abbrev pub answer : Judgement → Shown → State → List ℕ → Reply
answer says shown state text = answer_read says shown state (path_read text)

-- All that a path names is there.
pub record IsAnswered (state : State) (p : PathForm) : Type 0 where
  pub document : missing_document p.path.root state.documents ≡ None
  pub lists : missing_list state.lists (selections_of p) ≡ None
