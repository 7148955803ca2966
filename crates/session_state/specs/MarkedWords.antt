-- The reply to `show`: the elements that a path selects, and the words of each, of which those are marked by which it satisfies the selection
-- that the path asks for last.
use Rattle.std.specs.Prelude.{ℕ, if◌then◌else◌, List, [], ◌∷◌, flat_map, Option, Some, None, option_and_then, unwrap_or, Result, Ok, Err}
use Rattle.std.specs.List.{slice_get}
use Rattle.best_hits.specs.Showable.{can_show}
use Rattle.reply_lines.specs.declared.reply.Refusal.TheVariants as refusal
use Rattle.reply_lines.specs.declared.reply.Reply.{Reply}
use Rattle.reply_lines.specs.declared.reply.Reply.TheVariants as reply
use Rattle.reply_lines.specs.declared.reply.Reply.TheVariants.{Refused}
use Rattle.element_lines.specs.Lines.{element_line}
use Rattle.element_lines.specs.Marked.{marked_line}
use Rattle.ft_base.specs.Selection.{Form}
use Rattle.ft_base.specs.declared.fault.QueryFault.{QueryFault}
use Rattle.ft_base.specs.declared.span.Span.{Span}
use Rattle.ft_base.specs.declared.token.Token.{Token}
use Rattle.match_marks.specs.MarksMeaning.{marks}
use Rattle.path_meaning.specs.Collection.{documents}
use Rattle.path_meaning.specs.Elements.{Element}
use Rattle.path_subset.specs.Answer.{path_read}
use Rattle.path_subset.specs.Paths.{PathForm}
use Rattle.path_subset.specs.Shown.{shown_number}
use Rattle.plain_tree.specs.Document.{Node}
use Rattle.plan_compiler.specs.NamedLists.{NamedLists}
use Rattle.plan_runs.specs.Judgement.{Judgement}
use Rattle.tokenizer.specs.Tokens.{tokens, words_in}
use Rattle.session_state.specs.Paths.{missing_refusal, selected_in, selections_of, unless_refused}
use Rattle.session_state.specs.State.{State}

-- ---- what is marked

-- a selection, where its best hits can be shown
abbrev pub showable : Form → Option Form
showable form = if can_show form then Some form else None

-- the selection by which words are marked, of a path with that text: that of a last predicate `. contains text S` of the last step, where it
-- can be shown
abbrev pub shown_form : List ℕ → PathForm → Option Form
shown_form text p = option_and_then showable (option_and_then (slice_get (selections_of p)) (shown_number text p))

-- the places that the best hits of a selection cover, under lists; tokens that don't satisfy it have none
abbrev pub best_spans : NamedLists → Form → List Token → List Span
best_spans lists form found = unwrap_or (marks lists form found) []

-- ---- how it is shown

-- the line that names an element of a document, and the line of its words
abbrev pub marked_lines : List (List ℕ) → NamedLists → Form → List ℕ → Node → Element → List (List ℕ)
marked_lines abbreviations lists form name root e =
    element_line name root e ∷ marked_line (best_spans lists form (tokens abbreviations e.node)) (words_in e.node) ∷ []

-- the lines for a path and the selection by which words are marked, document by document in the order of loading
abbrev pub marked_for : Judgement → State → PathForm → Form → List (List ℕ)
marked_for says state p form =
    flat_map (λ d. flat_map (marked_lines state.abbreviations state.lists form d.name d.root) (selected_in says state.abbreviations state.lists p d.root))
    (documents p.path.root state.documents)

-- ---- the reply

abbrev pub answer_by : Judgement → State → PathForm → Option Form → Reply
answer_by says state p None = Refused refusal.NothingToShow
answer_by says state p (Some form) = reply.Shown (marked_for says state p form)

abbrev pub answer_marked_read : Judgement → State → List ℕ → Result PathForm QueryFault → Reply
answer_marked_read says state text (Err fault) = Refused (refusal.Query fault)
answer_marked_read says state text (Ok p) = unless_refused (missing_refusal state.documents state.lists p) (answer_by says state p (shown_form text p))

-- the reply to the path of `show`
abbrev pub answer_marked : Judgement → State → List ℕ → Reply
answer_marked says state text = answer_marked_read says state text (path_read text)
