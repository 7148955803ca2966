-- What is shown by a path with its plans, and by the plan of the selection by which words are marked.
use Rattle.std.specs.Prelude.{ℕ, if◌then◌else◌, List, [], ◌∷◌, flat_map, Option, Some, None, option_and_then}
use Rattle.std.specs.List.{slice_get}
use Rattle.best_hits.specs.Showable.{can_show}
use Rattle.reply_lines.specs.declared.reply.Refusal.TheVariants as refusal
use Rattle.reply_lines.specs.declared.reply.Reply.{Reply}
use Rattle.reply_lines.specs.declared.reply.Reply.TheVariants as reply
use Rattle.element_lines.specs.Marked.{marked_line}
use Rattle.ft_base.specs.Selection.{Form}
use Rattle.ft_base.specs.declared.ids.NodeRef.{NodeRef}
use Rattle.kept_plans.specs.PlanOf.{PlanOf}
use Rattle.ordered_tree.specs.Numbered.{Numbered}
use Rattle.path_meaning.specs.Collection.{Named, documents}
use Rattle.path_nodes.specs.References.{element_of}
use Rattle.plan_compiler.specs.NamedLists.{NamedLists}
use Rattle.plan_runs.specs.Judgement.{Judgement}
use Rattle.tokenizer.specs.Tokens.{tokens, words_in}
use Rattle.session_state.specs.declared.planned.PlannedPath.{PlannedPath}
use Rattle.session_state.specs.Edits.{leads_through}
use Rattle.session_state.specs.MarkedWords.{best_spans, marked_lines}
use Rattle.session_state.specs.PlannedPaths.{planned_in}

-- a plan, where the best hits of its selection can be shown
abbrev pub showable_plan : PlanOf → Option PlanOf
showable_plan plan = if can_show plan.form then Some plan else None

-- the plan of that number, if there is one that can be shown
abbrev pub shown_plan : Option ℕ → List PlanOf → Option PlanOf
shown_plan number plans = option_and_then showable_plan (option_and_then (slice_get plans) number)

-- the lines of the elements of a document to which a path leads; none where it doesn't go through the document
abbrev pub marked_through : Judgement → List (List ℕ) → PlannedPath → NamedLists → Form → Named → List (List ℕ)
marked_through says abbreviations path lists form d =
    if leads_through path.root.now d.name then flat_map (marked_lines abbreviations lists form d.name d.root) (planned_in says abbreviations path d.root) else []

-- the reply, by the plan whose best hits are shown
abbrev pub planned_marks : Judgement → List (List ℕ) → PlannedPath → List Named → Option PlanOf → Reply
planned_marks says abbreviations path documents None = reply.Refused refusal.NothingToShow
planned_marks says abbreviations path documents (Some plan) =
    reply.Shown (flat_map (marked_through says abbreviations path plan.lists plan.form) documents)

-- the line of the words of the element that a reference names
abbrev pub words_line : List (List ℕ) → NamedLists → Form → Numbered → NodeRef → List ℕ
words_line abbreviations lists form root r =
    marked_line (best_spans lists form (tokens abbreviations (element_of root r).node)) (words_in (element_of root r).node)

-- two lists, an item of each in turn
unfoldable pub in_turn : {X : Type 0} → List X → List X → List X
in_turn [] ys = []
in_turn (x ∷ xs) [] = []
in_turn (x ∷ xs) (y ∷ ys) = x ∷ y ∷ in_turn xs ys
