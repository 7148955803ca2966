-- A query that can be answered is answered by its lines, and what is shown by those of names and words.
use Rattle.std.proofs.Common.{◌≡◌, sym, ap, ◌∙◌, ℕ, List, Ok}
use Rattle.std.specs.Prelude.{Option, Some, None}
use Rattle.ft_base.specs.Selection.{Form}
use Rattle.path_subset.specs.Answer.{path_read}
use Rattle.path_subset.specs.Paths.{PathForm}
use Rattle.plan_runs.specs.Judgement.{Judgement}
use Rattle.reply_lines.specs.declared.command.Command.TheVariants.{Query, Show}
use Rattle.reply_lines.specs.declared.reply.Refusal.TheVariants.{NothingToShow}
use Rattle.reply_lines.specs.declared.reply.Reply.TheVariants.{Nodes, Refused, Shown}
use Rattle.session_state.specs.declared.shown.Shown.TheVariants.{Names}
use Rattle.session_state.specs.MarkedWords.{answer_by, answer_marked_read, marked_for, shown_form}
use Rattle.session_state.specs.Paths.{answer_read, lines_for, IsAnswered}
use Rattle.session_state.specs.State.{State}
use Rattle.session_state.specs.Step.{step}
use Rattle.session_state.proofs.MarkedLemmas.{ready-marks}
use Rattle.session_state.proofs.PathLemmas.{ready-answer}

pub answered : (says : Judgement) (state : State) (text : List ℕ) (p : PathForm) → Ok p ≡ path_read text → IsAnswered state p
    → (step says state (Query text)).1 ≡ Nodes (lines_for says Names state p)
unfolding step
answered says state text p read all =
    ap (answer_read says Names state) (sym read)
    ∙ ready-answer says Names state p all.document all.lists

shown-by : (says : Judgement) (state : State) (text : List ℕ) (p : PathForm) (o : Option Form) → Ok p ≡ path_read text → IsAnswered state p → o ≡ shown_form text p
    → (step says state (Show text)).1 ≡ answer_by says state p o
unfolding step
shown-by says state text p o read all is =
    ap (answer_marked_read says state text) (sym read)
    ∙ (ready-marks says state text p all.document all.lists ∙ ap (answer_by says state p) (sym is))

pub shown : (says : Judgement) (state : State) (text : List ℕ) (p : PathForm) (form : Form) → Ok p ≡ path_read text → IsAnswered state p → Some form ≡ shown_form text p
    → (step says state (Show text)).1 ≡ Shown (marked_for says state p form)
shown says state text p form = shown-by says state text p (Some form)

pub nothing-shown : (says : Judgement) (state : State) (text : List ℕ) (p : PathForm) → Ok p ≡ path_read text → IsAnswered state p → None ≡ shown_form text p
    → (step says state (Show text)).1 ≡ Refused NothingToShow
nothing-shown says state text p = shown-by says state text p None
