-- What a command that edits does, once its path is read and all that it names is there, or is refused.
use Rattle.std.proofs.Common.{◌≡◌, ◌∙◌, sym, ap, refl, ℕ, true, false, cond, List, map}
use Rattle.std.specs.Prelude.{None, Result, Ok, Err, IfOk}
use Rattle.document_store.specs.Documents.{Edit}
use Rattle.ft_base.specs.declared.memory.Memory.{Memory}
use Rattle.kept_plans.specs.Kept.{Kept, all_used}
use Rattle.kept_plans.specs.Preparation.{Preparation, with_kept}
use Rattle.path_meaning.specs.Collection.{Named}
use Rattle.path_subset.specs.Answer.{path_read}
use Rattle.path_subset.specs.Paths.{PathForm}
use Rattle.plan_runs.specs.Judgement.{Judgement}
use Rattle.reply_lines.specs.Replies.{is_refusal}
use Rattle.reply_lines.specs.declared.reply.Reply.{Reply}
use Rattle.session_state.specs.declared.edit.Targets.{Targets}
use Rattle.session_state.specs.declared.planned.PlannedPath.{PlannedPath}
use Rattle.session_state.specs.Edits.{edit_path, edit_placed, edit_read, edit_selected, stays_if_refused, target_refusal, touched_path, touched_placed, touched_read}
use Rattle.session_state.specs.KeptTexts.{keep_plans, kept_after, kept_by, selection_texts}
use Rattle.session_state.specs.Paths.{missing_document, missing_list, selections_of}
use Rattle.session_state.specs.PlannedPaths.{IsPlanOf}
use Rattle.session_state.specs.State.{State, with_documents}
use Rattle.session_state.specs.StateView.{prepared_of}
use Rattle.session_state.specs.steps.Chosen.{planned_places}
use Rattle.session_state.proofs.ChosenLemmas.{planned-places}
use Rattle.session_state.proofs.PathLemmas.{all-found}

-- the state with what is prepared after a command
abbrev pub with_prepared_in : State → Preparation → State
with_prepared_in state q = record { documents = state.documents; abbreviations = state.abbreviations; lists = q.lists; marks = state.marks; watches = state.watches; kept = q.kept }

abbrev pub replied : State → Reply → State × Reply
replied state reply = (state, reply)

-- what is kept after a reply is what the state after it keeps
pub kept-state : (state : State) (q : Preparation) (text : List ℕ) (texts : List (List ℕ)) (reply : Reply) → kept_after text (path_read text) state.kept ≡ all_used texts state.kept
    → q ≡ kept_by texts reply (prepared_of state) → replied (with_prepared_in state q) reply ≡ keep_plans text (state, reply)
kept-state state q text texts reply used is =
    ap (λ (x : Preparation). replied (with_prepared_in state x) reply) is
    ∙ (elim (is_refusal reply) as (λ b. replied (with_prepared_in state (cond b (prepared_of state) (with_kept (all_used texts state.kept) (prepared_of state)))) reply
    ≡ replied (cond b state (record state { kept = all_used texts state.kept })) reply) [ true ↦ refl | false ↦ refl ]
    ∙ ap (λ (k : Kept). replied (cond (is_refusal reply) state (record state { kept = k })) reply) (sym used))

module _ (says : Judgement) (state : State) (targets : Targets) (edit : Edit) (text : List ℕ) (p : PathForm) (read : path_read text ≡ Ok p) where
  pub edit-ready : missing_document p.path.root state.documents ≡ None → missing_list state.lists (selections_of p) ≡ None
      → edit_path says state targets edit text ≡ edit_selected says state targets edit p
  edit-ready document lists =
      ap (edit_read says state targets edit) read
      ∙ ap (λ o. stays_if_refused state o (edit_selected says state targets edit p)) (all-found state p document lists)

  pub touched-ready : (planned : PlannedPath) → IsPlanOf state.lists p planned
      → touched_placed state.documents edit (map (planned_places says state.abbreviations planned) state.documents) (target_refusal targets edit (map (planned_places says state.abbreviations planned) state.documents))
      ≡ touched_path says state targets edit text
  touched-ready planned plan =
      ap (λ places. touched_placed state.documents edit places (target_refusal targets edit places)) (planned-places says state p planned plan)
      ∙ sym (ap (touched_read says state targets edit) read)

  pub used-texts : kept_after text (path_read text) state.kept ≡ all_used (selection_texts text p) state.kept
  used-texts = ap (λ r. kept_after text r state.kept) read

  -- the documents were edited, and the plans are kept
  pub edit-kept : (planned : PlannedPath) → IsPlanOf state.lists p planned
      → missing_document p.path.root state.documents ≡ None → missing_list state.lists (selections_of p) ≡ None
      → (answered : Result Reply Memory) (documents : List Named) (q : Preparation) (texts : List (List ℕ)) → texts ≡ selection_texts text p
      → IfOk answered (λ reply. (documents, reply)
      ≡ edit_placed state.documents edit (map (planned_places says state.abbreviations planned) state.documents) (target_refusal targets edit (map (planned_places says state.abbreviations planned) state.documents)))
      → IfOk answered (λ reply. q ≡ kept_by texts reply (prepared_of state))
      → IfOk answered (λ reply. replied (with_prepared_in (record state { documents = documents }) q) reply ≡ keep_plans text (edit_path says state targets edit text))
  edit-kept planned plan document lists (Ok reply) documents q texts same edited kept =
      kept-state (record state { documents = documents }) q text texts reply (used-texts ∙ ap (λ ts. all_used ts state.kept) (sym same)) kept
      ∙ (ap (λ (x : List Named × Reply). keep_plans text (with_documents state x)) edited
      ∙ (ap (λ places. keep_plans text (with_documents state (edit_placed state.documents edit places (target_refusal targets edit places)))) (planned-places says state p planned plan)
      ∙ sym (ap (keep_plans text) (edit-ready document lists))))
  edit-kept planned plan document lists (Err e) documents q texts same edited kept = tt
