-- Which plans a command keeps that has a path: those of the path's selections, by their texts.
use Rattle.std.specs.Prelude.{ℕ, ◌-◌, if◌then◌else◌, List, drop, map, take, Result, Ok, Err}
use Rattle.ft_base.specs.declared.fault.QueryFault.{QueryFault}
use Rattle.kept_plans.specs.Kept.{Kept, all_used}
use Rattle.kept_plans.specs.Preparation.{Preparation, with_kept}
use Rattle.path_subset.specs.Answer.{path_read}
use Rattle.path_subset.specs.Paths.{PathForm}
use Rattle.path_subset.specs.declared.path.Extent.{Extent}
use Rattle.reply_lines.specs.Replies.{is_refusal}
use Rattle.reply_lines.specs.declared.reply.Reply.{Reply}
use Rattle.session_state.specs.State.{State}

-- what stands at an extent of a text
abbrev pub text_at : List ℕ → Extent → List ℕ
text_at text extent = take (extent.to - extent.from) (drop extent.from text)

-- the texts of a path's selections as they are written, in their order
abbrev pub selection_texts : List ℕ → PathForm → List (List ℕ)
selection_texts text p = map (λ s. text_at text s.extent) p.selections

abbrev pub kept_after : List ℕ → Result PathForm QueryFault → Kept → Kept
kept_after text (Err fault) kept = kept
kept_after text (Ok p) kept = all_used (selection_texts text p) kept

-- a state and the reply to a command with that path: where it isn't refused, the plans of the path's selections are kept
abbrev pub keep_plans : List ℕ → State × Reply → State × Reply
keep_plans path (state, reply) =
    ((if is_refusal reply then state else record state { kept = kept_after path (path_read path) state.kept }), reply)

-- the same of plans that are kept, by the texts of the path's selections
abbrev pub kept_by : List (List ℕ) → Reply → Preparation → Preparation
kept_by texts reply prepared = if is_refusal reply then prepared else with_kept (all_used texts prepared.kept) prepared
