-- When a command may go along a path, and which plans are kept then.
use Rattle.std.specs.Prelude.{◌≡◌, ℕ, if◌then◌else◌, List, length, Option, Some, None, Result, Ok, Err, ⊤}
use Rattle.ft_base.specs.declared.fault.QueryFault.{QueryFault}
use Rattle.kept_plans.specs.Preparation.{Preparation, with_kept}
use Rattle.kept_plans.specs.Next.{IsNext}
use Rattle.path_meaning.specs.Collection.{Named}
use Rattle.path_subset.specs.Answer.{path_read}
use Rattle.path_subset.specs.Paths.{PathForm, read_form}
use Rattle.plan_compiler.specs.NamedLists.{NamedLists}
use Rattle.reply_lines.specs.Replies.{is_refusal}
use Rattle.reply_lines.specs.declared.reply.Refusal.{Refusal}
use Rattle.reply_lines.specs.declared.reply.Refusal.TheVariants as refusal
use Rattle.reply_lines.specs.declared.reply.Reply.{Reply}
use Rattle.session_state.specs.declared.paths.PlanFault.{PlanFault}
use Rattle.session_state.specs.declared.paths.PlanFault.TheVariants as fault
use Rattle.session_state.specs.declared.paths.Ready.{Ready}
use Rattle.session_state.specs.declared.paths.Ready.TheVariants as ready
use Rattle.session_state.specs.declared.paths.ReadyPath.{ReadyPath}
use Rattle.session_state.specs.KeptTexts.{kept_after}
use Rattle.session_state.specs.Paths.{missing_document, missing_list, missing_refusal, selections_of}
use Rattle.session_state.specs.PlannedPaths.{plans_under, AskBelow}

-- why what was read is refused as a path, if it is
abbrev pub path_refusal : List Named → NamedLists → Result PathForm QueryFault → Option Refusal
path_refusal documents lists (Err fault) = Some (refusal.Query fault)
path_refusal documents lists (Ok p) = missing_refusal documents lists p

-- a fault is that refusal, or want of memory
abbrev pub IsRefused : PlanFault → Option Refusal → Type 0
IsRefused (fault.Refused why) found = found ≡ Some why
IsRefused fault.Memory found = ⊤

-- A path is what a text is read as, all that it names is there, its plans are those of its selections, and what is kept of them was made ready.
pub record IsReadyPath (documents : List Named) (prepared : Preparation) (text : List ℕ) (p : ReadyPath) : Type 0 where
  pub read : path_read text ≡ Ok (read_form p.path)
  pub document : missing_document (read_form p.path).path.root documents ≡ None
  pub lists : missing_list prepared.lists (selections_of (read_form p.path)) ≡ None
  pub plans : p.plans.items ≡ plans_under prepared.lists text (read_form p.path)
  pub numbered : AskBelow (length p.plans.items) (read_form p.path).path.steps
  pub next : IsNext prepared p.plans.items p.next

abbrev pub IsReady : List Named → Preparation → List ℕ → Ready → Type 0
IsReady documents prepared text (ready.Path p) = IsReadyPath documents prepared text p
IsReady documents prepared text (ready.Refused why) = path_refusal documents prepared.lists (path_read text) ≡ Some why

-- what is kept after the reply to a command with that path
abbrev pub kept_for : List ℕ → Reply → Preparation → Preparation
kept_for text reply prepared = if is_refusal reply then prepared else with_kept (kept_after text (path_read text) prepared.kept) prepared
