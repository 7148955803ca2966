-- What a piece of a session does.
use Rattle.std.specs.Prelude.{◌≡◌, ◌<◌, ◌≤◌, ℕ, ◌+◌, Bool, List, [], ◌++◌, length, take, Option, IfSome, IsSome, Result, Ok, IsOk}
use Rattle.std.specs.List.{list_any}
use Rattle.std.specs.Result.{IsErrOf}
use Rattle.ft_base.specs.Limits.{max_session_bytes}
use Rattle.ft_io.specs.Shelf.{Files, bytes_of, known_bytes}
use Rattle.plan_runs.specs.Judgement.{Judgement}
use Rattle.reply_lines.specs.declared.command.Command.{Command}
use Rattle.session_text.specs.Reading.{Reading, commands_left, whole_left}
use Rattle.reply_lines.specs.Replies.{is_refusal}
use Rattle.session_state.specs.State.{State}
use Rattle.session_state.specs.Step.{replies, state_after}
use Rattle.ft_session.specs.declared.answering.AnswerError.{AnswerError}
use Rattle.ft_session.specs.declared.answering.AnswerError.TheVariants as unanswered
use Rattle.ft_session.specs.declared.pieces.Stopped.{Stopped}
use Rattle.ft_session.specs.declared.pieces.Stopped.TheVariants as stops
use Rattle.ft_session.specs.Output.{has_refusal, output, output_of_whole, texts_of}
use Rattle.ft_session.specs.Run.{TookPrefix, with_text}

-- A piece is answered: the commands that became whole with it were carried out and their replies written. What the reader
-- leaves is what it had left, without these commands.
pub record Answered (says : Judgement) (reader next : Reading) (state after : State) (piece : List ℕ) (refused : Bool)
    (before now : Option (List ℕ)) : Type 0 where
  pub given : List Command
  pub commands : (more : List ℕ) → commands_left reader (piece ++ more) ≡ given ++ commands_left next more
  pub whole : (more : List ℕ) → whole_left reader (piece ++ more) ≡ given ++ whole_left next more
  pub none_held : whole_left next [] ≡ []
  pub carried_out : after ≡ state_after says state given
  pub refuses : refused ≡ list_any is_refusal (replies says state given)
  pub written : now ≡ with_text before (texts_of (replies says state given))

-- a session is not answered on where an answer isn't written
abbrev pub stopped_by : AnswerError → Stopped
stopped_by unanswered.Fault = stops.WriteFault
stopped_by unanswered.Memory = stops.Memory

-- A session's file is answered, to its end or until something stops it. So far is the file reached then; these are the faults that were
-- counted for it, before and after, and those at the sink; and that is what the sink held before and holds now.
pub record FileAnswered (says : Judgement) (files : Option Files) (name : List ℕ) (reached read_before read_now write_before write_now : ℕ)
    (before now : Option (List ℕ)) (result : Result Bool Stopped) : Type 0 where
  -- whatever came
  pub prefix : IfSome (known_bytes files name) (λ session. TookPrefix before now (output says session))
  pub reached_most : reached ≤ max_session_bytes + 1
  -- where all was answered
  pub present : IsOk result → IfSome files (λ known. IsSome (bytes_of known name))
  pub whole : IsOk result → IfSome (known_bytes files name) (λ session. reached ≡ length session)
  pub written : IsOk result → IfSome (known_bytes files name) (λ session. now ≡ with_text before (output says session))
  pub refuses : (refused : Bool) → result ≡ Ok refused → IfSome (known_bytes files name) (λ session. refused ≡ has_refusal says session)
  pub below : IsOk result → reached ≤ max_session_bytes
  -- where it stopped
  pub read_fault : IsErrOf result stops.ReadFault → read_before < read_now
  pub read_fault_early : IsErrOf result stops.ReadFault → reached < max_session_bytes + 1
  pub read_fault_writes : IsErrOf result stops.ReadFault
      → IfSome (known_bytes files name) (λ session. now ≡ with_text before (output_of_whole says (take reached session)))
  pub write_fault : IsErrOf result stops.WriteFault → write_before < write_now
  pub too_long : IsErrOf result stops.TooLong → (reached ≡ max_session_bytes + 1) × (write_now ≡ write_before)
  pub too_long_writes : IsErrOf result stops.TooLong
      → IfSome (known_bytes files name) (λ session. now ≡ with_text before (output_of_whole says (take reached session)))
  pub longer : IsErrOf result stops.TooLong → IfSome (known_bytes files name) (λ session. max_session_bytes + 1 ≤ length session)
