-- A session's file is answered: what that says, by how it ends.
use Rattle.std.proofs.Common.{◌≡◌, ap, subst, ℕ, ◌+◌, ◌<◌, ◌≤◌, Bool, false, cond, List, length, take, arith}
use Rattle.std.specs.Prelude.{Option, Some, None, IfSome, IsSome, IsSomeAnd, Result, Ok, Err, IsOk, is_ok}
use Rattle.std.specs.Result.{IsErrAnd}
use Rattle.std.proofs.lemmas.Result.{err_from_is_err_and}
use Rattle.ft_base.specs.Limits.{max_session_bytes}
use Rattle.ft_io.specs.Shelf.{Files, bytes_of, known_bytes}
use Rattle.plan_runs.specs.Judgement.{Judgement}
use Rattle.ft_session.specs.declared.answering.AnswerError.{AnswerError}
use Rattle.ft_session.specs.declared.answering.AnswerError.TheVariants as unanswered
use Rattle.ft_session.specs.declared.pieces.Stopped.{Stopped}
use Rattle.ft_session.specs.declared.pieces.Stopped.TheVariants as stops
use Rattle.ft_session.specs.declared.status.Status.TheVariants.{Done, SomeRefused}
use Rattle.ft_session.specs.Output.{has_refusal, output, output_of_whole}
use Rattle.ft_session.specs.steps.Pieces.{FileAnswered, stopped_by}
use Rattle.ft_session.specs.Run.{AnswersAll, TookPrefix, with_text}
use Rattle.ft_session.proofs.AnswerLemmas.{prefix_nothing}
use Rattle.ft_session.proofs.StoppedLemmas.{no_long, no_read_fault, sink_fault}

-- nothing was written yet
pub nothing_written : (says : Judgement) (known before : Option (List ℕ)) → IfSome known (λ session. TookPrefix before before (output says session))
nothing_written says None before = tt
nothing_written says (Some session) before = prefix_nothing before (output says session)

not_ok : (r : Result Bool Stopped) (e : AnswerError) → IsErrAnd r (λ stopped. stopped ≡ stopped_by e) → IsOk r → ⊥
not_ok r e given ok =
    let p = err_from_is_err_and r given in
    let fails : is_ok r ≡ false = ap (λ (o : Result Bool Stopped). is_ok o) p.1 in
    let no : ⊥ = cc in
    no

module _ (says : Judgement) (files : Option Files) (name : List ℕ) (reached read_before read_now write_before write_now : ℕ) (before now : Option (List ℕ)) where
  abbrev Leaves : Result Bool Stopped → Type 0
  Leaves result = FileAnswered says files name reached read_before read_now write_before write_now before now result

  abbrev Prefix : Type 0
  Prefix = IfSome (known_bytes files name) (λ session. TookPrefix before now (output says session))

  abbrev WritesWhole : Type 0
  WritesWhole = IfSome (known_bytes files name) (λ session. now ≡ with_text before (output_of_whole says (take reached session)))

  pub all_answered : (refused : Bool) → Prefix → IfSome files (λ known. IsSome (bytes_of known name)) → IfSome (known_bytes files name) (λ session. reached ≡ length session)
      → IfSome (known_bytes files name) (λ session. now ≡ with_text before (output says session)) → IfSome (known_bytes files name) (λ session. refused ≡ has_refusal says session) → reached ≤ max_session_bytes
      → Leaves (Ok refused)
  all_answered refused prefix present whole written refuses below = record {
    prefix = prefix;
    reached_most = omega (arith, below);
    present = λ ok. present;
    whole = λ ok. whole;
    written = λ ok. written;
    refuses = λ other is. let same : refused ≡ other = cc in subst (λ b. IfSome (known_bytes files name) (λ session. b ≡ has_refusal says session)) same refuses;
    below = λ ok. below;
    read_fault = λ is. absurd (let no : ⊥ = cc in no);
    read_fault_early = λ is. absurd (let no : ⊥ = cc in no);
    read_fault_writes = λ is. absurd (let no : ⊥ = cc in no);
    write_fault = λ is. absurd (let no : ⊥ = cc in no);
    too_long = λ is. absurd (let no : ⊥ = cc in no);
    too_long_writes = λ is. absurd (let no : ⊥ = cc in no);
    longer = λ is. absurd (let no : ⊥ = cc in no);
  }

  pub read_stopped : Prefix → reached < max_session_bytes + 1 → read_before < read_now → WritesWhole → Leaves (Err stops.ReadFault)
  read_stopped prefix early fault writes = record {
    prefix = prefix;
    reached_most = omega (arith, early);
    present = λ ok. absurd (let no : ⊥ = cc in no);
    whole = λ ok. absurd (let no : ⊥ = cc in no);
    written = λ ok. absurd (let no : ⊥ = cc in no);
    refuses = λ refused is. absurd (let no : ⊥ = cc in no);
    below = λ ok. absurd (let no : ⊥ = cc in no);
    read_fault = λ is. fault;
    read_fault_early = λ is. early;
    read_fault_writes = λ is. writes;
    write_fault = λ is. absurd (let no : ⊥ = cc in no);
    too_long = λ is. absurd (let no : ⊥ = cc in no);
    too_long_writes = λ is. absurd (let no : ⊥ = cc in no);
    longer = λ is. absurd (let no : ⊥ = cc in no);
  }

  pub long_stopped : Prefix → reached ≡ max_session_bytes + 1 → write_now ≡ write_before → WritesWhole → IfSome (known_bytes files name) (λ session. max_session_bytes + 1 ≤ length session)
      → Leaves (Err stops.TooLong)
  long_stopped prefix most faultless writes longer = record {
    prefix = prefix;
    reached_most = omega (arith, most);
    present = λ ok. absurd (let no : ⊥ = cc in no);
    whole = λ ok. absurd (let no : ⊥ = cc in no);
    written = λ ok. absurd (let no : ⊥ = cc in no);
    refuses = λ refused is. absurd (let no : ⊥ = cc in no);
    below = λ ok. absurd (let no : ⊥ = cc in no);
    read_fault = λ is. absurd (let no : ⊥ = cc in no);
    read_fault_early = λ is. absurd (let no : ⊥ = cc in no);
    read_fault_writes = λ is. absurd (let no : ⊥ = cc in no);
    write_fault = λ is. absurd (let no : ⊥ = cc in no);
    too_long = λ is. (most, faultless);
    too_long_writes = λ is. writes;
    longer = λ is. longer;
  }

  -- a command isn't answered
  pub answer_stopped : (r : Result Bool Stopped) (e : AnswerError) → IsErrAnd r (λ stopped. stopped ≡ stopped_by e) → Prefix → reached ≤ max_session_bytes + 1
      → (e ≡ unanswered.Fault → write_before < write_now) → Leaves r
  answer_stopped r e given prefix most fault = record {
    prefix = prefix;
    reached_most = most;
    present = λ ok. absurd (not_ok r e given ok);
    whole = λ ok. absurd (not_ok r e given ok);
    written = λ ok. absurd (not_ok r e given ok);
    refuses = λ refused is. absurd (not_ok r e given (ap (λ (o : Result Bool Stopped). is_ok o) is));
    below = λ ok. absurd (not_ok r e given ok);
    read_fault = λ is. absurd (no_read_fault r e given is);
    read_fault_early = λ is. absurd (no_read_fault r e given is);
    read_fault_writes = λ is. absurd (no_read_fault r e given is);
    write_fault = λ is. fault (sink_fault r e given is);
    too_long = λ is. absurd (no_long r e given is);
    too_long_writes = λ is. absurd (no_long r e given is);
    longer = λ is. absurd (no_long r e given is);
  }

  -- memory runs out elsewhere
  pub memory_stopped : (r : Result Bool Stopped) → IsErrAnd r (λ stopped. stopped ≡ stops.Memory) → Prefix → reached ≤ max_session_bytes + 1 → Leaves r
  memory_stopped r given prefix most = answer_stopped r unanswered.Memory given prefix most (λ is. absurd (let no : ⊥ = cc in no))

  -- all is answered, where the files are known
  pub finished : (result : Result Bool Stopped) (refused : Bool) → Leaves result → result ≡ Ok refused
      → IfSome files (λ known. IsSomeAnd (bytes_of known name) (λ session. AnswersAll says session reached before now (cond refused SomeRefused Done)))
  finished result refused a is = by files (a.present ok) (a.whole ok) (a.written ok) (a.refuses refused is)
    where
      ok : IsOk result
      ok = ap (λ (o : Result Bool Stopped). is_ok o) is

      there : (o : Option (List ℕ)) → IsSome o → IfSome o (λ session. reached ≡ length session)
          → IfSome o (λ session. now ≡ with_text before (output says session)) → IfSome o (λ session. refused ≡ has_refusal says session)
          → IsSomeAnd o (λ session. AnswersAll says session reached before now (cond refused SomeRefused Done))
      there None some whole written refuses = absurd (let no : ⊥ = cc in no)
      there (Some session) some whole written refuses =
          record { whole = whole; written = written; refused = ap (λ b. cond b SomeRefused Done) refuses }

      by : (f : Option Files) → IfSome f (λ known. IsSome (bytes_of known name)) → IfSome (known_bytes f name) (λ session. reached ≡ length session)
          → IfSome (known_bytes f name) (λ session. now ≡ with_text before (output says session))
          → IfSome (known_bytes f name) (λ session. refused ≡ has_refusal says session)
          → IfSome f (λ known. IsSomeAnd (bytes_of known name) (λ session. AnswersAll says session reached before now (cond refused SomeRefused Done)))
      by None present whole written refuses = tt
      by (Some known) present whole written refuses = there (bytes_of known name) present whole written refuses
