-- A session that is not answered on stops by a fault of the sink or by want of memory.
use Rattle.std.proofs.Common.{◌≡◌, ◌∙◌, sym, ap, refl, Bool}
use Rattle.std.specs.Prelude.{Result, Err}
use Rattle.std.specs.Result.{IsErrAnd, IsErrOf}
use Rattle.std.proofs.lemmas.Result.{err_from_is_err_and}
use Rattle.ft_session.specs.declared.answering.AnswerError.{AnswerError}
use Rattle.ft_session.specs.declared.answering.AnswerError.TheVariants as unanswered
use Rattle.ft_session.specs.declared.pieces.Stopped.{Stopped}
use Rattle.ft_session.specs.declared.pieces.Stopped.TheVariants as stops
use Rattle.ft_session.specs.steps.Pieces.{stopped_by}

abbrev result_of : Stopped → Result Bool Stopped
result_of s = Err s

pub stopped_as : (r : Result Bool Stopped) (e : AnswerError) (s : Stopped) → IsErrAnd r (λ stopped. stopped ≡ stopped_by e) → IsErrOf r s → result_of (stopped_by e) ≡ result_of s
stopped_as r e s given is = let p = err_from_is_err_and r given in sym (p.1 ∙ ap Err p.2) ∙ is

pub no_read_fault : (r : Result Bool Stopped) (e : AnswerError) → IsErrAnd r (λ stopped. stopped ≡ stopped_by e) → IsErrOf r stops.ReadFault → ⊥
no_read_fault r unanswered.Fault given is = let clash = stopped_as r unanswered.Fault stops.ReadFault given is in let no : ⊥ = cc in no
no_read_fault r unanswered.Memory given is = let clash = stopped_as r unanswered.Memory stops.ReadFault given is in let no : ⊥ = cc in no

pub no_long : (r : Result Bool Stopped) (e : AnswerError) → IsErrAnd r (λ stopped. stopped ≡ stopped_by e) → IsErrOf r stops.TooLong → ⊥
no_long r unanswered.Fault given is = let clash = stopped_as r unanswered.Fault stops.TooLong given is in let no : ⊥ = cc in no
no_long r unanswered.Memory given is = let clash = stopped_as r unanswered.Memory stops.TooLong given is in let no : ⊥ = cc in no

pub sink_fault : (r : Result Bool Stopped) (e : AnswerError) → IsErrAnd r (λ stopped. stopped ≡ stopped_by e) → IsErrOf r stops.WriteFault → e ≡ unanswered.Fault
sink_fault r unanswered.Fault given is = refl
sink_fault r unanswered.Memory given is = let clash = stopped_as r unanswered.Memory stops.WriteFault given is in let no : ⊥ = cc in absurd no

abbrev answer_of : AnswerError → Result Bool AnswerError
answer_of e = Err e

pub unanswered_as : (e : AnswerError) → e ≡ unanswered.Fault → IsErrOf (answer_of e) unanswered.Fault
unanswered_as e is = ap answer_of is
