-- The reply of a number is that to the command of the number.
use Rattle.std.proofs.Common.{◌≡◌, sym, ap, ℕ, zero, suc, List, [], ◌∷◌, take, Option, Some}
use Rattle.std.proofs.lemmas.Option.{none-some}
use Rattle.std.specs.List.{slice_get}
use Rattle.std.specs.Option.{option_map}
use Rattle.plan_runs.specs.Judgement.{Judgement}
use Rattle.session_text.specs.Commands.{commands}
use Rattle.reply_lines.specs.declared.command.Command.{Command}
use Rattle.session_state.specs.State.{State, opening}
use Rattle.session_state.specs.Step.{replies, state_after, step}
use Rattle.ft_session.specs.Output.{replies_to}
use Rattle.ft_session.specs.Queries.{state_before}

reply_at : (says : Judgement) (state : State) (all : List Command) (number : ℕ) (c : Command) → Some c ≡ slice_get all number
    → slice_get (replies says state all) number ≡ Some (step says (state_after says state (take number all)) c).1
reply_at says state [] number c h = elim (none-some c (sym h)) [ ]
reply_at says state (x ∷ xs) zero c h = ap (λ (o : Option Command). option_map (λ y. (step says state y).1) o) (sym h)
reply_at says state (x ∷ xs) (suc number) c h = reply_at says (step says state x).0 xs number c h

pub reply-there : (says : Judgement) (session : List ℕ) (number : ℕ) (c : Command) → Some c ≡ slice_get (commands session) number
    → slice_get (replies_to says session) number ≡ Some (step says (state_before says session number) c).1
unfolding replies_to
reply-there says session number c there = reply_at says opening (commands session) number c there
