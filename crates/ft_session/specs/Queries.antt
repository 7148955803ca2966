-- What a session held before its command of a number.
use Rattle.std.specs.Prelude.{ℕ, List, take}
use Rattle.plan_runs.specs.Judgement.{Judgement}
use Rattle.session_text.specs.Commands.{commands}
use Rattle.session_state.specs.State.{State, opening}
use Rattle.session_state.specs.Step.{state_after}

-- what a session holds before its command of that number, which counts from 0
abbrev pub state_before : Judgement → List ℕ → ℕ → State
state_before says session number = state_after says opening (take number (commands session))
