-- What is left of a session that is being read.
use Rattle.std.specs.Prelude.{ℕ, Bool, true, false, List}
use Rattle.reply_lines.specs.declared.command.Command.{Command}
use Rattle.session_text.specs.steps.Reached.{Reached, at_front, commands_after}

-- what a reader holds: its place, how many bytes it was fed, and whether memory ran out in it
pub record Reading : Type 0 where
  pub place : Reached
  pub bytes : ℕ
  pub failed : Bool

abbrev pub new_reading : Reading
new_reading = record { place = at_front; bytes = 0; failed = false }

-- what is left of a session: the commands where these bytes follow and the session ends after them
abbrev pub commands_left : Reading → List ℕ → List Command
commands_left reading bytes = commands_after true reading.place bytes

-- the commands that are whole where these bytes follow
abbrev pub whole_left : Reading → List ℕ → List Command
whole_left reading bytes = commands_after false reading.place bytes
