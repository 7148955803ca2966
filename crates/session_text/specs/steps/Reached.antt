-- How far a session was read.
use Rattle.std.specs.Prelude.{◌≡◌, ◌≤◌, ℕ, ◌+◌, Bool, true, List, ◌++◌, length}
use Rattle.reply_lines.specs.declared.command.Command.{Command}
use Rattle.session_text.specs.Commands.{commands_of}
use Rattle.session_text.specs.declared.reached.Stage.{Stage}
use Rattle.session_text.specs.declared.reached.Stage.TheVariants as stage
use Rattle.session_text.specs.steps.PeriodReading.{Place, IsLineOpen, at_start, commands_from, held_length, is_unended}
use Rattle.session_text.specs.steps.SizedReading.{SizedPlace, IsSizedPlace, after_first, bytes_held, sized_commands_from, sized_held_length}

-- what the session's blocks end at, if that is known, and its place in both kinds of sessions
pub record Reached : Type 0 where
  pub stage : Stage
  pub lines : Place
  pub sized : SizedPlace

-- before the first byte
abbrev pub at_front : Reached
at_front = record { stage = stage.FirstLine; lines = at_start; sized = after_first }

abbrev pub commands_at : Bool → Stage → Place → SizedPlace → List ℕ → List Command
commands_at at_end stage.FirstLine lines sized bytes = commands_of at_end (lines.rest ++ bytes)
commands_at at_end stage.PeriodBlocks lines sized bytes = commands_from at_end lines bytes
commands_at at_end stage.SizedBlocks lines sized bytes = sized_commands_from at_end sized bytes

-- the commands from a place on, where these bytes follow; where the session goes on after them, those that are whole
abbrev pub commands_after : Bool → Reached → List ℕ → List Command
commands_after at_end reached bytes = commands_at at_end reached.stage reached.lines reached.sized bytes

abbrev pub held_at : Stage → Place → SizedPlace → ℕ
held_at stage.FirstLine lines sized = length lines.rest
held_at stage.PeriodBlocks lines sized = held_length lines
held_at stage.SizedBlocks lines sized = sized_held_length sized

-- how many bytes a place holds back that may yet be in a block
abbrev pub bytes_held_back : Reached → ℕ
bytes_held_back reached = held_at reached.stage reached.lines reached.sized

-- a place in the first line
pub record IsFirstLine (lines : Place) (sized : SizedPlace) (bytes : ℕ) : Type 0 where
  pub start : lines ≡ record at_start { rest = lines.rest }
  pub unended : is_unended lines.rest ≡ true
  pub counted : length lines.rest ≤ bytes
  pub sized_start : sized ≡ after_first

abbrev pub IsPlaceAt : Stage → Place → SizedPlace → ℕ → Type 0
IsPlaceAt stage.FirstLine lines sized bytes = IsFirstLine lines sized bytes
IsPlaceAt stage.PeriodBlocks lines sized bytes = IsLineOpen lines bytes
IsPlaceAt stage.SizedBlocks lines sized bytes = IsSizedPlace sized × (sized.number + length (bytes_held sized) ≤ bytes)

-- no line feed stands in the line that hasn't ended, and no more lines ended than there were bytes
abbrev pub IsPlace : Reached → ℕ → Type 0
IsPlace reached bytes = IsPlaceAt reached.stage reached.lines reached.sized bytes
