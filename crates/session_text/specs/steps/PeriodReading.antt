-- How far a session was read whose blocks end at a period.
use Rattle.std.specs.Prelude.{◌≡◌, ◌≤◌, ℕ, ◌+◌, ◌-◌, Bool, true, false, ◌==◌, if◌then◌else◌, List, []}
use Rattle.std.specs.Prelude.{◌∷◌, ◌++◌, length, take, drop, not, Option, Some, None, option_map}
use Rattle.std.specs.List.{list_all}
use Rattle.ft_base.specs.Characters.{is_line_feed}
use Rattle.reply_lines.specs.declared.command.Command.{Command}
use Rattle.reply_lines.specs.declared.command.Command.TheVariants as command
use Rattle.session_text.specs.steps.Blocks.{block_after, without_last}
use Rattle.session_text.specs.PeriodBlocks.{opened, commands_of_lines, closes_block, unquoted}
use Rattle.session_text.specs.LineCommands.{opens_block, command_of_line, command_of_block}
use Rattle.text_lines.specs.Lines.{is_skipped}
use Rattle.session_text.specs.Lines.{lines_of, without_mark}

-- a command whose block is open: its line, that line's number, and the lines of the block so far, each with a line feed after it
pub record Opened : Type 0 where
  pub line : List ℕ
  pub number : ℕ
  pub block : List ℕ

-- the same with the bytes of the line that hasn't ended
pub record OpenLines : Type 0 where
  pub opened : Opened
  pub rest : List ℕ

-- the last bytes, as many as are held, are those of the line that hasn't ended
abbrev pub open_lines : List ℕ → ℕ → ℕ → List ℕ → OpenLines
open_lines line number held bytes = record {
  opened = record { line = line; number = number; block = take (length bytes - held) bytes };
  rest = drop (length bytes - held) bytes;
}

-- how many lines have ended, the bytes of the line that hasn't, and the command whose block is open
pub record Place : Type 0 where
  pub lines : ℕ
  pub rest : List ℕ
  pub opened : Option Opened

-- the line that hasn't ended is that of the open block, if there is one
abbrev pub rest_of : List ℕ → Option OpenLines → List ℕ
rest_of rest None = rest
rest_of rest (Some o) = o.rest

abbrev pub place_of : ℕ → List ℕ → Option OpenLines → Place
place_of lines rest opened = record { lines = lines; rest = rest_of rest opened; opened = option_map (λ o. o.opened) opened }

-- before the first byte
abbrev pub at_start : Place
at_start = record { lines = 0; rest = []; opened = None }

-- bytes after a number of lines: at the session's start a byte order mark is skipped
abbrev pub after_lines : ℕ → List ℕ → List ℕ
after_lines lines bytes = if lines == 0 then without_mark bytes else bytes

-- the commands of lines from a place on
abbrev pub commands_on : Bool → ℕ → Option Opened → List (List ℕ) → List Command
commands_on at_end number None lines = commands_of_lines at_end number false lines
commands_on at_end number (Some o) lines = opened at_end o.number o.line (block_after o.block lines) ++ commands_of_lines at_end number true lines

-- the commands from a place on, where these bytes follow; where the session goes on after them, those that are whole
abbrev pub commands_from : Bool → Place → List ℕ → List Command
commands_from at_end place bytes = commands_on at_end (place.lines + 1) place.opened (lines_of at_end (after_lines place.lines (place.rest ++ bytes)))

-- what a line that ended says: the command that is whole with it, and the command whose block is open after it
abbrev pub line_ended : ℕ → Option Opened → List ℕ → Option Command × Option Opened
line_ended number None line =
    if is_skipped line then (None, None)
    else if opens_block line then (None, Some (record { line = line; number = number; block = [] }))
    else (Some (command_of_line false number line), None)
line_ended number (Some o) line =
    if closes_block line then (Some (command_of_block o.number o.line (without_last o.block)), None)
    else (None, Some (record o { block = o.block ++ unquoted line ++ 10 ∷ [] }))

-- what is left after a line's end: nothing of the next line was read
abbrev pub between_lines : Option Command × Option Opened → Option Command × Option OpenLines
between_lines ended = (ended.0, option_map (λ o. record { opened = o; rest = [] }) ended.1)

-- the same for a place whose line ends with these bytes
abbrev pub ended_at : Place → List ℕ → Option Command × Option Opened
ended_at place bytes = line_ended (place.lines + 1) place.opened (after_lines place.lines (place.rest ++ bytes))

-- the place after the line feed
abbrev pub place_after : Place → List ℕ → Place
place_after place bytes = record { lines = place.lines + 1; rest = []; opened = (ended_at place bytes).1 }

-- the command that an open block is, where the session ends
abbrev pub open_at_end : Option Opened → List Command
open_at_end None = []
open_at_end (Some o) = command.BadCommand o.number ∷ []

-- no line feed stands in these bytes
abbrev pub is_unended : List ℕ → Bool
is_unended bytes = list_all (λ byte. not (is_line_feed byte)) bytes

-- how many bytes of an open block there are
abbrev pub opened_length : Option Opened → ℕ
opened_length None = 0
opened_length (Some o) = length o.block

-- how many bytes a place holds back that may yet be in a block
abbrev pub held_length : Place → ℕ
held_length place = length place.rest + opened_length place.opened

-- the line that a place stands in has not ended, and no more lines ended than there were bytes
pub record IsLineOpen (place : Place) (bytes : ℕ) : Type 0 where
  pub unended : is_unended place.rest ≡ true
  pub counted : place.lines ≤ bytes
