-- The commands of a session's bytes.
use Rattle.std.specs.Prelude.{ℕ, Bool, true, false, if◌then◌else◌, List, codes}
use Rattle.reply_lines.specs.declared.command.Command.{Command}
use Rattle.text_lines.specs.Lines.{without_return}
use Rattle.session_text.specs.Lines.{lines_of, without_mark}
use Rattle.session_text.specs.PeriodBlocks.{commands_of_lines}
use Rattle.session_text.specs.SizedBlocks.{after_first_line, first_line, sized_commands}
use Rattle.session_text.specs.Words.{is_text}

-- whether a first line says that the session is of format 2, in which blocks have lengths and names may stand in quotation marks
abbrev pub says_second : List ℕ → Bool
says_second line = is_text (without_return line) (codes "session 2")

-- the commands of bytes in which a session's first line begins
abbrev pub commands_in : Bool → List ℕ → List Command
commands_in at_end bytes =
    if says_second (first_line bytes) then sized_commands at_end 2 0 (after_first_line bytes)
    else commands_of_lines at_end 1 false (lines_of at_end bytes)

-- the commands of bytes at a session's start: all of them where the session ends there, and else those that are whole
abbrev pub commands_of : Bool → List ℕ → List Command
commands_of at_end bytes = commands_in at_end (without_mark bytes)

-- the commands of a session's bytes
abbrev pub commands : List ℕ → List Command
commands bytes = commands_of true bytes

-- those whose last line, for a block the line that closes it or the rest of the line behind it, is ended by a line feed
abbrev pub whole : List ℕ → List Command
whole bytes = commands_of false bytes
