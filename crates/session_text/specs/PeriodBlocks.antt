-- The commands of a session whose blocks end at a line that is a period.
use Rattle.std.specs.Prelude.{ℕ, ◌+◌, Bool, true, false, not, if◌then◌else◌, nat_eq, List, [], ◌∷◌, ◌++◌, drop, map, codes, Option, Some, None}
use Rattle.std.specs.List.{starts_with, take_while, list_any, join_with_byte}
use Rattle.reply_lines.specs.declared.command.Command.{Command}
use Rattle.reply_lines.specs.declared.command.Command.TheVariants as command
use Rattle.text_lines.specs.Lines.{is_skipped, without_return}
use Rattle.session_text.specs.LineCommands.{opens_block, command_of_line, command_of_block}
use Rattle.session_text.specs.Words.{is_text}

-- the line that ends a block: a period
abbrev pub closes_block : List ℕ → Bool
closes_block line = is_text (without_return line) (codes ".")

-- a line of a block as it is meant: a period at its beginning goes
abbrev pub unquoted : List ℕ → List ℕ
unquoted line = if starts_with nat_eq line (codes ".") then drop 1 line else line

-- the block at the front of the lines: those before the one that ends it, joined by line feeds; none where no line ends it
abbrev pub block_of : List (List ℕ) → Option (List ℕ)
block_of lines =
    if list_any closes_block lines
    then Some (join_with_byte 10 (map unquoted (take_while (λ line. not (closes_block line)) lines)))
    else None

-- the same, where the block may be open: where the session ends, that is a bad command, and else no command yet
abbrev pub opened : Bool → ℕ → List ℕ → Option (List ℕ) → List Command
opened at_end number line (Some block) = command_of_block number line block ∷ []
opened true number line None = command.BadCommand number ∷ []
opened false number line None = []

-- The commands of lines, in order. The first test says whether the session ends after the lines; the number is that of the
-- first line; the second test says whether that line stands in a block.
abbrev pub commands_of_lines : Bool → ℕ → Bool → List (List ℕ) → List Command
commands_of_lines at_end number in_block [] = []
commands_of_lines at_end number true (line ∷ lines) = commands_of_lines at_end (number + 1) (not (closes_block line)) lines
commands_of_lines at_end number false (line ∷ lines) =
    if is_skipped line then commands_of_lines at_end (number + 1) false lines
    else if opens_block line then opened at_end number line (block_of lines) ++ commands_of_lines at_end (number + 1) true lines
    else command_of_line false number line ∷ commands_of_lines at_end (number + 1) false lines
