-- The commands of a session whose blocks have the lengths that their lines tell.
use Rattle.std.specs.Prelude.{ℕ, zero, suc, ◌+◌, ◌-◌, Bool, true, ◌&&◌, ◌||◌, if◌then◌else◌, nat_le, List, [], ◌∷◌, ◌++◌, length, take, drop, Option, Some, None}
use Rattle.std.specs.Fmt.{decimal}
use Rattle.std.specs.List.{before_first, after_first}
use Rattle.std.specs.Str.{bytes_eq}
use Rattle.std.specs.Str.Parse.{digits_value}
use Rattle.ft_base.specs.Characters.{is_line_feed}
use Rattle.ft_base.specs.Limits.{max_session_bytes}
use Rattle.ft_base.specs.Lists.{is_empty}
use Rattle.reply_lines.specs.declared.command.Command.{Command}
use Rattle.reply_lines.specs.declared.command.Command.TheVariants as command
use Rattle.text_lines.specs.Lines.{after_first_word, first_word, is_skipped, trimmed_line, without_return}
use Rattle.session_text.specs.LineCommands.{opens_sized_block, command_of_line, command_of_sized_block}
use Rattle.session_text.specs.Words.{is_command_line}

-- the bytes before the first line feed, and those after it
abbrev pub first_line : List ℕ → List ℕ
first_line bytes = before_first is_line_feed bytes

abbrev pub after_first_line : List ℕ → List ℕ
after_first_line bytes = after_first is_line_feed bytes

-- whether a word is the decimal of a number, which is no greater than a session may have bytes
abbrev pub is_size : ℕ → List ℕ → Bool
is_size number word = nat_le number max_session_bytes && bytes_eq (decimal number) word

abbrev pub size_as : ℕ → List ℕ → Option ℕ
size_as number word = if is_size number word then Some number else None

-- the length that a word tells, in decimal without leading zeros
abbrev pub size_in : List ℕ → Option ℕ
size_in word = size_as (digits_value 10 word) word

-- how many bytes the block has that follows a line; none where no block follows it
abbrev pub block_size : List ℕ → Option ℕ
block_size line =
    if is_command_line line && opens_sized_block line then size_in (first_word (after_first_word (trimmed_line line))) else None

-- how many bytes a first line has with the line feed that ends it, which is counted where it is missing, too
abbrev pub line_size : List ℕ → ℕ
line_size bytes = length (first_line bytes) + 1

-- how many of the bytes after a line are its block and the rest of that line in which the block ends
abbrev pub size_behind : Option ℕ → List ℕ → ℕ
size_behind None bytes = 0
size_behind (Some size) bytes = size + line_size (drop size bytes)

-- how many bytes belong to what the first line says
abbrev pub said_size : List ℕ → ℕ
said_size bytes = line_size bytes + size_behind (block_size (first_line bytes)) (after_first_line bytes)

-- the command of a line with a block of that many bytes, where these follow the line: the block ends within them, and behind it
-- its line has nothing but a carriage return
abbrev pub sized_command : ℕ → List ℕ → ℕ → List ℕ → Command
sized_command number line size bytes =
    if nat_le size (length bytes) && is_empty (without_return (first_line (drop size bytes)))
    then command_of_sized_block number line (take size bytes)
    else command.BadCommand number

-- what a line says where these bytes follow it
abbrev pub said : ℕ → List ℕ → Option ℕ → List ℕ → List Command
said number line (Some size) bytes = sized_command number line size bytes ∷ []
said number line None bytes = if is_skipped line then [] else command_of_line true number line ∷ []

-- what the first line says, whose number that is; where the session goes on after the bytes, only if all that belongs to it is there
abbrev pub said_first : Bool → ℕ → List ℕ → List Command
said_first at_end number bytes =
    if at_end || nat_le (said_size bytes) (length bytes)
    then said number (first_line bytes) (block_size (first_line bytes)) (after_first_line bytes)
    else []

-- the number of the line in which the byte after this one stands
abbrev pub number_after : ℕ → ℕ → ℕ
number_after number byte = if is_line_feed byte then number + 1 else number

-- The commands of bytes, in order. The first test says whether the session ends after them; the first number is that of the line in
-- which they begin; the second one says how many of them belong to what was said before.
unfoldable pub sized_commands : Bool → ℕ → ℕ → List ℕ → List Command
sized_commands at_end number passed [] = []
sized_commands at_end number (suc passed) (byte ∷ bytes) = sized_commands at_end (number_after number byte) passed bytes
sized_commands at_end number zero (byte ∷ bytes) =
    said_first at_end number (byte ∷ bytes) ++ sized_commands at_end (number_after number byte) (said_size (byte ∷ bytes) - 1) bytes
