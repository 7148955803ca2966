-- How far a session was read whose blocks have the lengths that their lines tell.
use Rattle.std.specs.Prelude.{◌≡◌, ◌<◌, ⊤, ℕ, ◌+◌, ◌-◌, Bool, true, if◌then◌else◌, nat_lt, List, [], ◌∷◌, ◌++◌, length, Option, Some, None, option_map}
use Rattle.ft_base.specs.Lists.{is_empty}
use Rattle.reply_lines.specs.declared.command.Command.{Command}
use Rattle.reply_lines.specs.declared.command.Command.TheVariants as command
use Rattle.text_lines.specs.Lines.{is_skipped, without_return}
use Rattle.session_text.specs.LineCommands.{command_of_line, command_of_sized_block}
use Rattle.session_text.specs.SizedBlocks.{block_size, number_after, sized_commands}
use Rattle.session_text.specs.steps.PeriodReading.{is_unended}

-- a command whose block has begun: its line, how many bytes of the block are left, and those that were read
pub record SizedOpened : Type 0 where
  pub line : List ℕ
  pub left : ℕ
  pub block : List ℕ

-- the number of the line that is read, or of the one whose block is; the bytes of the line that hasn't ended; the command whose block has begun
pub record SizedPlace : Type 0 where
  pub number : ℕ
  pub rest : List ℕ
  pub opened : Option SizedOpened

-- after the session's first line
abbrev pub after_first : SizedPlace
after_first = record { number = 2; rest = []; opened = None }

-- the bytes of a command whose block has begun
abbrev pub opened_bytes : Option SizedOpened → List ℕ
opened_bytes None = []
opened_bytes (Some o) = o.line ++ 10 ∷ o.block

-- the bytes of which nothing was said yet
abbrev pub bytes_held : SizedPlace → List ℕ
bytes_held place = opened_bytes place.opened ++ place.rest

-- the commands from a place on, where these bytes follow; where the session goes on after them, those that are whole
abbrev pub sized_commands_from : Bool → SizedPlace → List ℕ → List Command
sized_commands_from at_end place bytes = sized_commands at_end place.number 0 (bytes_held place ++ bytes)

-- how many bytes of the block are left
abbrev pub left_of : Option SizedOpened → ℕ
left_of None = 0
left_of (Some o) = o.left

-- a block that has begun after these bytes of it
abbrev pub grown : List ℕ → SizedOpened → SizedOpened
grown bytes o = record o { left = o.left - length bytes; block = o.block ++ bytes }

-- a place after these bytes of the block
abbrev pub block_grown : SizedPlace → List ℕ → SizedPlace
block_grown place bytes = record place { opened = option_map (grown bytes) place.opened }

-- the number of the line after these bytes
abbrev pub number_past : ℕ → List ℕ → ℕ
number_past number [] = number
number_past number (byte ∷ bytes) = number_past (number_after number byte) bytes

-- what a line that ended says, whose block has that many bytes: the command that is whole with it, and the place after it
abbrev pub sized_line_ended : ℕ → List ℕ → Option ℕ → Option Command × SizedPlace
sized_line_ended number line None =
    (if is_skipped line then None else Some (command_of_line true number line), record { number = number + 1; rest = []; opened = None })
sized_line_ended number line (Some size) =
    (None, record { number = number; rest = []; opened = Some (record { line = line; left = size; block = [] }) })

-- the command of a line with its block, behind which these bytes end the block's last line
abbrev pub closed_command : ℕ → List ℕ → List ℕ → List ℕ → Command
closed_command number line block bytes =
    if is_empty (without_return bytes) then command_of_sized_block number line block else command.BadCommand number

-- the place after the line in which a block ended, where the block's first line has the number after that one
abbrev pub after_block : ℕ → List ℕ → SizedPlace
after_block number block = record { number = number_past (number + 1) block + 1; rest = []; opened = None }

-- what a line that ended says, or the rest of the line behind a block that ended
abbrev pub sized_ended : ℕ → Option SizedOpened → List ℕ → Option Command × SizedPlace
sized_ended number None line = sized_line_ended number line (block_size line)
sized_ended number (Some o) line = (Some (closed_command number o.line o.block line), after_block number o.block)

-- the same for a place whose line ends with these bytes
abbrev pub sized_ended_at : SizedPlace → List ℕ → Option Command × SizedPlace
sized_ended_at place bytes = sized_ended place.number place.opened (place.rest ++ bytes)

-- the command whose line ended with the session, where its block was to follow
abbrev pub last_of : ℕ → List ℕ → Option SizedOpened → Option Command
last_of number rest None = None
last_of number rest (Some o) = Some (if nat_lt 0 o.left then command.BadCommand number else closed_command number o.line o.block rest)

abbrev pub last_sized : SizedPlace → Option Command
last_sized place = last_of place.number place.rest place.opened

-- how many bytes of a block there are
abbrev pub sized_length : Option SizedOpened → ℕ
sized_length None = 0
sized_length (Some o) = length o.block

-- how many bytes a place holds back that may yet be in a block
abbrev pub sized_held_length : SizedPlace → ℕ
sized_held_length place = length place.rest + sized_length place.opened

-- a command whose block has begun is what its line says, and nothing is read behind a block that hasn't ended
abbrev pub IsBlockOf : List ℕ → Option SizedOpened → Type 0
IsBlockOf rest None = ⊤
IsBlockOf rest (Some o) = (is_unended o.line ≡ true) × (block_size o.line ≡ Some (length o.block + o.left)) × (0 < o.left → rest ≡ [])

-- no line feed stands in the line that hasn't ended
pub record IsSizedPlace (place : SizedPlace) : Type 0 where
  pub unended : is_unended place.rest ≡ true
  pub block : IsBlockOf place.rest place.opened
