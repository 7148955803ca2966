-- The command of a line, and of a line and the block after it.
use Rattle.std.specs.Prelude.{ℕ, Bool, true, false, not, ◌&&◌, ◌||◌, if◌then◌else◌, List, [], ◌∷◌, codes, Option, Some, None, Result, Ok, Err}
use Rattle.std.specs.List.{list_any}
use Rattle.ft_base.specs.Lists.{is_empty}
use Rattle.reply_lines.specs.declared.command.Command.{Command}
use Rattle.reply_lines.specs.declared.command.Command.TheVariants as command
use Rattle.plain_tree.specs.declared.place.How.{How}
use Rattle.plain_tree.specs.declared.place.How.TheVariants as how
use Rattle.text_lines.specs.Lines.{after_first_word, first_word, trimmed_line}
use Rattle.reply_lines.specs.Names.{is_bare_name, is_quoted_name}
use Rattle.session_text.specs.Words.{is_text, is_command_line, is_one_word}
use Rattle.session_text.specs.Quoted.{is_quoted, quoted}

-- a line whose command is followed by a block, whatever else it holds
abbrev pub opens_block : List ℕ → Bool
opens_block line =
    list_any (is_text (first_word (trimmed_line line)))
    (codes "load" ∷ codes "insert" ∷ codes "replace" ∷ codes "stop" ∷ codes "stems" ∷ codes "thesaurus" ∷ [])

-- the same where blocks have lengths, which one more command has
abbrev pub opens_sized_block : List ℕ → Bool
opens_sized_block line = opens_block line || is_text (first_word (trimmed_line line)) (codes "abbreviations")

-- a name in quotation marks, which stands before nothing else: what it says, or the command that tells the fault. `number` is the line's.
abbrev pub quoted_name : ℕ → Option (List ℕ × List ℕ) → Result (List ℕ) Command
quoted_name number None = Err (command.BadCommand number)
quoted_name number (Some q) =
    if not (is_empty q.1) then Err (command.BadCommand number)
    else if is_quoted_name q.0 then Ok q.0
    else Err (command.BadName number)

-- What follows a command's word, where that is to be one name: the name, or the command that tells the fault. `number` is
-- the line's, and `quotes` says whether a name may stand in quotation marks.
abbrev pub name_in : Bool → ℕ → List ℕ → Result (List ℕ) Command
name_in quotes number rest =
    if quotes && is_quoted rest then quoted_name number (quoted rest)
    else if not (is_one_word rest) then Err (command.BadCommand number)
    else if is_bare_name rest then Ok rest
    else Err (command.BadName number)

-- what follows a command's word, where that is to be a path or a selection, which are read later
abbrev pub text_in : ℕ → List ℕ → Result (List ℕ) Command
text_in number rest = if is_empty rest then Err (command.BadCommand number) else Ok rest

-- a name and then a path: both, or the command that tells the fault
abbrev pub name_and_path : ℕ → List ℕ → List ℕ → Result (List ℕ × List ℕ) Command
name_and_path number name path =
    if is_empty path then Err (command.BadCommand number)
    else if is_bare_name name then Ok (name, path)
    else Err (command.BadName number)

-- the same, where the name stands in quotation marks: a blank is to follow it
abbrev pub quoted_name_and_path : ℕ → Option (List ℕ × List ℕ) → Result (List ℕ × List ℕ) Command
quoted_name_and_path number None = Err (command.BadCommand number)
quoted_name_and_path number (Some q) =
    if not (is_empty (first_word q.1)) || is_empty (after_first_word q.1) then Err (command.BadCommand number)
    else if is_quoted_name q.0 then Ok (q.0, after_first_word q.1)
    else Err (command.BadName number)

-- what follows a command's word, where that is to be a name and then a path
abbrev pub name_and_path_in : Bool → ℕ → List ℕ → Result (List ℕ × List ℕ) Command
name_and_path_in quotes number rest =
    if quotes && is_quoted rest then quoted_name_and_path number (quoted rest)
    else name_and_path number (first_word rest) (after_first_word rest)

-- the command made of what follows its word
abbrev pub made : {A : Type 0} → (A → Command) → Result A Command → Command
made make (Ok read) = make read
made make (Err fault) = fault

abbrev pub named : Bool → ℕ → List ℕ → (List ℕ → Command) → Command
named quotes number rest make = made make (name_in quotes number rest)

abbrev pub with_text : ℕ → List ℕ → (List ℕ → Command) → Command
with_text number rest make = made make (text_in number rest)

abbrev pub named_with_path : Bool → ℕ → List ℕ → (List ℕ → List ℕ → Command) → Command
named_with_path quotes number rest make = made (λ p. make p.0 p.1) (name_and_path_in quotes number rest)

-- the command, where nothing is to follow its word
abbrev pub alone : ℕ → List ℕ → Command → Command
alone number rest made = if is_empty rest then made else command.BadCommand number

-- where an insertion puts its content
abbrev pub how_of : List ℕ → Option How
how_of word =
    if is_text word (codes "first") then Some how.First
    else if is_text word (codes "last") then Some how.Last
    else if is_text word (codes "before") then Some how.Before
    else if is_text word (codes "after") then Some how.After
    else None

abbrev pub insertion : ℕ → Option How → List ℕ → List ℕ → Command
insertion number None path block = command.BadCommand number
insertion number (Some h) path block = with_text number path (λ p. command.Insert h p block)

-- the command with that first word and that rest, and the block after it
abbrev pub list_command : Bool → ℕ → List ℕ → List ℕ → List ℕ → Command
list_command quotes number word rest block =
    if is_text word (codes "stop") then named quotes number rest (λ name. command.Stop name block)
    else if is_text word (codes "stems") then alone number rest (command.Stems block)
    else if is_text word (codes "abbreviations") then alone number rest (command.Abbreviations block)
    else if is_text word (codes "thesaurus") then named quotes number rest (λ name. command.Thesaurus name block)
    else command.BadCommand number

abbrev pub block_command : Bool → ℕ → List ℕ → List ℕ → List ℕ → Command
block_command quotes number word rest block =
    if is_text word (codes "load") then named quotes number rest (λ name. command.Load name block)
    else if is_text word (codes "insert") then insertion number (how_of (first_word rest)) (after_first_word rest) block
    else if is_text word (codes "replace") then with_text number rest (λ path. command.Replace path block)
    else list_command quotes number word rest block

-- `query at NAME PATH` wherever the second word is `at`, else `query PATH`
abbrev pub query : Bool → ℕ → List ℕ → Command
query quotes number rest =
    if is_text (first_word rest) (codes "at") then named_with_path quotes number (after_first_word rest) command.QueryAt
    else with_text number rest command.Query

-- the commands of watches
abbrev pub watch_command : ℕ → List ℕ → List ℕ → Command
watch_command number word rest =
    if is_text word (codes "watch") then named_with_path true number rest command.Watch
    else if is_text word (codes "changes") then named true number rest command.Changes
    else if is_text word (codes "unwatch") then named true number rest command.Unwatch
    else command.BadCommand number

-- the commands that stand in sessions of format 2 alone
abbrev pub second_command : ℕ → List ℕ → List ℕ → Command
second_command number word rest =
    if is_text word (codes "show") then with_text number rest command.Show
    else watch_command number word rest

-- The command with that first word and that rest, without a block. The test says whether the session is of format 2, in which names may
-- stand in quotation marks.
abbrev pub name_command : Bool → ℕ → List ℕ → List ℕ → Command
name_command second number word rest =
    if is_text word (codes "drop") then named second number rest command.Drop
    else if is_text word (codes "mark") then named second number rest command.Mark
    else if is_text word (codes "unmark") then named second number rest command.Unmark
    else if is_text word (codes "stats") then alone number rest command.Stats
    else if second then second_command number word rest
    else command.BadCommand number

abbrev pub line_command : Bool → ℕ → List ℕ → List ℕ → Command
line_command second number word rest =
    if is_text word (codes "query") then query second number rest
    else if is_text word (codes "print") then with_text number rest command.Print
    else if is_text word (codes "explain") then with_text number rest command.Explain
    else if is_text word (codes "delete") then with_text number rest command.Delete
    else name_command second number word rest

-- the command of a line that no block follows
abbrev pub command_of_line : Bool → ℕ → List ℕ → Command
command_of_line second number line =
    if is_command_line line then line_command second number (first_word (trimmed_line line)) (after_first_word (trimmed_line line))
    else command.BadCommand number

-- the command of a line and the block after it
abbrev pub command_of_block : ℕ → List ℕ → List ℕ → Command
command_of_block number line block =
    if is_command_line line then block_command false number (first_word (trimmed_line line)) (after_first_word (trimmed_line line)) block
    else command.BadCommand number

-- the same, where the block's length is the line's second word
abbrev pub command_of_sized_block : ℕ → List ℕ → List ℕ → Command
command_of_sized_block number line block =
    if is_command_line line
    then block_command true number (first_word (trimmed_line line)) (after_first_word (after_first_word (trimmed_line line))) block
    else command.BadCommand number
