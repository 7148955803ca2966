-- What holds of each command that is read.
use Rattle.std.specs.Prelude.{ℕ, Bool, true, not, ◌&&◌, List, length, sum_by}
use Rattle.ft_base.specs.Lists.{is_empty}
use Rattle.reply_lines.specs.declared.command.Command.{Command}
use Rattle.reply_lines.specs.declared.command.Command.TheVariants as command
use Rattle.reply_lines.specs.Names.{is_name}

-- how many bytes a command's block has
abbrev pub block_length : Command → ℕ
block_length (command.Load name block) = length block
block_length (command.Insert how path block) = length block
block_length (command.Replace path block) = length block
block_length (command.Stop name block) = length block
block_length (command.Stems block) = length block
block_length (command.Abbreviations block) = length block
block_length (command.Thesaurus name block) = length block
block_length _ = 0

-- how many bytes the blocks of commands have together
abbrev pub block_lengths : List Command → ℕ
block_lengths commands = sum_by block_length commands

-- a command's name is a name, and its path or selection isn't empty
abbrev pub is_readable : Command → Bool
is_readable (command.Load name block) = is_name name
is_readable (command.Drop name) = is_name name
is_readable (command.Insert how path block) = not (is_empty path)
is_readable (command.Replace path block) = not (is_empty path)
is_readable (command.Delete path) = not (is_empty path)
is_readable (command.Stop name block) = is_name name
is_readable (command.Stems block) = true
is_readable (command.Abbreviations block) = true
is_readable (command.Thesaurus name block) = is_name name
is_readable (command.Query path) = not (is_empty path)
is_readable (command.QueryAt name path) = is_name name && not (is_empty path)
is_readable (command.Print path) = not (is_empty path)
is_readable (command.Show path) = not (is_empty path)
is_readable (command.Mark name) = is_name name
is_readable (command.Unmark name) = is_name name
is_readable (command.Watch name path) = is_name name && not (is_empty path)
is_readable (command.Changes name) = is_name name
is_readable (command.Unwatch name) = is_name name
is_readable (command.Explain text) = not (is_empty text)
is_readable command.Stats = true
is_readable (command.BadCommand line) = true
is_readable (command.BadName line) = true
