-- A block that is read line by line.
use Rattle.std.specs.Prelude.{ℕ, ◌-◌, if◌then◌else◌, List, [], ◌∷◌, ◌++◌, length, take, Option, Some, None}
use Rattle.session_text.specs.PeriodBlocks.{closes_block, unquoted}

-- what stands before the last byte
abbrev pub without_last : List ℕ → List ℕ
without_last bytes = take (length bytes - 1) bytes

-- the block of these lines after what was read of it, where each line read has a line feed after it
abbrev pub block_after : List ℕ → List (List ℕ) → Option (List ℕ)
block_after read [] = None
block_after read (line ∷ lines) =
    if closes_block line then Some (without_last read) else block_after (read ++ unquoted line ++ 10 ∷ []) lines
