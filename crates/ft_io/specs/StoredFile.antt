-- The files of a shelf in memory.
use Rattle.std.specs.Prelude.{ℕ, Bool, List, map, nat_eq}
use Rattle.std.specs.Cmp.Lexicographic.{pointwise}
use Rattle.std.specs.FinMap.{from_entries}
use Rattle.ft_io.specs.declared.memory_shelf.StoredFile.{StoredFile}
use Rattle.ft_io.specs.Shelf.{Files}

-- whether a file has that name
abbrev pub has_name : List ℕ → StoredFile → Bool
has_name name file = pointwise nat_eq name file.name

-- a file's name with its bytes
abbrev pub entry_of : StoredFile → List ℕ × List ℕ
entry_of file = (file.name, file.bytes)

-- the files by name; of two with one name the first
abbrev pub files_of : List StoredFile → Files
files_of files = from_entries (map entry_of files)
