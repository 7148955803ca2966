-- What shared lists by name are to contracts.
use Rattle.std.specs.Prelude.{ℕ, List, [], Option, Some, None, String, string_bytes}
use Rattle.std.specs.Rc.{rc_value}
use Rattle.std.specs.declared.rc.Rc.{Rc}
use Rattle.word_lists.specs.Stems.{Stem}

-- a shared list with its name
abbrev pub named : {L Y Z : Type 0} → String Y × Rc L Z → List ℕ × L
named entry = (string_bytes entry.0, rc_value entry.1)

-- no stems, unless there is a dictionary
abbrev pub dictionary : {Z : Type 0} → Option (Rc (List Stem) Z) → List Stem
dictionary None = []
dictionary (Some stems) = rc_value stems
