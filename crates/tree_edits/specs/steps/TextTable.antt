-- Texts of a document in a table by the numbers of their references.
use Rattle.std.specs.Prelude.{Bool, false, List, Option, Some, None, slice_index_or}
use Rattle.ordered_tree.specs.Leaves.{text_of}
use Rattle.tree_edits.specs.Changed.{Text, is_text}
use Rattle.ordered_tree.specs.declared.texts.TextAt.{TextAt}

abbrev pub is_entry : Option TextAt → Text → Bool
is_entry None t = false
is_entry (Some u) t = is_text t (text_of u)

-- whether the table has the text at its reference's number
abbrev pub is_held : List (Option TextAt) → Text → Bool
is_held table t = is_entry (slice_index_or table t.0.0 None) t
