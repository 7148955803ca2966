-- References that are marked in a table.
use Rattle.std.specs.Prelude.{Bool, false, List, slice_index_or}
use Rattle.ft_base.specs.declared.ids.NodeRef.{NodeRef}

-- whether the table has a mark at the reference's number
abbrev pub is_marked : List Bool → NodeRef → Bool
is_marked marks r = slice_index_or marks r.0 false
