-- Marked nodes.
use Rattle.std.specs.Prelude.{ℕ, Bool, nat_eq}
use Rattle.std.specs.HashSet.{HashSet, contains}
use Rattle.ft_base.specs.declared.ids.NodeRef.{NodeRef}

-- whether the node's number is in a set
abbrev pub is_marked : {S : Type 0} → HashSet ℕ S → NodeRef → Bool
is_marked marks r = contains nat_eq marks r.0
