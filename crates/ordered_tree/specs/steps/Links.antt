-- Links as heads keep them: one more than the number of the node to which a link leads, and 0 for a link to none.
use Rattle.std.specs.Prelude.{◌≡◌, ℕ, zero, suc, Option, Some, None, refl}
use Rattle.ft_base.specs.declared.ids.NodeRef.{NodeRef}
use Rattle.ordered_tree.specs.declared.link.Link.TheInside.{Inside}

abbrev pub node_of : ℕ → Option NodeRef
node_of zero = None
node_of (suc number) = Some (record { 0 = number })

abbrev pub kept_of : Option NodeRef → ℕ
kept_of None = zero
kept_of (Some r) = suc r.0

abbrev pub inside_of : ℕ → Inside
inside_of kept = record { kept = kept }

pub kept_back : (kept : ℕ) → inside_of (kept_of (node_of kept)) ≡ inside_of kept
kept_back zero = refl
kept_back (suc number) = refl
