-- Atoms for examples.
use Rattle.std.specs.Prelude.{ℕ, Some, None}
use Rattle.match_options.specs.declared.atom.Atom.{Atom}
use Rattle.match_options.specs.declared.atom.Atom.TheVariants.{Gap}

-- from so many to so many characters
abbrev pub from_to : ℕ → ℕ → Atom
from_to low high = Gap low (Some high)

-- at least so many characters
abbrev pub at_least : ℕ → Atom
at_least low = Gap low None
