-- A test that is lent.
use Rattle.std.specs.Prelude.{ℕ, ◌∷◌}
use Rattle.path_nodes.specs.Says.{Meaning}

-- one that holds another test as a loan of this name
abbrev pub lent_too : ℕ → Meaning → Meaning
lent_too loan m = record m { lent = loan ∷ m.lent }
