-- What lines begin with.
use Rattle.std.specs.Prelude.{ℕ, Bool, false, List, Option, Some, None, nat_eq}
use Rattle.std.specs.List.{starts_with}
use denote.Ref.{Bor}

abbrev pub begins_with : List ℕ → List ℕ → Bool
begins_with front line = starts_with nat_eq line front

-- the same of what may be said
abbrev pub has_front : Option (Bor (List ℕ)) → List ℕ → Bool
has_front None line = false
has_front (Some front) line = begins_with front.now line
