-- A text that a sink takes in parts.
use Rattle.std.proofs.Common.{◌≡◌, ap, refl, ℕ, List, ◌++◌, append_assoc}
use Rattle.std.specs.Prelude.{Option, Some, None}
use Rattle.ft_session.specs.Run.{with_text}

-- a text after another
pub with_text_twice : (before : Option (List ℕ)) (a b : List ℕ) → with_text (with_text before a) b ≡ with_text before (a ++ b)
with_text_twice None a b = refl
with_text_twice (Some bytes) a b = ap Some (append_assoc bytes a b)
