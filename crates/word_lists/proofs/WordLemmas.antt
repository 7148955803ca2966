-- What isn't UTF-8 doesn't pass the test.
use Rattle.std.proofs.Common.{◌≡◌, refl, ℕ, Bool, true, false, List}
use Rattle.std.specs.Str.{IsUtf8, is_utf8}
use Rattle.std.proofs.lemmas.Str.{IsUtf8-from_is_utf8}

pub is_no_utf8 : (line : List ℕ) → ¬ (IsUtf8 line) → is_utf8 line ≡ false
is_no_utf8 line never = go (is_utf8 line) refl
  where
    go : (b : Bool) → is_utf8 line ≡ b → b ≡ false
    go false e = refl
    go true e = absurd (never (IsUtf8-from_is_utf8 line e))
