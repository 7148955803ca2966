-- A walk over a text's characters, with the place of each in bytes.
use Rattle.std.specs.Prelude.{◌≡◌, ℕ, List, ◌++◌, length, encode_utf8_all}

-- The walk has passed the prefix's characters and stands at the place, which counts bytes from 0; the bytes of the rest are to come.
pub record Walk (text prefix : List ℕ) (place : ℕ) (rest : List ℕ) : Type 0 where
  pub split : encode_utf8_all prefix ++ rest ≡ text
  pub counts : place ≡ length (encode_utf8_all prefix)
