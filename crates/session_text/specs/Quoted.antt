-- Texts in quotation marks, in which two stand for one.
use Rattle.std.specs.Prelude.{ℕ, ◌==◌, Bool, true, false, if◌then◌else◌, nat_eq, List, [], ◌∷◌, ◌++◌, drop, codes, Option, Some, None, option_map}
use Rattle.std.specs.List.{starts_with}

abbrev pub is_quote : ℕ → Bool
is_quote byte = byte == 34

-- whether a text begins with a quotation mark
abbrev pub is_quoted : List ℕ → Bool
is_quoted text = starts_with nat_eq text (codes "\"")

-- what was read of a quoted text, with these bytes before it
abbrev pub prefixed : List ℕ → Option (List ℕ × List ℕ) → Option (List ℕ × List ℕ)
prefixed bytes read = option_map (λ q. (bytes ++ q.0, q.1)) read

-- What a text says up to the quotation mark that closes it, and what stands after that; none where none closes it. The test says
-- whether a quotation mark stands before these bytes, which closes the text where no other follows.
abbrev pub unquoted_on : Bool → List ℕ → Option (List ℕ × List ℕ)
unquoted_on false [] = None
unquoted_on true [] = Some ([], [])
unquoted_on false (byte ∷ bytes) = if is_quote byte then unquoted_on true bytes else prefixed (byte ∷ []) (unquoted_on false bytes)
unquoted_on true (byte ∷ bytes) = if is_quote byte then prefixed (byte ∷ []) (unquoted_on false bytes) else Some ([], byte ∷ bytes)

-- the same of a text that begins with a quotation mark
abbrev pub quoted : List ℕ → Option (List ℕ × List ℕ)
quoted text = unquoted_on false (drop 1 text)
