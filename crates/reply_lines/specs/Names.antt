-- What a name is.
use Rattle.std.specs.Prelude.{ℕ, Bool, not, ◌==◌, ◌&&◌, ◌||◌, nat_le, List, length}
use Rattle.std.specs.List.{list_all, list_any}
use Rattle.std.specs.Char.{is_ascii_alphanumeric}
use Rattle.std.specs.Str.{chars}
use Rattle.ft_base.specs.Lists.{is_empty}
use Rattle.ft_base.specs.Limits.{max_name_bytes}

-- a bare name: letters, digits, periods, low lines and hyphens, at least one and no more than a name may have
abbrev pub is_name_byte : ℕ → Bool
is_name_byte byte = is_ascii_alphanumeric byte || byte == 46 || byte == 95 || byte == 45

abbrev pub is_bare_name : List ℕ → Bool
is_bare_name text = not (is_empty text) && nat_le (length text) max_name_bytes && list_all is_name_byte text

-- U+0000 to U+001F, and U+007F
abbrev pub is_control_byte : ℕ → Bool
is_control_byte byte = nat_le byte 31 || byte == 127

-- a name that may stand in quotation marks: any characters but these, at least one and no more than a bare name may have
abbrev pub is_quoted_name : List ℕ → Bool
is_quoted_name text = not (is_empty text) && nat_le (length (chars text)) max_name_bytes && not (list_any is_control_byte text)

abbrev pub is_name : List ℕ → Bool
is_name text = is_bare_name text || is_quoted_name text
