-- Two texts of the program as their bytes.
use Rattle.std.specs.Prelude.{ℕ, List, String, string_bytes}

abbrev pub bytes_of_both : {Y Z : Type 0} → String Y × String Z → List ℕ × List ℕ
bytes_of_both two = (string_bytes two.0, string_bytes two.1)
