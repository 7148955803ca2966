-- Where documents stand.
use Rattle.std.specs.Prelude.{ℕ, suc, if◌then◌else◌, List, [], ◌∷◌}
use Rattle.std.specs.Str.{bytes_eq}
use Rattle.path_meaning.specs.Collection.{Named}

-- how many documents stand before the one of a name: all, if there is none
abbrev pub documents_before : List ℕ → List Named → ℕ
documents_before name [] = 0
documents_before name (d ∷ documents) = if bytes_eq name d.name then 0 else suc (documents_before name documents)
