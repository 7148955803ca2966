-- How many elements of each name there were.
use Rattle.std.specs.Prelude.{ℕ, Bool, false, cond, List, Option, Some, None, unwrap_or}
use Rattle.std.specs.HashMap.{HashMap, get_by}
use Rattle.std.specs.Str.{bytes_eq}
use Rattle.element_lines.specs.declared.counts.Counts.{Counts}
use denote.Ref.{Bor}

-- whether the name is the one that came last
abbrev pub is_last : Option (Bor (List ℕ)) → List ℕ → Bool
is_last None name = false
is_last (Some last) name = bytes_eq last.now name

-- the count of a name, 0 for a name that was not counted
abbrev pub count_among : {S : Type 0} → HashMap (Bor (List ℕ)) ℕ S → List ℕ → ℕ
count_among counts name = unwrap_or (get_by (λ k. bytes_eq name k.now) counts) 0

-- the same, where that of the name that came last is kept beside the others
abbrev pub count_of : Counts → List ℕ → ℕ
count_of counts name = cond (is_last counts.last name) counts.number (count_among counts.others name)
