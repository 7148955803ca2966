-- Lists of tests by their lengths, and what they say of words.
use Rattle.std.specs.Prelude.{ℕ, Bool, List, [], ◌∷◌, ◌++◌, map, length, nat_eq, Option, Some, None}
use Rattle.std.specs.Map.{set_value}
use Rattle.indexmap.specs.IndexMap.{insert_entry}
use Rattle.plan_compiler.specs.ItemTests.{passes}
use Rattle.plan_compiler.specs.declared.item_matching.ItemTest.{ItemTest}
use Rattle.plan_compiler.specs.declared.text_word.TextWord.{TextWord}

abbrev pub group_tests : ℕ × List (List ItemTest) → ℕ × List (List (TextWord → Bool))
group_tests group = (group.0, map (map passes) group.1)

-- a list after those of its length, where some were found, or as the first of it
abbrev pub put_after : {X : Type 0} → List (ℕ × List (List X)) → List X → Option (List (List X)) → List (ℕ × List (List X))
put_after groups items None = insert_entry nat_eq groups (length items) (items ∷ [])
put_after groups items (Some found) = set_value (nat_eq (length items)) groups (found ++ items ∷ [])
