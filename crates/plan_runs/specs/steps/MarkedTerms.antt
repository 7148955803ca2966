-- Terms of a version that are marked by their numbers, before their words are looked at.
use Rattle.std.specs.Prelude.{◌≡◌, ◌<◌, ◌≤◌, ℕ, Bool, true, false, cond, List, length, slice_index_or, Option, Some, None}
use Rattle.index_meaning.specs.Documents.{Numbered}
use Rattle.index_meaning.specs.Entries.{Entry}
use Rattle.index_versions.specs.Versions.{term_at, terms_of}
use Rattle.plan_compiler.specs.declared.item_matching.ItemTest.{ItemTest}
use Rattle.plan_compiler.specs.declared.item_matching.ItemTest.TheVariants.{Any, ByForms, ByStem}
use Rattle.plan_compiler.specs.declared.looks.Looks.{Looks}

-- the stem that words have which pass, where the test asks for one and stems are looked at
abbrev pub asked_stem : Looks → ItemTest → Option (List ℕ)
asked_stem looks Any = None
asked_stem looks (ByForms test) = None
asked_stem looks (ByStem stem case) = cond looks.stems (Some stem) None

abbrev pub is_marked : List Bool → ℕ → Bool
is_marked marks number = slice_index_or marks number false

-- each term of the version that passes the test is marked
abbrev pub MarksAll : (Entry → Bool) → List Numbered → List Bool → Type 0
MarksAll test version marks = (number : ℕ) → number < length (terms_of version) → test (term_at number version) ≡ true → is_marked marks number ≡ true

-- what was marked still is
abbrev pub KeepsMarks : List Bool → List Bool → Type 0
KeepsMarks old new = (number : ℕ) → is_marked old number ≡ true → is_marked new number ≡ true

-- the numbers from one on up to the other are marked
abbrev pub MarksBetween : ℕ → ℕ → List Bool → Type 0
MarksBetween from to marks = (number : ℕ) → from ≤ number → number < to → is_marked marks number ≡ true
