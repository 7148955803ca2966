-- Tests that only words of one key pass.
use Rattle.std.specs.Prelude.{ℕ, List, Option, Some, None}
use Rattle.match_options.specs.declared.word_matching.WordTest.{WordTest}
use Rattle.match_options.specs.declared.word_matching.WordTest.TheVariants as The
use Rattle.plan_compiler.specs.declared.item_matching.ItemTest.{ItemTest}
use Rattle.plan_compiler.specs.declared.item_matching.ItemTest.TheVariants.{Any, ByForms, ByStem}

-- the key of the words that pass, where the test asks for one
abbrev pub key_of_forms : WordTest → Option (List ℕ)
key_of_forms The.Any = None
key_of_forms (The.Same choice query) = Some query.key
key_of_forms (The.Covered choice wild) = None
key_of_forms The.Never = None

abbrev pub asked_key : ItemTest → Option (List ℕ)
asked_key Any = None
asked_key (ByForms test) = key_of_forms test
asked_key (ByStem stem case) = None
