-- Phrases of the worked examples.
use Rattle.std.specs.Prelude.{ℕ, List, [], ◌∷◌, true, false}
use Rattle.match_options.specs.declared.word_matching.WordTest.TheVariants as Test
use Rattle.plan_compiler.specs.declared.item_matching.ItemTest.{ItemTest}
use Rattle.plan_compiler.specs.declared.item_matching.ItemTest.TheVariants.{Any, ByForms}
use Rattle.plan_compiler.specs.declared.operator_plan.PhraseTests.{PhraseTests}
use Rattle.plan_kinds.specs.declared.joined.Joined.{Joined}

-- the phrase of that number, of no variants
abbrev pub numbered : ℕ → PhraseTests
numbered number = record { number = number; variants = [] }

-- words with the numbers from one to the other
abbrev pub some_words : ℕ → ℕ → Joined
some_words first last = record { first = first; last = last; are_words = true }

-- phrases with the numbers from one to the other
abbrev pub some_phrases : ℕ → ℕ → Joined
some_phrases first last = record { first = first; last = last; are_words = false }

-- the phrase of that number with one variant, whose words have to pass these tests
abbrev pub asking : ℕ → List ItemTest → PhraseTests
asking number tests = record { number = number; variants = tests ∷ [] }

-- a single word
abbrev pub a_word : ℕ → PhraseTests
a_word number = asking number (ByForms Test.Never ∷ [])

-- a phrase of two words
abbrev pub two_words : ℕ → PhraseTests
two_words number = asking number (ByForms Test.Never ∷ ByForms Test.Never ∷ [])

-- any word
abbrev pub any_word : ℕ → PhraseTests
any_word number = asking number (Any ∷ [])
