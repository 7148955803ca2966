-- Words that are asked for, opened over a version: terms in the place of tests.
use Rattle.std.specs.Prelude.{ℕ, Bool, cond, List, map}
use Rattle.index_meaning.specs.Documents.{Numbered}
use Rattle.index_phrases.specs.declared.word_terms.WordTerms.{WordTerms}
use Rattle.index_phrases.specs.declared.word_terms.WordTerms.TheVariants as Terms
use Rattle.index_versions.specs.Terms.{version_term}
use Rattle.word_lists.specs.Stems.{Stem}
use Rattle.plan_compiler.specs.ItemTests.{passes}
use Rattle.plan_compiler.specs.TextWords.{word_as}
use Rattle.plan_compiler.specs.ItemTests.{asks_nothing}
use Rattle.plan_runs.specs.steps.ChosenTerms.{terms_for}
use Rattle.plan_compiler.specs.declared.item_matching.ItemTest.{ItemTest}
use Rattle.plan_compiler.specs.declared.looks.Looks.{Looks}

-- what a test says of a word by what is looked at of it
abbrev pub word_test : Looks → List Stem → ItemTest → List ℕ → Bool
word_test looks stems test word = passes test (word_as looks stems word)

module _ (looks : Looks) (stems : List Stem) (version : List Numbered) where
  abbrev pub opened_item : ItemTest → WordTerms
  opened_item test = cond (asks_nothing test) Terms.Any (Terms.Of (map (version_term version) (terms_for (word_test looks stems test) version)))

  abbrev pub opened_variant : List ItemTest → List WordTerms
  opened_variant tests = map opened_item tests
