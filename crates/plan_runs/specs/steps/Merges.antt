-- Filters that are decided by going through the hits of words: what they say, and how they are opened over a version.
use Rattle.std.specs.Prelude.{◌≡◌, ℕ, Bool, List, map, flat_map, length}
use Rattle.std.specs.List.{All, sum_by}
use Rattle.index_meaning.specs.Documents.{Numbered, breaks_of, document_at}
use Rattle.index_phrases.specs.declared.word_terms.WordTerms.{WordTerms}
use Rattle.index_phrases.specs.declared.word_terms.WordTerms.TheVariants as Terms
use Rattle.index_versions.specs.Terms.{VersionTerm, aimed_at, version_term}
use Rattle.window_merges.specs.Rows.{places_in}
use Rattle.word_lists.specs.Stems.{Stem}
use Rattle.plan_runs.specs.steps.AskedSpans.{AskedSpan}
use Rattle.plan_runs.specs.steps.ChosenTerms.{terms_for}
use Rattle.plan_runs.specs.steps.OpenedItems.{word_test}
use Rattle.plan_compiler.specs.declared.item_matching.ItemTest.{ItemTest}
use Rattle.plan_compiler.specs.declared.looks.Looks.{Looks}
use Rattle.plan_kinds.specs.steps.JoinedPhrases.{joined_phrases}
use Rattle.plan_kinds.specs.steps.MergeKinds.{stand_as}
use Rattle.plan_kinds.specs.declared.merge_kind.MergeKind.{MergeKind}
use Rattle.plan_compiler.specs.declared.operator_plan.OperatorPlan.{OperatorPlan}
use Rattle.plan_compiler.specs.declared.operator_plan.PhraseTests.{PhraseTests}

-- ---- what they say

-- how the words have to stand, the terms of each of them, and how many cursors there are for it
pub record MergeShape : Type 0 where
  pub kind : MergeKind
  pub words : List (List VersionTerm)
  pub sizes : List ℕ

-- the places of some terms in a span of a document
abbrev pub terms_places : AskedSpan → List VersionTerm → List ℕ
terms_places asked terms = places_in (aimed_at asked.doc asked.span) asked.span terms

abbrev pub merge_says : List Numbered → MergeShape → AskedSpan → Bool
merge_says version merge asked = stand_as (breaks_of (document_at asked.doc version)) merge.kind (map (terms_places asked) merge.words)

abbrev pub merge_cost : (WordTerms → ℕ) → MergeShape → ℕ
merge_cost cost merge = sum_by (λ terms. cost (Terms.Of terms)) merge.words

-- each word has as many cursors as terms, which are those of the version
pub record IsMerge (version : List Numbered) (merge : MergeShape) : Type 0 where
  pub sized : merge.sizes ≡ map length merge.words
  pub there : All (All (λ term. term.version ≡ version)) merge.words

-- ---- opened over a version

module _ (looks : Looks) (stems : List Stem) (version : List Numbered) where
  -- the terms whose words pass a test
  abbrev pub test_terms : ItemTest → List VersionTerm
  test_terms test = map (version_term version) (terms_for (word_test looks stems test) version)

  -- those of all variants of a phrase
  abbrev pub phrase_terms : PhraseTests → List VersionTerm
  phrase_terms found = flat_map (flat_map test_terms) found.variants

  abbrev pub opened_merge : MergeKind → OperatorPlan → MergeShape
  opened_merge kind operand = record {
    kind = kind;
    words = map phrase_terms (joined_phrases operand);
    sizes = map length (map phrase_terms (joined_phrases operand));
  }
