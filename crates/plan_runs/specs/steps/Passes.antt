-- Filters that are decided by one pass through the hits of phrases: what they say, and how they are opened over a version.
use Rattle.std.specs.Prelude.{◌≡◌, ℕ, Bool, true, List, [], ◌∷◌, map, Option}
use Rattle.ft_base.specs.declared.span.Span.{Span}
use Rattle.ft_operators.specs.Phrases.{PhraseAims}
use Rattle.index_meaning.specs.Documents.{Numbered, has_document}
use Rattle.index_phrases.specs.Cursors.{phrase_aims}
use Rattle.phrase_merges.specs.Rows.{all_may, hits_there, rise_there}
use Rattle.window_merges.specs.Choices.{some_choice}
use Rattle.word_lists.specs.Stems.{Stem}
use Rattle.plan_compiler.specs.declared.item_matching.ItemTest.{ItemTest}
use Rattle.plan_compiler.specs.declared.looks.Looks.{Looks}
use Rattle.plan_compiler.specs.declared.operator_plan.OperatorPlan.{OperatorPlan}
use Rattle.plan_compiler.specs.declared.operator_plan.PhraseTests.{PhraseTests}
use Rattle.plan_kinds.specs.steps.JoinedPhrases.{joined_phrases}
use Rattle.plan_kinds.specs.steps.PassKinds.{hits_stand}
use Rattle.plan_runs.specs.steps.AskedSpans.{AskedSpan}
use Rattle.plan_runs.specs.steps.OpenedItems.{opened_variant}
use Rattle.plan_kinds.specs.declared.pass_kind.PassKind.{PassKind}

-- ---- what they say

-- how the hits have to stand, where each variant of each phrase may be aimed and which hits it has there, and up to where parts of
-- documents can be skipped for want of what is needed
pub record HitsShape : Type 0 where
  pub kind : PassKind
  pub phrases : List (List PhraseAims)
  pub skips : ℕ → Span → Option ℕ

-- whether one hit of each phrase can be chosen so that they stand as they have to
abbrev pub hits_say : HitsShape → AskedSpan → Bool
hits_say run asked = some_choice (hits_stand run.kind) (map (hits_there asked.doc asked.span) run.phrases)

-- each variant may be aimed at each document that is there, and has hits that rise
pub record AreHits (version : List Numbered) (run : HitsShape) : Type 0 where
  pub may : (doc : ℕ) (span : Span) → has_document doc version ≡ true → all_may doc span run.phrases ≡ true
  pub rising : (doc : ℕ) (span : Span) → rise_there doc span run.phrases ≡ true

-- ---- opened over a version

module _ (looks : Looks) (stems : List Stem) (version : List Numbered) where
  -- a variant of a phrase of that number
  abbrev pub variant_aims : ℕ → List ItemTest → PhraseAims
  variant_aims number tests = phrase_aims version number (opened_variant looks stems version tests ∷ [])

  abbrev pub phrase_variants : PhraseTests → List PhraseAims
  phrase_variants found = map (variant_aims found.number) found.variants

  abbrev pub opened_phrases : OperatorPlan → List (List PhraseAims)
  opened_phrases operand = map phrase_variants (joined_phrases operand)
