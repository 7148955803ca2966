-- Compiled selections with filters or `not in`, opened over a version: where they may be aimed, and what they are there.
use Rattle.std.specs.Prelude.{◌≡◌, ℕ, true, List, map}
use Rattle.ft_base.specs.declared.span.Span.{Span}
use Rattle.all_matches.specs.Ways.{either, together, apart, negated, through_filter, is_plain}
use Rattle.ft_operators.specs.Standing.{Aims, phrase_aims, one_aims, two_aims}
use Rattle.ft_operators.specs.Tuples.{walk_of}
use Rattle.ft_operators.specs.declared.tuples.Tuples.{Tuples}
use Rattle.index_meaning.specs.Documents.{Numbered, document_at, has_document}
use Rattle.index_phrases.specs.Cursors as cursors
use Rattle.index_phrases.specs.Cursors.{state_of}
use Rattle.index_phrases.specs.Tokens.{IsSpan}
use Rattle.index_phrases.specs.declared.phrase_cursor.PhraseCursor.{PhraseCursor}
use Rattle.word_lists.specs.Stems.{Stem}
use Rattle.plan_runs.specs.steps.OpenedItems.{opened_variant}
use Rattle.plan_compiler.specs.declared.looks.Looks.{Looks}
use Rattle.plan_compiler.specs.declared.operator_plan.OperatorPlan.{OperatorPlan, Phrase, Choice', Both', MildNot', Negated', Filtered'}
use Rattle.plan_compiler.specs.declared.operator_plan.PhraseTests.{PhraseTests}

-- what a walk is at the spans of documents
abbrev pub aims_of : Tuples PhraseCursor → Aims
aims_of tuples = (walk_of state_of tuples).aims

module _ (looks : Looks) (stems : List Stem) (version : List Numbered) where
  abbrev pub phrase_opened : PhraseTests → Aims
  phrase_opened found = phrase_aims (cursors.phrase_aims version found.number (map (opened_variant looks stems version) found.variants))

  unfoldable pub opened_aims : OperatorPlan → Aims
  opened_aims (Phrase found) = phrase_opened found
  opened_aims (Choice' p left right) = two_aims either (opened_aims left) (opened_aims right)
  opened_aims (Both' p left right) = two_aims together (opened_aims left) (opened_aims right)
  opened_aims (MildNot' p left right) = two_aims apart (opened_aims left) (opened_aims right)
  opened_aims (Negated' p operand) = one_aims negated (opened_aims operand)
  opened_aims (Filtered' p operand kind) = one_aims (λ operator. through_filter operator kind) (opened_aims operand)

-- it may be aimed at each document that is there, and no negated selection stands in another one or in `not in`
pub record AreAims (version : List Numbered) (aims : Aims) : Type 0 where
  pub may : (doc : ℕ) (span : Span) → has_document doc version ≡ true → aims.may doc span ≡ true
  pub plain : (doc : ℕ) (span : Span) → has_document doc version ≡ true → IsSpan span (document_at doc version) → is_plain (aims.operators doc span) ≡ true
