-- Windows and scopes over phrases, decided by one pass through the ends of their hits: when it fits a version, and how it is opened over one.
use Rattle.std.specs.Prelude.{◌≡◌, ℕ, true, List, [], ◌++◌, Option}
use Rattle.std.specs.List.{list_all}
use Rattle.ft_base.specs.declared.span.Span.{Span}
use Rattle.all_matches.specs.Ways.{either, together, through_filter}
use Rattle.ft_operators.specs.Phrases.{PhraseAims}
use Rattle.ft_operators.specs.Standing.{Aims, one_aims, two_aims}
use Rattle.index_meaning.specs.Documents.{Numbered, has_document}
use Rattle.phrase_merges.specs.Near.{AreTold}
use Rattle.phrase_merges.specs.NearTrees.{lists_aims}
use Rattle.phrase_merges.specs.Rows.{hits_there, is_rising}
use Rattle.word_lists.specs.Stems.{Stem}
use Rattle.plan_compiler.specs.declared.looks.Looks.{Looks}
use Rattle.plan_compiler.specs.declared.operator_plan.OperatorPlan.{OperatorPlan, Phrase, Choice', Both', MildNot', Negated', Filtered'}
use Rattle.plan_runs.specs.steps.Passes.{phrase_variants}

-- what the selection is at the spans of documents, where each variant of each phrase may be aimed and which hits it has there, and up to
-- where parts of documents can be skipped for want of what is needed
pub record NearShape : Type 0 where
  pub aims : Aims
  pub lists : List PhraseAims
  pub skips : ℕ → Span → Option ℕ

-- it may be aimed at each document that is there; the hits of a variant rise, and those of all are told in the sentences and paragraphs of
-- one text
pub record AreNear (version : List Numbered) (run : NearShape) : Type 0 where
  pub may : (doc : ℕ) (span : Span) → has_document doc version ≡ true → run.aims.may doc span ≡ true
  pub rising : (doc : ℕ) (span : Span) → list_all (λ aims. is_rising (aims.hits doc span)) run.lists ≡ true
  pub told : (doc : ℕ) (span : Span) → AreTold (hits_there doc span run.lists)

-- ---- opened over a version

module _ (looks : Looks) (stems : List Stem) (version : List Numbered) where
  -- a phrase is that of the hits of all its variants
  unfoldable pub near_opened : OperatorPlan → Aims
  near_opened (Phrase found) = lists_aims (phrase_variants looks stems version found)
  near_opened (Choice' p left right) = two_aims either (near_opened left) (near_opened right)
  near_opened (Both' p left right) = two_aims together (near_opened left) (near_opened right)
  near_opened (MildNot' p left right) = near_opened left
  near_opened (Negated' p operand) = near_opened operand
  near_opened (Filtered' p operand kind) = one_aims (λ operator. through_filter operator kind) (near_opened operand)

  -- the variants of all phrases
  unfoldable pub variant_lists : OperatorPlan → List PhraseAims
  variant_lists (Phrase found) = phrase_variants looks stems version found
  variant_lists (Choice' p left right) = variant_lists left ++ variant_lists right
  variant_lists (Both' p left right) = variant_lists left ++ variant_lists right
  variant_lists (MildNot' p left right) = []
  variant_lists (Negated' p operand) = []
  variant_lists (Filtered' p operand kind) = variant_lists operand
