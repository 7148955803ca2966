-- Up to where a part of a document can be skipped: no span of the part that ends there or before it has what is sought. Where
-- nothing is known this is 0, and where no span of the part has it there is no such place.
use Rattle.std.specs.Prelude.{ℕ, ◌-◌, ◌≤◌, Bool, true, nat_lt, cond, is_some, List, map, max, fold, Option, Some, None}
use Rattle.std.specs.declared.alloc.Global.{Global}
use Rattle.std.specs.declared.vec.Vec.{Vec}
use Rattle.ft_base.specs.declared.span.Span.{Span}
use Rattle.index_meaning.specs.Documents.{Numbered}
use Rattle.index_phrases.specs.declared.word_terms.WordTerms.{WordTerms}
use Rattle.index_phrases.specs.declared.word_terms.WordTerms.TheVariants as Terms
use Rattle.index_versions.specs.FirstPlaces.{sooner, soonest}
use Rattle.index_versions.specs.Terms.{first_in}
use Rattle.word_lists.specs.Stems.{Stem}
use Rattle.plan_kinds.specs.steps.AskedKeys.{asked_key}
use Rattle.plan_runs.specs.steps.OpenedItems.{opened_item}
use Rattle.plan_compiler.specs.declared.item_matching.ItemTest.{ItemTest}
use Rattle.plan_compiler.specs.declared.looks.Looks.{Looks}
use Rattle.plan_runs.specs.declared.needs.Needs.{Needs, Nothing, Phrase, OneOf', AllOf'}
use Rattle.plan_compiler.specs.declared.operator_plan.OperatorPlan.{OperatorPlan, Choice', Both', MildNot', Negated', Filtered'}
use Rattle.plan_compiler.specs.declared.operator_plan.OperatorPlan as Plan

-- of two such places, and of several, the one after the others: what is sought needs all
abbrev pub later : Option ℕ → Option ℕ → Option ℕ
later None second = None
later (Some a) None = None
later (Some a) (Some b) = Some (max a b)

abbrev pub latest : List (Option ℕ) → Option ℕ
latest places = fold later (Some 0) places

-- whether a span that has this end, which is after its last word, ends at the place or before it
abbrev pub ends_before : ℕ → Option ℕ → Bool
ends_before to None = true
ends_before to (Some place) = nat_lt (to - 1) place

-- a span of the part
abbrev pub IsWithin : Span → Span → Type 0
IsWithin part span = (part.from ≤ span.from) × (span.to ≤ part.to)

module _ (doc : ℕ) (part : Span) where
  -- of a word: the first place of its terms. Any word stands everywhere
  abbrev pub word_skip : WordTerms → Option ℕ
  word_skip Terms.Any = Some 0
  word_skip (Terms.Of sources) = soonest (map (first_in doc part) sources)

  -- of words that all have to stand there, and of one of several variants
  abbrev pub variant_skip : List WordTerms → Option ℕ
  variant_skip words = latest (map word_skip words)

  abbrev pub variants_skip : List (List WordTerms) → Option ℕ
  variants_skip variants = soonest (map variant_skip variants)

  abbrev pub vectors_skip : List (Vec WordTerms Global) → Option ℕ
  vectors_skip variants = soonest (map (λ words. variant_skip words.items) variants)

-- of what a selection with filters or `not in` needs
unfoldable pub skip_of : Needs → ℕ → Span → Option ℕ
skip_of Nothing = λ doc part. Some 0
skip_of (Phrase variants) = λ doc part. vectors_skip doc part variants.items
skip_of (OneOf' p left right) = λ doc part. sooner (skip_of left doc part) (skip_of right doc part)
skip_of (AllOf' p left right) = λ doc part. later (skip_of left doc part) (skip_of right doc part)

module _ (looks : Looks) (stems : List Stem) (version : List Numbered) where
  -- the terms of a word that is found by its key; of other words none is needed
  abbrev pub needed_item : ItemTest → WordTerms
  needed_item test = cond (is_some (asked_key test)) (opened_item looks stems version test) Terms.Any

  abbrev pub needed_variants : List (List ItemTest) → List (List WordTerms)
  needed_variants variants = map (map needed_item) variants

  -- of a compiled selection: a negated one needs nothing, and `not in` its left side
  unfoldable pub opened_skip : OperatorPlan → ℕ → Span → Option ℕ
  opened_skip (Plan.Phrase found) = λ doc part. variants_skip doc part (needed_variants found.variants)
  opened_skip (Choice' p left right) = λ doc part. sooner (opened_skip left doc part) (opened_skip right doc part)
  opened_skip (Both' p left right) = λ doc part. later (opened_skip left doc part) (opened_skip right doc part)
  opened_skip (MildNot' p left right) = opened_skip left
  opened_skip (Negated' p operand) = λ doc part. Some 0
  opened_skip (Filtered' p operand kind) = opened_skip operand
