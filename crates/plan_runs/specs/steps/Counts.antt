-- Words that are counted in one window, sentence or paragraph: what they say, when they fit a version, and how they are opened over one.
use Rattle.std.specs.Prelude.{◌≡◌, ℕ, Bool, true, nat_lt, List, flat_map, map, Option}
use Rattle.std.specs.List.{All, list_any, sum_by}
use Rattle.ft_base.specs.declared.places.Breaks.{Breaks}
use Rattle.ft_base.specs.declared.unit.TextUnit.{TextUnit}
use Rattle.ft_base.specs.declared.unit.TextUnit.TheVariants as Unit
use Rattle.all_matches.specs.Counting.{by_length}
use Rattle.count_merges.specs.Groups.{group_spots, told_hit}
use Rattle.counted_shapes.specs.Accepted.{fit_in}
use Rattle.counted_shapes.specs.Shapes.{Counted}
use Rattle.counted_shapes.specs.declared.field.Field.{Field}
use Rattle.counted_shapes.specs.declared.field.Field.TheVariants.{Window, Sentence, Paragraph}
use Rattle.index_cursors.specs.SpanHits.{started}
use Rattle.index_meaning.specs.Documents.{Numbered, breaks_of, document_at}
use Rattle.index_phrases.specs.Phrases.{wanted_at}
use Rattle.index_phrases.specs.declared.word_terms.WordTerms.{WordTerms}
use Rattle.index_phrases.specs.steps.Aiming.{AreThere, wanted_size}
use Rattle.word_lists.specs.Stems.{Stem}
use Rattle.plan_compiler.specs.declared.counted_plan.CountedPlan.{CountedPlan}
use Rattle.plan_compiler.specs.declared.counted_plan.CountedWords.{CountedWords}
use Rattle.plan_compiler.specs.declared.looks.Looks.{Looks}
use Rattle.plan_compiler.specs.declared.operator_plan.PhraseTests.{PhraseTests}
use Rattle.plan_runs.specs.steps.AskedSpans.{AskedSpan}
use Rattle.plan_runs.specs.steps.OpenedItems.{opened_variant}

-- ---- what they say

-- variants of one length, by the terms of each word
abbrev pub TermGroups : Type 0
TermGroups = List (ℕ × List (List WordTerms))

-- so many hits of the variants of each group
pub record TermCounts : Type 0 where
  pub least : ℕ
  pub most : Option ℕ
  pub groups : TermGroups

-- how many cursors there are for each word of each variant of each group, with the number of words that the group counts
abbrev pub GroupSizes : Type 0
GroupSizes = List (ℕ × List (List (Option ℕ)))

-- what is counted in what, and the bounds and the cursors of the items by which it is counted
pub record CountsShape : Type 0 where
  pub field : Field
  pub words : List TermCounts
  pub bounds : List (ℕ × Option ℕ)
  pub fronts : List GroupSizes
  pub backs : List GroupSizes

-- the number of the unit in which a place of a text with these breaks is, by the field in which hits are counted
abbrev pub unit_number : TextUnit → Breaks → ℕ → ℕ
unit_number Unit.Words breaks = λ place. place
unit_number Unit.Sentences breaks = started breaks.sentences
unit_number Unit.Paragraphs breaks = started breaks.paragraphs

abbrev pub field_unit : Field → TextUnit
field_unit (Window size unit) = unit
field_unit Sentence = Unit.Sentences
field_unit Paragraph = Unit.Paragraphs

module _ (version : List Numbered) (field : Field) (asked : AskedSpan) where
  -- what is counted of some terms in a span of a document
  abbrev pub terms_counted : TermCounts → Counted
  terms_counted item = record {
    hits = flat_map (λ group. map (told_hit (unit_number (field_unit field) (breaks_of (document_at asked.doc version))))
        (group_spots asked.span group.0 (map (map (wanted_at version asked.doc asked.span)) group.1))) item.groups;
    least = item.least;
    most = item.most;
  }

abbrev pub counts_say : List Numbered → CountsShape → AskedSpan → Bool
counts_say version run asked = fit_in run.field (map (terms_counted version run.field asked) run.words)

-- what they cost, once for the hits that come in; those that go out cost as much
abbrev pub item_cost : (WordTerms → ℕ) → TermCounts → ℕ
item_cost cost item = sum_by (λ group. sum_by (sum_by cost) group.1) item.groups

abbrev pub counts_cost : (WordTerms → ℕ) → CountsShape → ℕ
counts_cost cost run = sum_by (item_cost cost) run.words

-- ---- when they fit

abbrev pub group_sizes : TermGroups → GroupSizes
group_sizes groups = map (λ group. (group.0, map (map wanted_size) group.1)) groups

-- each word has as many cursors as terms, in the front and in the back, and these are terms of the version; some item asks for a hit
pub record AreCounts (version : List Numbered) (run : CountsShape) : Type 0 where
  pub bounds : run.bounds ≡ map (λ item. (item.least, item.most)) run.words
  pub fronts : run.fronts ≡ map (λ item. group_sizes item.groups) run.words
  pub backs : run.backs ≡ run.fronts
  pub there : All (λ item. All (λ group. All (All (AreThere version)) group.1) item.groups) run.words
  pub asks : list_any (λ item. nat_lt 0 item.least) run.words ≡ true

-- ---- opened over a version

module _ (looks : Looks) (stems : List Stem) (version : List Numbered) where
  -- the variants of a phrase in groups of one length
  abbrev pub opened_groups : PhraseTests → TermGroups
  opened_groups found = by_length (map (opened_variant looks stems version) found.variants)

  abbrev pub opened_count : CountedWords → TermCounts
  opened_count item = record { least = item.least; most = item.most; groups = flat_map opened_groups item.phrases }

  abbrev pub opened_counts : CountedPlan → CountsShape
  opened_counts plan = record {
    field = plan.field;
    words = map opened_count plan.items;
    bounds = map (λ item. (item.least, item.most)) (map opened_count plan.items);
    fronts = map (λ item. group_sizes item.groups) (map opened_count plan.items);
    backs = map (λ item. group_sizes item.groups) (map opened_count plan.items);
  }
