-- Up to where a part of a document can be skipped: no span of the part that ends there or before it satisfies an opened selection.
use Rattle.std.specs.Prelude.{ℕ, cond, nat_lt, List, [], ◌∷◌, map, Option, Some}
use Rattle.ft_base.specs.declared.span.Span.{Span}
use Rattle.all_matches.specs.Compositional.{enough}
use Rattle.index_versions.specs.FirstPlaces.{soonest}
use Rattle.index_versions.specs.Terms.{VersionTerm, first_in}
use Rattle.plan_runs.specs.steps.Counts.{CountsShape, TermCounts}
use Rattle.plan_runs.specs.steps.Merges.{MergeShape}
use Rattle.plan_runs.specs.steps.RunShapes.{GroupShape, WordsShape, PlacedShape, at_edge, outside, Shape, Shapes, none, more}
use Rattle.plan_runs.specs.steps.RunShapes.{words, any_of, all_of, not_of, by_ways, by_near, by_hits, by_merge, by_spots, by_counts}
use Rattle.plan_runs.specs.steps.Skips.{latest, variants_skip}

module _ (doc : ℕ) (part : Span) where
  -- of a phrase: one of its variants has to stand there
  abbrev pub phrase_skip : List GroupShape → Option ℕ
  phrase_skip phrase = soonest (map (λ group. variants_skip doc part group.terms) phrase)

  -- of words: nothing is known where no occurrence is enough; else all phrases have to stand there, or one of them
  abbrev pub words_skip : WordsShape → Option ℕ
  words_skip run = cond (enough run.times 0) (Some 0) (cond run.all (latest (map phrase_skip run.phrases)) (soonest (map phrase_skip run.phrases)))

  -- of a merge: a term of each word has to stand there
  abbrev pub terms_skip : List VersionTerm → Option ℕ
  terms_skip terms = soonest (map (first_in doc part) terms)

  abbrev pub merge_skip : MergeShape → Option ℕ
  merge_skip merge = latest (map terms_skip merge.words)

  -- of phrases that have to stand somewhere: the first has to stand there
  abbrev pub placed_skip : PlacedShape → Option ℕ
  placed_skip (at_edge edge variants) = variants_skip doc part variants
  placed_skip (outside kind left right) = variants_skip doc part left.terms

  -- of an item of which hits are counted: one of its variants has to stand there where it asks for a hit. Nothing is known of others
  abbrev pub item_skip : TermCounts → Option ℕ
  item_skip item = cond (nat_lt 0 item.least) (soonest (map (λ group. variants_skip doc part group.1) item.groups)) (Some 0)

  -- of all items: each has to have what it asks for there
  abbrev pub counts_skip : CountsShape → Option ℕ
  counts_skip run = latest (map item_skip run.words)

  unfoldable mutual
    pub skip : Shape → Option ℕ
    skip (words run) = words_skip run
    skip (any_of parts) = soonest (skips parts)
    skip (all_of parts) = latest (skips parts)
    skip (not_of negated) = Some 0
    skip (by_ways run) = run.skips doc part
    skip (by_near run) = run.skips doc part
    skip (by_hits run) = run.skips doc part
    skip (by_merge merge) = merge_skip merge
    skip (by_spots run) = placed_skip run
    skip (by_counts run) = counts_skip run

    pub skips : Shapes → List (Option ℕ)
    skips none = []
    skips (more first rest) = skip first ∷ skips rest
