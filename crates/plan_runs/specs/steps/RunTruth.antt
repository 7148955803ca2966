-- What a run's tree says of a span of a document, and when it fits a version.
use Rattle.std.specs.Prelude.{◌≡◌, ⊤, ℕ, Bool, true, false, not, ◌&&◌, ◌||◌, List, map, sum}
use Rattle.std.specs.List.{All, list_any}
use Rattle.all_matches.specs.Boolean.{satisfied}
use Rattle.all_matches.specs.Counting.{places}
use Rattle.all_matches.specs.Compositional.{enough}
use Rattle.all_matches.specs.Ways.{matches_of}
use Rattle.ft_operators.specs.Standing.{Aims}
use Rattle.ft_operators.specs.Walk.{own_span}
use Rattle.index_meaning.specs.Documents.{Numbered}
use Rattle.plan_runs.specs.steps.AskedSpans.{AskedSpan, words_in}
use Rattle.plan_runs.specs.steps.ChosenTerms.{is_among, numbers_of}
use Rattle.plan_runs.specs.steps.Counts.{AreCounts, counts_say}
use Rattle.plan_runs.specs.steps.Merges.{IsMerge, merge_says}
use Rattle.plan_runs.specs.steps.NearRuns.{AreNear}
use Rattle.plan_runs.specs.steps.OpenedOperators.{AreAims}
use Rattle.plan_runs.specs.steps.Passes.{AreHits, hits_say}
use Rattle.index_phrases.specs.steps.Aiming.{AreThere, wanted_size}
use Rattle.plan_runs.specs.steps.RunShapes.{GroupShape, WordsShape, PlacedShape, at_edge, outside}
use Rattle.plan_runs.specs.steps.RunShapes.{Shape, Shapes, words, any_of, all_of, not_of, by_ways, by_near, by_hits, by_merge, none, more, by_spots, by_counts}
use Rattle.index_phrases.specs.Phrases.{wanted_at}
use Rattle.place_merges.specs.declared.spot.Spot.{Spot}
use Rattle.spot_merges.specs.Edges.{is_at, spots_of}
use Rattle.spot_merges.specs.Outside.{stands_outside}
use Rattle.plan_compiler.specs.WordsMeaning.{joined}
use Rattle.index_phrases.specs.declared.word_terms.WordTerms.{WordTerms}
use Rattle.index_phrases.specs.declared.word_terms.WordTerms.TheVariants as Terms

-- ---- what it says

-- whether a word may stand where these terms are wanted
unfoldable pub is_wanted : List Numbered → WordTerms → List ℕ → Bool
is_wanted version Terms.Any word = true
is_wanted version (Terms.Of sources) word = is_among version (numbers_of sources) word

abbrev pub group_count : List Numbered → GroupShape → List (List ℕ) → ℕ
group_count version group text = places (is_wanted version) group.terms text

abbrev pub phrase_total : List Numbered → List GroupShape → List (List ℕ) → ℕ
phrase_total version phrase text = sum (map (λ group. group_count version group text) phrase)

abbrev pub words_total : List Numbered → WordsShape → List (List ℕ) → ℕ
words_total version run text = joined run.all (map (λ phrase. phrase_total version phrase text) run.phrases)

abbrev pub words_say : List Numbered → WordsShape → List (List ℕ) → Bool
words_say version run text = enough run.times (words_total version run text)

-- whether a walk has a way that leaves no exclude
abbrev pub aims_say : Aims → AskedSpan → Bool
aims_say aims asked = satisfied (matches_of (own_span asked.span) (aims.operators asked.doc asked.span))

-- the spots at which the variants of a phrase stand
abbrev pub phrase_spots : List Numbered → List (List WordTerms) → AskedSpan → List Spot
phrase_spots version variants asked = spots_of asked.span (map (map (wanted_at version asked.doc asked.span)) variants)

-- whether phrases stand where they have to
abbrev pub placed_say : List Numbered → PlacedShape → AskedSpan → Bool
placed_say version (at_edge edge variants) asked = list_any (is_at edge asked.span) (phrase_spots version variants asked)
placed_say version (outside kind left right) asked = stands_outside kind (phrase_spots version left.terms asked) (phrase_spots version right.terms asked)

unfoldable mutual
  pub run_truth : List Numbered → Shape → AskedSpan → Bool
  run_truth version (words run) asked = words_say version run (words_in version asked)
  run_truth version (any_of parts) asked = some_true version parts asked
  run_truth version (all_of parts) asked = all_true version parts asked
  run_truth version (not_of part) asked = not (run_truth version part asked)
  run_truth version (by_ways run) asked = aims_say run.aims asked
  run_truth version (by_near run) asked = aims_say run.aims asked
  run_truth version (by_hits run) asked = hits_say run asked
  run_truth version (by_merge merge) asked = merge_says version merge asked
  run_truth version (by_spots run) asked = placed_say version run asked
  run_truth version (by_counts run) asked = counts_say version run asked

  pub some_true : List Numbered → Shapes → AskedSpan → Bool
  some_true version none asked = false
  some_true version (more part rest) asked = run_truth version part asked || some_true version rest asked

  pub all_true : List Numbered → Shapes → AskedSpan → Bool
  all_true version none asked = true
  all_true version (more part rest) asked = run_truth version part asked && all_true version rest asked

-- ---- when it fits

-- each word has as many cursors as terms, which are those of the version
pub record IsGroup (version : List Numbered) (group : GroupShape) : Type 0 where
  pub sized : group.sizes ≡ map (map wanted_size) group.terms
  pub there : All (All (AreThere version)) group.terms

abbrev pub IsWords : List Numbered → WordsShape → Type 0
IsWords version run = All (All (IsGroup version)) run.phrases

abbrev pub ArePlaced : List Numbered → PlacedShape → Type 0
ArePlaced version (at_edge edge variants) = All (All (AreThere version)) variants
ArePlaced version (outside kind left right) = IsGroup version left × IsGroup version right

unfoldable mutual
  pub IsSound : List Numbered → Shape → Type 0
  IsSound version (words run) = IsWords version run
  IsSound version (any_of parts) = AreSound version parts
  IsSound version (all_of parts) = AreSound version parts
  IsSound version (not_of part) = IsSound version part
  IsSound version (by_ways run) = AreAims version run.aims
  IsSound version (by_near run) = AreNear version run
  IsSound version (by_hits run) = AreHits version run
  IsSound version (by_merge merge) = IsMerge version merge
  IsSound version (by_spots run) = ArePlaced version run
  IsSound version (by_counts run) = AreCounts version run

  pub AreSound : List Numbered → Shapes → Type 0
  AreSound version none = ⊤
  AreSound version (more part rest) = IsSound version part × AreSound version rest
