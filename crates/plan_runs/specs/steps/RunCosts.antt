-- What the words of a run's tree cost together, whatever each of them costs, and those that are counted in windows, sentences or paragraphs
-- so many times. Those of a walk through ways, of a pass through hits and of spots have no part in it: nothing bounds their moves.
use Rattle.std.specs.Prelude.{◌≡◌, ◌≤◌, ℕ, ◌+◌, ◌*◌, List, [], ◌++◌, length}
use Rattle.std.specs.List.{sum_by}
use Rattle.index_versions.specs.Terms.{VersionTerm}
use Rattle.plan_runs.specs.steps.AskedPlaces.{hits_at}
use Rattle.plan_runs.specs.steps.ChosenTerms.{numbers_of}
use Rattle.plan_runs.specs.steps.Counts.{counts_cost}
use Rattle.plan_runs.specs.steps.Merges.{merge_cost}
use Rattle.plan_runs.specs.steps.RunShapes.{GroupShape, WordsShape, Shape, Shapes, none, more}
use Rattle.plan_runs.specs.steps.RunShapes.{words, any_of, all_of, not_of, by_ways, by_near, by_hits, by_merge, by_spots, by_counts}
use Rattle.plan_runs.specs.declared.asked_place.AskedPlace.{AskedPlace}
use Rattle.index_phrases.specs.declared.word_terms.WordTerms.{WordTerms}
use Rattle.index_phrases.specs.declared.word_terms.WordTerms.TheVariants as Terms

module _ (cost : WordTerms → ℕ) where
  abbrev pub group_cost : GroupShape → ℕ
  group_cost group = sum_by (sum_by cost) group.terms

  abbrev pub phrase_cost : List GroupShape → ℕ
  phrase_cost phrase = sum_by group_cost phrase

  abbrev pub words_cost : WordsShape → ℕ
  words_cost run = sum_by phrase_cost run.phrases

  unfoldable mutual
    pub run_cost : ℕ → Shape → ℕ
    run_cost times (words run) = words_cost run
    run_cost times (any_of parts) = run_costs times parts
    run_cost times (all_of parts) = run_costs times parts
    run_cost times (not_of part) = run_cost times part
    run_cost times (by_ways run) = 0
    run_cost times (by_near run) = 0
    run_cost times (by_hits run) = 0
    run_cost times (by_merge merge) = merge_cost cost merge
    run_cost times (by_spots run) = 0
    run_cost times (by_counts run) = times * counts_cost cost run

    pub run_costs : ℕ → Shapes → ℕ
    run_costs times none = 0
    run_costs times (more part rest) = run_cost times part + run_costs times rest

-- a cost by which terms together cost no more than apart
pub record IsFair (cost : WordTerms → ℕ) : Type 0 where
  pub nothing : cost (Terms.Of []) ≡ 0
  pub together : (terms others : List VersionTerm) → cost (Terms.Of (terms ++ others)) ≤ cost (Terms.Of terms) + cost (Terms.Of others)

-- how many cursors are aimed for a word, and how many hits they have at the place
abbrev pub term_count : WordTerms → ℕ
term_count Terms.Any = 0
term_count (Terms.Of sources) = length sources

abbrev pub hit_count : AskedPlace → WordTerms → ℕ
hit_count place Terms.Any = 0
hit_count place (Terms.Of sources) = sum_by (λ number. length (hits_at place number)) (numbers_of sources)

-- a move for each cursor that is aimed, and at most two for each hit
abbrev pub moves_for : AskedPlace → WordTerms → ℕ
moves_for place word = term_count word + 2 * hit_count place word
