-- Two costs of the words of a run's tree together are the cost of both.
use Rattle.std.proofs.Common.{◌≡◌, ◌+◌, ◌∙◌, ℕ, List, refl, arith}
use Rattle.std.specs.List.{sum_by}
use Rattle.index_phrases.specs.declared.word_terms.WordTerms.{WordTerms}
use Rattle.index_phrases.specs.declared.word_terms.WordTerms.TheVariants as Terms
use Rattle.plan_runs.specs.steps.Counts.{CountsShape, TermCounts, counts_cost, item_cost}
use Rattle.plan_runs.specs.steps.RunCosts.{group_cost, phrase_cost, run_cost, run_costs}
use Rattle.plan_runs.specs.steps.RunShapes.{GroupShape, Shape, Shapes, none, more, words, any_of, all_of, not_of, by_ways, by_near, by_hits, by_merge, by_spots, by_counts}
use Rattle.plan_runs.proofs.SumLemmas.{sum_of_two}

module _ (a b : WordTerms → ℕ) where
  abbrev both : WordTerms → ℕ
  both word = a word + b word

  variants_both : (variants : List (List WordTerms)) → sum_by (sum_by both) variants ≡ sum_by (sum_by a) variants + sum_by (sum_by b) variants
  variants_both variants = (λ i. sum_by (λ ws. sum_of_two a b ws i) variants) ∙ sum_of_two (sum_by a) (sum_by b) variants

  group_both : (group : GroupShape) → group_cost both group ≡ group_cost a group + group_cost b group
  group_both group = variants_both group.terms

  phrase_both : (phrase : List GroupShape) → phrase_cost both phrase ≡ phrase_cost a phrase + phrase_cost b phrase
  phrase_both phrase = (λ i. sum_by (λ group. group_both group i) phrase) ∙ sum_of_two (group_cost a) (group_cost b) phrase

  item_both : (item : TermCounts) → item_cost both item ≡ item_cost a item + item_cost b item
  item_both item =
      (λ i. sum_by (λ group. variants_both group.1 i) item.groups) ∙ sum_of_two (λ group. sum_by (sum_by a) group.1) (λ group. sum_by (sum_by b) group.1) item.groups

  counts_both : (run : CountsShape) → counts_cost both run ≡ counts_cost a run + counts_cost b run
  counts_both run = (λ i. sum_by (λ item. item_both item i) run.words) ∙ sum_of_two (item_cost a) (item_cost b) run.words

  mutual
    unfolding run_cost run_costs

    pub cost_both : (run : Shape) → run_cost both 1 run ≡ run_cost a 1 run + run_cost b 1 run
    cost_both (words run) = (λ i. sum_by (λ phrase. phrase_both phrase i) run.phrases) ∙ sum_of_two (phrase_cost a) (phrase_cost b) run.phrases
    cost_both (any_of parts) = costs_both parts
    cost_both (all_of parts) = costs_both parts
    cost_both (not_of part) = cost_both part
    cost_both (by_ways run) = refl
    cost_both (by_near run) = refl
    cost_both (by_hits run) = refl
    cost_both (by_merge merge) = sum_of_two (λ terms. a (Terms.Of terms)) (λ terms. b (Terms.Of terms)) merge.words
    cost_both (by_spots run) = refl
    cost_both (by_counts run) = let each = counts_both run in omega (arith, each)

    costs_both : (parts : Shapes) → run_costs both 1 parts ≡ run_costs a 1 parts + run_costs b 1 parts
    costs_both none = refl
    costs_both (more part rest) =
        let first = cost_both part in
        let others = costs_both rest in
        omega (arith, first, others)
