-- How many terms are read to skip a phrase, or words that are counted: those of all their words.
use Rattle.std.proofs.Common.{◌≡◌, ℕ, List, map, sym, ◌∙◌}
use Rattle.std.specs.List.{sum_by}
use Rattle.index_phrases.specs.steps.Aiming.{variant_words}
use Rattle.index_phrases.specs.declared.word_terms.WordTerms.{WordTerms}
use Rattle.plan_runs.specs.steps.Counts.{counts_cost, item_cost}
use Rattle.plan_runs.specs.steps.RunCosts.{group_cost, phrase_cost, term_count, words_cost}
use Rattle.plan_runs.specs.steps.RunShapes.{counts_shape, group_shape, phrase_shape, term_counts, term_groups, words_shape}
use Rattle.plan_runs.specs.declared.run_counts.RunCounts.{RunCounts}
use Rattle.plan_runs.specs.declared.run_counts.TermGroup.{TermGroup}
use Rattle.plan_runs.specs.declared.run_node.RunGroup.{RunGroup}
use Rattle.plan_runs.specs.declared.run_node.RunPhrase.{RunPhrase}
use Rattle.plan_runs.specs.declared.run_node.RunWords.{RunWords}
use Rattle.plan_runs.proofs.SumLemmas.{sum_of_map}

group_read : (group : RunGroup) → sum_by (λ words. sum_by term_count words.items) group.terms.items ≡ group_cost term_count (group_shape group)
group_read group = sym (sum_of_map (sum_by term_count) variant_words group.terms.items)

pub phrase_read : (phrase : RunPhrase) → sum_by (λ group. sum_by (λ words. sum_by term_count words.items) group.terms.items) phrase.groups.items ≡ phrase_cost term_count (phrase_shape phrase)
phrase_read phrase = (λ i. sum_by (λ group. group_read group i) phrase.groups.items) ∙ sym (sum_of_map (group_cost term_count) group_shape phrase.groups.items)

pub words_read : (run : RunWords) → sum_by (λ phrase. phrase_cost term_count (phrase_shape phrase)) run.phrases.items ≡ words_cost term_count (words_shape run)
words_read run = sym (sum_of_map (phrase_cost term_count) phrase_shape run.phrases.items)

pub groups_read : (groups : List TermGroup) → sum_by (λ group. sum_by (λ words. sum_by term_count words.items) group.variants.items) groups
    ≡ sum_by (λ group. sum_by (sum_by term_count) group.1) (term_groups groups)
groups_read groups =
    sym (λ i. sum_by (λ (group : TermGroup). sum_of_map (sum_by term_count) variant_words group.variants.items i) groups)
    ∙ sym (sum_of_map (λ (group : ℕ × List (List WordTerms)). sum_by (sum_by term_count) group.1) (λ (group : TermGroup). (group.words, map variant_words group.variants.items)) groups)

pub counts_read : (run : RunCounts) → sum_by (λ item. item_cost term_count (term_counts item)) run.words.items ≡ counts_cost term_count (counts_shape run)
counts_read run = sym (sum_of_map (item_cost term_count) term_counts run.words.items)
