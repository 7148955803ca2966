-- Up to where each kind of a run's tree lets a part of a document be skipped.
use Rattle.std.proofs.Common.{◌≡◌, refl, sym, ap, ◌∙◌, ℕ, cond, List, [], ◌∷◌, map, Some, Box, Global}
use Rattle.std.specs.declared.vec.Vec.{Vec}
use Rattle.std.proofs.lemmas.Simd.{map-map}
use Rattle.ft_base.specs.declared.span.Span.{Span}
use Rattle.all_matches.specs.Compositional.{enough}
use Rattle.index_phrases.specs.declared.word_terms.WordTerms.{WordTerms}
use Rattle.index_phrases.specs.steps.Aiming.{variant_words}
use Rattle.index_versions.specs.FirstPlaces.{soonest}
use Rattle.plan_runs.specs.declared.run_counts.RunCounts.{RunCounts}
use Rattle.plan_runs.specs.declared.run_counts.TermGroup.{TermGroup}
use Rattle.plan_runs.specs.declared.run_hits.RunHits.{RunHits}
use Rattle.plan_runs.specs.declared.run_merge.RunMerge.{RunMerge}
use Rattle.plan_runs.specs.declared.run_near.RunNear.{RunNear}
use Rattle.plan_runs.specs.declared.run_node.RunGroup.{RunGroup}
use Rattle.plan_runs.specs.declared.run_node.RunNode.{RunNode}
use Rattle.plan_runs.specs.declared.run_node.RunNode as R
use Rattle.plan_runs.specs.declared.run_node.RunPhrase.{RunPhrase}
use Rattle.plan_runs.specs.declared.run_node.RunWords.{RunWords}
use Rattle.plan_runs.specs.declared.run_placed.RunPlaced.{RunPlaced}
use Rattle.plan_runs.specs.declared.run_ways.RunWays.{RunWays}
use Rattle.plan_runs.specs.steps.RunShapes.{GroupShape, counts_shape, group_shape, merge_shape, phrase_shape, placed_shape, shape, shapes_of, term_counts, term_groups, words_shape}
use Rattle.plan_runs.specs.steps.RunSkips.{counts_skip, item_skip, merge_skip, phrase_skip, placed_skip, skip, skips, words_skip}
use Rattle.plan_runs.specs.steps.Skips.{latest, skip_of, variant_skip, variants_skip, vectors_skip}
use Rattle.plan_runs.proofs.RunViews.{shape-Words, shape-Or, shape-And, shape-Not, shape-Ways, shape-Near, shape-Hits, shape-Merge, shape-Placed, shape-Counted}

module _ (doc : ℕ) (part : Span) where
  skips_listed : (nodes : List RunNode) → skips doc part (shapes_of (map shape nodes)) ≡ map (λ node. skip doc part (shape node)) nodes
  unfolding skips
  skips_listed [] = refl
  skips_listed (node ∷ nodes) = ap (λ rest. skip doc part (shape node) ∷ rest) (skips_listed nodes)

  pub skip-Words : (run : RunWords) → skip doc part (shape (R.Words run)) ≡ words_skip doc part (words_shape run)
  unfolding skip
  skip-Words run = ap (skip doc part) (shape-Words run)

  pub skip-Or : (nodes : Vec RunNode Global) → skip doc part (shape (R.Or nodes)) ≡ soonest (map (λ node. skip doc part (shape node)) nodes.items)
  unfolding skip
  skip-Or nodes = ap (skip doc part) (shape-Or nodes) ∙ ap soonest (skips_listed nodes.items)

  pub skip-And : (nodes : Vec RunNode Global) → skip doc part (shape (R.And nodes)) ≡ latest (map (λ node. skip doc part (shape node)) nodes.items)
  unfolding skip
  skip-And nodes = ap (skip doc part) (shape-And nodes) ∙ ap latest (skips_listed nodes.items)

  pub skip-Not : (negated : Box RunNode Global) → skip doc part (shape (R.Not negated)) ≡ Some 0
  unfolding skip
  skip-Not negated = ap (skip doc part) (shape-Not negated)

  pub skip-Ways : (run : Box RunWays Global) → skip doc part (shape (R.Ways run)) ≡ skip_of run.value.needs doc part
  unfolding skip
  skip-Ways run = ap (skip doc part) (shape-Ways run)

  pub skip-Near : (run : Box RunNear Global) → skip doc part (shape (R.Near run)) ≡ skip_of run.value.needs doc part
  unfolding skip
  skip-Near run = ap (skip doc part) (shape-Near run)

  pub skip-Hits : (run : Box RunHits Global) → skip doc part (shape (R.Hits run)) ≡ skip_of run.value.needs doc part
  unfolding skip
  skip-Hits run = ap (skip doc part) (shape-Hits run)

  pub skip-Merge : (run : RunMerge) → skip doc part (shape (R.Merge run)) ≡ merge_skip doc part (merge_shape run)
  unfolding skip
  skip-Merge run = ap (skip doc part) (shape-Merge run)

  pub skip-Placed : (run : RunPlaced) → skip doc part (shape (R.Placed run)) ≡ placed_skip doc part (placed_shape run)
  unfolding skip
  skip-Placed run = ap (skip doc part) (shape-Placed run)

  pub skip-Counted : (run : RunCounts) → skip doc part (shape (R.Counted run)) ≡ counts_skip doc part (counts_shape run)
  unfolding skip
  skip-Counted run = ap (skip doc part) (shape-Counted run)

  -- ---- phrases

  pub phrase_listed : (phrase : RunPhrase) → soonest (map (λ group. vectors_skip doc part group.terms.items) phrase.groups.items) ≡ phrase_skip doc part (phrase_shape phrase)
  phrase_listed phrase =
      sym (ap soonest (map-map (λ (group : GroupShape). variants_skip doc part group.terms) group_shape phrase.groups.items)
      ∙ (λ i. soonest (map (λ (group : RunGroup). soonest (map-map (variant_skip doc part) variant_words group.terms.items i)) phrase.groups.items)))

  pub words_listed : (run : RunWords) → cond (enough run.times 0) (Some 0) (cond run.all
      (latest (map (λ phrase. phrase_skip doc part (phrase_shape phrase)) run.phrases.items)) (soonest (map (λ phrase. phrase_skip doc part (phrase_shape phrase)) run.phrases.items)))
      ≡ words_skip doc part (words_shape run)
  words_listed run = sym (λ i. cond (enough run.times 0) (Some 0) (cond run.all
      (latest (map-map (phrase_skip doc part) phrase_shape run.phrases.items i)) (soonest (map-map (phrase_skip doc part) phrase_shape run.phrases.items i))))

  -- ---- items that are counted

  pub groups_listed : (groups : List TermGroup) → soonest (map (λ group. vectors_skip doc part group.variants.items) groups)
      ≡ soonest (map (λ group. variants_skip doc part group.1) (term_groups groups))
  groups_listed groups =
      sym (λ i. soonest (map (λ (group : TermGroup). soonest (map-map (variant_skip doc part) variant_words group.variants.items i)) groups))
      ∙ sym (ap soonest (map-map (λ (group : ℕ × List (List WordTerms)). variants_skip doc part group.1) (λ (group : TermGroup). (group.words, map variant_words group.variants.items)) groups))

  pub counts_listed : (run : RunCounts) → latest (map (λ item. item_skip doc part (term_counts item)) run.words.items) ≡ counts_skip doc part (counts_shape run)
  counts_listed run = sym (ap latest (map-map (item_skip doc part) term_counts run.words.items))
