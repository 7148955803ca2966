-- What the kinds of a run's tree say, what they cost, and when they fit.
use Rattle.std.proofs.Common.{◌≡◌, refl, sym, ap, subst, ◌∙◌, ℕ, ◌+◌, ◌*◌, ◌<◌, ◌≤◌, Bool, true, false, not, ◌&&◌, ◌||◌, List, [], ◌∷◌, map, length, get_or, drop, take, suc, zero, arith, Box, Global}
use Rattle.std.specs.declared.vec.Vec.{Vec}
use Rattle.std.specs.List.{list_all, sum_by}
use Rattle.std.proofs.lemmas.Bool.{and_parts}
use Rattle.std.proofs.lemmas.List.{drop_all, drop_more}
use Rattle.std.proofs.lemmas.List.Sums.{sum_by-cons}
use Rattle.index_meaning.specs.Documents.{Numbered}
use Rattle.plan_runs.specs.steps.CheapShapes.{are_cheap_shapes, is_cheap_shape}
use Rattle.plan_runs.specs.steps.RunCosts.{run_cost, run_costs, words_cost}
use Rattle.plan_runs.specs.steps.RunShapes.{hits_shape, near_shape, Shape, Shapes, shape, shapes_of, words, any_of, all_of, not_of, by_ways, by_near, by_hits, by_merge, none, more, merge_shape, words_shape, by_spots, placed_shape, by_counts, counts_shape}
use Rattle.plan_runs.specs.steps.AskedSpans.{AskedSpan, words_in}
use Rattle.plan_runs.specs.steps.Passes.{AreHits, hits_say}
use Rattle.plan_runs.specs.steps.Counts.{AreCounts, counts_cost, counts_say}
use Rattle.plan_runs.specs.steps.Merges.{IsMerge, merge_cost, merge_says}
use Rattle.plan_runs.specs.steps.NearRuns.{AreNear}
use Rattle.plan_runs.specs.steps.Skips.{skip_of}
use Rattle.plan_runs.specs.steps.OpenedOperators.{AreAims, aims_of}
use Rattle.plan_runs.specs.steps.RunTruth.{ArePlaced, AreSound, IsSound, IsWords, aims_say, all_true, placed_say, run_truth, some_true, words_say}
use Rattle.plan_runs.specs.declared.run_node.RunWords.{RunWords}
use Rattle.plan_runs.specs.declared.run_counts.RunCounts.{RunCounts}
use Rattle.plan_runs.specs.declared.run_hits.RunHits.{RunHits}
use Rattle.plan_runs.specs.declared.run_merge.RunMerge.{RunMerge}
use Rattle.plan_runs.specs.declared.run_near.RunNear.{RunNear}
use Rattle.plan_runs.specs.declared.run_placed.RunPlaced.{RunPlaced}
use Rattle.plan_runs.specs.declared.run_ways.RunWays.{RunWays}
use Rattle.index_phrases.specs.declared.word_terms.WordTerms.{WordTerms}
use Rattle.plan_runs.specs.declared.run_node.RunNode.{RunNode}
use Rattle.plan_runs.specs.declared.run_node.RunNode as R
use Rattle.plan_runs.proofs.SumLemmas.{so_far}
use Rattle.plan_runs.proofs.RunViews.{shape-Words, shape-Or, shape-And, shape-Not, shape-Ways, shape-Near, shape-Hits, shape-Merge, shape-Placed, shape-Counted}

module _ (version : List Numbered) (asked : AskedSpan) (node : RunNode) where
  -- ---- when they fit

  pub sound-Words : (run : RunWords) → node ≡ R.Words run → IsSound version (shape node) → IsWords version (words_shape run)
  unfolding IsSound
  sound-Words run is h = subst (IsSound version) (ap shape is ∙ shape-Words run) h

  pub sound-Or : (parts : Vec RunNode Global) → node ≡ R.Or parts → IsSound version (shape node) → AreSound version (shapes_of (map shape parts.items))
  unfolding IsSound
  sound-Or parts is h = subst (IsSound version) (ap shape is ∙ shape-Or parts) h

  pub sound-And : (parts : Vec RunNode Global) → node ≡ R.And parts → IsSound version (shape node) → AreSound version (shapes_of (map shape parts.items))
  unfolding IsSound
  sound-And parts is h = subst (IsSound version) (ap shape is ∙ shape-And parts) h

  pub sound-Not : (part : Box RunNode Global) → node ≡ R.Not part → IsSound version (shape node) → IsSound version (shape part.value)
  unfolding IsSound
  sound-Not part is h = subst (IsSound version) (ap shape is ∙ shape-Not part) h

  pub sound-Ways : (run : Box RunWays Global) → node ≡ R.Ways run → IsSound version (shape node) → AreAims version (aims_of run.value.tuples)
  unfolding IsSound
  sound-Ways run is h = subst (IsSound version) (ap shape is ∙ shape-Ways run) h

  pub sound-Near : (run : Box RunNear Global) → node ≡ R.Near run → IsSound version (shape node) → AreNear version (near_shape run.value)
  unfolding IsSound
  sound-Near run is h = subst (IsSound version) (ap shape is ∙ shape-Near run) h

  pub sound-Hits : (run : Box RunHits Global) → node ≡ R.Hits run → IsSound version (shape node) → AreHits version (hits_shape run.value)
  unfolding IsSound
  sound-Hits run is h = subst (IsSound version) (ap shape is ∙ shape-Hits run) h

  pub sound-Merge : (run : RunMerge) → node ≡ R.Merge run → IsSound version (shape node) → IsMerge version (merge_shape run)
  unfolding IsSound
  sound-Merge run is h = subst (IsSound version) (ap shape is ∙ shape-Merge run) h

  pub sound-Placed : (run : RunPlaced) → node ≡ R.Placed run → IsSound version (shape node) → ArePlaced version (placed_shape run)
  unfolding IsSound
  sound-Placed run is h = subst (IsSound version) (ap shape is ∙ shape-Placed run) h

  pub sound-Counted : (run : RunCounts) → node ≡ R.Counted run → IsSound version (shape node) → AreCounts version (counts_shape run)
  unfolding IsSound
  sound-Counted run is h = subst (IsSound version) (ap shape is ∙ shape-Counted run) h

  -- ---- what they say

  pub says-Words : (run : RunWords) → node ≡ R.Words run → words_say version (words_shape run) (words_in version asked) ≡ run_truth version (shape node) asked
  unfolding run_truth
  says-Words run is = sym (ap (λ s. run_truth version s asked) (ap shape is ∙ shape-Words run))

  pub says-Or : (parts : Vec RunNode Global) → node ≡ R.Or parts → some_true version (shapes_of (map shape parts.items)) asked ≡ run_truth version (shape node) asked
  unfolding run_truth
  says-Or parts is = sym (ap (λ s. run_truth version s asked) (ap shape is ∙ shape-Or parts))

  pub says-And : (parts : Vec RunNode Global) → node ≡ R.And parts → all_true version (shapes_of (map shape parts.items)) asked ≡ run_truth version (shape node) asked
  unfolding run_truth
  says-And parts is = sym (ap (λ s. run_truth version s asked) (ap shape is ∙ shape-And parts))

  pub says-Not : (part : Box RunNode Global) → node ≡ R.Not part → not (run_truth version (shape part.value) asked) ≡ run_truth version (shape node) asked
  unfolding run_truth
  says-Not part is = sym (ap (λ s. run_truth version s asked) (ap shape is ∙ shape-Not part))

  pub says-Ways : (run : Box RunWays Global) → node ≡ R.Ways run → aims_say (aims_of run.value.tuples) asked ≡ run_truth version (shape node) asked
  unfolding run_truth
  says-Ways run is = sym (ap (λ s. run_truth version s asked) (ap shape is ∙ shape-Ways run))

  pub says-Near : (run : Box RunNear Global) → node ≡ R.Near run → aims_say (near_shape run.value).aims asked ≡ run_truth version (shape node) asked
  unfolding run_truth
  says-Near run is = sym (ap (λ s. run_truth version s asked) (ap shape is ∙ shape-Near run))

  pub says-Hits : (run : Box RunHits Global) → node ≡ R.Hits run → hits_say (hits_shape run.value) asked ≡ run_truth version (shape node) asked
  unfolding run_truth
  says-Hits run is = sym (ap (λ s. run_truth version s asked) (ap shape is ∙ shape-Hits run))

  pub says-Merge : (run : RunMerge) → node ≡ R.Merge run → merge_says version (merge_shape run) asked ≡ run_truth version (shape node) asked
  unfolding run_truth
  says-Merge run is = sym (ap (λ s. run_truth version s asked) (ap shape is ∙ shape-Merge run))

  pub says-Placed : (run : RunPlaced) → node ≡ R.Placed run → placed_say version (placed_shape run) asked ≡ run_truth version (shape node) asked
  unfolding run_truth
  says-Placed run is = sym (ap (λ s. run_truth version s asked) (ap shape is ∙ shape-Placed run))

  pub says-Counted : (run : RunCounts) → node ≡ R.Counted run → counts_say version (counts_shape run) asked ≡ run_truth version (shape node) asked
  unfolding run_truth
  says-Counted run is = sym (ap (λ s. run_truth version s asked) (ap shape is ∙ shape-Counted run))

-- ---- what they look like

module _ (node : RunNode) where
  pub same-Words : (old new : RunWords) → node ≡ R.Words old → words_shape new ≡ words_shape old → shape (R.Words new) ≡ shape node
  same-Words old new is same = shape-Words new ∙ ap words same ∙ sym (ap shape is ∙ shape-Words old)

  pub same-Or : (old new : Vec RunNode Global) → node ≡ R.Or old → map shape new.items ≡ map shape old.items → shape (R.Or new) ≡ shape node
  same-Or old new is same = shape-Or new ∙ ap (λ ss. any_of (shapes_of ss)) same ∙ sym (ap shape is ∙ shape-Or old)

  pub same-And : (old new : Vec RunNode Global) → node ≡ R.And old → map shape new.items ≡ map shape old.items → shape (R.And new) ≡ shape node
  same-And old new is same = shape-And new ∙ ap (λ ss. all_of (shapes_of ss)) same ∙ sym (ap shape is ∙ shape-And old)

  pub same-Not : (old new : Box RunNode Global) → node ≡ R.Not old → shape new.value ≡ shape old.value → shape (R.Not new) ≡ shape node
  same-Not old new is same = shape-Not new ∙ ap not_of same ∙ sym (ap shape is ∙ shape-Not old)

  pub same-Ways : (old new : Box RunWays Global) → node ≡ R.Ways old → aims_of new.value.tuples ≡ aims_of old.value.tuples → skip_of new.value.needs ≡ skip_of old.value.needs → shape (R.Ways new) ≡ shape node
  same-Ways old new is aims needs = shape-Ways new ∙ (λ i. by_ways (record { aims = aims i; skips = needs i })) ∙ sym (ap shape is ∙ shape-Ways old)

  pub same-Near : (old new : Box RunNear Global) → node ≡ R.Near old → near_shape new.value ≡ near_shape old.value → shape (R.Near new) ≡ shape node
  same-Near old new is same = shape-Near new ∙ ap by_near same ∙ sym (ap shape is ∙ shape-Near old)

  pub same-Hits : (old new : Box RunHits Global) → node ≡ R.Hits old → hits_shape new.value ≡ hits_shape old.value → shape (R.Hits new) ≡ shape node
  same-Hits old new is same = shape-Hits new ∙ ap by_hits same ∙ sym (ap shape is ∙ shape-Hits old)

  pub same-Merge : (old new : RunMerge) → node ≡ R.Merge old → merge_shape new ≡ merge_shape old → shape (R.Merge new) ≡ shape node
  same-Merge old new is same = shape-Merge new ∙ ap by_merge same ∙ sym (ap shape is ∙ shape-Merge old)

  pub same-Placed : (old new : RunPlaced) → node ≡ R.Placed old → placed_shape new ≡ placed_shape old → shape (R.Placed new) ≡ shape node
  same-Placed old new is same = shape-Placed new ∙ ap by_spots same ∙ sym (ap shape is ∙ shape-Placed old)

  pub same-Counted : (old new : RunCounts) → node ≡ R.Counted old → counts_shape new ≡ counts_shape old → shape (R.Counted new) ≡ shape node
  same-Counted old new is same = shape-Counted new ∙ ap by_counts same ∙ sym (ap shape is ∙ shape-Counted old)

-- ---- lists of parts

module _ (version : List Numbered) where
  pub each_sound : (shapes : List Shape) → AreSound version (shapes_of shapes) → (k : ℕ) (d : Shape) → k < length shapes → IsSound version (get_or shapes k d)
  unfolding AreSound
  each_sound [] h k d lt = absurd (omega arith)
  each_sound (first ∷ rest) h zero d lt = h.0
  each_sound (first ∷ rest) h (suc k) d lt = each_sound rest h.1 k d (omega arith)

  module _ (asked : AskedSpan) (shapes : List Shape) (i : ℕ) where
    pub some_more : (s : Shape) → i < length shapes → s ≡ get_or shapes i s
        → some_true version (shapes_of (drop i shapes)) asked ≡ (run_truth version s asked || some_true version (shapes_of (drop (i + 1) shapes)) asked)
    unfolding some_true
    some_more s h is =
        ap (λ ss. some_true version (shapes_of ss) asked) (drop_more shapes i s h)
        ∙ ap (λ p. run_truth version p asked || some_true version (shapes_of (drop (i + 1) shapes)) asked) (sym is)

    pub some_end : length shapes ≤ i → some_true version (shapes_of (drop i shapes)) asked ≡ false
    unfolding some_true
    some_end h = ap (λ ss. some_true version (shapes_of ss) asked) (drop_all i shapes h)

    pub all_more : (s : Shape) → i < length shapes → s ≡ get_or shapes i s
        → all_true version (shapes_of (drop i shapes)) asked ≡ (run_truth version s asked && all_true version (shapes_of (drop (i + 1) shapes)) asked)
    unfolding all_true
    all_more s h is =
        ap (λ ss. all_true version (shapes_of ss) asked) (drop_more shapes i s h)
        ∙ ap (λ p. run_truth version p asked && all_true version (shapes_of (drop (i + 1) shapes)) asked) (sym is)

    pub all_end : length shapes ≤ i → all_true version (shapes_of (drop i shapes)) asked ≡ true
    unfolding all_true
    all_end h = ap (λ ss. all_true version (shapes_of ss) asked) (drop_all i shapes h)

-- ---- how deep tests go

unfoldable mutual
  pub weight : Shape → ℕ
  weight (words run) = 1
  weight (any_of parts) = 1 + weights parts
  weight (all_of parts) = 1 + weights parts
  weight (not_of part) = 1 + weight part
  weight (by_ways run) = 1
  weight (by_near run) = 1
  weight (by_hits run) = 1
  weight (by_merge merge) = 1
  weight (by_spots run) = 1
  weight (by_counts run) = 1

  pub weights : Shapes → ℕ
  weights none = 0
  weights (more part rest) = weight part + weights rest

pub weight_at : (shapes : List Shape) (i : ℕ) (s : Shape) → i < length shapes → s ≡ get_or shapes i s → weight s ≤ weights (shapes_of shapes)
unfolding weights
weight_at [] i s h is = absurd (omega arith)
weight_at (first ∷ rest) zero s h is = let e = ap weight is in omega arith
weight_at (first ∷ rest) (suc i) s h is = let e = weight_at rest i s (omega arith) is in omega arith

module _ (node : RunNode) where
  pub weight-Or : (parts : Vec RunNode Global) → node ≡ R.Or parts → weight (shape node) ≡ 1 + weights (shapes_of (map shape parts.items))
  unfolding weight
  weight-Or parts is = ap weight (ap shape is ∙ shape-Or parts)

  pub weight-And : (parts : Vec RunNode Global) → node ≡ R.And parts → weight (shape node) ≡ 1 + weights (shapes_of (map shape parts.items))
  unfolding weight
  weight-And parts is = ap weight (ap shape is ∙ shape-And parts)

  pub weight-Not : (part : Box RunNode Global) → node ≡ R.Not part → weight (shape node) ≡ 1 + weight (shape part.value)
  unfolding weight
  weight-Not part is = ap weight (ap shape is ∙ shape-Not part)

-- ---- what they cost

module _ (cost : WordTerms → ℕ) (times : ℕ) (node : RunNode) where
  pub cost-Words : (run : RunWords) → node ≡ R.Words run → run_cost cost times (shape node) ≡ words_cost cost (words_shape run)
  unfolding run_cost
  cost-Words run is = ap (run_cost cost times) (ap shape is ∙ shape-Words run)

  pub cost-Or : (parts : Vec RunNode Global) → node ≡ R.Or parts → run_cost cost times (shape node) ≡ run_costs cost times (shapes_of (map shape parts.items))
  unfolding run_cost
  cost-Or parts is = ap (run_cost cost times) (ap shape is ∙ shape-Or parts)

  pub cost-And : (parts : Vec RunNode Global) → node ≡ R.And parts → run_cost cost times (shape node) ≡ run_costs cost times (shapes_of (map shape parts.items))
  unfolding run_cost
  cost-And parts is = ap (run_cost cost times) (ap shape is ∙ shape-And parts)

  pub cost-Not : (part : Box RunNode Global) → node ≡ R.Not part → run_cost cost times (shape node) ≡ run_cost cost times (shape part.value)
  unfolding run_cost
  cost-Not part is = ap (run_cost cost times) (ap shape is ∙ shape-Not part)

  pub cost-Merge : (run : RunMerge) → node ≡ R.Merge run → run_cost cost times (shape node) ≡ merge_cost cost (merge_shape run)
  unfolding run_cost
  cost-Merge run is = ap (run_cost cost times) (ap shape is ∙ shape-Merge run)

  pub cost-Counted : (run : RunCounts) → node ≡ R.Counted run → run_cost cost times (shape node) ≡ times * counts_cost cost (counts_shape run)
  unfolding run_cost
  cost-Counted run is = ap (run_cost cost times) (ap shape is ∙ shape-Counted run)

pub costs_are : (cost : WordTerms → ℕ) (times : ℕ) (shapes : List Shape) → run_costs cost times (shapes_of shapes) ≡ sum_by (run_cost cost times) shapes
unfolding run_costs
costs_are cost times [] = refl
costs_are cost times (first ∷ rest) = ap (λ n. run_cost cost times first + n) (costs_are cost times rest) ∙ sym (sum_by-cons (run_cost cost times) first rest)

-- the parts so far
pub costs_so_far : (cost : WordTerms → ℕ) (times : ℕ) (shapes : List Shape) (i start end : ℕ) → end ≤ start + sum_by (run_cost cost times) (take i shapes) → end ≤ start + run_costs cost times (shapes_of shapes)
costs_so_far cost times shapes i start end h = omega (arith, so_far (run_cost cost times) shapes i start end h, costs_are cost times shapes)

-- ---- which are cheap

module _ (counts : Bool) (node : RunNode) where
  pub cheap-Or : (parts : Vec RunNode Global) → node ≡ R.Or parts → are_cheap_shapes counts (shapes_of (map shape parts.items)) ≡ is_cheap_shape counts (shape node)
  unfolding is_cheap_shape
  cheap-Or parts is = sym (ap (is_cheap_shape counts) (ap shape is ∙ shape-Or parts))

  pub cheap-And : (parts : Vec RunNode Global) → node ≡ R.And parts → are_cheap_shapes counts (shapes_of (map shape parts.items)) ≡ is_cheap_shape counts (shape node)
  unfolding is_cheap_shape
  cheap-And parts is = sym (ap (is_cheap_shape counts) (ap shape is ∙ shape-And parts))

  pub cheap-Not : (part : Box RunNode Global) → node ≡ R.Not part → is_cheap_shape counts (shape part.value) ≡ is_cheap_shape counts (shape node)
  unfolding is_cheap_shape
  cheap-Not part is = sym (ap (is_cheap_shape counts) (ap shape is ∙ shape-Not part))

  pub cheap-Ways : (run : Box RunWays Global) → node ≡ R.Ways run → is_cheap_shape counts (shape node) ≡ false
  unfolding is_cheap_shape
  cheap-Ways run is = ap (is_cheap_shape counts) (ap shape is ∙ shape-Ways run)

  pub cheap-Near : (run : Box RunNear Global) → node ≡ R.Near run → is_cheap_shape counts (shape node) ≡ false
  unfolding is_cheap_shape
  cheap-Near run is = ap (is_cheap_shape counts) (ap shape is ∙ shape-Near run)

  pub cheap-Hits : (run : Box RunHits Global) → node ≡ R.Hits run → is_cheap_shape counts (shape node) ≡ false
  unfolding is_cheap_shape
  cheap-Hits run is = ap (is_cheap_shape counts) (ap shape is ∙ shape-Hits run)

  pub cheap-Placed : (run : RunPlaced) → node ≡ R.Placed run → is_cheap_shape counts (shape node) ≡ false
  unfolding is_cheap_shape
  cheap-Placed run is = ap (is_cheap_shape counts) (ap shape is ∙ shape-Placed run)

pub cheap_are : (counts : Bool) (shapes : List Shape) → are_cheap_shapes counts (shapes_of shapes) ≡ list_all (is_cheap_shape counts) shapes
unfolding are_cheap_shapes
cheap_are counts [] = refl
cheap_are counts (first ∷ rest) = ap (λ b. is_cheap_shape counts first && b) (cheap_are counts rest)

pub each_cheap : (counts : Bool) (shapes : List Shape) → are_cheap_shapes counts (shapes_of shapes) ≡ true → (k : ℕ) (d : Shape) → k < length shapes → is_cheap_shape counts (get_or shapes k d) ≡ true
unfolding are_cheap_shapes
each_cheap counts [] h k d lt = absurd (omega arith)
each_cheap counts (first ∷ rest) h zero d lt = (and_parts (is_cheap_shape counts first) (are_cheap_shapes counts (shapes_of rest)) h).0
each_cheap counts (first ∷ rest) h (suc k) d lt = each_cheap counts rest (and_parts (is_cheap_shape counts first) (are_cheap_shapes counts (shapes_of rest)) h).1 k d (omega arith)
