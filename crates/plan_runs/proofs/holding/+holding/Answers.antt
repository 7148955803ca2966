-- Each kind is tested by its parts, which keep their shapes.
use Rattle.std.proofs.Common.{◌≡◌, ◌∙◌, ◌||◌, ◌&&◌, Bool, true, true≢false, ap, sym, not, refl, rules, map, drop, ◌+◌, arith, subst, Box, Global, Vec}
use Rattle.plan_runs.specs.steps.CheapShapes.{are_cheap_shapes, is_cheap_shape}
use Rattle.plan_runs.specs.steps.RunCosts.{moves_for, run_cost, run_costs, words_cost}
use Rattle.plan_runs.specs.steps.RunShapes.{hits_shape, merge_shape, near_shape, shape, shapes_of, words_shape, placed_shape, counts_shape}
use Rattle.plan_runs.specs.steps.Passes.{AreHits, hits_say}
use Rattle.plan_runs.specs.steps.Counts.{AreCounts, counts_cost, counts_say}
use Rattle.plan_runs.specs.steps.Merges.{IsMerge, merge_cost, merge_says}
use Rattle.plan_runs.specs.steps.NearRuns.{AreNear}
use Rattle.plan_runs.specs.steps.OpenedOperators.{AreAims, aims_of}
use Rattle.plan_runs.specs.steps.Skips.{skip_of}
use Rattle.plan_runs.specs.steps.RunTruth.{ArePlaced, AreSound, IsSound, IsWords, all_true, aims_say, placed_say, run_truth, some_true, words_say}
use Rattle.plan_runs.specs.steps.AskedPlaces.{asked_at, text_at}
use Rattle.plan_runs.specs.declared.run_node.RunNode.{RunNode, the_lemmas}
use Rattle.plan_runs.specs.declared.run_counts.RunCounts.{RunCounts}
use Rattle.plan_runs.specs.declared.run_hits.RunHits.{RunHits}
use Rattle.plan_runs.specs.declared.run_merge.RunMerge.{RunMerge}
use Rattle.plan_runs.specs.declared.run_near.RunNear.{RunNear}
use Rattle.plan_runs.specs.declared.run_node.RunNode as R
use Rattle.plan_runs.specs.declared.run_node.RunWords.{RunWords}
use Rattle.plan_runs.specs.declared.run_placed.RunPlaced.{RunPlaced}
use Rattle.plan_runs.specs.declared.run_ways.RunWays.{RunWays}
use Rattle.index_phrases.proofs.PartLemmas.{as_many, holds_at, part_at, parts_kept}
use Rattle.plan_runs.proofs.SumLemmas.{one_more}
use Rattle.plan_runs.proofs.TreeLemmas.{all_end, all_more, cost-And, cost-Counted, cost-Merge, cost-Not, cost-Or, cost-Words, costs_so_far, each_sound, same-And, same-Hits, same-Merge, same-Near, same-Not, same-Or, same-Ways, same-Words, says-And, says-Hits, says-Merge, says-Near, says-Not, says-Or, says-Ways, says-Words, some_end, some_more, sound-And, sound-Hits, sound-Merge, sound-Near, sound-Not, sound-Or, sound-Ways, sound-Words, same-Counted, says-Counted, sound-Counted, weight, weights, weight_at, weight-And, weight-Not, weight-Or, cheap-And, cheap-Hits, cheap-Near, cheap-Not, cheap-Or, cheap-Placed, cheap-Ways, each_cheap, same-Placed, says-Placed, sound-Placed}
use Rattle.plan_runs.proofs.holding.+holding.Goals as goal

pub node_holds-words_hold-requires : goal.node_holds-words_hold-requires
node_holds-words_hold-requires g t c =
    subst (λ (run : RunWords). IsWords c.args.place.now.version.now (words_shape run)) (sym c.in-Words.words-is) (sound-Words c.args.place.now.version.now (asked_at c.args.place.now) c.args.node.now c.in-Words.words c.in-Words.is c.requires)

pub node_holds-some_holds-requires : goal.node_holds-some_holds-requires
node_holds-some_holds-requires g t c κs within =
    let deep = weight-Or c.args.node.now c.in-Or.parts c.in-Or.is in
    let same = ap (λ (parts : Vec RunNode Global). weights (shapes_of (map shape parts.items))) c.in-Or.parts-is in (
      omega (arith, c.decreases),
      (
        within,
        subst (λ (parts : Vec RunNode Global). AreSound c.args.place.now.version.now (shapes_of (map shape parts.items))) (sym c.in-Or.parts-is) (sound-Or c.args.place.now.version.now (asked_at c.args.place.now) c.args.node.now c.in-Or.parts c.in-Or.is c.requires),
      ),
    )

pub node_holds-all_hold-requires : goal.node_holds-all_hold-requires
node_holds-all_hold-requires g t c κs within =
    let deep = weight-And c.args.node.now c.in-And.parts c.in-And.is in
    let same = ap (λ (parts : Vec RunNode Global). weights (shapes_of (map shape parts.items))) c.in-And.parts-is in (
      omega (arith, c.decreases),
      (
        within,
        subst (λ (parts : Vec RunNode Global). AreSound c.args.place.now.version.now (shapes_of (map shape parts.items))) (sym c.in-And.parts-is) (sound-And c.args.place.now.version.now (asked_at c.args.place.now) c.args.node.now c.in-And.parts c.in-And.is c.requires),
      ),
    )

pub node_holds-part_holds-requires : goal.node_holds-part_holds-requires
node_holds-part_holds-requires g t c κs within =
    let deep = weight-Not c.args.node.now c.in-Not.part c.in-Not.is in
    let same = ap (λ (part : Box RunNode Global). weight (shape part.value)) c.in-Not.part-is in (
      omega (arith, c.decreases),
      (
        within,
        subst (λ (part : Box RunNode Global). IsSound c.args.place.now.version.now (shape part.value)) (sym c.in-Not.part-is) (sound-Not c.args.place.now.version.now (asked_at c.args.place.now) c.args.node.now c.in-Not.part c.in-Not.is c.requires),
      ),
    )

pub node_holds-returns-in-Words-clause-says : goal.node_holds-returns-in-Words-clause-says
node_holds-returns-in-Words-clause-says g t c =
    c.words_hold.ensures.says ∙ ap (λ (run : RunWords). words_say c.args.place.now.version.now (words_shape run) (text_at c.args.place.now)) c.in-Words.words-is ∙ says-Words c.args.place.now.version.now (asked_at c.args.place.now) c.args.node.now c.in-Words.words c.in-Words.is

pub node_holds-returns-in-Words-clause-same : goal.node_holds-returns-in-Words-clause-same
node_holds-returns-in-Words-clause-same g t c =
    let same = same-Words (R.Words c.in-Words.words) c.in-Words.words c.words_hold.new.words refl (c.words_hold.ensures.same ∙ ap words_shape c.in-Words.words-is) in rw c.in-Words.is (search (rules, the_lemmas, same))

pub node_holds-returns-in-Or-clause-says : goal.node_holds-returns-in-Or-clause-says
node_holds-returns-in-Or-clause-says g t c =
    c.some_holds.ensures.says ∙ ap (λ (parts : Vec RunNode Global). some_true c.args.place.now.version.now (shapes_of (map shape parts.items)) (asked_at c.args.place.now)) c.in-Or.parts-is ∙ says-Or c.args.place.now.version.now (asked_at c.args.place.now) c.args.node.now c.in-Or.parts c.in-Or.is

pub node_holds-returns-in-Or-clause-same : goal.node_holds-returns-in-Or-clause-same
node_holds-returns-in-Or-clause-same g t c =
    let same = same-Or c.args.node.now c.in-Or.parts c.some_holds.new.parts c.in-Or.is (c.some_holds.ensures.same ∙ ap (λ (parts : Vec RunNode Global). map shape parts.items) c.in-Or.parts-is) in search (rules, the_lemmas, same, c.in-Or.is)

pub node_holds-returns-in-And-clause-says : goal.node_holds-returns-in-And-clause-says
node_holds-returns-in-And-clause-says g t c =
    c.all_hold.ensures.says ∙ ap (λ (parts : Vec RunNode Global). all_true c.args.place.now.version.now (shapes_of (map shape parts.items)) (asked_at c.args.place.now)) c.in-And.parts-is ∙ says-And c.args.place.now.version.now (asked_at c.args.place.now) c.args.node.now c.in-And.parts c.in-And.is

pub node_holds-returns-in-And-clause-same : goal.node_holds-returns-in-And-clause-same
node_holds-returns-in-And-clause-same g t c =
    let same = same-And c.args.node.now c.in-And.parts c.all_hold.new.parts c.in-And.is (c.all_hold.ensures.same ∙ ap (λ (parts : Vec RunNode Global). map shape parts.items) c.in-And.parts-is) in search (rules, the_lemmas, same, c.in-And.is)

pub node_holds-returns-in-Not-clause-says : goal.node_holds-returns-in-Not-clause-says
node_holds-returns-in-Not-clause-says g t c =
    ap not (c.part_holds.ensures.says ∙ ap (λ (part : Box RunNode Global). run_truth c.args.place.now.version.now (shape part.value) (asked_at c.args.place.now)) c.in-Not.part-is) ∙ says-Not c.args.place.now.version.now (asked_at c.args.place.now) c.args.node.now c.in-Not.part c.in-Not.is

pub node_holds-returns-in-Not-clause-same : goal.node_holds-returns-in-Not-clause-same
node_holds-returns-in-Not-clause-same g t c =
    let same = same-Not (R.Not c.in-Not.part) c.in-Not.part c.part_holds.new.part refl (c.part_holds.ensures.same ∙ ap (λ (part : Box RunNode Global). shape part.value) c.in-Not.part-is) in rw c.in-Not.is (search (rules, the_lemmas, same))

pub node_holds-ways_hold-requires : goal.node_holds-ways_hold-requires
node_holds-ways_hold-requires g t c =
    subst (λ (run : Box RunWays Global). AreAims c.args.place.now.version.now (aims_of run.value.tuples)) (sym c.in-Ways.ways-is) (sound-Ways c.args.place.now.version.now (asked_at c.args.place.now) c.args.node.now c.in-Ways.ways c.in-Ways.is c.requires)

pub node_holds-returns-in-Ways-clause-says : goal.node_holds-returns-in-Ways-clause-says
node_holds-returns-in-Ways-clause-says g t c =
    c.ways_hold.ensures.says ∙ ap (λ (run : Box RunWays Global). aims_say (aims_of run.value.tuples) (asked_at c.args.place.now)) c.in-Ways.ways-is ∙ says-Ways c.args.place.now.version.now (asked_at c.args.place.now) c.args.node.now c.in-Ways.ways c.in-Ways.is

pub node_holds-returns-in-Ways-clause-same : goal.node_holds-returns-in-Ways-clause-same
node_holds-returns-in-Ways-clause-same g t c =
    let same = same-Ways (R.Ways c.in-Ways.ways) c.in-Ways.ways c.ways_hold.new.ways refl (c.ways_hold.ensures.same ∙ ap (λ (run : Box RunWays Global). aims_of run.value.tuples) c.in-Ways.ways-is)
    (ap skip_of (c.ways_hold.ensures.needs ∙ ap (λ (run : Box RunWays Global). run.value.needs) c.in-Ways.ways-is)) in rw c.in-Ways.is (search (rules, the_lemmas, same))

pub node_holds-near_holds-requires : goal.node_holds-near_holds-requires
node_holds-near_holds-requires g t c =
    subst (λ (run : Box RunNear Global). AreNear c.args.place.now.version.now (near_shape run.value)) (sym c.in-Near.near-is) (sound-Near c.args.place.now.version.now (asked_at c.args.place.now) c.args.node.now c.in-Near.near c.in-Near.is c.requires)

pub node_holds-returns-in-Near-clause-says : goal.node_holds-returns-in-Near-clause-says
node_holds-returns-in-Near-clause-says g t c =
    c.near_holds.ensures.says ∙ ap (λ (run : Box RunNear Global). aims_say (near_shape run.value).aims (asked_at c.args.place.now)) c.in-Near.near-is ∙ says-Near c.args.place.now.version.now (asked_at c.args.place.now) c.args.node.now c.in-Near.near c.in-Near.is

pub node_holds-returns-in-Near-clause-same : goal.node_holds-returns-in-Near-clause-same
node_holds-returns-in-Near-clause-same g t c =
    let same = same-Near (R.Near c.in-Near.near) c.in-Near.near c.near_holds.new.near refl (c.near_holds.ensures.same ∙ ap (λ (run : Box RunNear Global). near_shape run.value) c.in-Near.near-is) in rw c.in-Near.is (search (rules, the_lemmas, same))

pub node_holds-hits_hold-requires : goal.node_holds-hits_hold-requires
node_holds-hits_hold-requires g t c =
    subst (λ (run : Box RunHits Global). AreHits c.args.place.now.version.now (hits_shape run.value)) (sym c.in-Hits.hits-is) (sound-Hits c.args.place.now.version.now (asked_at c.args.place.now) c.args.node.now c.in-Hits.hits c.in-Hits.is c.requires)

pub node_holds-returns-in-Hits-clause-says : goal.node_holds-returns-in-Hits-clause-says
node_holds-returns-in-Hits-clause-says g t c =
    c.hits_hold.ensures.says ∙ ap (λ (run : Box RunHits Global). hits_say (hits_shape run.value) (asked_at c.args.place.now)) c.in-Hits.hits-is ∙ says-Hits c.args.place.now.version.now (asked_at c.args.place.now) c.args.node.now c.in-Hits.hits c.in-Hits.is

pub node_holds-returns-in-Hits-clause-same : goal.node_holds-returns-in-Hits-clause-same
node_holds-returns-in-Hits-clause-same g t c =
    let same = same-Hits (R.Hits c.in-Hits.hits) c.in-Hits.hits c.hits_hold.new.hits refl (c.hits_hold.ensures.same ∙ ap (λ (run : Box RunHits Global). hits_shape run.value) c.in-Hits.hits-is) in rw c.in-Hits.is (search (rules, the_lemmas, same))

pub node_holds-merge_holds-requires : goal.node_holds-merge_holds-requires
node_holds-merge_holds-requires g t c =
    subst (λ (run : RunMerge). IsMerge c.args.place.now.version.now (merge_shape run)) (sym c.in-Merge.merge-is) (sound-Merge c.args.place.now.version.now (asked_at c.args.place.now) c.args.node.now c.in-Merge.merge c.in-Merge.is c.requires)

pub node_holds-returns-in-Merge-clause-says : goal.node_holds-returns-in-Merge-clause-says
node_holds-returns-in-Merge-clause-says g t c =
    c.merge_holds.ensures.says ∙ ap (λ (run : RunMerge). merge_says c.args.place.now.version.now (merge_shape run) (asked_at c.args.place.now)) c.in-Merge.merge-is ∙ says-Merge c.args.place.now.version.now (asked_at c.args.place.now) c.args.node.now c.in-Merge.merge c.in-Merge.is

pub node_holds-returns-in-Merge-clause-same : goal.node_holds-returns-in-Merge-clause-same
node_holds-returns-in-Merge-clause-same g t c =
    let same = same-Merge (R.Merge c.in-Merge.merge) c.in-Merge.merge c.merge_holds.new.merge refl (c.merge_holds.ensures.same ∙ ap merge_shape c.in-Merge.merge-is) in rw c.in-Merge.is (search (rules, the_lemmas, same))

pub node_holds-returns-in-Merge-clause-price : goal.node_holds-returns-in-Merge-clause-price
node_holds-returns-in-Merge-clause-price g t c =
    let cost = moves_for c.args.place.now in
    let own = ap (λ (run : RunMerge). merge_cost cost (merge_shape run)) c.in-Merge.merge-is in
    let whole = cost-Merge cost 2 c.args.node.now c.in-Merge.merge c.in-Merge.is in
    λ h. omega (arith, own, whole, c.merge_holds.ensures.price)

pub node_holds-placed_holds-requires : goal.node_holds-placed_holds-requires
node_holds-placed_holds-requires g t c =
    subst (λ (run : RunPlaced). ArePlaced c.args.place.now.version.now (placed_shape run)) (sym c.in-Placed.placed-is) (sound-Placed c.args.place.now.version.now (asked_at c.args.place.now) c.args.node.now c.in-Placed.placed c.in-Placed.is c.requires)

pub node_holds-returns-in-Placed-clause-says : goal.node_holds-returns-in-Placed-clause-says
node_holds-returns-in-Placed-clause-says g t c =
    c.placed_holds.ensures.says ∙ ap (λ (run : RunPlaced). placed_say c.args.place.now.version.now (placed_shape run) (asked_at c.args.place.now)) c.in-Placed.placed-is ∙ says-Placed c.args.place.now.version.now (asked_at c.args.place.now) c.args.node.now c.in-Placed.placed c.in-Placed.is

pub node_holds-returns-in-Placed-clause-same : goal.node_holds-returns-in-Placed-clause-same
node_holds-returns-in-Placed-clause-same g t c =
    let same = same-Placed (R.Placed c.in-Placed.placed) c.in-Placed.placed c.placed_holds.new.placed refl (c.placed_holds.ensures.same ∙ ap placed_shape c.in-Placed.placed-is) in rw c.in-Placed.is (search (rules, the_lemmas, same))

pub node_holds-counts_hold-requires : goal.node_holds-counts_hold-requires
node_holds-counts_hold-requires g t c =
    subst (λ (run : RunCounts). AreCounts c.args.place.now.version.now (counts_shape run)) (sym c.in-Counted.counts-is) (sound-Counted c.args.place.now.version.now (asked_at c.args.place.now) c.args.node.now c.in-Counted.counts c.in-Counted.is c.requires)

pub node_holds-returns-in-Counted-clause-says : goal.node_holds-returns-in-Counted-clause-says
node_holds-returns-in-Counted-clause-says g t c =
    c.counts_hold.ensures.says ∙ ap (λ (run : RunCounts). counts_say c.args.place.now.version.now (counts_shape run) (asked_at c.args.place.now)) c.in-Counted.counts-is ∙ says-Counted c.args.place.now.version.now (asked_at c.args.place.now) c.args.node.now c.in-Counted.counts c.in-Counted.is

pub node_holds-returns-in-Counted-clause-same : goal.node_holds-returns-in-Counted-clause-same
node_holds-returns-in-Counted-clause-same g t c =
    let same = same-Counted (R.Counted c.in-Counted.counts) c.in-Counted.counts c.counts_hold.new.counts refl (c.counts_hold.ensures.same ∙ ap counts_shape c.in-Counted.counts-is) in rw c.in-Counted.is (search (rules, the_lemmas, same))

pub node_holds-returns-in-Placed-clause-price : goal.node_holds-returns-in-Placed-clause-price
node_holds-returns-in-Placed-clause-price g t c h = absurd (true≢false (sym h ∙ cheap-Placed true c.args.node.now c.in-Placed.placed c.in-Placed.is))

pub node_holds-returns-in-Ways-clause-price : goal.node_holds-returns-in-Ways-clause-price
node_holds-returns-in-Ways-clause-price g t c h = absurd (true≢false (sym h ∙ cheap-Ways true c.args.node.now c.in-Ways.ways c.in-Ways.is))

pub node_holds-returns-in-Near-clause-price : goal.node_holds-returns-in-Near-clause-price
node_holds-returns-in-Near-clause-price g t c h = absurd (true≢false (sym h ∙ cheap-Near true c.args.node.now c.in-Near.near c.in-Near.is))

pub node_holds-returns-in-Hits-clause-price : goal.node_holds-returns-in-Hits-clause-price
node_holds-returns-in-Hits-clause-price g t c h = absurd (true≢false (sym h ∙ cheap-Hits true c.args.node.now c.in-Hits.hits c.in-Hits.is))

pub some_holds-node_holds-requires : goal.some_holds-node_holds-requires
some_holds-node_holds-requires g t c κs within =
    let views = map shape c.args.parts.now.items in
    let old = as_many shape c.args.parts.now.items views refl in
    let now = as_many shape c.loop-number.parts.items views c.loop-number.invariant.same in
    let test = c.loop-number-test.true in
    let end = c.len-number-end.ensures in
    let at = part_at shape c.loop-number.parts.items views c.loop-number.number c.index_mut.result.now c.loop-number.invariant.same c.index_mut.ensures.value in
    let deep = weight_at views c.loop-number.number (shape c.index_mut.result.now) (omega arith) at in (
      omega arith,
      (
        within,
        holds_at shape (IsSound c.args.place.now.version.now) c.loop-number.parts.items views c.loop-number.number c.index_mut.result.now (each_sound c.args.place.now.version.now views c.requires) c.loop-number.invariant.same (omega arith) c.index_mut.ensures.value,
      ),
    )

pub some_holds-returns-then-node_holds-clause-says : goal.some_holds-returns-then-node_holds-clause-says
some_holds-returns-then-node_holds-clause-says g t c =
    let views = map shape c.args.parts.now.items in
    let old = as_many shape c.args.parts.now.items views refl in
    let now = as_many shape c.loop-number.parts.items views c.loop-number.invariant.same in
    let test = c.loop-number-test.true in
    let end = c.len-number-end.ensures in
    sym
    (some_more c.args.place.now.version.now (asked_at c.args.place.now) views c.loop-number.number (shape c.index_mut.result.now) (omega arith) (part_at shape c.loop-number.parts.items views c.loop-number.number c.index_mut.result.now c.loop-number.invariant.same c.index_mut.ensures.value)
    ∙ ap (λ (b : Bool). b || some_true c.args.place.now.version.now (shapes_of (drop (c.loop-number.number + 1) views)) (asked_at c.args.place.now)) (sym c.node_holds.ensures.says ∙ c.if-node_holds.true))
    ∙ c.loop-number.invariant.says

pub some_holds-returns-then-node_holds-clause-same : goal.some_holds-returns-then-node_holds-clause-same
some_holds-returns-then-node_holds-clause-same g t c =
    parts_kept shape c.loop-number.parts.items (map shape c.args.parts.now.items) c.loop-number.number c.index_mut.result.now c.node_holds.new.node
    c.loop-number.invariant.same c.index_mut.ensures.value c.node_holds.ensures.same

pub some_holds-loop-number-preserved : goal.some_holds-loop-number-preserved
some_holds-loop-number-preserved g t c =
    let views = map shape c.args.parts.now.items in
    let old = as_many shape c.args.parts.now.items views refl in
    let now = as_many shape c.loop-number.parts.items views c.loop-number.invariant.same in
    let test = c.loop-number-test.true in
    let end = c.len-number-end.ensures in
    let first = c.loop-number.invariant.grown in
    let then = c.node_holds.ensures.grown in
    record {
      same = parts_kept shape c.loop-number.parts.items (map shape c.args.parts.now.items) c.loop-number.number c.index_mut.result.now c.node_holds.new.node
          c.loop-number.invariant.same c.index_mut.ensures.value c.node_holds.ensures.same;
      says = sym
          (some_more c.args.place.now.version.now (asked_at c.args.place.now) views c.loop-number.number (shape c.index_mut.result.now) (omega arith) (part_at shape c.loop-number.parts.items views c.loop-number.number c.index_mut.result.now c.loop-number.invariant.same c.index_mut.ensures.value)
          ∙ ap (λ (b : Bool). b || some_true c.args.place.now.version.now (shapes_of (drop (c.loop-number.number + 1) views)) (asked_at c.args.place.now)) (sym c.node_holds.ensures.says ∙ c.if-node_holds.false))
          ∙ c.loop-number.invariant.says;
      price = λ h.
          one_more (run_cost (moves_for c.args.place.now) 2) views c.loop-number.number c.args.moves.now (shape c.index_mut.result.now) c.loop-number.moves c.node_holds.new.moves (omega arith)
          (part_at shape c.loop-number.parts.items views c.loop-number.number c.index_mut.result.now c.loop-number.invariant.same c.index_mut.ensures.value)
          (c.loop-number.invariant.price h)
          (c.node_holds.ensures.price (holds_at shape (λ own. is_cheap_shape true own ≡ true) c.loop-number.parts.items views c.loop-number.number c.index_mut.result.now (each_cheap true views h) c.loop-number.invariant.same (omega arith) c.index_mut.ensures.value));
      grown = omega arith;
    }

pub some_holds-returns-clause-says : goal.some_holds-returns-clause-says
some_holds-returns-clause-says g t c =
    let views = map shape c.args.parts.now.items in
    let old = as_many shape c.args.parts.now.items views refl in
    let test = c.loop-number-test.false in
    let end = c.len-number-end.ensures in
    sym (some_end c.args.place.now.version.now (asked_at c.args.place.now) views c.loop-number.number (omega arith)) ∙ c.loop-number.invariant.says

pub all_hold-node_holds-requires : goal.all_hold-node_holds-requires
all_hold-node_holds-requires g t c κs within =
    let views = map shape c.args.parts.now.items in
    let old = as_many shape c.args.parts.now.items views refl in
    let now = as_many shape c.loop-number.parts.items views c.loop-number.invariant.same in
    let test = c.loop-number-test.true in
    let end = c.len-number-end.ensures in
    let at = part_at shape c.loop-number.parts.items views c.loop-number.number c.index_mut.result.now c.loop-number.invariant.same c.index_mut.ensures.value in
    let deep = weight_at views c.loop-number.number (shape c.index_mut.result.now) (omega arith) at in (
      omega arith,
      (
        within,
        holds_at shape (IsSound c.args.place.now.version.now) c.loop-number.parts.items views c.loop-number.number c.index_mut.result.now (each_sound c.args.place.now.version.now views c.requires) c.loop-number.invariant.same (omega arith) c.index_mut.ensures.value,
      ),
    )

pub all_hold-returns-then-not-node_holds-clause-says : goal.all_hold-returns-then-not-node_holds-clause-says
all_hold-returns-then-not-node_holds-clause-says g t c =
    let views = map shape c.args.parts.now.items in
    let old = as_many shape c.args.parts.now.items views refl in
    let now = as_many shape c.loop-number.parts.items views c.loop-number.invariant.same in
    let test = c.loop-number-test.true in
    let end = c.len-number-end.ensures in
    sym
    (all_more c.args.place.now.version.now (asked_at c.args.place.now) views c.loop-number.number (shape c.index_mut.result.now) (omega arith) (part_at shape c.loop-number.parts.items views c.loop-number.number c.index_mut.result.now c.loop-number.invariant.same c.index_mut.ensures.value)
    ∙ ap (λ (b : Bool). b && all_true c.args.place.now.version.now (shapes_of (drop (c.loop-number.number + 1) views)) (asked_at c.args.place.now)) (sym c.node_holds.ensures.says ∙ c.if-not-node_holds.true))
    ∙ c.loop-number.invariant.says

pub all_hold-returns-then-not-node_holds-clause-same : goal.all_hold-returns-then-not-node_holds-clause-same
all_hold-returns-then-not-node_holds-clause-same g t c =
    parts_kept shape c.loop-number.parts.items (map shape c.args.parts.now.items) c.loop-number.number c.index_mut.result.now c.node_holds.new.node
    c.loop-number.invariant.same c.index_mut.ensures.value c.node_holds.ensures.same

pub all_hold-loop-number-preserved : goal.all_hold-loop-number-preserved
all_hold-loop-number-preserved g t c =
    let views = map shape c.args.parts.now.items in
    let old = as_many shape c.args.parts.now.items views refl in
    let now = as_many shape c.loop-number.parts.items views c.loop-number.invariant.same in
    let test = c.loop-number-test.true in
    let end = c.len-number-end.ensures in
    let first = c.loop-number.invariant.grown in
    let then = c.node_holds.ensures.grown in
    record {
      same = parts_kept shape c.loop-number.parts.items (map shape c.args.parts.now.items) c.loop-number.number c.index_mut.result.now c.node_holds.new.node
          c.loop-number.invariant.same c.index_mut.ensures.value c.node_holds.ensures.same;
      says = sym
          (all_more c.args.place.now.version.now (asked_at c.args.place.now) views c.loop-number.number (shape c.index_mut.result.now) (omega arith) (part_at shape c.loop-number.parts.items views c.loop-number.number c.index_mut.result.now c.loop-number.invariant.same c.index_mut.ensures.value)
          ∙ ap (λ (b : Bool). b && all_true c.args.place.now.version.now (shapes_of (drop (c.loop-number.number + 1) views)) (asked_at c.args.place.now)) (sym c.node_holds.ensures.says ∙ c.if-not-node_holds.false))
          ∙ c.loop-number.invariant.says;
      price = λ h.
          one_more (run_cost (moves_for c.args.place.now) 2) views c.loop-number.number c.args.moves.now (shape c.index_mut.result.now) c.loop-number.moves c.node_holds.new.moves (omega arith)
          (part_at shape c.loop-number.parts.items views c.loop-number.number c.index_mut.result.now c.loop-number.invariant.same c.index_mut.ensures.value)
          (c.loop-number.invariant.price h)
          (c.node_holds.ensures.price (holds_at shape (λ own. is_cheap_shape true own ≡ true) c.loop-number.parts.items views c.loop-number.number c.index_mut.result.now (each_cheap true views h) c.loop-number.invariant.same (omega arith) c.index_mut.ensures.value));
      grown = omega arith;
    }

pub all_hold-returns-clause-says : goal.all_hold-returns-clause-says
all_hold-returns-clause-says g t c =
    let views = map shape c.args.parts.now.items in
    let old = as_many shape c.args.parts.now.items views refl in
    let test = c.loop-number-test.false in
    let end = c.len-number-end.ensures in
    sym (all_end c.args.place.now.version.now (asked_at c.args.place.now) views c.loop-number.number (omega arith)) ∙ c.loop-number.invariant.says

-- ---- what they cost

pub node_holds-returns-in-Words-clause-price : goal.node_holds-returns-in-Words-clause-price
node_holds-returns-in-Words-clause-price g t c =
    let cost = moves_for c.args.place.now in
    let same = ap (λ (run : RunWords). words_cost cost (words_shape run)) c.in-Words.words-is in
    let whole = cost-Words cost 2 c.args.node.now c.in-Words.words c.in-Words.is in
    λ h. omega (arith, c.words_hold.ensures.price, same, whole)

pub node_holds-returns-in-Or-clause-price : goal.node_holds-returns-in-Or-clause-price
node_holds-returns-in-Or-clause-price g t c =
    let cost = moves_for c.args.place.now in
    let same = ap (λ (parts : Vec RunNode Global). run_costs cost 2 (shapes_of (map shape parts.items))) c.in-Or.parts-is in
    let whole = cost-Or cost 2 c.args.node.now c.in-Or.parts c.in-Or.is in
    λ h.
    let all = ap (λ (parts : Vec RunNode Global). are_cheap_shapes true (shapes_of (map shape parts.items))) c.in-Or.parts-is ∙ cheap-Or true c.args.node.now c.in-Or.parts c.in-Or.is ∙ h in
    omega (arith, c.some_holds.ensures.price all, same, whole)

pub node_holds-returns-in-And-clause-price : goal.node_holds-returns-in-And-clause-price
node_holds-returns-in-And-clause-price g t c =
    let cost = moves_for c.args.place.now in
    let same = ap (λ (parts : Vec RunNode Global). run_costs cost 2 (shapes_of (map shape parts.items))) c.in-And.parts-is in
    let whole = cost-And cost 2 c.args.node.now c.in-And.parts c.in-And.is in
    λ h.
    let all = ap (λ (parts : Vec RunNode Global). are_cheap_shapes true (shapes_of (map shape parts.items))) c.in-And.parts-is ∙ cheap-And true c.args.node.now c.in-And.parts c.in-And.is ∙ h in
    omega (arith, c.all_hold.ensures.price all, same, whole)

pub node_holds-returns-in-Not-clause-price : goal.node_holds-returns-in-Not-clause-price
node_holds-returns-in-Not-clause-price g t c =
    let cost = moves_for c.args.place.now in
    let same = ap (λ (part : Box RunNode Global). run_cost cost 2 (shape part.value)) c.in-Not.part-is in
    let whole = cost-Not cost 2 c.args.node.now c.in-Not.part c.in-Not.is in
    λ h.
    let own = ap (λ (part : Box RunNode Global). is_cheap_shape true (shape part.value)) c.in-Not.part-is ∙ cheap-Not true c.args.node.now c.in-Not.part c.in-Not.is ∙ h in
    omega (arith, c.part_holds.ensures.price own, same, whole)

pub node_holds-returns-in-Counted-clause-price : goal.node_holds-returns-in-Counted-clause-price
node_holds-returns-in-Counted-clause-price g t c =
    let cost = moves_for c.args.place.now in
    let same = ap (λ (run : RunCounts). counts_cost cost (counts_shape run)) c.in-Counted.counts-is in
    let whole = cost-Counted cost 2 c.args.node.now c.in-Counted.counts c.in-Counted.is in
    λ h. omega (arith, c.counts_hold.ensures.price, same, whole)

pub some_holds-returns-then-node_holds-clause-price : goal.some_holds-returns-then-node_holds-clause-price
some_holds-returns-then-node_holds-clause-price g t c =
    let views = map shape c.args.parts.now.items in
    let old = as_many shape c.args.parts.now.items views refl in
    let test = c.loop-number-test.true in
    let end = c.len-number-end.ensures in
    let now = as_many shape c.loop-number.parts.items views c.loop-number.invariant.same in
    λ h.
    costs_so_far (moves_for c.args.place.now) 2 views (c.loop-number.number + 1) c.args.moves.now c.node_holds.new.moves
    (one_more (run_cost (moves_for c.args.place.now) 2) views c.loop-number.number c.args.moves.now (shape c.index_mut.result.now) c.loop-number.moves c.node_holds.new.moves (omega arith)
    (part_at shape c.loop-number.parts.items views c.loop-number.number c.index_mut.result.now c.loop-number.invariant.same c.index_mut.ensures.value)
    (c.loop-number.invariant.price h)
    (c.node_holds.ensures.price (holds_at shape (λ own. is_cheap_shape true own ≡ true) c.loop-number.parts.items views c.loop-number.number c.index_mut.result.now (each_cheap true views h) c.loop-number.invariant.same (omega arith) c.index_mut.ensures.value)))

pub some_holds-returns-clause-price : goal.some_holds-returns-clause-price
some_holds-returns-clause-price g t c =
    λ h. costs_so_far (moves_for c.args.place.now) 2 (map shape c.args.parts.now.items) c.loop-number.number c.args.moves.now c.loop-number.moves (c.loop-number.invariant.price h)

pub all_hold-returns-then-not-node_holds-clause-price : goal.all_hold-returns-then-not-node_holds-clause-price
all_hold-returns-then-not-node_holds-clause-price g t c =
    let views = map shape c.args.parts.now.items in
    let old = as_many shape c.args.parts.now.items views refl in
    let test = c.loop-number-test.true in
    let end = c.len-number-end.ensures in
    let now = as_many shape c.loop-number.parts.items views c.loop-number.invariant.same in
    λ h.
    costs_so_far (moves_for c.args.place.now) 2 views (c.loop-number.number + 1) c.args.moves.now c.node_holds.new.moves
    (one_more (run_cost (moves_for c.args.place.now) 2) views c.loop-number.number c.args.moves.now (shape c.index_mut.result.now) c.loop-number.moves c.node_holds.new.moves (omega arith)
    (part_at shape c.loop-number.parts.items views c.loop-number.number c.index_mut.result.now c.loop-number.invariant.same c.index_mut.ensures.value)
    (c.loop-number.invariant.price h)
    (c.node_holds.ensures.price (holds_at shape (λ own. is_cheap_shape true own ≡ true) c.loop-number.parts.items views c.loop-number.number c.index_mut.result.now (each_cheap true views h) c.loop-number.invariant.same (omega arith) c.index_mut.ensures.value)))

pub all_hold-returns-clause-price : goal.all_hold-returns-clause-price
all_hold-returns-clause-price g t c =
    λ h. costs_so_far (moves_for c.args.place.now) 2 (map shape c.args.parts.now.items) c.loop-number.number c.args.moves.now c.loop-number.moves (c.loop-number.invariant.price h)
