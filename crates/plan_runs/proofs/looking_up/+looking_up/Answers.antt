-- Each kind is looked up by its parts, which keep their shapes, and is missing where they are.
use Rattle.std.proofs.Common.{◌<◌, ◌∙◌, ap, sym, refl, rules, length, map, arith, Box, Global, Vec}
use Rattle.std.proofs.lemmas.Simd.{map-map}
use Rattle.index_versions.specs.FirstPlaces.{soonest}
use Rattle.index_phrases.proofs.PartLemmas.{as_many, part_at, parts_kept}
use Rattle.plan_runs.specs.steps.RunShapes.{counts_shape, hits_shape, merge_shape, near_shape, placed_shape, shape, shapes_of, words_shape}
use Rattle.plan_runs.specs.declared.run_node.RunNode.{RunNode, the_lemmas}
use Rattle.plan_runs.specs.declared.run_node.RunNode as R
use Rattle.plan_runs.specs.declared.run_counts.RunCounts.{RunCounts}
use Rattle.plan_runs.specs.declared.run_hits.RunHits.{RunHits}
use Rattle.plan_runs.specs.declared.run_near.RunNear.{RunNear}
use Rattle.plan_runs.specs.declared.run_ways.RunWays.{RunWays}
use Rattle.plan_runs.specs.steps.OpenedOperators.{aims_of}
use Rattle.plan_runs.specs.steps.RunSkips.{counts_skip, merge_skip, placed_skip, skip, words_skip}
use Rattle.plan_runs.specs.steps.Skips.{latest, skip_of}
use Rattle.plan_runs.specs.declared.run_merge.RunMerge.{RunMerge}
use Rattle.plan_runs.specs.declared.run_node.RunWords.{RunWords}
use Rattle.plan_runs.specs.declared.run_placed.RunPlaced.{RunPlaced}
use Rattle.plan_runs.proofs.MissingLemmas.{all_missing, missing_more, one_missing}
use Rattle.plan_runs.proofs.SkipViews.{skip-And, skip-Counted, skip-Hits, skip-Merge, skip-Near, skip-Or, skip-Placed, skip-Ways, skip-Words}
use Rattle.plan_runs.proofs.TreeLemmas.{same-And, same-Counted, same-Hits, same-Merge, same-Near, same-Or, same-Placed, same-Ways, same-Words, weights, weight_at, weight-And, weight-Or}
use Rattle.plan_runs.proofs.looking_up.+looking_up.Goals as goal

pub look_one_up-look_up-requires : goal.look_one_up-look_up-requires
look_one_up-look_up-requires t c =
    let views = map shape c.args.parts.now.items in
    let old = as_many shape c.args.parts.now.items views refl in
    let now = as_many shape c.loop-number.parts.items views c.loop-number.invariant.same in
    let test = c.loop-number-test.true in
    let end = c.len-number-end.ensures in
    let at = part_at shape c.loop-number.parts.items views c.loop-number.number c.index_mut.result.now c.loop-number.invariant.same c.index_mut.ensures.value in
    let deep = weight_at views c.loop-number.number (shape c.index_mut.result.now) (omega arith) at in
    (omega arith, tt)

pub look_one_up-loop-number-preserved : goal.look_one_up-loop-number-preserved
look_one_up-loop-number-preserved t c =
    let views = map shape c.args.parts.now.items in
    let old = as_many shape c.args.parts.now.items views refl in
    let test = c.loop-number-test.true in
    let end = c.len-number-end.ensures in
    let within : c.loop-number.number < length views = omega arith in
    let at = part_at shape c.loop-number.parts.items views c.loop-number.number c.index_mut.result.now c.loop-number.invariant.same c.index_mut.ensures.value in
    record {
      same = parts_kept shape c.loop-number.parts.items views c.loop-number.number c.index_mut.result.now c.look_up.new.node
          c.loop-number.invariant.same c.index_mut.ensures.value c.look_up.ensures.same;
      none = λ h.
          missing_more (λ part own. skip c.args.doc.0 part own) views c.loop-number.number (shape c.index_mut.result.now) within at
          (c.loop-number.invariant.none (c.either-may.ensures.other h)) (c.look_up.ensures.none (c.either-may.ensures.one h));
    }

pub look_one_up-returns-clause-none : goal.look_one_up-returns-clause-none
look_one_up-returns-clause-none t c h =
    let views = map shape c.args.parts.now.items in
    let old = as_many shape c.args.parts.now.items views refl in
    let test = c.loop-number-test.false in
    let end = c.len-number-end.ensures in
    all_missing (λ part own. skip c.args.doc.0 part own) views c.loop-number.number (omega arith) (c.loop-number.invariant.none h)

pub look_all_up-look_up-requires : goal.look_all_up-look_up-requires
look_all_up-look_up-requires t c =
    let views = map shape c.args.parts.now.items in
    let old = as_many shape c.args.parts.now.items views refl in
    let now = as_many shape c.loop-number.parts.items views c.loop-number.invariant in
    let test = c.loop-number-test.true in
    let end = c.len-number-end.ensures in
    let at = part_at shape c.loop-number.parts.items views c.loop-number.number c.index_mut.result.now c.loop-number.invariant c.index_mut.ensures.value in
    let deep = weight_at views c.loop-number.number (shape c.index_mut.result.now) (omega arith) at in
    (omega arith, tt)

pub look_all_up-returns-then-not-look_up-clause-same : goal.look_all_up-returns-then-not-look_up-clause-same
look_all_up-returns-then-not-look_up-clause-same t c =
    parts_kept shape c.loop-number.parts.items (map shape c.args.parts.now.items) c.loop-number.number c.index_mut.result.now c.look_up.new.node
    c.loop-number.invariant c.index_mut.ensures.value c.look_up.ensures.same

pub look_all_up-returns-then-not-look_up-clause-none : goal.look_all_up-returns-then-not-look_up-clause-none
look_all_up-returns-then-not-look_up-clause-none t c h =
    let views = map shape c.args.parts.now.items in
    let old = as_many shape c.args.parts.now.items views refl in
    let test = c.loop-number-test.true in
    let end = c.len-number-end.ensures in
    let within : c.loop-number.number < length views = omega arith in
    one_missing (λ part own. skip c.args.doc.0 part own) views c.loop-number.number (shape c.index_mut.result.now) within
    (part_at shape c.loop-number.parts.items views c.loop-number.number c.index_mut.result.now c.loop-number.invariant c.index_mut.ensures.value)
    (c.look_up.ensures.none c.if-not-look_up.true)

pub look_all_up-loop-number-preserved : goal.look_all_up-loop-number-preserved
look_all_up-loop-number-preserved t c =
    parts_kept shape c.loop-number.parts.items (map shape c.args.parts.now.items) c.loop-number.number c.index_mut.result.now c.look_up.new.node
    c.loop-number.invariant c.index_mut.ensures.value c.look_up.ensures.same

pub look_up-look_one_up-requires : goal.look_up-look_one_up-requires
look_up-look_one_up-requires t c =
    let deep = weight-Or c.args.node.now c.in-Or.parts c.in-Or.is in
    let same = ap (λ (parts : Vec RunNode Global). weights (shapes_of (map shape parts.items))) c.in-Or.parts-is in
    (omega (arith, c.decreases), tt)

pub look_up-look_all_up-requires : goal.look_up-look_all_up-requires
look_up-look_all_up-requires t c =
    let deep = weight-And c.args.node.now c.in-And.parts c.in-And.is in
    let same = ap (λ (parts : Vec RunNode Global). weights (shapes_of (map shape parts.items))) c.in-And.parts-is in
    (omega (arith, c.decreases), tt)

pub look_up-returns-in-Words-clause-same : goal.look_up-returns-in-Words-clause-same
look_up-returns-in-Words-clause-same t c =
    let same = same-Words (R.Words c.in-Words.words) c.in-Words.words c.look_words_up.new.words refl (c.look_words_up.ensures.same ∙ ap words_shape c.in-Words.words-is) in
    rw c.in-Words.is (search (rules, the_lemmas, same))

pub look_up-returns-in-Or-clause-same : goal.look_up-returns-in-Or-clause-same
look_up-returns-in-Or-clause-same t c =
    let same = same-Or c.args.node.now c.in-Or.parts c.look_one_up.new.parts c.in-Or.is (c.look_one_up.ensures.same ∙ ap (λ (parts : Vec RunNode Global). map shape parts.items) c.in-Or.parts-is) in
    search (rules, the_lemmas, same, c.in-Or.is)

pub look_up-returns-in-And-clause-same : goal.look_up-returns-in-And-clause-same
look_up-returns-in-And-clause-same t c =
    let same = same-And c.args.node.now c.in-And.parts c.look_all_up.new.parts c.in-And.is (c.look_all_up.ensures.same ∙ ap (λ (parts : Vec RunNode Global). map shape parts.items) c.in-And.parts-is) in
    search (rules, the_lemmas, same, c.in-And.is)

pub look_up-returns-in-Ways-clause-same : goal.look_up-returns-in-Ways-clause-same
look_up-returns-in-Ways-clause-same t c =
    let same = same-Ways (R.Ways c.in-Ways.ways) c.in-Ways.ways c.look_ways_up.new.ways refl (c.look_ways_up.ensures.aims ∙ ap (λ (run : Box RunWays Global). aims_of run.value.tuples) c.in-Ways.ways-is)
    (c.look_ways_up.ensures.needs ∙ ap (λ (run : Box RunWays Global). skip_of run.value.needs) c.in-Ways.ways-is) in
    rw c.in-Ways.is (search (rules, the_lemmas, same))

pub look_up-returns-in-Near-clause-same : goal.look_up-returns-in-Near-clause-same
look_up-returns-in-Near-clause-same t c =
    let same = same-Near (R.Near c.in-Near.near) c.in-Near.near c.look_near_up.new.near refl (c.look_near_up.ensures.same ∙ ap (λ (run : Box RunNear Global). near_shape run.value) c.in-Near.near-is) in
    rw c.in-Near.is (search (rules, the_lemmas, same))

pub look_up-returns-in-Hits-clause-same : goal.look_up-returns-in-Hits-clause-same
look_up-returns-in-Hits-clause-same t c =
    let same = same-Hits (R.Hits c.in-Hits.hits) c.in-Hits.hits c.look_hits_up.new.hits refl (c.look_hits_up.ensures.same ∙ ap (λ (run : Box RunHits Global). hits_shape run.value) c.in-Hits.hits-is) in
    rw c.in-Hits.is (search (rules, the_lemmas, same))

pub look_up-returns-in-Merge-clause-same : goal.look_up-returns-in-Merge-clause-same
look_up-returns-in-Merge-clause-same t c =
    let same = same-Merge (R.Merge c.in-Merge.merge) c.in-Merge.merge c.look_merge_up.new.merge refl (c.look_merge_up.ensures.same ∙ ap merge_shape c.in-Merge.merge-is) in
    rw c.in-Merge.is (search (rules, the_lemmas, same))

pub look_up-returns-in-Placed-clause-same : goal.look_up-returns-in-Placed-clause-same
look_up-returns-in-Placed-clause-same t c =
    let same = same-Placed (R.Placed c.in-Placed.placed) c.in-Placed.placed c.look_placed_up.new.placed refl (c.look_placed_up.ensures.same ∙ ap placed_shape c.in-Placed.placed-is) in
    rw c.in-Placed.is (search (rules, the_lemmas, same))

pub look_up-returns-in-Counted-clause-same : goal.look_up-returns-in-Counted-clause-same
look_up-returns-in-Counted-clause-same t c =
    let same = same-Counted (R.Counted c.in-Counted.counts) c.in-Counted.counts c.look_counts_up.new.counts refl (c.look_counts_up.ensures.same ∙ ap counts_shape c.in-Counted.counts-is) in
    rw c.in-Counted.is (search (rules, the_lemmas, same))

-- ---- what is missing

pub look_up-returns-in-Words-clause-none : goal.look_up-returns-in-Words-clause-none
look_up-returns-in-Words-clause-none t c h part =
    let doc = c.args.doc.0 in
    ap (λ n. skip doc part (shape n)) c.in-Words.is
    ∙ skip-Words doc part c.in-Words.words
    ∙ sym (ap (λ (words : RunWords). words_skip doc part (words_shape words)) c.in-Words.words-is)
    ∙ c.look_words_up.ensures.none h part

pub look_up-returns-in-Or-clause-none : goal.look_up-returns-in-Or-clause-none
look_up-returns-in-Or-clause-none t c h part =
    let doc = c.args.doc.0 in
    ap (λ n. skip doc part (shape n)) c.in-Or.is
    ∙ skip-Or doc part c.in-Or.parts
    ∙ sym (ap soonest (map-map (skip doc part) shape c.in-Or.parts.items))
    ∙ sym (ap (λ (parts : Vec RunNode Global). soonest (map (skip doc part) (map shape parts.items))) c.in-Or.parts-is)
    ∙ c.look_one_up.ensures.none h part

pub look_up-returns-in-And-clause-none : goal.look_up-returns-in-And-clause-none
look_up-returns-in-And-clause-none t c h part =
    let doc = c.args.doc.0 in
    ap (λ n. skip doc part (shape n)) c.in-And.is
    ∙ skip-And doc part c.in-And.parts
    ∙ sym (ap latest (map-map (skip doc part) shape c.in-And.parts.items))
    ∙ sym (ap (λ (parts : Vec RunNode Global). latest (map (skip doc part) (map shape parts.items))) c.in-And.parts-is)
    ∙ c.look_all_up.ensures.none h part

pub look_up-returns-in-Ways-clause-none : goal.look_up-returns-in-Ways-clause-none
look_up-returns-in-Ways-clause-none t c h part =
    let doc = c.args.doc.0 in
    ap (λ n. skip doc part (shape n)) c.in-Ways.is
    ∙ skip-Ways doc part c.in-Ways.ways
    ∙ sym (ap (λ (ways : Box RunWays Global). skip_of ways.value.needs doc part) c.in-Ways.ways-is)
    ∙ c.look_ways_up.ensures.none h part

pub look_up-returns-in-Near-clause-none : goal.look_up-returns-in-Near-clause-none
look_up-returns-in-Near-clause-none t c h part =
    let doc = c.args.doc.0 in
    ap (λ n. skip doc part (shape n)) c.in-Near.is
    ∙ skip-Near doc part c.in-Near.near
    ∙ sym (ap (λ (near : Box RunNear Global). skip_of near.value.needs doc part) c.in-Near.near-is)
    ∙ c.look_near_up.ensures.none h part

pub look_up-returns-in-Hits-clause-none : goal.look_up-returns-in-Hits-clause-none
look_up-returns-in-Hits-clause-none t c h part =
    let doc = c.args.doc.0 in
    ap (λ n. skip doc part (shape n)) c.in-Hits.is
    ∙ skip-Hits doc part c.in-Hits.hits
    ∙ sym (ap (λ (hits : Box RunHits Global). skip_of hits.value.needs doc part) c.in-Hits.hits-is)
    ∙ c.look_hits_up.ensures.none h part

pub look_up-returns-in-Merge-clause-none : goal.look_up-returns-in-Merge-clause-none
look_up-returns-in-Merge-clause-none t c h part =
    let doc = c.args.doc.0 in
    ap (λ n. skip doc part (shape n)) c.in-Merge.is
    ∙ skip-Merge doc part c.in-Merge.merge
    ∙ sym (ap (λ (merge : RunMerge). merge_skip doc part (merge_shape merge)) c.in-Merge.merge-is)
    ∙ c.look_merge_up.ensures.none h part

pub look_up-returns-in-Placed-clause-none : goal.look_up-returns-in-Placed-clause-none
look_up-returns-in-Placed-clause-none t c h part =
    let doc = c.args.doc.0 in
    ap (λ n. skip doc part (shape n)) c.in-Placed.is
    ∙ skip-Placed doc part c.in-Placed.placed
    ∙ sym (ap (λ (placed : RunPlaced). placed_skip doc part (placed_shape placed)) c.in-Placed.placed-is)
    ∙ c.look_placed_up.ensures.none h part

pub look_up-returns-in-Counted-clause-none : goal.look_up-returns-in-Counted-clause-none
look_up-returns-in-Counted-clause-none t c h part =
    let doc = c.args.doc.0 in
    ap (λ n. skip doc part (shape n)) c.in-Counted.is
    ∙ skip-Counted doc part c.in-Counted.counts
    ∙ sym (ap (λ (counts : RunCounts). counts_skip doc part (counts_shape counts)) c.in-Counted.counts-is)
    ∙ c.look_counts_up.ensures.none h part
