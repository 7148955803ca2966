-- What each kind skips, and the terms that are read for it.
use Rattle.std.proofs.Common.{◌≡◌, ◌+◌, true, true≢false, get_or, length, map, refl, sym, ap, ◌∙◌, subst, Some, arith}
use Rattle.std.proofs.lemmas.List.{length-map}
use Rattle.index_phrases.proofs.PartLemmas.{part_at}
use Rattle.index_versions.specs.FirstPlaces.{sooner, soonest}
use Rattle.plan_runs.specs.steps.CheapShapes.{is_cheap_shape}
use Rattle.plan_runs.specs.steps.RunCosts.{run_cost, term_count}
use Rattle.plan_runs.specs.steps.RunShapes.{shape}
use Rattle.plan_runs.specs.steps.RunSkips.{skip}
use Rattle.plan_runs.specs.steps.Skips.{later, latest, skip_of}
use Rattle.plan_runs.proofs.SkipLemmas.{fold_more, one_is_none}
use Rattle.plan_runs.proofs.SumLemmas.{one_more}
use Rattle.plan_runs.proofs.TreeLemmas.{cheap-And, cheap-Hits, cheap-Near, cheap-Or, cheap-Placed, cheap-Ways, cost-And, cost-Counted, cost-Merge, cost-Or, cost-Words, costs_so_far, each_cheap}
use Rattle.plan_runs.proofs.SkipViews.{skip-Words, skip-Or, skip-And, skip-Not, skip-Ways, skip-Near, skip-Hits, skip-Merge, words_listed, skip-Placed, skip-Counted}
use Rattle.plan_runs.specs.declared.run_hits.RunHits.{RunHits}
use Rattle.plan_runs.specs.declared.run_near.RunNear.{RunNear}
use Rattle.plan_runs.specs.declared.run_ways.RunWays.{RunWays}
use Rattle.plan_runs.proofs.skipping.+skipping.Goals as goal

pub skip-returns-in-Words-clause-says : goal.skip-returns-in-Words-clause-says
skip-returns-in-Words-clause-says g t c =
    let doc = c.args.doc.0 in
    c.words_skip.ensures.says ∙ words_listed doc c.args.part c.in-Words.words ∙ sym (ap (λ n. skip doc c.args.part (shape n)) c.in-Words.is ∙ skip-Words doc c.args.part c.in-Words.words)

pub skip-returns-in-Or-clause-says : goal.skip-returns-in-Or-clause-says
skip-returns-in-Or-clause-says g t c =
    let doc = c.args.doc.0 in
    c.first_skip.ensures.says ∙ sym (ap (λ n. skip doc c.args.part (shape n)) c.in-Or.is ∙ skip-Or doc c.args.part c.in-Or.nodes)

pub skip-returns-in-And-clause-says : goal.skip-returns-in-And-clause-says
skip-returns-in-And-clause-says g t c =
    let doc = c.args.doc.0 in
    c.last_skip.ensures.says ∙ sym (ap (λ n. skip doc c.args.part (shape n)) c.in-And.is ∙ skip-And doc c.args.part c.in-And.nodes)

pub skip-returns-in-Not-clause-says : goal.skip-returns-in-Not-clause-says
skip-returns-in-Not-clause-says g t c =
    let doc = c.args.doc.0 in
    sym (ap (λ n. skip doc c.args.part (shape n)) c.in-Not.is ∙ skip-Not doc c.args.part c.in-Not._node)

pub skip-returns-in-Ways-clause-says : goal.skip-returns-in-Ways-clause-says
skip-returns-in-Ways-clause-says g t c =
    let doc = c.args.doc.0 in
    c.needs_skip.ensures.says ∙ ap (λ (ways : RunWays). skip_of ways.needs doc c.args.part) c.deref.ensures
    ∙ sym (ap (λ n. skip doc c.args.part (shape n)) c.in-Ways.is ∙ skip-Ways doc c.args.part c.in-Ways.ways)

pub skip-returns-in-Near-clause-says : goal.skip-returns-in-Near-clause-says
skip-returns-in-Near-clause-says g t c =
    let doc = c.args.doc.0 in
    c.needs_skip-in-Near.ensures.says ∙ ap (λ (near : RunNear). skip_of near.needs doc c.args.part) c.deref-in-Near.ensures
    ∙ sym (ap (λ n. skip doc c.args.part (shape n)) c.in-Near.is ∙ skip-Near doc c.args.part c.in-Near.near)

pub skip-returns-in-Hits-clause-says : goal.skip-returns-in-Hits-clause-says
skip-returns-in-Hits-clause-says g t c =
    let doc = c.args.doc.0 in
    c.needs_skip-in-Hits.ensures.says ∙ ap (λ (hits : RunHits). skip_of hits.needs doc c.args.part) c.deref-in-Hits.ensures
    ∙ sym (ap (λ n. skip doc c.args.part (shape n)) c.in-Hits.is ∙ skip-Hits doc c.args.part c.in-Hits.hits)

pub skip-returns-in-Merge-clause-says : goal.skip-returns-in-Merge-clause-says
skip-returns-in-Merge-clause-says g t c =
    let doc = c.args.doc.0 in
    c.merge_skip.ensures.says ∙ sym (ap (λ n. skip doc c.args.part (shape n)) c.in-Merge.is ∙ skip-Merge doc c.args.part c.in-Merge.merge)

pub skip-returns-in-Counted-clause-says : goal.skip-returns-in-Counted-clause-says
skip-returns-in-Counted-clause-says g t c =
    let doc = c.args.doc.0 in
    c.counts_skip.ensures.says ∙ sym (ap (λ n. skip doc c.args.part (shape n)) c.in-Counted.is ∙ skip-Counted doc c.args.part c.in-Counted.counts)

pub skip-returns-in-Placed-clause-says : goal.skip-returns-in-Placed-clause-says
skip-returns-in-Placed-clause-says g t c =
    let doc = c.args.doc.0 in
    c.placed_skip.ensures.says ∙ sym (ap (λ n. skip doc c.args.part (shape n)) c.in-Placed.is ∙ skip-Placed doc c.args.part c.in-Placed.placed)

pub last_skip-returns-in-None-clause-says : goal.last_skip-returns-in-None-clause-says
last_skip-returns-in-None-clause-says g t c =
    one_is_none (λ node. skip c.args.doc.0 c.args.part (shape node)) c.args.nodes.now.items c.deref-node-items.result.now c.loop-node.node-index c.node-item.result (Some c.loop-node.last) c.deref-node-items.ensures.value
    c.loop-node-test.true c.node-item.is (sym c.skip.ensures.says ∙ c.in-None.is) c.loop-node.invariant.skip

-- ---- the terms that are read

pub skip-returns-in-Words-clause-price : goal.skip-returns-in-Words-clause-price
skip-returns-in-Words-clause-price g t c =
    let whole = cost-Words term_count 1 c.args.node.now c.in-Words.words c.in-Words.is in
    λ h. omega (arith, c.words_skip.ensures.price, whole)

pub skip-returns-in-Or-clause-price : goal.skip-returns-in-Or-clause-price
skip-returns-in-Or-clause-price g t c =
    let whole = cost-Or term_count 1 c.args.node.now c.in-Or.nodes c.in-Or.is in
    λ h. omega (arith, c.first_skip.ensures.price (cheap-Or true c.args.node.now c.in-Or.nodes c.in-Or.is ∙ h), whole)

pub skip-returns-in-And-clause-price : goal.skip-returns-in-And-clause-price
skip-returns-in-And-clause-price g t c =
    let whole = cost-And term_count 1 c.args.node.now c.in-And.nodes c.in-And.is in
    λ h. omega (arith, c.last_skip.ensures.price (cheap-And true c.args.node.now c.in-And.nodes c.in-And.is ∙ h), whole)

pub skip-returns-in-Ways-clause-price : goal.skip-returns-in-Ways-clause-price
skip-returns-in-Ways-clause-price g t c h = absurd (true≢false (sym h ∙ cheap-Ways true c.args.node.now c.in-Ways.ways c.in-Ways.is))

pub skip-returns-in-Near-clause-price : goal.skip-returns-in-Near-clause-price
skip-returns-in-Near-clause-price g t c h = absurd (true≢false (sym h ∙ cheap-Near true c.args.node.now c.in-Near.near c.in-Near.is))

pub skip-returns-in-Hits-clause-price : goal.skip-returns-in-Hits-clause-price
skip-returns-in-Hits-clause-price g t c h = absurd (true≢false (sym h ∙ cheap-Hits true c.args.node.now c.in-Hits.hits c.in-Hits.is))

pub skip-returns-in-Merge-clause-price : goal.skip-returns-in-Merge-clause-price
skip-returns-in-Merge-clause-price g t c =
    let whole = cost-Merge term_count 1 c.args.node.now c.in-Merge.merge c.in-Merge.is in
    λ h. omega (arith, c.merge_skip.ensures.price, whole)

pub skip-returns-in-Counted-clause-price : goal.skip-returns-in-Counted-clause-price
skip-returns-in-Counted-clause-price g t c =
    let whole = cost-Counted term_count 1 c.args.node.now c.in-Counted.counts c.in-Counted.is in
    λ h. omega (arith, c.counts_skip.ensures.price, whole)

pub skip-returns-in-Placed-clause-price : goal.skip-returns-in-Placed-clause-price
skip-returns-in-Placed-clause-price g t c h = absurd (true≢false (sym h ∙ cheap-Placed true c.args.node.now c.in-Placed.placed c.in-Placed.is))

-- ---- several parts

pub first_skip-loop-node-preserved : goal.first_skip-loop-node-preserved
first_skip-loop-node-preserved g t c =
    let doc = c.args.doc.0 in
    let nodes = c.args.nodes.now.items in
    let items = c.deref-node-items.result.now in
    let i = c.loop-node.node-index in
    let node = c.node-item.result in
    let same = c.deref-node-items.ensures.value in
    let long = ap length same in
    let within = c.loop-node-test.true in
    let at : shape node ≡ get_or (map shape nodes) i (shape node) = part_at shape nodes (map shape nodes) i node refl (c.node-item.is ∙ ap (λ l. get_or l i node) same) in
    let many = length-map nodes shape in
    record {
      skip = fold_more sooner (λ node. skip doc c.args.part (shape node)) nodes items i node c.loop-node.first c.sooner-first.result
          (soonest (map (λ node. skip doc c.args.part (shape node)) nodes)) same within c.node-item.is
          (c.sooner-first.ensures ∙ ap (sooner c.loop-node.first) c.skip.ensures.says) c.loop-node.invariant.skip;
      price = λ h.
          one_more (run_cost term_count 1) (map shape nodes) i c.args.moves.now (shape node) c.loop-node.moves c.skip.new.moves (omega (arith, within, long, many)) at
          (c.loop-node.invariant.price h)
          (c.skip.ensures.price (subst (λ own. is_cheap_shape true own ≡ true) (sym at) (each_cheap true (map shape nodes) h i (shape node) (omega (arith, within, long, many)))));
      grown = omega (arith, c.loop-node.invariant.grown, c.skip.ensures.grown);
    }

pub first_skip-returns-clause-price : goal.first_skip-returns-clause-price
first_skip-returns-clause-price g t c =
    λ h. costs_so_far term_count 1 (map shape c.args.nodes.now.items) c.loop-node.node-index c.args.moves.now c.loop-node.moves (c.loop-node.invariant.price h)

pub last_skip-loop-node-preserved : goal.last_skip-loop-node-preserved
last_skip-loop-node-preserved g t c =
    let doc = c.args.doc.0 in
    let nodes = c.args.nodes.now.items in
    let items = c.deref-node-items.result.now in
    let i = c.loop-node.node-index in
    let node = c.node-item.result in
    let same = c.deref-node-items.ensures.value in
    let long = ap length same in
    let within = c.loop-node-test.true in
    let at : shape node ≡ get_or (map shape nodes) i (shape node) = part_at shape nodes (map shape nodes) i node refl (c.node-item.is ∙ ap (λ l. get_or l i node) same) in
    let many = length-map nodes shape in
    record {
      skip = fold_more later (λ node. skip doc c.args.part (shape node)) nodes items i node (Some c.loop-node.last) (Some c.greater-last.result)
          (latest (map (λ node. skip doc c.args.part (shape node)) nodes)) same within c.node-item.is
          (ap Some c.greater-last.ensures ∙ ap (later (Some c.loop-node.last)) (sym c.in-Some.is ∙ c.skip.ensures.says)) c.loop-node.invariant.skip;
      price = λ h.
          one_more (run_cost term_count 1) (map shape nodes) i c.args.moves.now (shape node) c.loop-node.moves c.skip.new.moves (omega (arith, within, long, many)) at
          (c.loop-node.invariant.price h)
          (c.skip.ensures.price (subst (λ own. is_cheap_shape true own ≡ true) (sym at) (each_cheap true (map shape nodes) h i (shape node) (omega (arith, within, long, many)))));
      grown = omega (arith, c.loop-node.invariant.grown, c.skip.ensures.grown);
    }

pub last_skip-returns-in-None-clause-price : goal.last_skip-returns-in-None-clause-price
last_skip-returns-in-None-clause-price g t c =
    let nodes = c.args.nodes.now.items in
    let i = c.loop-node.node-index in
    let node = c.node-item.result in
    let same = c.deref-node-items.ensures.value in
    let long = ap length same in
    let within = c.loop-node-test.true in
    let at : shape node ≡ get_or (map shape nodes) i (shape node) = part_at shape nodes (map shape nodes) i node refl (c.node-item.is ∙ ap (λ l. get_or l i node) same) in
    let many = length-map nodes shape in
    λ h.
    costs_so_far term_count 1 (map shape nodes) (i + 1) c.args.moves.now c.skip.new.moves
    (one_more (run_cost term_count 1) (map shape nodes) i c.args.moves.now (shape node) c.loop-node.moves c.skip.new.moves (omega (arith, within, long, many)) at
    (c.loop-node.invariant.price h)
    (c.skip.ensures.price (subst (λ own. is_cheap_shape true own ≡ true) (sym at) (each_cheap true (map shape nodes) h i (shape node) (omega (arith, within, long, many))))))

pub last_skip-returns-clause-price : goal.last_skip-returns-clause-price
last_skip-returns-clause-price g t c =
    λ h. costs_so_far term_count 1 (map shape c.args.nodes.now.items) c.loop-node.node-index c.args.moves.now c.loop-node.moves (c.loop-node.invariant.price h)
