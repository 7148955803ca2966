-- The shape of each kind of a run's tree, and what it says.
use Rattle.std.proofs.Common.{◌≡◌, map, Box, Global, rules}
use Rattle.std.specs.declared.vec.Vec.{Vec}
use Rattle.plan_runs.specs.steps.RunShapes.{hits_shape, merge_shape, near_shape, shape, shapes_of, words_shape, words, any_of, all_of, not_of, by_ways, by_near, by_hits, by_merge, ways_shape, by_spots, placed_shape, by_counts, counts_shape}
use Rattle.plan_runs.specs.declared.run_node.RunWords.{RunWords}
use Rattle.plan_runs.specs.declared.run_counts.RunCounts.{RunCounts}
use Rattle.plan_runs.specs.declared.run_hits.RunHits.{RunHits}
use Rattle.plan_runs.specs.declared.run_merge.RunMerge.{RunMerge}
use Rattle.plan_runs.specs.declared.run_near.RunNear.{RunNear}
use Rattle.plan_runs.specs.declared.run_placed.RunPlaced.{RunPlaced}
use Rattle.plan_runs.specs.declared.run_ways.RunWays.{RunWays}
use Rattle.plan_runs.specs.declared.run_node.RunNode.{RunNode, Words, Or, And, Not, Ways, Near, Hits, Merge, the_lemmas, Placed, Counted}

pub shape-Words : (run : RunWords) → shape (Words run) ≡ words (words_shape run)
unfolding shape
shape-Words run = search (rules, the_lemmas)

pub shape-Or : (parts : Vec RunNode Global) → shape (Or parts) ≡ any_of (shapes_of (map shape parts.items))
unfolding shape
shape-Or parts = search (rules, the_lemmas)

pub shape-And : (parts : Vec RunNode Global) → shape (And parts) ≡ all_of (shapes_of (map shape parts.items))
unfolding shape
shape-And parts = search (rules, the_lemmas)

pub shape-Not : (part : Box RunNode Global) → shape (Not part) ≡ not_of (shape part.value)
unfolding shape
shape-Not part = search (rules, the_lemmas)

pub shape-Ways : (run : Box RunWays Global) → shape (Ways run) ≡ by_ways (ways_shape run.value)
unfolding shape
shape-Ways run = search (rules, the_lemmas)

pub shape-Near : (run : Box RunNear Global) → shape (Near run) ≡ by_near (near_shape run.value)
unfolding shape
shape-Near run = search (rules, the_lemmas)

pub shape-Hits : (run : Box RunHits Global) → shape (Hits run) ≡ by_hits (hits_shape run.value)
unfolding shape
shape-Hits run = search (rules, the_lemmas)

pub shape-Merge : (run : RunMerge) → shape (Merge run) ≡ by_merge (merge_shape run)
unfolding shape
shape-Merge run = search (rules, the_lemmas)

pub shape-Placed : (run : RunPlaced) → shape (Placed run) ≡ by_spots (placed_shape run)
unfolding shape
shape-Placed run = search (rules, the_lemmas)

pub shape-Counted : (run : RunCounts) → shape (Counted run) ≡ by_counts (counts_shape run)
unfolding shape
shape-Counted run = search (rules, the_lemmas)
