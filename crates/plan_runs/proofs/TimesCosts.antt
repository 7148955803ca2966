-- Words that are counted in windows, sentences or paragraphs cost twice as much at most where they are paid twice, and a tree without them costs
-- the same.
use Rattle.std.proofs.Common.{◌≡◌, ◌≤◌, ◌+◌, ◌*◌, ℕ, true, false, true≢false, refl, sym, arith}
use Rattle.std.proofs.lemmas.Bool.{and_from, and_parts}
use Rattle.index_phrases.specs.declared.word_terms.WordTerms.{WordTerms}
use Rattle.plan_runs.specs.steps.CheapShapes.{are_cheap_shapes, is_cheap_shape}
use Rattle.plan_runs.specs.steps.RunCosts.{run_cost, run_costs}
use Rattle.plan_runs.specs.steps.RunShapes.{Shape, Shapes, none, more, words, any_of, all_of, not_of, by_ways, by_near, by_hits, by_merge, by_spots, by_counts}

module _ (cost : WordTerms → ℕ) where
  mutual
    unfolding run_cost run_costs

    pub cost_twice : (run : Shape) → run_cost cost 2 run ≤ 2 * run_cost cost 1 run
    cost_twice (words run) = omega arith
    cost_twice (any_of parts) = costs_twice parts
    cost_twice (all_of parts) = costs_twice parts
    cost_twice (not_of part) = cost_twice part
    cost_twice (by_ways run) = omega arith
    cost_twice (by_near run) = omega arith
    cost_twice (by_hits run) = omega arith
    cost_twice (by_merge merge) = omega arith
    cost_twice (by_spots run) = omega arith
    cost_twice (by_counts run) = omega arith

    costs_twice : (parts : Shapes) → run_costs cost 2 parts ≤ 2 * run_costs cost 1 parts
    costs_twice none = omega arith
    costs_twice (more part rest) =
        let first = cost_twice part in
        let others = costs_twice rest in
        omega (arith, first, others)

  mutual
    unfolding run_cost run_costs is_cheap_shape are_cheap_shapes

    pub cost_once : (run : Shape) → is_cheap_shape false run ≡ true → run_cost cost 2 run ≡ run_cost cost 1 run
    cost_once (words run) h = refl
    cost_once (any_of parts) h = costs_once parts h
    cost_once (all_of parts) h = costs_once parts h
    cost_once (not_of part) h = cost_once part h
    cost_once (by_ways run) h = refl
    cost_once (by_near run) h = refl
    cost_once (by_hits run) h = refl
    cost_once (by_merge merge) h = refl
    cost_once (by_spots run) h = refl
    cost_once (by_counts run) h = absurd (true≢false (sym h))

    costs_once : (parts : Shapes) → are_cheap_shapes false parts ≡ true → run_costs cost 2 parts ≡ run_costs cost 1 parts
    costs_once none h = refl
    costs_once (more part rest) h =
        let parts = and_parts (is_cheap_shape false part) (are_cheap_shapes false rest) h in
        λ i. cost_once part parts.0 i + costs_once rest parts.1 i

-- what is cheap without them is where they are allowed
mutual
  unfolding is_cheap_shape are_cheap_shapes

  pub cheap_allowed : (run : Shape) → is_cheap_shape false run ≡ true → is_cheap_shape true run ≡ true
  cheap_allowed (words run) h = refl
  cheap_allowed (any_of parts) h = each_allowed parts h
  cheap_allowed (all_of parts) h = each_allowed parts h
  cheap_allowed (not_of part) h = cheap_allowed part h
  cheap_allowed (by_ways run) h = h
  cheap_allowed (by_near run) h = h
  cheap_allowed (by_hits run) h = h
  cheap_allowed (by_merge merge) h = refl
  cheap_allowed (by_spots run) h = h
  cheap_allowed (by_counts run) h = refl

  each_allowed : (parts : Shapes) → are_cheap_shapes false parts ≡ true → are_cheap_shapes true parts ≡ true
  each_allowed none h = refl
  each_allowed (more part rest) h =
      let parts = and_parts (is_cheap_shape false part) (are_cheap_shapes false rest) h in
      and_from (is_cheap_shape true part) (are_cheap_shapes true rest) (cheap_allowed part parts.0) (each_allowed rest parts.1)
