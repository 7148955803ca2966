-- How deep the brackets and parentheses of a path stand in one another, those of its selections not counted.
use Rattle.std.specs.Prelude.{ℕ, suc, max, ◌≤◌, List, [], ◌∷◌, ◌++◌}
use Rattle.selection_grammar.specs.declared.symbol.Placed.{Placed}
use Rattle.path_grammar.specs.Form as form
use Rattle.path_grammar.specs.Grammar.{Inside, Step, Steps, Predicate, Predicates, Ors, Ands, Primary, Rels, Rel, Path, step, no_step, further_step}
use Rattle.path_grammar.specs.Grammar.{number, holds, no_predicate, further_predicate, first_or, further_or, first_and, further_and}
use Rattle.path_grammar.specs.Grammar.{negated, parentheses, attribute, valued, exists, contains, without, first_rel, further_rel, itself, some_child, path, Begins}

abbrev mutual
  pub step_levels : {n : ℕ} {u : List Placed} {x : form.Step} {ss : List Inside} → Step n u x ss → ℕ
  step_levels (step slashes test ps) = predicates_levels ps

  pub steps_levels : {n : ℕ} {u : List Placed} {xs : List form.Step} {ss : List Inside} → Steps n u xs ss → ℕ
  steps_levels no_step = 0
  steps_levels (further_step xs x) = max (steps_levels xs) (step_levels x)

  pub predicate_levels : {n : ℕ} {u : List Placed} {x : form.Predicate} {ss : List Inside} → Predicate n u x ss → ℕ
  predicate_levels (number p q r k) = 1
  predicate_levels (holds p xs q) = suc (ors_levels xs)

  pub predicates_levels : {n : ℕ} {u : List Placed} {xs : List form.Predicate} {ss : List Inside} → Predicates n u xs ss → ℕ
  predicates_levels no_predicate = 0
  predicates_levels (further_predicate xs x) = max (predicates_levels xs) (predicate_levels x)

  pub ors_levels : {n : ℕ} {u : List Placed} {xs : List form.Condition} {ss : List Inside} → Ors n u xs ss → ℕ
  ors_levels (first_or xs) = ands_levels xs
  ors_levels (further_or xs p ys) = max (ors_levels xs) (ands_levels ys)

  pub ands_levels : {n : ℕ} {u : List Placed} {xs : List form.Condition} {ss : List Inside} → Ands n u xs ss → ℕ
  ands_levels (first_and x) = primary_levels x
  ands_levels (further_and xs p x) = max (ands_levels xs) (primary_levels x)

  pub primary_levels : {n : ℕ} {u : List Placed} {x : form.Condition} {ss : List Inside} → Primary n u x ss → ℕ
  primary_levels (negated p q xs r) = suc (ors_levels xs)
  primary_levels (parentheses p xs q) = suc (ors_levels xs)
  primary_levels (attribute p q s) = 0
  primary_levels (valued p q r t s value) = 0
  primary_levels (exists xs) = rel_levels xs
  primary_levels (contains xs p q selection) = rel_levels xs
  primary_levels (without xs p q selection r t ys) = max (rel_levels xs) (rels_levels ys)

  pub rels_levels : {n : ℕ} {u : List Placed} {ys : List form.Steps} {ss : List Inside} → Rels n u ys ss → ℕ
  rels_levels (first_rel xs) = rel_levels xs
  rels_levels (further_rel ys p xs) = max (rels_levels ys) (rel_levels xs)

  pub rel_levels : {n : ℕ} {u : List Placed} {xs : List form.Step} {ss : List Inside} → Rel n u xs ss → ℕ
  rel_levels (itself p xs) = steps_levels xs
  rel_levels (some_child test ps xs) = max (predicates_levels ps) (steps_levels xs)

abbrev pub levels : {symbols : List Placed} {value : form.Path} {ss : List Inside} → Path symbols value ss → ℕ
levels (path root xs x) = max (steps_levels xs) (step_levels x)

-- some further symbols make them a whole path of at most so many levels
abbrev pub BeginsWithin : ℕ → List Placed → Type 0
BeginsWithin most symbols =
    (rest : List Placed) × (value : form.Path) × (selections : List Inside) × (whole : Path (symbols ++ rest) value selections) × (levels whole ≤ most)

-- After some symbols a bracket or a parenthesis opens a level past the most: some path goes on with it, but none within the most.
abbrev pub OpensTooDeep : ℕ → List Placed → Placed → Type 0
OpensTooDeep most symbols p = BeginsWithin most symbols × Begins (symbols ++ p ∷ []) × (BeginsWithin most (symbols ++ p ∷ []) → ⊥)
