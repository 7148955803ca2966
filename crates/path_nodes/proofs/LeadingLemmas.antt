-- Where the conditions of a part stand among those of the path.
use Rattle.std.proofs.Common.{◌≡◌, ◌+◌, ◌<◌, ℕ, List, [], ◌∷◌, ◌++◌, map, drop, length, get_or, refl, sym, ap, ◌∙◌, arith, append-nil}
use Rattle.std.proofs.lemmas.List.{append_assoc, drop-drop, drop_more, length-append}
use Rattle.std.proofs.Math.Seq.{drop-append_seam}
use Rattle.path_grammar.specs.Form as form
use Rattle.path_grammar.specs.View.{step, predicate, condition, relative_path}
use Rattle.path_grammar.specs.declared.path.Step.{Step}
use Rattle.path_grammar.specs.declared.path.Predicate.{Predicate}
use Rattle.path_grammar.specs.declared.path.Condition.{Condition}
use Rattle.path_grammar.specs.declared.path.RelativePath.{RelativePath, out-RelativePath}
use Rattle.path_nodes.specs.steps.Leading.{StandFrom, in_steps, in_step, in_predicates, in_predicate, in_condition, in_conditions, in_paths}
use Rattle.path_nodes.proofs.AskedLemmas.{step-is, path-is}

-- ---- one part, then the rest

pub steps-from : (xs : List Step) (i : ℕ) (d : Step) → i < length xs
    → in_steps (form.steps (map step (drop i xs))) ≡ in_step (step (get_or xs i d)) ++ in_steps (form.steps (map step (drop (i + 1) xs)))
unfolding in_steps
steps-from xs i d lt = ap (λ l. in_steps (form.steps (map step l))) (drop_more xs i d lt)

pub predicates-from : (xs : List Predicate) (i : ℕ) (d : Predicate) → i < length xs
    → in_predicates (form.predicates (map predicate (drop i xs))) ≡ in_predicate (predicate (get_or xs i d)) ++ in_predicates (form.predicates (map predicate (drop (i + 1) xs)))
unfolding in_predicates
predicates-from xs i d lt = ap (λ l. in_predicates (form.predicates (map predicate l))) (drop_more xs i d lt)

pub conditions-from : (xs : List Condition) (i : ℕ) (d : Condition) → i < length xs
    → in_conditions (form.conditions (map condition (drop i xs))) ≡ in_condition (condition (get_or xs i d)) ++ in_conditions (form.conditions (map condition (drop (i + 1) xs)))
unfolding in_conditions
conditions-from xs i d lt = ap (λ l. in_conditions (form.conditions (map condition l))) (drop_more xs i d lt)

pub paths-from : (xs : List RelativePath) (i : ℕ) (d : RelativePath) → i < length xs
    → in_paths (form.paths (map relative_path (drop i xs))) ≡ in_steps (form.steps (map step (out-RelativePath (get_or xs i d)).steps)) ++ in_paths (form.paths (map relative_path (drop (i + 1) xs)))
unfolding in_paths
paths-from xs i d lt =
    ap (λ l. in_paths (form.paths (map relative_path l))) (drop_more xs i d lt)
    ∙ ap (λ s. in_steps s ++ in_paths (form.paths (map relative_path (drop (i + 1) xs)))) (path-is (get_or xs i d))

pub in-step : (s : Step) → in_step (step s) ≡ in_predicates (form.predicates (map predicate s.predicates))
unfolding in_step
in-step s = ap in_step (step-is s)

-- ---- the number after a part

module _ (part rest all : List form.Condition) (whole : all ≡ part ++ rest) where
  pub after-next : (number after bound : ℕ) → after ≡ number + length part → number + length all ≡ bound → after + length rest ≡ bound
  after-next number after bound is before =
      let long : length all ≡ length part + length rest = ap length whole ∙ length-append part rest in
      omega (arith, long, is, before)

  -- ---- parts among all conditions of a path

  module _ (path : List form.Condition) (number : ℕ) (h : StandFrom path number all) where
    pub stand-first : StandFrom path number part
    stand-first = (rest ++ h.0, h.1 ∙ ap (λ l. l ++ h.0) whole ∙ append_assoc part rest h.0)

    pub stand-next : (after : ℕ) → after ≡ number + length part → StandFrom path after rest
    stand-next after is = (
      h.0,
      ap (λ n. drop n path) is ∙ sym (drop-drop (length part) number path) ∙ ap (drop (length part)) (h.1 ∙ ap (λ l. l ++ h.0) whole ∙ append_assoc part rest h.0)
          ∙ drop-append_seam part (rest ++ h.0),
    )

pub stand-all : (all : List form.Condition) → StandFrom all 0 all
stand-all all = ([], sym (append-nil all))

-- ---- a condition that leads somewhere, and those inside its steps

pub stand-itself : (path : List form.Condition) (number : ℕ) (c : form.Condition) (inside : List form.Condition) → StandFrom path number (c ∷ inside) → StandFrom path number (c ∷ [])
stand-itself path number c inside h = stand-first (c ∷ []) inside (c ∷ inside) refl path number h

pub stand-inside : (path : List form.Condition) (number next : ℕ) (c : form.Condition) (inside : List form.Condition) → StandFrom path number (c ∷ inside) → next ≡ number + 1 → StandFrom path next inside
stand-inside path number next c inside h is = stand-next (c ∷ []) inside (c ∷ inside) refl path number h next is

-- a number has one condition
pub same-condition : (path : List form.Condition) (number : ℕ) (c d : form.Condition) → StandFrom path number (c ∷ []) → StandFrom path number (d ∷ []) → c ≡ d
same-condition path number c d (r, h) (s, i) = let e : c ∷ r ≡ d ∷ s = sym h ∙ i in cc
