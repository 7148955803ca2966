-- The machine goes through what the grammar spells.
use Rattle.std.proofs.Common.{◌≡◌, ℕ, ◌+◌, Bool, true, false, List, [], ◌∷◌, ◌++◌, length, arith}
use Rattle.std.proofs.lemmas.List.{length-append}
use Rattle.selection_grammar.specs.declared.symbol.Placed.{Placed}
use Rattle.path_grammar.specs.Form as form
use Rattle.path_grammar.specs.Grammar.{Inside, inside, Step, Steps, Predicate, Predicates, Ors, Ands, Primary, Rels, Rel}
use Rattle.path_grammar.specs.Levels.{step_levels, steps_levels, predicate_levels, predicates_levels, ors_levels, ands_levels, primary_levels, rels_levels, rel_levels}
use Rattle.path_grammar.specs.steps.Machine as m
use Rattle.path_grammar.specs.steps.Machine.{LastStep, tested, filtered, with_path, Joint, to_left, no_joint, ignored, ors_with, Frame, Stage, stand}
use Rattle.path_grammar.proofs.Walks.{Walks, AtStep, After, AtRel}
use Rattle.path_grammar.proofs.Conditions.{PredicatesWalk, StepsWalk, ConditionWalk, AndsWalk, OrsWalk, more_filters, no_predicates_walk, further_predicate_walk, number_walk, holds_walk, no_steps_walk, step_walk_of, further_step_walk, itself_walk, child_walk, filtered_walk, child_steps_walk}
use Rattle.path_grammar.proofs.Primaries.{negated_walk, parentheses_walk, attribute_walk, value_walk, exists_walk, contains_walk, from_paths, RelsWalk, first_rel_walk, further_rel_walk, without_walk, first_and_walk, further_and_walk, first_or_walk, further_or_walk}

counted : (n : ℕ) (all ss : List Inside) → length all ≡ n → length (all ++ ss) ≡ n + length ss
counted n all ss e = omega (arith, e, length-append all ss)

mutual
  pub step_walk : {n : ℕ} {u : List Placed} {x : form.Step} {ss : List Inside} {frames : List Frame} {xs : List form.Step} {stage : Stage} (a : Step n u x ss) (joint : Joint) (all : List Inside) → length all ≡ n → After frames xs stage
      → StepsWalk frames joint (all ++ ss) (stand frames joint all stage) u (xs ++ x ∷ []) (step_levels a)
  step_walk {xs = xs} (Step.step {deep = deep} {test = test} {ps = ps} slashes t filters) joint all e b = step_walk_of ps b slashes t (predicates_walk filters joint all e (AtStep.at_step (tested xs deep test)))

  pub steps_walk : {n : ℕ} {u : List Placed} {xs : List form.Step} {ss : List Inside} {frames : List Frame} {ys : List form.Step} {stage : Stage} (a : Steps n u xs ss) (joint : Joint) (all : List Inside) → length all ≡ n → After frames ys stage
      → StepsWalk frames joint (all ++ ss) (stand frames joint all stage) u (ys ++ xs) (steps_levels a)
  steps_walk Steps.no_step joint all e b = no_steps_walk joint all b
  steps_walk {n = n} {ys = ys} (Steps.further_step {xs = xs} {x = x} {ss = ss} {tt = more} before last) joint all e b =
      let w = steps_walk before joint all e b in
      further_step_walk all ss more ys xs x w (step_walk last joint (all ++ ss) (counted n all ss e) w.suffix)

  predicate_walk : {n : ℕ} {u : List Placed} {x : form.Predicate} {ss : List Inside} {frames : List Frame} {last : LastStep} {stage : Stage} (a : Predicate n u x ss) (joint : Joint) (all : List Inside) → length all ≡ n → AtStep frames last stage
      → Walks (stand frames joint all stage) u (stand frames joint (all ++ ss) (m.stepped (filtered last x))) (length frames + predicate_levels a)
  predicate_walk (Predicate.number p q r k) joint all e b = number_walk joint all p q r k b
  predicate_walk {frames = frames} {last = last} (Predicate.holds p inside q) joint all e b = holds_walk p q b (ors_walk inside (m.brackets joint last) frames all true e)

  predicates_walk : {n : ℕ} {u : List Placed} {xs : List form.Predicate} {ss : List Inside} {frames : List Frame} {last : LastStep} {stage : Stage} (a : Predicates n u xs ss) (joint : Joint) (all : List Inside) → length all ≡ n → AtStep frames last stage
      → PredicatesWalk frames joint (all ++ ss) (stand frames joint all stage) u (more_filters last xs) (predicates_levels a)
  predicates_walk Predicates.no_predicate joint all e b = no_predicates_walk joint all b
  predicates_walk {n = n} {last = last} (Predicates.further_predicate {xs = xs} {x = x} {ss = ss} {tt = more} before filter) joint all e b =
      let w = predicates_walk before joint all e b in
      further_predicate_walk all ss more last xs x (predicate_levels filter) w (predicate_walk filter joint (all ++ ss) (counted n all ss e) w.at_it)

  ors_walk : {n : ℕ} {u : List Placed} {xs : List form.Condition} {ss : List Inside} (a : Ors n u xs ss) (frame : Frame) (outer : List Frame) (all : List Inside) (first : Bool) → length all ≡ n
      → OrsWalk frame outer xs (all ++ ss) (stand (frame ∷ outer) no_joint all (m.wanted first)) u (ors_levels a)
  ors_walk (Ors.first_or xs) frame outer all first e = first_or_walk (ands_walk xs frame outer [] all first e)
  ors_walk {n = n} (Ors.further_or {ss = ss} {tt = more} before p ys) frame outer all first e =
      let w = ors_walk before frame outer all first e in
      further_or_walk all ss more p w (ands_walk ys frame outer (ors_with w.joint w.last) (all ++ ss) false (counted n all ss e))

  ands_walk : {n : ℕ} {u : List Placed} {xs : List form.Condition} {ss : List Inside} (a : Ands n u xs ss) (frame : Frame) (outer : List Frame) (ors : List form.Condition) (all : List Inside) (first : Bool) → length all ≡ n
      → AndsWalk frame outer ors xs (all ++ ss) (stand (frame ∷ outer) (to_left ors []) all (m.wanted first)) u (ands_levels a)
  ands_walk (Ands.first_and x) frame outer ors all first e = first_and_walk (primary_walk x frame outer ors [] all first e)
  ands_walk {n = n} (Ands.further_and {ss = ss} {tt = more} before p x) frame outer ors all first e =
      let w = ands_walk before frame outer ors all first e in
      further_and_walk all ss more p w (primary_walk x frame outer ors (w.first ++ w.last ∷ []) (all ++ ss) false (counted n all ss e))

  primary_walk : {n : ℕ} {u : List Placed} {c : form.Condition} {ss : List Inside} (a : Primary n u c ss) (frame : Frame) (outer : List Frame) (ors ands : List form.Condition) (all : List Inside) (first : Bool) → length all ≡ n
      → ConditionWalk frame outer (to_left ors ands) c (all ++ ss) (stand (frame ∷ outer) (to_left ors ands) all (m.wanted first)) u (primary_levels a)
  primary_walk (Primary.negated p q inside r) frame outer ors ands all first e = negated_walk first p q r (ors_walk inside (m.negation (to_left ors ands)) (frame ∷ outer) all false e)
  primary_walk (Primary.parentheses p inside q) frame outer ors ands all first e = parentheses_walk first p q (ors_walk inside (m.parentheses (to_left ors ands)) (frame ∷ outer) all false e)
  primary_walk (Primary.attribute p q s) frame outer ors ands all first e = attribute_walk frame outer (to_left ors ands) all first p q s
  primary_walk (Primary.valued p q r t s value) frame outer ors ands all first e = value_walk frame outer (to_left ors ands) all first p q r t s value
  primary_walk (Primary.exists xs) frame outer ors ands all first e = exists_walk ors ands (rel_walk xs frame outer (to_left ors ands) all (AtRel.wanted first) e)
  primary_walk {n = n} (Primary.contains {ss = ss} xs p q x) frame outer ors ands all first e = contains_walk n all ss p q e (rel_walk xs frame outer (to_left ors ands) all (AtRel.wanted first) e) x
  primary_walk {n = n} (Primary.without {v = v} {xs = before} {ss = ss} {tt = more} {x = tree} xs p q x r t ys) frame outer ors ands all first e =
      without_walk n all ss more p q r t e (rel_walk xs frame outer (to_left ors ands) all (AtRel.wanted first) e) x
      (rels_walk ys frame outer ors ands before (length (all ++ ss)) (all ++ (ss ++ inside v tree ∷ [])) (counted n all (ss ++ inside v tree ∷ []) e))

  rels_walk : {n : ℕ} {u : List Placed} {ys : List form.Steps} {ss : List Inside} (a : Rels n u ys ss) (frame : Frame) (outer : List Frame) (ors ands : List form.Condition) (before : List form.Step) (k : ℕ) (all : List Inside) → length all ≡ n
      → RelsWalk frame outer ors ands before k ys (all ++ ss) (stand (frame ∷ outer) (ignored ors ands (from_paths before k [])) all m.path_wanted) u (rels_levels a)
  rels_walk (Rels.first_rel xs) frame outer ors ands before k all e = first_rel_walk ors ands before k (rel_walk xs frame outer (ignored ors ands (from_paths before k [])) all AtRel.path_wanted e)
  rels_walk {n = n} (Rels.further_rel {ss = ss} {tt = more} ys p xs) frame outer ors ands before k all e =
      let w = rels_walk ys frame outer ors ands before k all e in
      further_rel_walk all ss more p w (rel_walk xs frame outer (ignored ors ands (with_path (from_paths before k w.first) w.last)) (all ++ ss) AtRel.path_wanted (counted n all ss e))

  rel_walk : {n : ℕ} {u : List Placed} {xs : List form.Step} {ss : List Inside} {stage : Stage} (a : Rel n u xs ss) (frame : Frame) (outer : List Frame) (joint : Joint) (all : List Inside) → AtRel stage → length all ≡ n
      → StepsWalk (frame ∷ outer) joint (all ++ ss) (stand (frame ∷ outer) joint all stage) u xs (rel_levels a)
  rel_walk (Rel.itself p xs) frame outer joint all b e = itself_walk b p (steps_walk xs joint all e After.after_none)
  rel_walk {n = n} (Rel.some_child {ss = ss} {tt = more} t filters xs) frame outer joint all b e =
      let c = child_walk frame outer joint all b t in
      let w = filtered_walk c (predicates_walk filters joint all e c.at_it) in
      child_steps_walk all ss more w (steps_walk xs joint (all ++ ss) (counted n all ss e) (After.after_step w.at_it))
