-- What the symbols spell that the machine has read after the root, wherever it stands.
use Rattle.std.proofs.Common.{◌≡◌, ℕ, ◌+◌, Bool, true, false, List, [], ◌∷◌, ◌++◌, length, Option, Some, None, refl, sym, subst, append_assoc, arith}
use Rattle.std.proofs.lemmas.List.{append-nil, length-append}
use Rattle.std.specs.Prelude.{codes}
use Rattle.selection_grammar.specs.declared.symbol.Symbol.TheVariants as S
use Rattle.selection_grammar.specs.declared.symbol.Placed.{Placed}
use Rattle.selection_grammar.specs.Grammar.{Spot, at, name, Selection}
use Rattle.selection_grammar.specs.Shapes.{Shape}
use Rattle.selection_grammar.specs.steps.Machine as selection
use Rattle.selection_grammar.specs.Tree.{Tree}
use Rattle.path_grammar.specs.declared.path.NameTest.{NameTest}
use Rattle.path_grammar.specs.Form as form
use Rattle.path_grammar.specs.Form.{steps, predicates, joined, or_of, and_of}
use Rattle.path_grammar.specs.Grammar as g
use Rattle.path_grammar.specs.Grammar.{Inside, inside, Slashes, Test, Step, Steps, Predicate, Predicates, Ors, Ands, Primary, Rels, Rel}
use Rattle.path_grammar.specs.steps.Machine as m
use Rattle.path_grammar.specs.steps.Machine.{LastStep, all_steps, filtered, Ignoring, with_path, Joint, to_left, no_joint, ignored, ands_with, ors_with, condition_with, steps_condition, Frame, Stage, Inner, stand}

-- the same symbols and selections, written otherwise
pub same : {n k : ℕ} {u w : List Placed} {ss ts : List Inside} (R : ℕ → List Placed → List Inside → Type 0) → R n u ss → n ≡ k → u ≡ w → ss ≡ ts → R k w ts
same {n = n} {k = k} {u = u} {w = w} {ss = ss} R a e f h = subst (λ z. R k w z) h (subst (λ z. R k z ss) f (subst (λ z. R z u ss) e a))

-- what stands before the last `or`, and after it before the last `and`
pub data OrsBefore : ℕ → List Placed → List form.Condition → List Inside → Type 0 where
  none : {n : ℕ} → OrsBefore n [] [] []
  some : {n : ℕ} {u : List Placed} {xs : List form.Condition} {ss : List Inside} → Ors n u xs ss → (p : Spot) → OrsBefore n (u ++ name p (codes "or") ∷ []) xs ss

pub data AndsBefore : ℕ → List Placed → List form.Condition → List Inside → Type 0 where
  none : {n : ℕ} → AndsBefore n [] [] []
  some : {n : ℕ} {u : List Placed} {xs : List form.Condition} {ss : List Inside} → Ands n u xs ss → (p : Spot) → AndsBefore n (u ++ name p (codes "and") ∷ []) xs ss

pub data Before : ℕ → List Placed → Joint → List Inside → Type 0 where
  before : {n : ℕ} {u v : List Placed} {xs ys : List form.Condition} {ss ts : List Inside} → OrsBefore n u xs ss → AndsBefore (n + length ss) v ys ts
      → Before n (u ++ v) (to_left xs ys) (ss ++ ts)

-- steps of the path, or of a condition
pub data Walked : List Frame → ℕ → List Placed → List form.Step → List Inside → Type 0 where
  of_path : {n : ℕ} {u : List Placed} {xs : List form.Step} {ss : List Inside} → Steps n u xs ss → Walked [] n u xs ss
  of_condition : {frame : Frame} {outer : List Frame} {n : ℕ} {u : List Placed} {xs : List form.Step} {ss : List Inside} → Rel n u xs ss → Walked (frame ∷ outer) n u xs ss

-- and with a last one to which further predicates may belong
pub data Trail : List Frame → ℕ → List Placed → LastStep → List Inside → Type 0 where
  further : {frames : List Frame} {n : ℕ} {u v w z : List Placed} {xs : List form.Step} {deep : Bool} {test : NameTest} {ps : List form.Predicate} {ss ts : List Inside}
      → Walked frames n u xs ss → Slashes v deep → Test w test → Predicates (n + length ss) z ps ts
      → Trail frames n (u ++ v ++ w ++ z) (record { before = xs; deep = deep; test = test; filters = ps }) (ss ++ ts)
  first : {frame : Frame} {outer : List Frame} {n : ℕ} {u v : List Placed} {test : NameTest} {ps : List form.Predicate} {ss : List Inside}
      → Test u test → Predicates n v ps ss → Trail (frame ∷ outer) n (u ++ v) (record { before = []; deep = false; test = test; filters = ps }) ss

-- what stands before the last `|`, and up to where a path after `without content` begins
pub data RelsBefore : ℕ → List Placed → List form.Steps → List Inside → Type 0 where
  none : {n : ℕ} → RelsBefore n [] [] []
  some : {n : ℕ} {u : List Placed} {ys : List form.Steps} {ss : List Inside} → Rels n u ys ss → (p : Spot) → RelsBefore n (u ++ at p S.VerticalBar ∷ []) ys ss

pub data Ignored : ℕ → List Placed → Ignoring → List Inside → Type 0 where
  paths : {n : ℕ} {u v w : List Placed} {xs : List form.Step} {ys : List form.Steps} {ss ts : List Inside} {x : Tree} → Rel n u xs ss → (p q : Spot) → Selection v x → (r t : Spot)
      → RelsBefore (n + length (ss ++ inside v x ∷ [])) w ys ts
      → Ignored n (u ++ name p (codes "contains") ∷ name q (codes "text") ∷ v ++ name r (codes "without") ∷ name t (codes "content") ∷ w) (record { before = xs; selection = n + length ss; paths = ys })
      (ss ++ inside v x ∷ [] ++ ts)

-- a joint, by whether an ignored path is under way
pub data Kind : Joint → Type 0 where
  in_condition : (ors ands : List form.Condition) → Kind (to_left ors ands)
  in_ignored : (ors ands : List form.Condition) (i : Ignoring) → Kind (ignored ors ands i)

pub kind : (joint : Joint) → Kind joint
kind joint = go joint.ors joint.ands joint.ignoring
  where
    go : (ors ands : List form.Condition) (o : Option Ignoring) → Kind (record { ors = ors; ands = ands; ignoring = o })
    go ors ands None = Kind.in_condition ors ands
    go ors ands (Some i) = Kind.in_ignored ors ands i

-- the condition under way, or the steps of the path
pub data Under : List Frame → Joint → ℕ → List Placed → Stage → List Inside → Type 0 where
  no_step : {frames : List Frame} {joint : Joint} {n : ℕ} {u : List Placed} {ss : List Inside} → Walked frames n u [] ss → Under frames joint n u m.no_step ss
  slashes : {frames : List Frame} {joint : Joint} {n : ℕ} {u v : List Placed} {xs : List form.Step} {deep : Bool} {ss : List Inside} → Walked frames n u xs ss → Slashes v deep → Under frames joint n (u ++ v) (m.slashes xs deep) ss
  stepped : {frames : List Frame} {joint : Joint} {n : ℕ} {u : List Placed} {last : LastStep} {ss : List Inside} → Trail frames n u last ss → Under frames joint n u (m.stepped last) ss
  wanted : {frame : Frame} {outer : List Frame} {ors ands : List form.Condition} {n : ℕ} → Under (frame ∷ outer) (to_left ors ands) n [] (m.wanted false) []
  not_name : {frame : Frame} {outer : List Frame} {ors ands : List form.Condition} {n : ℕ} (p : Spot) → Under (frame ∷ outer) (to_left ors ands) n (name p (codes "not") ∷ []) m.not_name []
  at_sign : {frame : Frame} {outer : List Frame} {ors ands : List form.Condition} {n : ℕ} (p : Spot) → Under (frame ∷ outer) (to_left ors ands) n (at p S.At ∷ []) m.at_sign []
  attribute : {frame : Frame} {outer : List Frame} {ors ands : List form.Condition} {n : ℕ} (p q : Spot) (s : List ℕ) → Under (frame ∷ outer) (to_left ors ands) n (at p S.At ∷ name q s ∷ []) (m.attribute s) []
  equals : {frame : Frame} {outer : List Frame} {ors ands : List form.Condition} {n : ℕ} (p q r : Spot) (s : List ℕ) → Under (frame ∷ outer) (to_left ors ands) n (at p S.At ∷ name q s ∷ at r S.Equals ∷ []) (m.equals s) []
  ended : {frame : Frame} {outer : List Frame} {ors ands : List form.Condition} {n : ℕ} {u : List Placed} {c : form.Condition} {ss : List Inside} → Primary n u c ss → Under (frame ∷ outer) (to_left ors ands) n u (m.ended c) ss
  contains : {frame : Frame} {outer : List Frame} {ors ands : List form.Condition} {n : ℕ} {u : List Placed} {xs : List form.Step} {ss : List Inside} → Rel n u xs ss → (p : Spot) → Under (frame ∷ outer) (to_left ors ands) n (u ++ name p (codes "contains") ∷ []) (m.contains xs) ss
  selecting : {frame : Frame} {outer : List Frame} {ors ands : List form.Condition} {n : ℕ} {u : List Placed} {xs : List form.Step} {ss : List Inside} → Rel n u xs ss → (p q : Spot) (v : List Placed) (shape : Shape selection.State) → selection.read v ≡ Some shape
      → Under (frame ∷ outer) (to_left ors ands) n (u ++ name p (codes "contains") ∷ name q (codes "text") ∷ v) (m.selecting xs v shape) ss
  without : {frame : Frame} {outer : List Frame} {ors ands : List form.Condition} {n : ℕ} {u v : List Placed} {xs : List form.Step} {ss : List Inside} {x : Tree} → Rel n u xs ss → (p q : Spot) → Selection v x → (r : Spot) (k : ℕ) → k ≡ n + length ss
      → Under (frame ∷ outer) (to_left ors ands) n (u ++ name p (codes "contains") ∷ name q (codes "text") ∷ v ++ name r (codes "without") ∷ []) (m.without xs k) (ss ++ inside v x ∷ [])
  path_wanted : {frame : Frame} {outer : List Frame} {ors ands : List form.Condition} {i : Ignoring} {n : ℕ} → Under (frame ∷ outer) (ignored ors ands i) n [] m.path_wanted []

mutual
  -- up to where the condition under way begins, or the steps of the path
  pub data Place : List Placed → List Frame → Joint → List Inside → Type 0 where
    at_root : Place [] [] no_joint []
    in_condition : {frame : Frame} {outer : List Frame} {u v : List Placed} {joint : Joint} {ss ts : List Inside} → Opened u (frame ∷ outer) ss → Before (length ss) v joint ts → Place (u ++ v) (frame ∷ outer) joint (ss ++ ts)
    in_ignored : {frame : Frame} {outer : List Frame} {u v : List Placed} {ors ands : List form.Condition} {i : Ignoring} {ss ts : List Inside} → Place u (frame ∷ outer) (to_left ors ands) ss → Ignored (length ss) v i ts
        → Place (u ++ v) (frame ∷ outer) (ignored ors ands i) (ss ++ ts)

  -- up to the innermost bracket or parenthesis that is open
  pub data Opened : List Placed → List Frame → List Inside → Type 0 where
    brackets : {frames : List Frame} {u v : List Placed} {joint : Joint} {last : LastStep} {ss ts : List Inside} → Place u frames joint ss → Trail frames (length ss) v last ts → (p : Spot)
        → Opened (u ++ v ++ at p S.OpenBracket ∷ []) (m.brackets joint last ∷ frames) (ss ++ ts)
    parentheses : {frame : Frame} {outer : List Frame} {u : List Placed} {ors ands : List form.Condition} {ss : List Inside} → Place u (frame ∷ outer) (to_left ors ands) ss → (p : Spot)
        → Opened (u ++ at p S.OpenParenthesis ∷ []) (m.parentheses (to_left ors ands) ∷ frame ∷ outer) ss
    negation : {frame : Frame} {outer : List Frame} {u : List Placed} {ors ands : List form.Condition} {ss : List Inside} → Place u (frame ∷ outer) (to_left ors ands) ss → (p q : Spot)
        → Opened (u ++ name p (codes "not") ∷ at q S.OpenParenthesis ∷ []) (m.negation (to_left ors ands) ∷ frame ∷ outer) ss

pub data Stands : List Placed → Inner → Type 0 where
  under : {frames : List Frame} {u v : List Placed} {joint : Joint} {stage : Stage} {ss ts : List Inside} → Place u frames joint ss → Under frames joint (length ss) v stage ts → Stands (u ++ v) (stand frames joint (ss ++ ts) stage)
  bracket : {outer : List Frame} {u : List Placed} {joint : Joint} {last : LastStep} {ss : List Inside} → Opened u (m.brackets joint last ∷ outer) ss → Stands u (stand (m.brackets joint last ∷ outer) no_joint ss (m.wanted true))
  number : {outer : List Frame} {u : List Placed} {joint : Joint} {last : LastStep} {ss : List Inside} → Opened u (m.brackets joint last ∷ outer) ss → (p : Spot) (k : ℕ)
      → Stands (u ++ at p (S.Number k) ∷ []) (stand (m.brackets joint last ∷ outer) no_joint ss (m.number k))

pub stands_same : {u w : List Placed} {frames : List Frame} {joint : Joint} {ss ts : List Inside} {stage : Stage} → Stands u (stand frames joint ss stage) → u ≡ w → ss ≡ ts → Stands w (stand frames joint ts stage)
stands_same {u = u} {w = w} {frames = frames} {joint = joint} {ss = ss} {stage = stage} a e f = subst (λ z. Stands w (stand frames joint z stage)) f (subst (λ z. Stands z (stand frames joint ss stage)) e a)

-- numbers of selections
pub counts : (n : ℕ) (ss ts : List Inside) → n + length (ss ++ ts) ≡ n + length ss + length ts
counts n ss ts = omega (arith, length-append ss ts)

pub with_ands : {n : ℕ} {u v : List Placed} {xs : List form.Condition} {x : form.Condition} {ss ts : List Inside} → AndsBefore n u xs ss → Primary (n + length ss) v x ts → Ands n (u ++ v) (xs ++ x ∷ []) (ss ++ ts)
with_ands {n = n} {x = x} AndsBefore.none a = g.first_and (same (λ k u ss. Primary k u x ss) a (omega arith) refl refl)
with_ands {n = n} {v = v} {xs = xs} {x = x} (AndsBefore.some {u = u} a p) b = same (λ k z ss. Ands k z (xs ++ x ∷ []) ss) (g.further_and a p b) refl (sym (append_assoc u (name p (codes "and") ∷ []) v)) refl

pub with_ors : {n : ℕ} {u v : List Placed} {xs ys : List form.Condition} {ss ts : List Inside} → OrsBefore n u xs ss → Ands (n + length ss) v ys ts → Ors n (u ++ v) (xs ++ joined and_of ys ∷ []) (ss ++ ts)
with_ors {n = n} {ys = ys} OrsBefore.none a = g.first_or (same (λ k u ss. Ands k u ys ss) a (omega arith) refl refl)
with_ors {n = n} {v = v} {xs = xs} {ys = ys} (OrsBefore.some {u = u} a p) b = same (λ k z ss. Ors k z (xs ++ joined and_of ys ∷ []) ss) (g.further_or a p b) refl (sym (append_assoc u (name p (codes "or") ∷ []) v)) refl

ands_before : (n : ℕ) (ss : List Inside) {v w : List Placed} {xs : List form.Condition} {x : form.Condition} {ts rr : List Inside} → AndsBefore (n + length ss) v xs ts → Primary (n + length (ss ++ ts)) w x rr → Ands (n + length ss) (v ++ w) (xs ++ x ∷ []) (ts ++ rr)
ands_before n ss {x = x} {ts = ts} b a = with_ands b (same (λ k u ss. Primary k u x ss) a (counts n ss ts) refl refl)

pub with_joint : {n : ℕ} {u v : List Placed} {joint : Joint} {c : form.Condition} {ss ts : List Inside} → Before n u joint ss → Primary (n + length ss) v c ts → Ors n (u ++ v) (ors_with joint c) (ss ++ ts)
with_joint {n = n} {v = w} {c = c} {ts = rr} (Before.before {u = u} {v = v} {xs = xs} {ys = ys} {ss = ss} {ts = ts} o a) b =
    same (λ k z ss. Ors k z (xs ++ joined and_of (ys ++ c ∷ []) ∷ []) ss) (with_ors o (ands_before n ss a b)) refl (sym (append_assoc u v w)) (sym (append_assoc ss ts rr))

-- after `or` and `and`
pub after_or : {n : ℕ} {u v : List Placed} {joint : Joint} {c : form.Condition} {ss ts : List Inside} → Before n u joint ss → Primary (n + length ss) v c ts → (p : Spot)
    → Before n ((u ++ v) ++ name p (codes "or") ∷ []) (to_left (ors_with joint c) []) (ss ++ ts)
after_or {n = n} {u = u} {v = v} {joint = joint} {c = c} {ss = ss} {ts = ts} b a p =
    same (λ k z ss. Before k z (to_left (ors_with joint c) []) ss) (Before.before (OrsBefore.some (with_joint b a) p) AndsBefore.none) refl (append-nil ((u ++ v) ++ name p (codes "or") ∷ [])) (append-nil (ss ++ ts))

pub after_and : {n : ℕ} {u v : List Placed} {joint : Joint} {c : form.Condition} {ss ts : List Inside} → Before n u joint ss → Primary (n + length ss) v c ts → (p : Spot)
    → Before n ((u ++ v) ++ name p (codes "and") ∷ []) (to_left joint.ors (ands_with joint c)) (ss ++ ts)
after_and {n = n} {v = w} {c = c} {ts = rr} (Before.before {u = u} {v = v} {xs = xs} {ys = ys} {ss = ss} {ts = ts} o a) b p =
    same (λ k z ss. Before k z (to_left xs (ys ++ c ∷ [])) ss) (Before.before o (AndsBefore.some (ands_before n ss a b) p)) refl (regrouped u v w (name p (codes "and") ∷ [])) (sym (append_assoc ss ts rr))
  where
    regrouped : (u v w z : List Placed) → u ++ (v ++ w ++ z) ≡ u ++ v ++ w ++ z
    regrouped u v w z = simp append_assoc

-- after `|`, and after an ignored path
pub with_rels : {n : ℕ} {u v : List Placed} {ys : List form.Steps} {xs : List form.Step} {ss ts : List Inside} → RelsBefore n u ys ss → Rel (n + length ss) v xs ts → Rels n (u ++ v) (ys ++ steps xs ∷ []) (ss ++ ts)
with_rels {n = n} {xs = xs} RelsBefore.none a = g.first_rel (same (λ k u ss. Rel k u xs ss) a (omega arith) refl refl)
with_rels {n = n} {v = v} {ys = ys} {xs = xs} (RelsBefore.some {u = u} a p) b = same (λ k z ss. Rels k z (ys ++ steps xs ∷ []) ss) (g.further_rel a p b) refl (sym (append_assoc u (at p S.VerticalBar ∷ []) v)) refl

rels_before : (n : ℕ) (ss : List Inside) {v w : List Placed} {ys : List form.Steps} {xs : List form.Step} {ts rr : List Inside} → RelsBefore (n + length ss) v ys ts → Rel (n + length (ss ++ ts)) w xs rr → Rels (n + length ss) (v ++ w) (ys ++ steps xs ∷ []) (ts ++ rr)
rels_before n ss {xs = xs} {ts = ts} b a = with_rels b (same (λ k u ss. Rel k u xs ss) a (counts n ss ts) refl refl)

pub ignored_whole : {n : ℕ} {u v : List Placed} {i : Ignoring} {xs : List form.Step} {ss ts : List Inside} → Ignored n u i ss → Rel (n + length ss) v xs ts → Primary n (u ++ v) (steps_condition (Some i) xs) (ss ++ ts)
ignored_whole {n = n} {v = z} {i = i} {xs = xs} {ts = rr} (Ignored.paths {u = u} {v = v} {w = w} {ss = ss} {ts = ts} {x = x} rel p q selected r t b) a =
    same (λ k z ss. Primary k z (steps_condition (Some i) xs) ss) (g.without rel p q selected r t (rels_before n (ss ++ inside v x ∷ []) b a)) refl
    (sym (append_assoc (u ++ name p (codes "contains") ∷ name q (codes "text") ∷ v) (name r (codes "without") ∷ name t (codes "content") ∷ w) z)) (sym (append_assoc (ss ++ inside v x ∷ []) ts rr))

pub after_bar : {n : ℕ} {u v : List Placed} {i : Ignoring} {xs : List form.Step} {ss ts : List Inside} → Ignored n u i ss → Rel (n + length ss) v xs ts → (p : Spot)
    → Ignored n ((u ++ v) ++ at p S.VerticalBar ∷ []) (with_path i xs) (ss ++ ts)
after_bar {n = n} {v = z} {i = i} {xs = xs} {ts = rr} (Ignored.paths {u = u} {v = v} {w = w} {ss = ss} {ts = ts} {x = x} rel p q selected r t b) a o =
    same (λ k z ss. Ignored k z (with_path i xs) ss) (Ignored.paths rel p q selected r t (RelsBefore.some (rels_before n (ss ++ inside v x ∷ []) b a) o)) refl
    (regrouped (u ++ name p (codes "contains") ∷ name q (codes "text") ∷ v) (name r (codes "without") ∷ name t (codes "content") ∷ w) z (at o S.VerticalBar ∷ [])) (sym (append_assoc (ss ++ inside v x ∷ []) ts rr))
  where
    regrouped : (u w z o : List Placed) → u ++ (w ++ z ++ o) ≡ u ++ w ++ z ++ o
    regrouped u w z o = simp append_assoc

-- one more step
pub rel_step : {n : ℕ} {u v : List Placed} {xs : List form.Step} {x : form.Step} {ss ts : List Inside} → Rel n u xs ss → Step (n + length ss) v x ts → Rel n (u ++ v) (xs ++ x ∷ []) (ss ++ ts)
rel_step (Rel.itself p xs) x = Rel.itself p (g.further_step xs x)
rel_step {n = n} {v = z} {x = x} {ts = rr} (Rel.some_child {u = u} {v = v} {w = w} {test = test} {ps = ps} {xs = xs} {ss = ss} {tt = ts} t p xs') s =
    same (λ k z ss. Rel k z ((form.step false test (predicates ps) ∷ xs) ++ x ∷ []) ss) (Rel.some_child t p (g.further_step xs' (same (λ k u ss. Step k u x ss) s (counts n ss ts) refl refl))) refl (regrouped u v w z) (sym (append_assoc ss ts rr))
  where
    regrouped : (u v w z : List Placed) → u ++ v ++ (w ++ z) ≡ u ++ v ++ w ++ z
    regrouped u v w z = simp append_assoc

pub walked_same : {frames : List Frame} {n : ℕ} {u w : List Placed} {xs : List form.Step} {ss : List Inside} → Walked frames n u xs ss → u ≡ w → Walked frames n w xs ss
walked_same {frames = frames} {n = n} {xs = xs} {ss = ss} a e = subst (λ z. Walked frames n z xs ss) e a

pub walked_step : {frames : List Frame} {n : ℕ} {u v : List Placed} {xs : List form.Step} {x : form.Step} {ss ts : List Inside} → Walked frames n u xs ss → Step (n + length ss) v x ts → Walked frames n (u ++ v) (xs ++ x ∷ []) (ss ++ ts)
walked_step (Walked.of_path a) s = Walked.of_path (g.further_step a s)
walked_step (Walked.of_condition a) s = Walked.of_condition (rel_step a s)

pub trail_walked : {frames : List Frame} {n : ℕ} {u : List Placed} {last : LastStep} {ss : List Inside} → Trail frames n u last ss → Walked frames n u (all_steps last) ss
trail_walked (Trail.further {u = u} {v = v} {w = w} {z = z} a s t p) = walked_same (walked_step a (g.step s t p)) (regrouped u v w z)
  where
    regrouped : (u v w z : List Placed) → u ++ (v ++ w ++ z) ≡ u ++ v ++ w ++ z
    regrouped u v w z = simp append_assoc
trail_walked {n = n} (Trail.first {u = u} {v = v} {test = test} {ps = ps} {ss = ss} t p) =
    Walked.of_condition (same (λ k z ss. Rel k z (form.step false test (predicates ps) ∷ []) ss) (Rel.some_child t p Steps.no_step) refl (append-nil (u ++ v)) (append-nil ss))

pub trail_predicate : {frames : List Frame} {n : ℕ} {u v : List Placed} {last : LastStep} {x : form.Predicate} {ss ts : List Inside} → Trail frames n u last ss → Predicate (n + length ss) v x ts → Trail frames n (u ++ v) (filtered last x) (ss ++ ts)
trail_predicate {frames = frames} {n = n} {v = y} {x = x} {ts = rr} (Trail.further {u = u} {v = v} {w = w} {z = z} {xs = xs} {deep = deep} {test = test} {ps = ps} {ss = ss} {ts = ts} a s t p) b =
    same (λ k z ss. Trail frames k z (record { before = xs; deep = deep; test = test; filters = ps ++ x ∷ [] }) ss) (Trail.further a s t (g.further_predicate p (same (λ k u ss. Predicate k u x ss) b (counts n ss ts) refl refl))) refl (regrouped u v w z y) (sym (append_assoc ss ts rr))
  where
    regrouped : (u v w z y : List Placed) → u ++ v ++ w ++ (z ++ y) ≡ u ++ v ++ w ++ z ++ y
    regrouped u v w z y = simp append_assoc
trail_predicate {frames = frames} {n = n} {v = y} {x = x} (Trail.first {u = u} {v = v} {test = test} {ps = ps} t p) b =
    same (λ k z ss. Trail frames k z (record { before = []; deep = false; test = test; filters = ps ++ x ∷ [] }) ss) (Trail.first t (g.further_predicate p b)) refl (sym (append_assoc u v y)) refl
