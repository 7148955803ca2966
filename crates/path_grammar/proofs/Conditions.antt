-- How the machine's ways through the parts of a path are put together.
use Rattle.std.proofs.Common.{◌≡◌, ℕ, suc, ◌+◌, Bool, true, false, cond, List, [], ◌∷◌, ◌++◌, length, Some, None, refl, sym, ◌∙◌, ap, subst, append_assoc, append-nil, arith}
use Rattle.std.specs.Prelude.{codes, max}
use Rattle.selection_grammar.specs.declared.symbol.Symbol.TheVariants as S
use Rattle.selection_grammar.specs.declared.symbol.Placed.{Placed}
use Rattle.selection_grammar.specs.Grammar.{Spot, at, name}
use Rattle.selection_grammar.specs.Shapes.{is_word}
use Rattle.selection_grammar.proofs.Words.{word_is}
use Rattle.path_grammar.specs.declared.path.NameTest.{NameTest}
use Rattle.path_grammar.specs.declared.path.NameTest.TheVariants as T
use Rattle.path_grammar.specs.Form as form
use Rattle.path_grammar.specs.Form.{steps, predicates, joined, or_of, and_of}
use Rattle.path_grammar.specs.Grammar.{Inside, Slashes, Test}
use Rattle.path_grammar.specs.steps.Machine as m
use Rattle.path_grammar.specs.steps.Machine.{LastStep, tested, all_steps, filtered, Joint, to_left, no_joint, ands_with, ors_with, Frame, Stage, Inner, stand, advance_inner}
use Rattle.path_grammar.proofs.Followers.{Follower}
use Rattle.path_grammar.proofs.Walks.{Walks, stays, one, goes_on, walks_same, AtStep, After, bracket_opens, slash_walk, test_walk, AtRel, period_leads, Ends}

-- after predicates, after steps, and after conditions
pub record PredicatesWalk (frames : List Frame) (joint : Joint) (all : List Inside) (s : Inner) (u : List Placed) (last : LastStep) (levels : ℕ) : Type 0 where
  pub stage : Stage
  pub at_it : AtStep frames last stage
  pub walks : Walks s u (stand frames joint all stage) (length frames + levels)

pub record StepsWalk (frames : List Frame) (joint : Joint) (all : List Inside) (s : Inner) (u : List Placed) (xs : List form.Step) (levels : ℕ) : Type 0 where
  pub stage : Stage
  pub suffix : After frames xs stage
  pub walks : Walks s u (stand frames joint all stage) (length frames + levels)

pub record ConditionWalk (frame : Frame) (outer : List Frame) (joint : Joint) (c : form.Condition) (all : List Inside) (s : Inner) (u : List Placed) (levels : ℕ) : Type 0 where
  pub there : Inner
  pub walks : Walks s u there (suc (length outer) + levels)
  pub ends : Ends frame outer joint c all there

pub record AndsWalk (frame : Frame) (outer : List Frame) (ors xs : List form.Condition) (all : List Inside) (s : Inner) (u : List Placed) (levels : ℕ) : Type 0 where
  pub there : Inner
  pub walks : Walks s u there (suc (length outer) + levels)
  pub first : List form.Condition
  pub last : form.Condition
  pub conditions : first ++ last ∷ [] ≡ xs
  pub ends : Ends frame outer (to_left ors first) last all there

pub record OrsWalk (frame : Frame) (outer : List Frame) (xs : List form.Condition) (all : List Inside) (s : Inner) (u : List Placed) (levels : ℕ) : Type 0 where
  pub there : Inner
  pub walks : Walks s u there (suc (length outer) + levels)
  pub joint : Joint
  pub last : form.Condition
  pub conditions : ors_with joint last ≡ xs
  pub ends : Ends frame outer joint last all there

abbrev pub more_filters : LastStep → List form.Predicate → LastStep
more_filters last ps = record { before = last.before; deep = last.deep; test = last.test; filters = last.filters ++ ps }

-- the same, written otherwise
pub predicates_same : {frames : List Frame} {joint : Joint} {all more : List Inside} {s : Inner} {u : List Placed} {last next : LastStep} {k : ℕ}
    → PredicatesWalk frames joint all s u last k → all ≡ more → last ≡ next → PredicatesWalk frames joint more s u next k
predicates_same {frames = frames} {joint = joint} {more = more} {s = s} {u = u} {last = last} {k = k} a e f =
    subst (λ z. PredicatesWalk frames joint more s u z k) f (subst (λ z. PredicatesWalk frames joint z s u last k) e a)

pub steps_same : {frames : List Frame} {joint : Joint} {all more : List Inside} {s : Inner} {u : List Placed} {xs ys : List form.Step} {k : ℕ}
    → StepsWalk frames joint all s u xs k → all ≡ more → xs ≡ ys → StepsWalk frames joint more s u ys k
steps_same {frames = frames} {joint = joint} {more = more} {s = s} {u = u} {xs = xs} {k = k} a e f =
    subst (λ z. StepsWalk frames joint more s u z k) f (subst (λ z. StepsWalk frames joint z s u xs k) e a)

pub condition_same : {frame : Frame} {outer : List Frame} {joint : Joint} {c d : form.Condition} {all more : List Inside} {s : Inner} {u w : List Placed} {k : ℕ}
    → ConditionWalk frame outer joint c all s u k → c ≡ d → all ≡ more → u ≡ w → ConditionWalk frame outer joint d more s w k
condition_same {frame = frame} {outer = outer} {joint = joint} {d = d} {all = all} {more = more} {s = s} {u = u} {k = k} a e f h =
    subst (λ z. ConditionWalk frame outer joint d more s z k) h (subst (λ z. ConditionWalk frame outer joint d z s u k) f (subst (λ z. ConditionWalk frame outer joint z all s u k) e a))

walks_all : {frames : List Frame} {joint : Joint} {stage : Stage} {all more : List Inside} {s : Inner} {u : List Placed} {k : ℕ} → Walks s u (stand frames joint all stage) k → all ≡ more → Walks s u (stand frames joint more stage) k
walks_all {frames = frames} {joint = joint} {stage = stage} {s = s} {u = u} {k = k} a e = subst (λ z. Walks s u (stand frames joint z stage) k) e a

-- predicates
pub no_predicates_walk : {frames : List Frame} (joint : Joint) (all : List Inside) {last : LastStep} {stage : Stage} → AtStep frames last stage → PredicatesWalk frames joint (all ++ []) (stand frames joint all stage) [] (more_filters last []) 0
no_predicates_walk {frames = frames} joint all {last = last} {stage = stage} a =
    predicates_same (record { stage = stage; at_it = a; walks = walks_same (stays (stand frames joint all stage)) refl (omega arith) }) (sym (append-nil all))
    (ap (λ z. record { before = last.before; deep = last.deep; test = last.test; filters = z }) (sym (append-nil last.filters)))

pub further_predicate_walk : {frames : List Frame} {joint : Joint} {s : Inner} {u v : List Placed} {k : ℕ} (all ss tt : List Inside) (last : LastStep) (xs : List form.Predicate) (x : form.Predicate) (l : ℕ)
    → (b : PredicatesWalk frames joint (all ++ ss) s u (more_filters last xs) k) → Walks (stand frames joint (all ++ ss) b.stage) v (stand frames joint (all ++ ss ++ tt) (m.stepped (filtered (more_filters last xs) x))) (length frames + l)
    → PredicatesWalk frames joint (all ++ (ss ++ tt)) s (u ++ v) (more_filters last (xs ++ x ∷ [])) (max k l)
further_predicate_walk all ss tt last xs x l b w =
    predicates_same (record { stage = m.stepped (filtered (more_filters last xs) x); at_it = AtStep.at_step (filtered (more_filters last xs) x); walks = walks_same (goes_on b.walks w) refl (omega arith) }) (append_assoc all ss tt)
    (ap (λ z. record { before = last.before; deep = last.deep; test = last.test; filters = z }) (append_assoc last.filters xs (x ∷ [])))

pub number_walk : {frames : List Frame} (joint : Joint) (all : List Inside) {last : LastStep} {stage : Stage} (p q r : Spot) (k : ℕ) → AtStep frames last stage
    → Walks (stand frames joint all stage) (at p S.OpenBracket ∷ at q (S.Number k) ∷ at r S.CloseBracket ∷ []) (stand frames joint (all ++ []) (m.stepped (filtered last (form.number k)))) (length frames + 1)
number_walk {frames = frames} joint all {last = last} p q r k a =
    walks_all (walks_same (goes_on (one (at p S.OpenBracket) (bracket_opens joint all p a)) (goes_on numbered closed)) refl (omega arith)) (sym (append-nil all))
  where
    numbered : Walks (stand (m.brackets joint last ∷ frames) no_joint all (m.wanted true)) (at q (S.Number k) ∷ []) (stand (m.brackets joint last ∷ frames) no_joint all (m.number k)) (max (suc (length frames)) (suc (length frames)))
    numbered = one (at q (S.Number k)) refl

    closed : Walks (stand (m.brackets joint last ∷ frames) no_joint all (m.number k)) (at r S.CloseBracket ∷ []) (stand frames joint all (m.stepped (filtered last (form.number k)))) (max (suc (length frames)) (length frames))
    closed = one (at r S.CloseBracket) refl

pub holds_walk : {frames : List Frame} {joint : Joint} {all more : List Inside} {last : LastStep} {stage : Stage} {xs : List form.Condition} {u : List Placed} {l : ℕ} (p q : Spot) → AtStep frames last stage
    → OrsWalk (m.brackets joint last) frames xs more (stand (m.brackets joint last ∷ frames) no_joint all (m.wanted true)) u l
    → Walks (stand frames joint all stage) (at p S.OpenBracket ∷ u ++ at q S.CloseBracket ∷ []) (stand frames joint more (m.stepped (filtered last (form.holds (joined or_of xs))))) (length frames + suc l)
holds_walk {frames = frames} {joint = joint} {all = all} {more = more} {last = last} p q a w =
    walks_same (goes_on (one (at p S.OpenBracket) (bracket_opens joint all p a)) (goes_on w.walks (one (at q S.CloseBracket)
    (w.ends.takes q S.CloseBracket Follower.close_bracket ∙ ap (λ z. Some (stand frames joint more (m.stepped (filtered last (form.holds (joined or_of z)))))) w.conditions)))) refl (omega (arith, ap length w.ends.frames_are))

-- steps
pub no_steps_walk : {frames : List Frame} (joint : Joint) (all : List Inside) {xs : List form.Step} {stage : Stage} → After frames xs stage → StepsWalk frames joint (all ++ []) (stand frames joint all stage) [] (xs ++ []) 0
no_steps_walk {frames = frames} joint all {xs = xs} {stage = stage} a = steps_same (record { stage = stage; suffix = a; walks = walks_same (stays (stand frames joint all stage)) refl (omega arith) }) (sym (append-nil all)) (sym (append-nil xs))

pub step_walk_of : {frames : List Frame} {joint : Joint} {all more : List Inside} {xs : List form.Step} {stage : Stage} {u v w : List Placed} {deep : Bool} {test : NameTest} {l : ℕ} (ps : List form.Predicate) → After frames xs stage → Slashes u deep → Test v test
    → PredicatesWalk frames joint more (stand frames joint all (m.stepped (tested xs deep test))) w (more_filters (tested xs deep test) ps) l
    → StepsWalk frames joint more (stand frames joint all stage) (u ++ v ++ w) (xs ++ form.step deep test (predicates ps) ∷ []) l
step_walk_of {frames = frames} {joint = joint} {all = all} {xs = xs} {deep = deep} ps a s t w = record {
  stage = w.stage;
  suffix = After.after_step w.at_it;
  walks = walks_same (goes_on (goes_on (slash_walk joint all a s) (test_walk frames joint all xs deep t)) w.walks) refl (omega arith);
}

pub further_step_walk : {frames : List Frame} {joint : Joint} {s : Inner} {u v : List Placed} {k l : ℕ} (all ss tt : List Inside) (ys xs : List form.Step) (x : form.Step)
    → (b : StepsWalk frames joint (all ++ ss) s u (ys ++ xs) k) → StepsWalk frames joint (all ++ ss ++ tt) (stand frames joint (all ++ ss) b.stage) v (ys ++ xs ++ x ∷ []) l
    → StepsWalk frames joint (all ++ (ss ++ tt)) s (u ++ v) (ys ++ (xs ++ x ∷ [])) (max k l)
further_step_walk all ss tt ys xs x b w =
    steps_same (record { stage = w.stage; suffix = w.suffix; walks = walks_same (goes_on b.walks w.walks) refl (omega arith) }) (append_assoc all ss tt) (append_assoc ys xs (x ∷ []))

-- the steps of a condition
pub itself_walk : {frame : Frame} {outer : List Frame} {joint : Joint} {all more : List Inside} {stage : Stage} {u : List Placed} {xs : List form.Step} {l : ℕ} → AtRel stage → (p : Spot)
    → StepsWalk (frame ∷ outer) joint more (stand (frame ∷ outer) joint all m.no_step) u xs l
    → StepsWalk (frame ∷ outer) joint more (stand (frame ∷ outer) joint all stage) (at p S.Period ∷ u) xs l
itself_walk {frame = frame} {outer = outer} {joint = joint} {all = all} {stage = stage} b p w = record { stage = w.stage; suffix = w.suffix; walks = walks_same (goes_on period w.walks) refl (omega arith) }
  where
    period : Walks (stand (frame ∷ outer) joint all stage) (at p S.Period ∷ []) (stand (frame ∷ outer) joint all m.no_step) (max (suc (length outer)) (suc (length outer)))
    period = one (at p S.Period) (period_leads frame outer joint all p b)

pub child_walk : {stage : Stage} (frame : Frame) (outer : List Frame) (joint : Joint) (all : List Inside) → AtRel stage → {u : List Placed} {test : NameTest} → Test u test
    → PredicatesWalk (frame ∷ outer) joint all (stand (frame ∷ outer) joint all stage) u (tested [] false test) 0
child_walk frame outer joint all (AtRel.wanted first) (Test.any p) = record { stage = m.stepped (tested [] false T.Any); at_it = AtStep.at_step (tested [] false T.Any); walks = walks_same (one (at p S.Star) refl) refl (omega arith) }
child_walk frame outer joint all AtRel.path_wanted (Test.any p) = record { stage = m.stepped (tested [] false T.Any); at_it = AtStep.at_step (tested [] false T.Any); walks = walks_same (one (at p S.Star) refl) refl (omega arith) }
child_walk frame outer joint all AtRel.path_wanted (Test.named p s) = record { stage = m.stepped (tested [] false (T.Name s)); at_it = AtStep.at_step (tested [] false (T.Name s)); walks = walks_same (one (name p s) refl) refl (omega arith) }
child_walk frame outer joint all (AtRel.wanted first) (Test.named p s) = go (is_word (codes "not") (S.Name s)) refl
  where
    leads : (b : Bool) → is_word (codes "not") (S.Name s) ≡ b
        → advance_inner (stand (frame ∷ outer) joint all (m.wanted first)) (name p s) ≡ m.otherwise (cond b (Some (stand (frame ∷ outer) joint all m.not_name)) (Some (stand (frame ∷ outer) joint all (m.stepped (tested [] false (T.Name s)))))) None
    leads b k = ap (λ c. m.otherwise (cond c (Some (stand (frame ∷ outer) joint all m.not_name)) (Some (stand (frame ∷ outer) joint all (m.stepped (tested [] false (T.Name s)))))) None) k

    not_there : s ≡ codes "not" → AtStep (frame ∷ outer) (tested [] false (T.Name s)) m.not_name
    not_there e = subst (λ z. AtStep (frame ∷ outer) (tested [] false (T.Name z)) m.not_name) (sym e) AtStep.at_not

    go : (b : Bool) → is_word (codes "not") (S.Name s) ≡ b → PredicatesWalk (frame ∷ outer) joint all (stand (frame ∷ outer) joint all (m.wanted first)) (name p s ∷ []) (tested [] false (T.Name s)) 0
    go true k = let named : S.Name s ≡ S.Name (codes "not") = word_is (codes "not") (S.Name s) k in
        record { stage = m.not_name; at_it = not_there (let same : s ≡ codes "not" = cc in same); walks = walks_same (one (name p s) (leads true k)) refl (omega arith) }
    go false k = record { stage = m.stepped (tested [] false (T.Name s)); at_it = AtStep.at_step (tested [] false (T.Name s)); walks = walks_same (one (name p s) (leads false k)) refl (omega arith) }

pub filtered_walk : {frames : List Frame} {joint : Joint} {all more : List Inside} {s : Inner} {u v : List Placed} {last next : LastStep} {l : ℕ} → (b : PredicatesWalk frames joint all s u last 0) → PredicatesWalk frames joint more (stand frames joint all b.stage) v next l
    → PredicatesWalk frames joint more s (u ++ v) next l
filtered_walk b w = record { stage = w.stage; at_it = w.at_it; walks = walks_same (goes_on b.walks w.walks) refl (omega arith) }

pub child_steps_walk : {frames : List Frame} {joint : Joint} {s : Inner} {u v : List Placed} {last : LastStep} {xs : List form.Step} {k l : ℕ} (all ss tt : List Inside)
    → (b : PredicatesWalk frames joint (all ++ ss) s u last k) → StepsWalk frames joint (all ++ ss ++ tt) (stand frames joint (all ++ ss) b.stage) v xs l
    → StepsWalk frames joint (all ++ (ss ++ tt)) s (u ++ v) xs (max k l)
child_steps_walk all ss tt b w = steps_same (record { stage = w.stage; suffix = w.suffix; walks = walks_same (goes_on b.walks w.walks) refl (omega arith) }) (append_assoc all ss tt) refl
