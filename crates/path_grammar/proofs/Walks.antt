-- The machine's ways through symbols, with the most that is open on them.
use Rattle.std.proofs.Common.{◌≡◌, ℕ, Bool, true, false, List, [], ◌∷◌, ◌++◌, length, Option, Some, None, refl, ◌∙◌, ap, subst, arith}
use Rattle.std.specs.Prelude.{codes, max}
use Rattle.selection_grammar.specs.declared.symbol.Symbol.{Symbol}
use Rattle.selection_grammar.specs.declared.symbol.Symbol.TheVariants as S
use Rattle.selection_grammar.specs.declared.symbol.Placed.{Placed}
use Rattle.selection_grammar.specs.Grammar.{Spot, at, name}
use Rattle.path_grammar.specs.declared.path.NameTest.{NameTest}
use Rattle.path_grammar.specs.Form as form
use Rattle.path_grammar.specs.Grammar.{Inside, Slashes, Test}
use Rattle.path_grammar.specs.steps.Machine as m
use Rattle.path_grammar.specs.steps.Machine.{LastStep, tested, all_steps, Ignoring, with_path, Joint, to_left, no_joint, ignored, steps_condition, Frame, Stage, Inner, stand, advance_inner}
use Rattle.path_grammar.proofs.Followers.{Follower}

abbrev pub run_inner : Option Inner → List Placed → Option Inner
run_inner None u = None
run_inner (Some s) [] = Some s
run_inner (Some s) (p ∷ u) = run_inner (advance_inner s p) u

abbrev pub highest : Option Inner → List Placed → ℕ
highest None u = 0
highest (Some s) [] = length s.frames
highest (Some s) (p ∷ u) = max (length s.frames) (highest (advance_inner s p) u)

pub run_inner-append : (o : Option Inner) (u v : List Placed) → run_inner o (u ++ v) ≡ run_inner (run_inner o u) v
run_inner-append None u v = refl
run_inner-append (Some s) [] v = refl
run_inner-append (Some s) (p ∷ u) v = run_inner-append (advance_inner s p) u v

highest_least : (s : Inner) (v : List Placed) → highest (Some s) v ≡ max (length s.frames) (highest (Some s) v)
highest_least s [] = omega arith
highest_least s (p ∷ v) = omega arith

pub highest-append : (o : Option Inner) (u v : List Placed) → highest o (u ++ v) ≡ max (highest o u) (highest (run_inner o u) v)
highest-append None u v = refl
highest-append (Some s) [] v = highest_least s v
highest-append (Some s) (p ∷ u) v = omega (arith, highest-append (advance_inner s p) u v)

pub record Walks (s : Inner) (u : List Placed) (t : Inner) (most : ℕ) : Type 0 where
  pub ends : run_inner (Some s) u ≡ Some t
  pub peak : highest (Some s) u ≡ most

pub stays : (s : Inner) → Walks s [] s (length s.frames)
stays s = record { ends = refl; peak = refl }

pub one : {s t : Inner} (p : Placed) → advance_inner s p ≡ Some t → Walks s (p ∷ []) t (max (length s.frames) (length t.frames))
one {s = s} p e = record { ends = ap (λ o. run_inner o []) e; peak = ap (λ o. max (length s.frames) (highest o [])) e }

pub goes_on : {s t r : Inner} {u v : List Placed} {k l : ℕ} → Walks s u t k → Walks t v r l → Walks s (u ++ v) r (max k l)
goes_on {s = s} {t = t} {u = u} {v = v} {k = k} {l = l} a b = record {
  ends = run_inner-append (Some s) u v ∙ ap (λ o. run_inner o v) a.ends ∙ b.ends;
  peak = highest-append (Some s) u v ∙ ap (λ n. max n (highest (run_inner (Some s) u) v)) a.peak ∙ ap (λ o. max k (highest o v)) a.ends ∙ ap (λ n. max k n) b.peak;
}

pub walks_same : {s t : Inner} {u w : List Placed} {k l : ℕ} → Walks s u t k → u ≡ w → k ≡ l → Walks s w t l
walks_same {s = s} {t = t} {u = u} {w = w} {k = k} a e f = subst (λ n. Walks s w t n) f (subst (λ z. Walks s z t k) e a)

-- where further predicates may stand, and where further steps
pub data AtStep : List Frame → LastStep → Stage → Type 0 where
  at_step : {frames : List Frame} (last : LastStep) → AtStep frames last (m.stepped last)
  at_not : {frame : Frame} {outer : List Frame} → AtStep (frame ∷ outer) m.not_step m.not_name

pub data After : List Frame → List form.Step → Stage → Type 0 where
  after_none : {frames : List Frame} → After frames [] m.no_step
  after_step : {frames : List Frame} {last : LastStep} {stage : Stage} → AtStep frames last stage → After frames (all_steps last) stage

pub bracket_opens : {frames : List Frame} {last : LastStep} {stage : Stage} (joint : Joint) (all : List Inside) (p : Spot) → AtStep frames last stage
    → advance_inner (stand frames joint all stage) (at p S.OpenBracket) ≡ Some (stand (m.brackets joint last ∷ frames) no_joint all (m.wanted true))
bracket_opens joint all p (AtStep.at_step last) = refl
bracket_opens joint all p AtStep.at_not = refl

slash_leads : {frames : List Frame} {xs : List form.Step} {stage : Stage} (joint : Joint) (all : List Inside) (p : Spot) → After frames xs stage
    → advance_inner (stand frames joint all stage) (at p S.Slash) ≡ Some (stand frames joint all (m.slashes xs false))
slash_leads joint all p After.after_none = refl
slash_leads joint all p (After.after_step (AtStep.at_step last)) = refl
slash_leads joint all p (After.after_step AtStep.at_not) = refl

slashes_lead : {frames : List Frame} {xs : List form.Step} {stage : Stage} (joint : Joint) (all : List Inside) (p : Spot) → After frames xs stage
    → advance_inner (stand frames joint all stage) (at p S.DoubleSlash) ≡ Some (stand frames joint all (m.slashes xs true))
slashes_lead joint all p After.after_none = refl
slashes_lead joint all p (After.after_step (AtStep.at_step last)) = refl
slashes_lead joint all p (After.after_step AtStep.at_not) = refl

pub slash_walk : {frames : List Frame} {xs : List form.Step} {stage : Stage} {u : List Placed} {deep : Bool} (joint : Joint) (all : List Inside) → After frames xs stage → Slashes u deep
    → Walks (stand frames joint all stage) u (stand frames joint all (m.slashes xs deep)) (length frames)
slash_walk joint all a (Slashes.child p) = walks_same (one (at p S.Slash) (slash_leads joint all p a)) refl (omega arith)
slash_walk joint all a (Slashes.deep p) = walks_same (one (at p S.DoubleSlash) (slashes_lead joint all p a)) refl (omega arith)

pub test_walk : (frames : List Frame) (joint : Joint) (all : List Inside) (xs : List form.Step) (deep : Bool) {u : List Placed} {test : NameTest} → Test u test
    → Walks (stand frames joint all (m.slashes xs deep)) u (stand frames joint all (m.stepped (tested xs deep test))) (length frames)
test_walk frames joint all xs deep (Test.named p s) = walks_same (one (name p s) refl) refl (omega arith)
test_walk frames joint all xs deep (Test.any p) = walks_same (one (at p S.Star) refl) refl (omega arith)

pub contains_leads : {frame : Frame} {outer : List Frame} {xs : List form.Step} {stage : Stage} (ors ands : List form.Condition) (all : List Inside) (p : Spot) → After (frame ∷ outer) xs stage
    → advance_inner (stand (frame ∷ outer) (to_left ors ands) all stage) (name p (codes "contains")) ≡ Some (stand (frame ∷ outer) (to_left ors ands) all (m.contains xs))
contains_leads ors ands all p After.after_none = refl
contains_leads ors ands all p (After.after_step (AtStep.at_step last)) = refl
contains_leads ors ands all p (After.after_step AtStep.at_not) = refl

pub bar_leads : {frame : Frame} {outer : List Frame} {xs : List form.Step} {stage : Stage} (ors ands : List form.Condition) (i : Ignoring) (all : List Inside) (p : Spot) → After (frame ∷ outer) xs stage
    → advance_inner (stand (frame ∷ outer) (ignored ors ands i) all stage) (at p S.VerticalBar) ≡ Some (stand (frame ∷ outer) (ignored ors ands (with_path i xs)) all m.path_wanted)
bar_leads ors ands i all p After.after_none = refl
bar_leads ors ands i all p (After.after_step (AtStep.at_step last)) = refl
bar_leads ors ands i all p (After.after_step AtStep.at_not) = refl

-- where the steps of a condition begin, and those of an ignored path
pub data AtRel : Stage → Type 0 where
  wanted : (first : Bool) → AtRel (m.wanted first)
  path_wanted : AtRel m.path_wanted

pub period_leads : {stage : Stage} (frame : Frame) (outer : List Frame) (joint : Joint) (all : List Inside) (p : Spot) → AtRel stage
    → advance_inner (stand (frame ∷ outer) joint all stage) (at p S.Period) ≡ Some (stand (frame ∷ outer) joint all m.no_step)
period_leads frame outer joint all p (AtRel.wanted first) = refl
period_leads frame outer joint all p AtRel.path_wanted = refl

-- where a condition is whole: what ends it stands after it
pub record Ends (frame : Frame) (outer : List Frame) (joint : Joint) (c : form.Condition) (all : List Inside) (t : Inner) : Type 0 where
  pub takes : (p : Spot) (z : Symbol) → Follower z → advance_inner t (at p z) ≡ m.joint_next (frame ∷ outer) joint c all z
  pub frames_are : t.frames ≡ frame ∷ outer

after_takes : {frame : Frame} {outer : List Frame} {xs : List form.Step} {stage : Stage} (joint : Joint) (all : List Inside) → After (frame ∷ outer) xs stage → (p : Spot) (z : Symbol) → Follower z
    → advance_inner (stand (frame ∷ outer) joint all stage) (at p z) ≡ m.joint_next (frame ∷ outer) joint (steps_condition joint.ignoring xs) all z
after_takes joint all After.after_none p z Follower.close_bracket = refl
after_takes joint all After.after_none p z Follower.close_parenthesis = refl
after_takes joint all After.after_none p z Follower.and = refl
after_takes joint all After.after_none p z Follower.or = refl
after_takes joint all (After.after_step (AtStep.at_step last)) p z Follower.close_bracket = refl
after_takes joint all (After.after_step (AtStep.at_step last)) p z Follower.close_parenthesis = refl
after_takes joint all (After.after_step (AtStep.at_step last)) p z Follower.and = refl
after_takes joint all (After.after_step (AtStep.at_step last)) p z Follower.or = refl
after_takes joint all (After.after_step AtStep.at_not) p z Follower.close_bracket = refl
after_takes joint all (After.after_step AtStep.at_not) p z Follower.close_parenthesis = refl
after_takes joint all (After.after_step AtStep.at_not) p z Follower.and = refl
after_takes joint all (After.after_step AtStep.at_not) p z Follower.or = refl

pub after_ends : {frame : Frame} {outer : List Frame} {xs : List form.Step} {stage : Stage} (joint : Joint) (all : List Inside) → After (frame ∷ outer) xs stage
    → Ends frame outer joint (steps_condition joint.ignoring xs) all (stand (frame ∷ outer) joint all stage)
after_ends joint all a = record { takes = after_takes joint all a; frames_are = refl }

-- what ends an ignored path ends the condition to which it belongs
ignored_takes : {frame : Frame} {outer : List Frame} {xs : List form.Step} {stage : Stage} (ors ands : List form.Condition) (i : Ignoring) (all : List Inside) → After (frame ∷ outer) xs stage → (p : Spot) (z : Symbol) → Follower z
    → advance_inner (stand (frame ∷ outer) (ignored ors ands i) all stage) (at p z) ≡ m.joint_next (frame ∷ outer) (to_left ors ands) (steps_condition (Some i) xs) all z
ignored_takes ors ands i all a p z Follower.close_bracket = after_takes (ignored ors ands i) all a p z Follower.close_bracket
ignored_takes ors ands i all a p z Follower.close_parenthesis = after_takes (ignored ors ands i) all a p z Follower.close_parenthesis
ignored_takes ors ands i all a p z Follower.and = after_takes (ignored ors ands i) all a p z Follower.and
ignored_takes ors ands i all a p z Follower.or = after_takes (ignored ors ands i) all a p z Follower.or

pub ignored_ends : {frame : Frame} {outer : List Frame} {xs : List form.Step} {stage : Stage} (ors ands : List form.Condition) (i : Ignoring) (all : List Inside) → After (frame ∷ outer) xs stage
    → Ends frame outer (to_left ors ands) (steps_condition (Some i) xs) all (stand (frame ∷ outer) (ignored ors ands i) all stage)
ignored_ends ors ands i all a = record { takes = ignored_takes ors ands i all a; frames_are = refl }

pub ended_ends : (frame : Frame) (outer : List Frame) (joint : Joint) (c : form.Condition) (all : List Inside) → Ends frame outer joint c all (stand (frame ∷ outer) joint all (m.ended c))
ended_ends frame outer joint c all = record { takes = λ p z f. refl; frames_are = refl }

attribute_takes : (frame : Frame) (outer : List Frame) (joint : Joint) (s : List ℕ) (all : List Inside) (p : Spot) (z : Symbol) → Follower z
    → advance_inner (stand (frame ∷ outer) joint all (m.attribute s)) (at p z) ≡ m.joint_next (frame ∷ outer) joint (form.attribute s None) all z
attribute_takes frame outer joint s all p z Follower.close_bracket = refl
attribute_takes frame outer joint s all p z Follower.close_parenthesis = refl
attribute_takes frame outer joint s all p z Follower.and = refl
attribute_takes frame outer joint s all p z Follower.or = refl

pub attribute_ends : (frame : Frame) (outer : List Frame) (joint : Joint) (s : List ℕ) (all : List Inside) → Ends frame outer joint (form.attribute s None) all (stand (frame ∷ outer) joint all (m.attribute s))
attribute_ends frame outer joint s all = record { takes = attribute_takes frame outer joint s all; frames_are = refl }
