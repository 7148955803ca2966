-- Wherever the machine stands, some further symbols make a whole path, and open nothing more on the way than is open there.
use Rattle.std.proofs.Common.{◌≡◌, ℕ, suc, Bool, true, false, List, [], ◌∷◌, ◌++◌, length, Option, Some, None, refl, sym, ◌∙◌, ap, arith}
use Rattle.std.specs.Prelude.{codes, max}
use Rattle.selection_grammar.specs.declared.symbol.Symbol.TheVariants as S
use Rattle.selection_grammar.specs.declared.symbol.Placed.{Placed}
use Rattle.selection_grammar.specs.Grammar.{Spot, at, name, string}
use Rattle.selection_grammar.specs.Shapes.{Shape}
use Rattle.selection_grammar.specs.steps.Machine as selection
use Rattle.selection_grammar.specs.Texts as texts
use Rattle.selection_grammar.specs.Tree.{Tree}
use Rattle.selection_grammar.proofs.Decided as laws
use Rattle.path_grammar.specs.declared.path.NameTest.TheVariants as T
use Rattle.path_grammar.specs.Form as form
use Rattle.path_grammar.specs.Form.{steps}
use Rattle.path_grammar.specs.Grammar as g
use Rattle.path_grammar.specs.Grammar.{Inside}
use Rattle.path_grammar.specs.steps.Machine as m
use Rattle.path_grammar.specs.steps.Machine.{LastStep, tested, all_steps, filtered, Joint, to_left, ignored, condition_with, Frame, Stage, Inner, stand}
use Rattle.path_grammar.proofs.Standing.{Under, Place, Opened, Stands}
use Rattle.path_grammar.proofs.Followers.{Follower}
use Rattle.path_grammar.proofs.Walks.{Walks, stays, one, goes_on, walks_same, AtStep, After, slash_walk, test_walk, AtRel, period_leads, Ends, after_ends, ended_ends, attribute_ends}
use Rattle.path_grammar.proofs.Primaries.{selecting_walk, selecting_ends, from_paths}

here : Spot
here = (0, 0)

-- some further symbols lead to the end of the path's last step
pub record Finish (s : Inner) : Type 0 where
  pub rest : List Placed
  pub joint : Joint
  pub all : List Inside
  pub last : LastStep
  pub walks : Walks s rest (stand [] joint all (m.stepped last)) (length s.frames)

finish_by : {s t : Inner} {u : List Placed} {k : ℕ} → Walks s u t k → max k (length t.frames) ≡ length s.frames → Finish t → Finish s
finish_by {u = u} w e f = record { rest = u ++ f.rest; joint = f.joint; all = f.all; last = f.last; walks = walks_same (goes_on w f.walks) refl e }

finish_here : (joint : Joint) (all : List Inside) (last : LastStep) → Finish (stand [] joint all (m.stepped last))
finish_here joint all last = record { rest = []; joint = joint; all = all; last = last; walks = stays (stand [] joint all (m.stepped last)) }

-- the outermost of what is open are the brackets of a step of the path
abbrev pub Based : List Frame → Type 0
Based [] = Unit {0}
Based (frame ∷ next ∷ outer) = Based (next ∷ outer)
Based (m.brackets joint last ∷ []) = Unit {0}
Based (m.parentheses joint ∷ []) = ⊥
Based (m.negation joint ∷ []) = ⊥

-- after a whole condition all that is open closes
close_all : (frame : Frame) (outer : List Frame) {joint : Joint} {c : form.Condition} {all : List Inside} {t : Inner} → Based (frame ∷ outer) → Ends frame outer joint c all t → Finish t
close_all (m.brackets j last) [] {joint = joint} {c = c} {all = all} b e =
    finish_by (one (at here S.CloseBracket) (e.takes here S.CloseBracket Follower.close_bracket)) (omega (arith, ap length e.frames_are)) (finish_here j all (filtered last (form.holds (condition_with joint c))))
close_all (m.brackets j last) (next ∷ outer) {joint = joint} {c = c} {all = all} b e =
    finish_by (one (at here S.CloseBracket) (e.takes here S.CloseBracket Follower.close_bracket)) (omega (arith, ap length e.frames_are))
    (close_all next outer b (after_ends j all (After.after_step (AtStep.at_step (filtered last (form.holds (condition_with joint c)))))))
close_all (m.parentheses j) [] b e = absurd b
close_all (m.parentheses j) (next ∷ outer) {joint = joint} {c = c} {all = all} b e =
    finish_by (one (at here S.CloseParenthesis) (e.takes here S.CloseParenthesis Follower.close_parenthesis)) (omega (arith, ap length e.frames_are)) (close_all next outer b (ended_ends next outer j (condition_with joint c) all))
close_all (m.negation j) [] b e = absurd b
close_all (m.negation j) (next ∷ outer) {joint = joint} {c = c} {all = all} b e =
    finish_by (one (at here S.CloseParenthesis) (e.takes here S.CloseParenthesis Follower.close_parenthesis)) (omega (arith, ap length e.frames_are)) (close_all next outer b (ended_ends next outer j (form.not_of (condition_with joint c)) all))

-- after a step
at_last : (frames : List Frame) (joint : Joint) (all : List Inside) (last : LastStep) → Based frames → Finish (stand frames joint all (m.stepped last))
at_last [] joint all last b = finish_here joint all last
at_last (frame ∷ outer) joint all last b = close_all frame outer b (after_ends joint all (After.after_step (AtStep.at_step last)))

mutual
  opened_based : {u : List Placed} {frames : List Frame} {ss : List Inside} → Opened u frames ss → Based frames
  opened_based (Opened.brackets {joint = joint} {last = last} a trail p) = bracket_based joint last a
  opened_based (Opened.parentheses a p) = place_based a
  opened_based (Opened.negation a p q) = place_based a

  place_based : {u : List Placed} {frames : List Frame} {joint : Joint} {ss : List Inside} → Place u frames joint ss → Based frames
  place_based Place.at_root = tt
  place_based (Place.in_condition a b) = opened_based a
  place_based (Place.in_ignored a b) = place_based a

  bracket_based : {u : List Placed} {frames : List Frame} {joint : Joint} {ss : List Inside} (j : Joint) (last : LastStep) → Place u frames joint ss → Based (m.brackets j last ∷ frames)
  bracket_based j last Place.at_root = tt
  bracket_based j last (Place.in_condition a b) = opened_based a
  bracket_based j last (Place.in_ignored a b) = place_based a

-- before a step
test_finish : (frames : List Frame) (joint : Joint) (all : List Inside) (xs : List form.Step) (deep : Bool) → Based frames → Finish (stand frames joint all (m.slashes xs deep))
test_finish frames joint all xs deep b = finish_by (test_walk frames joint all xs deep (g.any here)) (omega arith) (at_last frames joint all (tested xs deep T.Any) b)

no_step_finish : (frames : List Frame) (joint : Joint) (all : List Inside) → Based frames → Finish (stand frames joint all m.no_step)
no_step_finish frames joint all b = finish_by (slash_walk joint all After.after_none (g.child here)) (omega arith) (test_finish frames joint all [] false b)

rel_finish : {stage : Stage} (frame : Frame) (outer : List Frame) (joint : Joint) (all : List Inside) → AtRel stage → Based (frame ∷ outer) → Finish (stand (frame ∷ outer) joint all stage)
rel_finish {stage = stage} frame outer joint all a b = finish_by dot (omega arith) (close_all frame outer b (after_ends joint all After.after_none))
  where
    dot : Walks (stand (frame ∷ outer) joint all stage) (at (0, 0) S.Period ∷ []) (stand (frame ∷ outer) joint all m.no_step) (max (suc (length outer)) (suc (length outer)))
    dot = one (at (0, 0) S.Period) (period_leads frame outer joint all (0, 0) a)

equals_finish : (frame : Frame) (outer : List Frame) (joint : Joint) (all : List Inside) (s : List ℕ) → Based (frame ∷ outer) → Finish (stand (frame ∷ outer) joint all (m.equals s))
equals_finish frame outer joint all s b = finish_by value (omega arith) (close_all frame outer b (ended_ends frame outer joint (form.attribute s (Some [])) all))
  where
    value : Walks (stand (frame ∷ outer) joint all (m.equals s)) (string (0, 0) [] ∷ []) (stand (frame ∷ outer) joint all (m.ended (form.attribute s (Some [])))) (max (suc (length outer)) (suc (length outer)))
    value = one (string (0, 0) []) refl

sign_finish : (frame : Frame) (outer : List Frame) (joint : Joint) (all : List Inside) → Based (frame ∷ outer) → Finish (stand (frame ∷ outer) joint all m.at_sign)
sign_finish frame outer joint all b = finish_by named (omega arith) (close_all frame outer b (attribute_ends frame outer joint [] all))
  where
    named : Walks (stand (frame ∷ outer) joint all m.at_sign) (name (0, 0) [] ∷ []) (stand (frame ∷ outer) joint all (m.attribute [])) (max (suc (length outer)) (suc (length outer)))
    named = one (name (0, 0) []) refl

number_finish : (joint : Joint) (last : LastStep) (outer : List Frame) (within : Joint) (all : List Inside) (k : ℕ) → Based outer → Finish (stand (m.brackets joint last ∷ outer) within all (m.number k))
number_finish joint last outer within all k b = finish_by closed (omega arith) (at_last outer joint all (filtered last (form.number k)) b)
  where
    closed : Walks (stand (m.brackets joint last ∷ outer) within all (m.number k)) (at (0, 0) S.CloseBracket ∷ []) (stand outer joint all (m.stepped (filtered last (form.number k)))) (max (suc (length outer)) (length outer))
    closed = one (at (0, 0) S.CloseBracket) refl

-- a selection ends, and then the condition is whole
selecting_finish : (frame : Frame) (outer : List Frame) (joint : Joint) (all : List Inside) (xs : List form.Step) (v : List Placed) (t : Shape selection.State) → selection.read v ≡ Some t → Based (frame ∷ outer) → Finish (stand (frame ∷ outer) joint all (m.selecting xs v t))
selecting_finish frame outer joint all xs v t r b = more (laws.read_begins v t r)
  where
    ended : (rest : List Placed) (x : Tree) (o : Option (Shape selection.State)) → selection.run_on (Some t) rest ≡ o → selection.finished o ≡ Some x → Finish (stand (frame ∷ outer) joint all (m.selecting xs v t))
    ended rest x None k e = cc
    ended rest x (Some last) k e = finish_by (selecting_walk frame outer joint all xs rest v t last k) (omega arith) (close_all frame outer b (selecting_ends frame outer joint all xs (v ++ rest) last x e))

    more : texts.Begins v → Finish (stand (frame ∷ outer) joint all (m.selecting xs v t))
    more (rest, x, a) = ended rest x (selection.run_on (Some t) rest) refl (ap selection.finished (sym (ap (λ o. selection.run_on o rest) r) ∙ sym (laws.read-append v rest)) ∙ laws.spells_read (v ++ rest) x a)

contains_finish : (frame : Frame) (outer : List Frame) (joint : Joint) (all : List Inside) (xs : List form.Step) → Based (frame ∷ outer) → Finish (stand (frame ∷ outer) joint all (m.contains xs))
contains_finish frame outer joint all xs b = finish_by texted (omega arith) (selecting_finish frame outer joint all xs [] (Shape.whole selection.start) refl b)
  where
    texted : Walks (stand (frame ∷ outer) joint all (m.contains xs)) (name (0, 0) (codes "text") ∷ []) (stand (frame ∷ outer) joint all (m.selecting xs [] (Shape.whole selection.start))) (max (suc (length outer)) (suc (length outer)))
    texted = one (name (0, 0) (codes "text")) refl

-- `content`, and then a path
without_finish : (frame : Frame) (outer : List Frame) (ors ands : List form.Condition) (all : List Inside) (xs : List form.Step) (k : ℕ) → Based (frame ∷ outer) → Finish (stand (frame ∷ outer) (to_left ors ands) all (m.without xs k))
without_finish frame outer ors ands all xs k b = finish_by content (omega arith) (rel_finish frame outer (ignored ors ands (from_paths xs k [])) all AtRel.path_wanted b)
  where
    content : Walks (stand (frame ∷ outer) (to_left ors ands) all (m.without xs k)) (name (0, 0) (codes "content") ∷ []) (stand (frame ∷ outer) (ignored ors ands (from_paths xs k [])) all m.path_wanted) (max (suc (length outer)) (suc (length outer)))
    content = one (name (0, 0) (codes "content")) refl

-- wherever the machine stands after the root
under_finish : {frames : List Frame} {joint : Joint} {n : ℕ} {v : List Placed} {stage : Stage} {tt : List Inside} (all : List Inside) → Based frames → Under frames joint n v stage tt → Finish (stand frames joint all stage)
under_finish {frames = frames} {joint = joint} all b (Under.no_step x) = no_step_finish frames joint all b
under_finish {frames = frames} {joint = joint} all b (Under.slashes {xs = xs} {deep = deep} x s) = test_finish frames joint all xs deep b
under_finish {frames = frames} {joint = joint} all b (Under.stepped {last = last} x) = at_last frames joint all last b
under_finish {joint = joint} all b (Under.wanted {frame = frame} {outer = outer}) = rel_finish frame outer joint all (AtRel.wanted false) b
under_finish {joint = joint} all b (Under.not_name {frame = frame} {outer = outer} p) = close_all frame outer b (after_ends joint all (After.after_step AtStep.at_not))
under_finish {joint = joint} all b (Under.at_sign {frame = frame} {outer = outer} p) = sign_finish frame outer joint all b
under_finish {joint = joint} all b (Under.attribute {frame = frame} {outer = outer} p q s) = close_all frame outer b (attribute_ends frame outer joint s all)
under_finish {joint = joint} all b (Under.equals {frame = frame} {outer = outer} p q r s) = equals_finish frame outer joint all s b
under_finish {joint = joint} all b (Under.ended {frame = frame} {outer = outer} {c = c} x) = close_all frame outer b (ended_ends frame outer joint c all)
under_finish {joint = joint} all b (Under.contains {frame = frame} {outer = outer} {xs = xs} x p) = contains_finish frame outer joint all xs b
under_finish {joint = joint} all b (Under.selecting {frame = frame} {outer = outer} {xs = xs} x p q v shape r) = selecting_finish frame outer joint all xs v shape r b
under_finish all b (Under.without {frame = frame} {outer = outer} {ors = ors} {ands = ands} {xs = xs} x p q selected r k n) = without_finish frame outer ors ands all xs k b
under_finish {joint = joint} all b (Under.path_wanted {frame = frame} {outer = outer}) = rel_finish frame outer joint all AtRel.path_wanted b

pub finish : {u : List Placed} {s : Inner} → Stands u s → Finish s
finish (Stands.under {ss = ss} {ts = more} a x) = under_finish (ss ++ more) (place_based a) x
finish (Stands.bracket {outer = outer} {joint = joint} {last = last} {ss = ss} a) = rel_finish (m.brackets joint last) outer m.no_joint ss (AtRel.wanted true) (opened_based a)
finish (Stands.number {outer = outer} {joint = joint} {last = last} {ss = ss} a p k) = number_finish joint last outer m.no_joint ss k (outer_based a)
  where
    outer_based : {u : List Placed} {outer : List Frame} {joint : Joint} {last : LastStep} {ss : List Inside} → Opened u (m.brackets joint last ∷ outer) ss → Based outer
    outer_based (Opened.brackets a trail p) = place_based a
