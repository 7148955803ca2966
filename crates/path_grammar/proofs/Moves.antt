-- Wherever the machine stands, what it reads next leads to where it stands after that.
use Rattle.std.proofs.Common.{◌≡◌, ℕ, Bool, true, false, cond, List, [], ◌∷◌, ◌++◌, length, Option, Some, None, refl, sym, ◌∙◌, ap, subst, append_assoc}
use Rattle.std.proofs.lemmas.List.{append-nil, length-append}
use Rattle.std.specs.Prelude.{codes}
use Rattle.selection_grammar.specs.declared.symbol.Symbol.{Symbol}
use Rattle.selection_grammar.specs.declared.symbol.Symbol.TheVariants as S
use Rattle.selection_grammar.specs.declared.symbol.Placed.{Placed}
use Rattle.selection_grammar.specs.Grammar.{Spot, at, name}
use Rattle.selection_grammar.specs.Shapes.{is_word}
use Rattle.selection_grammar.proofs.Words.{word_is}
use Rattle.path_grammar.specs.declared.path.NameTest.{NameTest}
use Rattle.path_grammar.specs.declared.path.NameTest.TheVariants as T
use Rattle.path_grammar.specs.Form as form
use Rattle.path_grammar.specs.Form.{steps, predicates, joined, or_of, and_of}
use Rattle.path_grammar.specs.Grammar.{Inside, Slashes, Test, Steps, Predicate, Predicates, Rel}
use Rattle.path_grammar.specs.steps.Machine as m
use Rattle.path_grammar.specs.steps.Machine.{LastStep, tested, all_steps, filtered, Joint, to_left, no_joint, ignored, with_path, ands_with, ors_with, condition_with, Frame, Stage, Inner, stand}
use Rattle.path_grammar.proofs.Standing.{same, Before, OrsBefore, AndsBefore, Ignored, Kind, kind, Walked, Trail, Under, Place, Opened, Stands, stands_same, after_bar, trail_walked, trail_predicate}

-- what stands where a step of the machine led
pub led : {u : List Placed} {s t : Inner} → Some s ≡ Some t → Stands u s → Stands u t
led {u = u} {s = s} {t = t} e a = let there : s ≡ t = cc in subst (Stands u) there a

-- by whether a symbol is a keyword
pub by_word : {A B : Type 0} (key : List ℕ) (symbol : Symbol) (x y : Option A) (r : A) → (symbol ≡ S.Name key → x ≡ Some r → B) → (y ≡ Some r → B) → cond (is_word key symbol) x y ≡ Some r → B
by_word {A = A} {B = B} key symbol x y r there past e = go (is_word key symbol) refl e
  where
    go : (b : Bool) → is_word key symbol ≡ b → cond b x y ≡ Some r → B
    go true k h = there (word_is key symbol k) h
    go false k h = past h

-- where an ignored path begins
pub path_wants : {frame : Frame} {outer : List Frame} {u w : List Placed} {ors ands : List form.Condition} {i : m.Ignoring} {ss ts : List Inside} → Place u (frame ∷ outer) (ignored ors ands i) ss → u ≡ w → ss ≡ ts
    → Stands w (stand (frame ∷ outer) (ignored ors ands i) ts m.path_wanted)
path_wants {u = u} {ss = ss} a e f = stands_same (Stands.under a Under.path_wanted) (append-nil u ∙ e) (append-nil ss ∙ f)

-- the condition under way goes on by a symbol
pub goes_on : {frames : List Frame} {u w : List Placed} {joint : Joint} {stage : Stage} {ss ts : List Inside} (v : List Placed) (p : Placed) → Place u frames joint ss → Under frames joint (length ss) w stage ts → w ≡ v ++ p ∷ [] → Stands (u ++ v ++ p ∷ []) (stand frames joint (ss ++ ts) stage)
goes_on {u = u} v p a x e = stands_same (Stands.under a x) (ap (λ z. u ++ z) e ∙ sym (append_assoc u v (p ∷ []))) refl

-- after steps that a selection may go on with, or that are those of an ignored path
contains_moves : {frame : Frame} {outer : List Frame} {u v : List Placed} {joint : Joint} {xs : List form.Step} {ss ts : List Inside} {t : Inner} (q : Spot) (s : List ℕ) → Kind joint → Place u (frame ∷ outer) joint ss → Rel (length ss) v xs ts → S.Name s ≡ S.Name (codes "contains")
    → m.unless_ignored joint.ignoring (Some (stand (frame ∷ outer) joint (ss ++ ts) (m.contains xs))) ≡ Some t → Stands (u ++ v ++ name q s ∷ []) t
contains_moves {v = v} q s (Kind.in_condition ors ands) a x k h = led h (goes_on v (name q s) a (Under.contains x q) (ap (λ z. v ++ at q z ∷ []) (sym k)))
contains_moves q s (Kind.in_ignored ors ands i) a x k h = cc

bar_moves : {frame : Frame} {outer : List Frame} {u v : List Placed} {joint : Joint} {xs : List form.Step} {ss ts : List Inside} {t : Inner} (q : Spot) → Kind joint → Place u (frame ∷ outer) joint ss → Rel (length ss) v xs ts
    → m.bar_next (frame ∷ outer) joint (ss ++ ts) xs joint.ignoring ≡ Some t → Stands (u ++ v ++ at q S.VerticalBar ∷ []) t
bar_moves q (Kind.in_condition ors ands) a x e = cc
bar_moves q (Kind.in_ignored ors ands i) (Place.in_condition a b) x e = elim b [ ]
bar_moves {v = z} {xs = xs} {ts = rr} q (Kind.in_ignored ors ands i) (Place.in_ignored {u = u} {v = v} {ss = ss} {ts = ts} a y) x e =
    led e (path_wants (Place.in_ignored a (after_bar y (same (λ k u ss. Rel k u xs ss) x (length-append ss ts) refl refl) q)) (regrouped u v z (at q S.VerticalBar ∷ [])) (sym (append_assoc ss ts rr)))
  where
    regrouped : (u v z o : List Placed) → u ++ (v ++ z ++ o) ≡ u ++ v ++ z ++ o
    regrouped u v z o = simp append_assoc

-- after steps
pub steps_moves : {frames : List Frame} {u v : List Placed} {joint : Joint} {xs : List form.Step} {ss ts : List Inside} {t : Inner} (q : Spot) (z : Symbol) → Place u frames joint ss → Walked frames (length ss) v xs ts
    → m.steps_next frames joint (ss ++ ts) xs z ≡ Some t → Stands (u ++ v ++ at q z ∷ []) t
steps_moves {v = v} q S.Slash a x e = led e (goes_on v (at q S.Slash) a (Under.slashes x (Slashes.child q)) refl)
steps_moves {v = v} q S.DoubleSlash a x e = led e (goes_on v (at q S.DoubleSlash) a (Under.slashes x (Slashes.deep q)) refl)
steps_moves {u = u} {v = v} {joint = joint} {xs = xs} {ss = ss} {ts = ts} {t = t} q (S.Name s) a (Walked.of_path x) e = by_word (codes "contains") (S.Name s) None None t (λ k h. cc) (λ h. cc) e
steps_moves {u = u} {v = v} {joint = joint} {xs = xs} {ss = ss} {ts = ts} {t = t} q (S.Name s) a (Walked.of_condition {frame = frame} {outer = outer} x) e =
    by_word (codes "contains") (S.Name s) (m.contains_next (frame ∷ outer) joint (ss ++ ts) xs) None t (λ k h. contains_moves q s (kind joint) a x k h) (λ h. cc) e
steps_moves q S.VerticalBar Place.at_root (Walked.of_path x) e = cc
steps_moves {joint = joint} q S.VerticalBar a (Walked.of_condition x) e = bar_moves q (kind joint) a x e
steps_moves q other a x e = cc

-- after a step
pub step_moves : {frames : List Frame} {u v : List Placed} {joint : Joint} {last : LastStep} {ss ts : List Inside} {t : Inner} (q : Spot) (z : Symbol) → Place u frames joint ss → Trail frames (length ss) v last ts
    → m.step_next frames joint (ss ++ ts) last z ≡ Some t → Stands (u ++ v ++ at q z ∷ []) t
step_moves {u = u} {v = v} q S.OpenBracket a x e = led e (Stands.bracket (Opened.brackets a x q))
step_moves q other a x e = steps_moves q other a (trail_walked x) e

pub test_moves : {frames : List Frame} {u v w : List Placed} {joint : Joint} {xs : List form.Step} {deep : Bool} {ss ts : List Inside} {t : Inner} (q : Spot) (z : Symbol) → Place u frames joint ss → Walked frames (length ss) v xs ts → Slashes w deep
    → m.test_next frames joint (ss ++ ts) xs deep z ≡ Some t → Stands (u ++ (v ++ w) ++ at q z ∷ []) t
test_moves {frames = frames} {u = u} {v = v} {w = w} {joint = joint} {xs = xs} {deep = deep} {ss = ss} {ts = ts} {t = t} q z a x s e = go z e
  where
    to : (z : Symbol) (test : NameTest) → Test (at q z ∷ []) test → Stands (u ++ (v ++ w) ++ at q z ∷ []) (stand frames joint (ss ++ ts) (m.stepped (tested xs deep test)))
    to z test y = stands_same (Stands.under a (Under.stepped (Trail.further x s y Predicates.no_predicate))) (ap (λ r. u ++ r) (append-nil (v ++ w ++ at q z ∷ [])) ∙ sym (append_assoc u (v ++ w) (at q z ∷ []))) (ap (λ r. ss ++ r) (append-nil ts))

    go : (z : Symbol) → m.test_next frames joint (ss ++ ts) xs deep z ≡ Some t → Stands (u ++ (v ++ w) ++ at q z ∷ []) t
    go (S.Name s) e = led e (to (S.Name s) (T.Name s) (Test.named q s))
    go S.Star e = led e (to S.Star T.Any (Test.any q))
    go other e = cc

place_same : {u w : List Placed} {frames : List Frame} {joint : Joint} {ss ts : List Inside} → Place u frames joint ss → u ≡ w → ss ≡ ts → Place w frames joint ts
place_same {u = u} {w = w} {frames = frames} {joint = joint} {ss = ss} a e f = subst (λ z. Place w frames joint z) f (subst (λ z. Place z frames joint ss) e a)

-- where a condition begins
pub begins : {frame : Frame} {outer : List Frame} {u : List Placed} {ss : List Inside} → Opened u (frame ∷ outer) ss → Place u (frame ∷ outer) no_joint ss
begins {u = u} {ss = ss} a = place_same (Place.in_condition a (Before.before OrsBefore.none AndsBefore.none)) (append-nil u) (append-nil ss)

pub wants : {frame : Frame} {outer : List Frame} {u : List Placed} {ors ands : List form.Condition} {ss : List Inside} → Place u (frame ∷ outer) (to_left ors ands) ss → Stands u (stand (frame ∷ outer) (to_left ors ands) ss (m.wanted false))
wants {u = u} {ss = ss} a = stands_same (Stands.under a Under.wanted) (append-nil u) (append-nil ss)

began : {frame : Frame} {outer : List Frame} {u v : List Placed} {joint : Joint} {stage : Stage} {ss : List Inside} → Place u (frame ∷ outer) joint ss → Under (frame ∷ outer) joint (length ss) v stage [] → Stands (u ++ v) (stand (frame ∷ outer) joint ss stage)
began {ss = ss} a x = stands_same (Stands.under a x) refl (append-nil ss)

pub wanted_moves : {frame : Frame} {outer : List Frame} {u : List Placed} {ors ands : List form.Condition} {ss : List Inside} {t : Inner} (q : Spot) (z : Symbol) → Place u (frame ∷ outer) (to_left ors ands) ss
    → m.wanted_next (frame ∷ outer) (to_left ors ands) ss false z ≡ Some t → Stands (u ++ at q z ∷ []) t
wanted_moves q (S.Number k) a e = cc
wanted_moves q S.OpenParenthesis a e = led e (wants (begins (Opened.parentheses a q)))
wanted_moves q S.At a e = led e (began a (Under.at_sign q))
wanted_moves q S.Period a e = led e (began a (Under.no_step (Walked.of_condition (Rel.itself q Steps.no_step))))
wanted_moves {frame = frame} {outer = outer} {u = u} {ors = ors} {ands = ands} {ss = ss} {t = t} q (S.Name s) a e =
    by_word (codes "not") (S.Name s) (Some (stand (frame ∷ outer) (to_left ors ands) ss m.not_name)) (Some (stand (frame ∷ outer) (to_left ors ands) ss (m.stepped (tested [] false (T.Name s))))) t
    (λ k h. led h (subst (λ z. Stands (u ++ at q z ∷ []) (stand (frame ∷ outer) (to_left ors ands) ss m.not_name)) (sym k) (began a (Under.not_name q))))
    (λ h. led h (began a (Under.stepped (Trail.first (Test.named q s) Predicates.no_predicate)))) e
wanted_moves q S.Star a e = led e (began a (Under.stepped (Trail.first (Test.any q) Predicates.no_predicate)))
wanted_moves q other a e = cc

-- what an ignored path begins with
pub path_moves : {frame : Frame} {outer : List Frame} {u : List Placed} {joint : Joint} {ss : List Inside} {t : Inner} (q : Spot) (z : Symbol) → Place u (frame ∷ outer) joint ss
    → m.path_next (frame ∷ outer) joint ss z ≡ Some t → Stands (u ++ at q z ∷ []) t
path_moves q S.Period a e = led e (began a (Under.no_step (Walked.of_condition (Rel.itself q Steps.no_step))))
path_moves q (S.Name s) a e = led e (began a (Under.stepped (Trail.first (Test.named q s) Predicates.no_predicate)))
path_moves q S.Star a e = led e (began a (Under.stepped (Trail.first (Test.any q) Predicates.no_predicate)))
path_moves q other a e = cc

pub bracket_moves : {outer : List Frame} {u : List Placed} {joint : Joint} {last : LastStep} {ss : List Inside} {t : Inner} (q : Spot) (z : Symbol) → Opened u (m.brackets joint last ∷ outer) ss
    → m.wanted_next (m.brackets joint last ∷ outer) no_joint ss true z ≡ Some t → Stands (u ++ at q z ∷ []) t
bracket_moves q (S.Number k) a e = led e (Stands.number a q k)
bracket_moves q other a e = wanted_moves q other (begins a) e

pub not_moves : {frame : Frame} {outer : List Frame} {u : List Placed} {ors ands : List form.Condition} {ss : List Inside} {t : Inner} (p q : Spot) (z : Symbol) → Place u (frame ∷ outer) (to_left ors ands) ss
    → m.not_next (frame ∷ outer) (to_left ors ands) (ss ++ []) z ≡ Some t → Stands (u ++ name p (codes "not") ∷ [] ++ at q z ∷ []) t
not_moves {u = u} {ss = ss} p q S.OpenParenthesis a e = led e (stands_same (wants (begins (Opened.negation a p q))) (sym (append_assoc u (name p (codes "not") ∷ []) (at q S.OpenParenthesis ∷ []))) (sym (append-nil ss)))
not_moves p q other a e = step_moves q other a (Trail.first (Test.named p (codes "not")) Predicates.no_predicate) e

-- a bracket closes after a predicate
pub filters : {frames : List Frame} {u v w : List Placed} {joint : Joint} {last : LastStep} {x : form.Predicate} {ss ts rr : List Inside} → Place u frames joint ss → Trail frames (length ss) v last ts → Predicate (length (ss ++ ts)) w x rr
    → Stands (u ++ v ++ w) (stand frames joint (ss ++ ts ++ rr) (m.stepped (filtered last x)))
filters {u = u} {v = v} {w = w} {x = x} {ss = ss} {ts = ts} {rr = rr} a y b =
    stands_same (Stands.under a (Under.stepped (trail_predicate y (same (λ k u ss. Predicate k u x ss) b (length-append ss ts) refl refl)))) (sym (append_assoc u v w)) (sym (append_assoc ss ts rr))

pub number_moves : {outer : List Frame} {u : List Placed} {joint : Joint} {last : LastStep} {ss : List Inside} {t : Inner} (p : Spot) (k : ℕ) (q : Spot) (z : Symbol) → Opened u (m.brackets joint last ∷ outer) ss
    → m.number_ended (m.brackets joint last ∷ outer) ss k z ≡ Some t → Stands (u ++ at p (S.Number k) ∷ [] ++ at q z ∷ []) t
number_moves p k q S.CloseBracket (Opened.brackets {u = u} {v = v} {ss = ss} {ts = ts} a x o) e =
    led e (stands_same (filters a x (Predicate.number o p q k)) (regrouped u v (at o S.OpenBracket ∷ []) (at p (S.Number k) ∷ []) (at q S.CloseBracket ∷ [])) (append-nil (ss ++ ts)))
  where
    regrouped : (u v a b c : List Placed) → u ++ v ++ (a ++ (b ++ c)) ≡ u ++ v ++ a ++ b ++ c
    regrouped u v a b c = simp append_assoc
number_moves p k q other a e = cc
