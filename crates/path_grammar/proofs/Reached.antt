-- Whatever the machine has read is spelled by the grammar.
use Rattle.std.proofs.Common.{◌≡◌, ℕ, ◌+◌, true, false, List, [], ◌∷◌, ◌++◌, length, Option, Some, None, refl, sym, ◌∙◌, ap, subst, append_assoc}
use Rattle.std.proofs.lemmas.List.{append-nil, length-append}
use Rattle.std.specs.Prelude.{codes}
use Rattle.selection_grammar.specs.declared.symbol.Symbol.{Symbol}
use Rattle.selection_grammar.specs.declared.symbol.Symbol.TheVariants as S
use Rattle.selection_grammar.specs.declared.symbol.Placed.{Placed}
use Rattle.selection_grammar.specs.Grammar.{Spot, at, name, string, Selection}
use Rattle.selection_grammar.specs.Shapes.{Shape}
use Rattle.selection_grammar.specs.steps.Machine as selection
use Rattle.selection_grammar.specs.Tree.{Tree}
use Rattle.selection_grammar.proofs.Decided as laws
use Rattle.path_grammar.specs.Form as form
use Rattle.path_grammar.specs.Form.{steps, predicates, joined, or_of, and_of}
use Rattle.path_grammar.specs.Grammar as g
use Rattle.path_grammar.specs.Grammar.{Inside, inside, Root, Step, Steps, Predicate, Ors, Primary, Rel, Path}
use Rattle.path_grammar.specs.steps.Machine as m
use Rattle.path_grammar.specs.steps.Machine.{LastStep, all_steps, Ignoring, Joint, to_left, ignored, ands_with, ors_with, condition_with, steps_condition, Frame, Stage, Inner, stand, State, read, run_on, advance, finished}
use Rattle.path_grammar.proofs.Given.{given, same_value, same_selections}
use Rattle.path_grammar.proofs.Standing.{same, Before, RelsBefore, Ignored, Walked, Under, Place, Opened, Stands, stands_same, with_joint, after_or, after_and, ignored_whole, trail_walked}
use Rattle.path_grammar.proofs.Moves.{led, by_word, path_wants, goes_on, steps_moves, step_moves, test_moves, wants, wanted_moves, path_moves, bracket_moves, not_moves, filters, number_moves}

-- attributes
name_moves : {frame : Frame} {outer : List Frame} {u : List Placed} {ors ands : List form.Condition} {ss : List Inside} {t : Inner} (p q : Spot) (z : Symbol) → Place u (frame ∷ outer) (to_left ors ands) ss
    → m.name_next (frame ∷ outer) (to_left ors ands) (ss ++ []) z ≡ Some t → Stands (u ++ at p S.At ∷ [] ++ at q z ∷ []) t
name_moves p q (S.Name s) a e = led e (goes_on (at p S.At ∷ []) (name q s) a (Under.attribute p q s) refl)
name_moves p q other a e = cc

attribute_moves : {frame : Frame} {outer : List Frame} {u : List Placed} {ors ands : List form.Condition} {ss : List Inside} {t : Inner} (p r : Spot) (s : List ℕ) (q : Spot) (z : Symbol) → Place u (frame ∷ outer) (to_left ors ands) ss
    → m.attribute_next (frame ∷ outer) (to_left ors ands) (ss ++ []) s z ≡ Some t → Stands (u ++ (at p S.At ∷ name r s ∷ []) ++ at q z ∷ []) t
attribute_moves p r s q S.Equals a e = led e (goes_on (at p S.At ∷ name r s ∷ []) (at q S.Equals) a (Under.equals p r q s) refl)
attribute_moves p r s q other a e = cc

value_moves : {frame : Frame} {outer : List Frame} {u : List Placed} {ors ands : List form.Condition} {ss : List Inside} {t : Inner} (p r o : Spot) (s : List ℕ) (q : Spot) (z : Symbol) → Place u (frame ∷ outer) (to_left ors ands) ss
    → m.value_next (frame ∷ outer) (to_left ors ands) (ss ++ []) s z ≡ Some t → Stands (u ++ (at p S.At ∷ name r s ∷ at o S.Equals ∷ []) ++ at q z ∷ []) t
value_moves p r o s q (S.Text value) a e = led e (goes_on (at p S.At ∷ name r s ∷ at o S.Equals ∷ []) (string q value) a (Under.ended (Primary.valued p r o q s value)) refl)
value_moves p r o s q other a e = cc

-- a selection
text_moves : {frame : Frame} {outer : List Frame} {u v : List Placed} {ors ands : List form.Condition} {xs : List form.Step} {ss ts : List Inside} {t : Inner} (p q : Spot) (z : Symbol) → Place u (frame ∷ outer) (to_left ors ands) ss → Rel (length ss) v xs ts
    → m.text_next (frame ∷ outer) (to_left ors ands) (ss ++ ts) xs z ≡ Some t → Stands (u ++ (v ++ name p (codes "contains") ∷ []) ++ at q z ∷ []) t
text_moves {frame = frame} {outer = outer} {u = u} {v = v} {ors = ors} {ands = ands} {xs = xs} {ss = ss} {ts = ts} {t = t} p q z a x e =
    by_word (codes "text") z (Some (stand (frame ∷ outer) (to_left ors ands) (ss ++ ts) (m.selecting xs [] (Shape.whole selection.start)))) None t
    (λ k h. led h (goes_on (v ++ name p (codes "contains") ∷ []) (at q z) a (Under.selecting x p q [] (Shape.whole selection.start) refl) (ap (λ y. v ++ name p (codes "contains") ∷ at q y ∷ []) (sym k) ∙ sym (append_assoc v (name p (codes "contains") ∷ []) (at q z ∷ [])))))
    (λ h. cc) e

-- by whether the condition under way can go on, or else is whole
pub by_otherwise : {B : Type 0} (here there : Option Inner) (t : Inner) → (here ≡ Some t → B) → (there ≡ Some t → B) → m.otherwise here there ≡ Some t → B
by_otherwise None there t go further e = further e
by_otherwise (Some s) there t go further e = go e

-- `without` after a selection, and `content` after it
without_moves : {frame : Frame} {outer : List Frame} {u v : List Placed} {ors ands : List form.Condition} {xs : List form.Step} {ss ts : List Inside} {t : Inner} (p q : Spot) (w : List Placed) (o : Option Tree) (z : Placed) → Place u (frame ∷ outer) (to_left ors ands) ss → Rel (length ss) v xs ts
    → selection.finished (selection.read w) ≡ o → m.whole_next (frame ∷ outer) (to_left ors ands) (ss ++ ts) xs w o z.symbol ≡ Some t → Stands (u ++ (v ++ name p (codes "contains") ∷ name q (codes "text") ∷ w) ++ z ∷ []) t
without_moves p q w None z a x r e = cc
without_moves {frame = frame} {outer = outer} {v = v} {ors = ors} {ands = ands} {xs = xs} {ss = ss} {ts = ts} {t = t} p q w (Some tree) z a x r e =
    by_word (codes "without") z.symbol (Some (stand (frame ∷ outer) (to_left ors ands) (ss ++ ts ++ inside w tree ∷ []) (m.without xs (length (ss ++ ts))))) None t
    (λ k h. led (sym counted ∙ h) (goes_on (v ++ name p (codes "contains") ∷ name q (codes "text") ∷ w) z a (Under.without x p q (laws.read_spells w tree r) (z.from, z.to) (length (ss ++ ts)) (length-append ss ts))
    (ap (λ y. v ++ name p (codes "contains") ∷ name q (codes "text") ∷ w ++ at (z.from, z.to) y ∷ []) (sym k))))
    (λ h. cc) e
  where
    counted : Some (stand (frame ∷ outer) (to_left ors ands) (ss ++ ts ++ inside w tree ∷ []) (m.without xs (length (ss ++ ts))))
        ≡ Some (stand (frame ∷ outer) (to_left ors ands) (ss ++ (ts ++ inside w tree ∷ [])) (m.without xs (length (ss ++ ts))))
    counted = ap (λ z. Some (stand (frame ∷ outer) (to_left ors ands) z (m.without xs (length (ss ++ ts))))) (append_assoc ss ts (inside w tree ∷ []))

content_moves : {frame : Frame} {outer : List Frame} {u v w : List Placed} {ors ands : List form.Condition} {xs : List form.Step} {ss ts : List Inside} {x : Tree} {t : Inner} (p q r o : Spot) (k : ℕ) (z : Symbol) → Place u (frame ∷ outer) (to_left ors ands) ss → Rel (length ss) v xs ts
    → Selection w x → k ≡ length ss + length ts → m.content_next (frame ∷ outer) (to_left ors ands) (ss ++ (ts ++ inside w x ∷ [])) xs k z ≡ Some t
    → Stands (u ++ (v ++ name p (codes "contains") ∷ name q (codes "text") ∷ w ++ name r (codes "without") ∷ []) ++ at o z ∷ []) t
content_moves {frame = frame} {outer = outer} {u = u} {v = v} {w = w} {ors = ors} {ands = ands} {xs = xs} {ss = ss} {ts = ts} {x = x} {t = t} p q r o k z a rel selected n e =
    by_word (codes "content") z (Some (there k)) None t
    (λ e h. led (sym (ap (λ n. Some (there n)) n) ∙ h) (path_wants (Place.in_ignored a (Ignored.paths rel p q selected r o RelsBefore.none))
    (ap (λ y. u ++ (v ++ name p (codes "contains") ∷ name q (codes "text") ∷ w ++ name r (codes "without") ∷ at o y ∷ [])) (sym e) ∙ regrouped u (v ++ name p (codes "contains") ∷ name q (codes "text") ∷ w) (name r (codes "without") ∷ []) (at o z ∷ []))
    (ap (λ z. ss ++ z) (append-nil (ts ++ inside w x ∷ [])))))
    (λ h. cc) e
  where
    there : ℕ → Inner
    there n = stand (frame ∷ outer) (ignored ors ands (record { before = xs; selection = n; paths = [] })) (ss ++ (ts ++ inside w x ∷ [])) m.path_wanted

    regrouped : (u v w z : List Placed) → u ++ (v ++ (w ++ z)) ≡ u ++ (v ++ w) ++ z
    regrouped u v w z = simp append_assoc

selecting_moves : {frame : Frame} {outer : List Frame} {u v : List Placed} {ors ands : List form.Condition} {xs : List form.Step} {ss ts : List Inside} {t : Inner} (p q : Spot) (w : List Placed) (shape : Shape selection.State) (z : Placed) → Place u (frame ∷ outer) (to_left ors ands) ss → Rel (length ss) v xs ts
    → selection.read w ≡ Some shape → m.within_next (frame ∷ outer) (to_left ors ands) (ss ++ ts) (m.selecting xs w shape) z ≡ Some t → Stands (u ++ (v ++ name p (codes "contains") ∷ name q (codes "text") ∷ w) ++ z ∷ []) t
selecting_moves {frame = frame} {outer = outer} {u = u} {v = v} {ors = ors} {ands = ands} {xs = xs} {ss = ss} {ts = ts} {t = t} p q w shape z a x r e =
    by_otherwise (m.selecting_next (frame ∷ outer) (to_left ors ands) (ss ++ ts) xs (w ++ z ∷ []) (selection.advance shape z)) (m.whole_next (frame ∷ outer) (to_left ors ands) (ss ++ ts) xs w (selection.finished_at shape) z.symbol) t
    (go (selection.advance shape z) refl) (without_moves p q w (selection.finished_at shape) z a x (ap selection.finished r)) e
  where
    go : (o : Option (Shape selection.State)) → selection.advance shape z ≡ o → m.selecting_next (frame ∷ outer) (to_left ors ands) (ss ++ ts) xs (w ++ z ∷ []) o ≡ Some t → Stands (u ++ (v ++ name p (codes "contains") ∷ name q (codes "text") ∷ w) ++ z ∷ []) t
    go None k h = cc
    go (Some next) k h = led h (goes_on (v ++ name p (codes "contains") ∷ name q (codes "text") ∷ w) z a
        (Under.selecting x p q (w ++ z ∷ []) next (laws.read-append w (z ∷ []) ∙ ap (λ o. selection.run_on o (z ∷ [])) r ∙ ap (λ o. selection.run_on o []) k))
        (sym (append_assoc v (name p (codes "contains") ∷ name q (codes "text") ∷ w) (z ∷ []))))

-- a symbol that goes on with the condition under way
within_moves : {frames : List Frame} {u v : List Placed} {joint : Joint} {stage : Stage} {ss ts : List Inside} {t : Inner} (p : Placed) → Place u frames joint ss → Under frames joint (length ss) v stage ts
    → m.within_next frames joint (ss ++ ts) stage p ≡ Some t → Stands (u ++ v ++ p ∷ []) t
within_moves p a (Under.no_step x) e = steps_moves (p.from, p.to) p.symbol a x e
within_moves p a (Under.slashes x s) e = test_moves (p.from, p.to) p.symbol a x s e
within_moves p a (Under.stepped x) e = step_moves (p.from, p.to) p.symbol a x e
within_moves {u = u} {ss = ss} {t = t} p a (Under.wanted {frame = frame} {outer = outer} {ors = ors} {ands = ands}) e =
    subst (λ z. Stands (z ++ p ∷ []) t) (sym (append-nil u)) (wanted_moves (p.from, p.to) p.symbol a (ap (λ z. m.wanted_next (frame ∷ outer) (to_left ors ands) z false p.symbol) (sym (append-nil ss)) ∙ e))
within_moves p a (Under.not_name q) e = not_moves q (p.from, p.to) p.symbol a e
within_moves p a (Under.at_sign q) e = name_moves q (p.from, p.to) p.symbol a e
within_moves p a (Under.attribute q r s) e = attribute_moves q r s (p.from, p.to) p.symbol a e
within_moves p a (Under.equals q r o s) e = value_moves q r o s (p.from, p.to) p.symbol a e
within_moves p a (Under.ended x) e = cc
within_moves p a (Under.contains x q) e = text_moves q (p.from, p.to) p.symbol a x e
within_moves p a (Under.selecting x q r w shape h) e = selecting_moves q r w shape p a x h e
within_moves p a (Under.without x q r selected o k n) e = content_moves q r o (p.from, p.to) k p.symbol a x selected n e
within_moves {u = u} {ss = ss} {t = t} p a (Under.path_wanted {frame = frame} {outer = outer} {ors = ors} {ands = ands} {i = i}) e =
    subst (λ z. Stands (z ++ p ∷ []) t) (sym (append-nil u)) (path_moves (p.from, p.to) p.symbol a (ap (λ z. m.path_next (frame ∷ outer) (ignored ors ands i) z p.symbol) (sym (append-nil ss)) ∙ e))

-- the condition under way is whole
record Whole (ss : List Inside) (v : List Placed) (c : form.Condition) (all : List Inside) : Type 0 where
  more : List Inside
  primary : Primary (length ss) v c more
  are : ss ++ more ≡ all

whole : {ss ts all : List Inside} {v : List Placed} {b c : form.Condition} → Primary (length ss) v b ts → given b (ss ++ ts) ≡ given c all → Whole ss v c all
whole {ss = ss} {ts = ts} {v = v} x e = record { more = ts; primary = subst (λ z. Primary (length ss) v z ts) (same_value e) x; are = same_selections e }

selection_whole : {ss ts all : List Inside} {v : List Placed} {xs : List form.Step} {c : form.Condition} (p q : Spot) (w : List Placed) (o : Option Tree) → Rel (length ss) v xs ts → selection.finished (selection.read w) ≡ o → m.with_selection (ss ++ ts) xs w o ≡ given c all
    → Whole ss (v ++ name p (codes "contains") ∷ name q (codes "text") ∷ w) c all
selection_whole p q w None x r e = cc
selection_whole {ss = ss} {ts = ts} {all = all} {v = v} {xs = xs} {c = c} p q w (Some tree) x r e =
    let counted : m.with_selection (ss ++ ts) xs w (Some tree) ≡ given (form.contains (steps xs) (length ss + length ts) form.no_paths) (ss ++ (ts ++ inside w tree ∷ [])) =
    ap (λ n. given (form.contains (steps xs) n form.no_paths) (ss ++ ts ++ inside w tree ∷ [])) (length-append ss ts) ∙ ap (λ z. given (form.contains (steps xs) (length ss + length ts) form.no_paths) z) (append_assoc ss ts (inside w tree ∷ [])) in
    whole (Primary.contains x p q (laws.read_spells w tree r)) (sym counted ∙ e)

under_whole : {frame : Frame} {outer : List Frame} {ors ands : List form.Condition} {ss ts all : List Inside} {v : List Placed} {stage : Stage} {c : form.Condition} → Under (frame ∷ outer) (to_left ors ands) (length ss) v stage ts → m.condition_at None (ss ++ ts) stage ≡ given c all → Whole ss v c all
under_whole (Under.no_step (Walked.of_condition x)) e = whole (Primary.exists x) e
under_whole (Under.slashes x s) e = cc
under_whole (Under.stepped x) e = go (trail_walked x) e
  where
    go : {frame : Frame} {outer : List Frame} {ss ts all : List Inside} {v : List Placed} {xs : List form.Step} {c : form.Condition} → Walked (frame ∷ outer) (length ss) v xs ts → given (form.exists (steps xs)) (ss ++ ts) ≡ given c all → Whole ss v c all
    go (Walked.of_condition y) e = whole (Primary.exists y) e
under_whole Under.wanted e = cc
under_whole (Under.not_name p) e = whole (Primary.exists (Rel.some_child (g.named p (codes "not")) g.no_predicate g.no_step)) e
under_whole (Under.at_sign p) e = cc
under_whole (Under.attribute p q s) e = whole (Primary.attribute p q s) e
under_whole (Under.equals p q r s) e = cc
under_whole (Under.ended x) e = whole x e
under_whole (Under.contains x p) e = cc
under_whole (Under.selecting x p q w shape r) e = selection_whole p q w (selection.finished_at shape) x (ap selection.finished r) e
under_whole (Under.without x p q selected r k n) e = cc

-- an ignored path is whole
record PathWhole (ss : List Inside) (v : List Placed) (i : Ignoring) (c : form.Condition) (all : List Inside) : Type 0 where
  xs : List form.Step
  more : List Inside
  rel : Rel (length ss) v xs more
  is : steps_condition (Some i) xs ≡ c
  are : ss ++ more ≡ all

walked_whole : {frame : Frame} {outer : List Frame} {i : Ignoring} {ss ts all : List Inside} {v : List Placed} {xs : List form.Step} {c : form.Condition} → Walked (frame ∷ outer) (length ss) v xs ts → given (steps_condition (Some i) xs) (ss ++ ts) ≡ given c all → PathWhole ss v i c all
walked_whole {ts = ts} {xs = xs} (Walked.of_condition x) e = record { xs = xs; more = ts; rel = x; is = same_value e; are = same_selections e }

path_whole : {frame : Frame} {outer : List Frame} {ors ands : List form.Condition} {i : Ignoring} {ss ts all : List Inside} {v : List Placed} {stage : Stage} {c : form.Condition} → Under (frame ∷ outer) (ignored ors ands i) (length ss) v stage ts → m.condition_at (Some i) (ss ++ ts) stage ≡ given c all → PathWhole ss v i c all
path_whole (Under.no_step x) e = walked_whole x e
path_whole (Under.slashes x s) e = cc
path_whole (Under.stepped x) e = walked_whole (trail_walked x) e
path_whole Under.path_wanted e = cc

-- what stands after a whole condition
bracket_closes : {frames : List Frame} {u w : List Placed} {xs : List form.Condition} {ss rr : List Inside} {t : Inner} (q : Spot) → Opened u frames ss → Ors (length ss) w xs rr
    → m.close_bracket frames (ss ++ rr) (form.holds (joined or_of xs)) ≡ Some t → Stands (u ++ (w ++ at q S.CloseBracket ∷ [])) t
bracket_closes {w = w} q (Opened.brackets {u = u} {v = v} {ss = ss} {ts = ts} a x o) b e = led e (stands_same (filters a x (Predicate.holds o b q)) (regrouped u v (at o S.OpenBracket ∷ []) (w ++ at q S.CloseBracket ∷ [])) refl)
  where
    regrouped : (u v a b : List Placed) → u ++ v ++ (a ++ b) ≡ u ++ v ++ a ++ b
    regrouped u v a b = simp append_assoc
bracket_closes q (Opened.parentheses a o) b e = cc
bracket_closes q (Opened.negation a o r) b e = cc

parenthesis_closes : {frames : List Frame} {u w : List Placed} {xs : List form.Condition} {ss rr : List Inside} {t : Inner} (q : Spot) → Opened u frames ss → Ors (length ss) w xs rr
    → m.close_parenthesis frames (ss ++ rr) (joined or_of xs) ≡ Some t → Stands (u ++ (w ++ at q S.CloseParenthesis ∷ [])) t
parenthesis_closes q (Opened.brackets a x o) b e = cc
parenthesis_closes {w = w} q (Opened.parentheses {u = u} a o) b e = led e (stands_same (Stands.under a (Under.ended (Primary.parentheses o b q))) (sym (append_assoc u (at o S.OpenParenthesis ∷ []) (w ++ at q S.CloseParenthesis ∷ []))) refl)
parenthesis_closes {w = w} q (Opened.negation {u = u} a o r) b e = led e (stands_same (Stands.under a (Under.ended (Primary.negated o r b q))) (sym (append_assoc u (name o (codes "not") ∷ at r S.OpenParenthesis ∷ []) (w ++ at q S.CloseParenthesis ∷ []))) refl)

joint_moves : {frame : Frame} {outer : List Frame} {u v : List Placed} {joint : Joint} {c : form.Condition} {ss ts more : List Inside} {t : Inner} (q : Spot) (z : Symbol) → Opened u (frame ∷ outer) ss → Before (length ss) v joint ts
    → {w : List Placed} → Primary (length ss + length ts) w c more → m.joint_next (frame ∷ outer) joint c (ss ++ (ts ++ more)) z ≡ Some t → Stands (u ++ (v ++ w ++ at q z ∷ [])) t
joint_moves q S.CloseBracket a b x e = bracket_closes q a (with_joint b x) e
joint_moves q S.CloseParenthesis a b x e = parenthesis_closes q a (with_joint b x) e
joint_moves {frame = frame} {outer = outer} {u = u} {v = v} {joint = joint} {c = c} {ss = ss} {ts = ts} {more = more} {t = t} q (S.Name s) a b {w = w} x e =
    by_word (codes "and") (S.Name s) (Some (stand (frame ∷ outer) (to_left joint.ors (ands_with joint c)) (ss ++ (ts ++ more)) (m.wanted false))) _ t
    (λ k h. led h (subst (λ z. Stands (u ++ (v ++ w ++ at q z ∷ [])) (stand (frame ∷ outer) (to_left joint.ors (ands_with joint c)) (ss ++ (ts ++ more)) (m.wanted false))) (sym k) (wants (Place.in_condition a (after_and b x q)))))
    (λ i. by_word (codes "or") (S.Name s) (Some (stand (frame ∷ outer) (to_left (ors_with joint c) []) (ss ++ (ts ++ more)) (m.wanted false))) None t
    (λ k h. led h (subst (λ z. Stands (u ++ (v ++ w ++ at q z ∷ [])) (stand (frame ∷ outer) (to_left (ors_with joint c) []) (ss ++ (ts ++ more)) (m.wanted false))) (sym k) (wants (Place.in_condition a (after_or b x q)))))
    (λ h. cc) i) e
joint_moves q other a b x e = cc

primary_moves : {frame : Frame} {outer : List Frame} {u w : List Placed} {ors ands : List form.Condition} {c : form.Condition} {ss more : List Inside} {t : Inner} (p : Placed) → Place u (frame ∷ outer) (to_left ors ands) ss → Primary (length ss) w c more
    → m.joint_next (frame ∷ outer) (to_left ors ands) c (ss ++ more) p.symbol ≡ Some t → Stands (u ++ w ++ p ∷ []) t
primary_moves {w = w} {c = c} {more = more} {t = t} p (Place.in_condition {frame = frame} {outer = outer} {u = u} {v = v} {joint = joint} {ss = ss} {ts = ts} a b) x e =
    subst (λ z. Stands z t) (regrouped u v w (p ∷ []))
    (joint_moves (p.from, p.to) p.symbol a b (same (λ k u ss. Primary k u c ss) x (length-append ss ts) refl refl) (ap (λ z. m.joint_next (frame ∷ outer) joint c z p.symbol) (sym (append_assoc ss ts more)) ∙ e))
  where
    regrouped : (u v w z : List Placed) → u ++ (v ++ w ++ z) ≡ u ++ v ++ w ++ z
    regrouped u v w z = simp append_assoc

-- what stands to the left tells where a whole condition leads, whether or not its last path is an ignored one
left_next : (frame : Frame) (outer : List Frame) (ors ands : List form.Condition) (i : Ignoring) (c : form.Condition) (all : List Inside) (z : Symbol) → m.joint_next (frame ∷ outer) (to_left ors ands) c all z ≡ m.joint_next (frame ∷ outer) (ignored ors ands i) c all z
left_next frame outer ors ands i c all S.CloseBracket = refl
left_next frame outer ors ands i c all S.CloseParenthesis = refl
left_next frame outer ors ands i c all (S.Name s) = refl
left_next frame outer ors ands i c all other = refl

place_moves : {frames : List Frame} {u v : List Placed} {joint : Joint} {stage : Stage} {c : form.Condition} {ss ts all : List Inside} {t : Inner} (p : Placed) → Place u frames joint ss → Under frames joint (length ss) v stage ts
    → m.condition_at joint.ignoring (ss ++ ts) stage ≡ given c all → m.joint_next frames joint c all p.symbol ≡ Some t → Stands (u ++ v ++ p ∷ []) t
place_moves p Place.at_root y h e = cc
place_moves {c = c} p (Place.in_condition {frame = frame} {outer = outer} {joint = joint} a (Before.before o b)) y h e =
    let x = under_whole y h in
    primary_moves p (Place.in_condition a (Before.before o b)) x.primary (ap (λ z. m.joint_next (frame ∷ outer) joint c z p.symbol) x.are ∙ e)
place_moves {v = w} {c = c} {t = t} p (Place.in_ignored {frame = frame} {outer = outer} {u = u} {v = v} {ors = ors} {ands = ands} {i = i} {ss = ss} {ts = ts} a y) z h e =
    let x = path_whole z h in
    subst (λ z. Stands z t) (regrouped u v w (p ∷ []))
    (primary_moves p a (subst (λ c. Primary (length ss) (v ++ w) c (ts ++ x.more)) x.is (ignored_whole y (same (λ k u ss. Rel k u x.xs ss) x.rel (length-append ss ts) refl refl)))
    (ap (λ z. m.joint_next (frame ∷ outer) (to_left ors ands) c z p.symbol) (sym (append_assoc ss ts x.more) ∙ x.are) ∙ left_next frame outer ors ands i c _ p.symbol ∙ e))
  where
    regrouped : (u v w z : List Placed) → u ++ (v ++ w) ++ z ≡ u ++ v ++ w ++ z
    regrouped u v w z = simp append_assoc

after_moves : {frames : List Frame} {u v : List Placed} {joint : Joint} {stage : Stage} {ss ts : List Inside} {t : Inner} (p : Placed) (o : Option (form.Condition × List Inside)) → Place u frames joint ss → Under frames joint (length ss) v stage ts
    → m.condition_at joint.ignoring (ss ++ ts) stage ≡ o → m.after_next frames joint o p.symbol ≡ Some t → Stands (u ++ v ++ p ∷ []) t
after_moves p None a x h e = cc
after_moves p (Some (c, all)) a x h e = place_moves p a x h e

pub moves : {u : List Placed} (s t : Inner) (p : Placed) → Stands u s → m.advance_inner s p ≡ Some t → Stands (u ++ p ∷ []) t
moves s t p (Stands.under {frames = frames} {joint = joint} {stage = stage} {ss = ss} {ts = ts} a x) e =
    by_otherwise (m.within_next frames joint (ss ++ ts) stage p) (m.after_next frames joint (m.condition_at joint.ignoring (ss ++ ts) stage) p.symbol) t (λ h. within_moves p a x h) (λ h. after_moves p (m.condition_at joint.ignoring (ss ++ ts) stage) a x refl h) e
moves s t p (Stands.bracket {outer = outer} {joint = joint} {last = last} {ss = ss} a) e =
    by_otherwise (m.wanted_next (m.brackets joint last ∷ outer) m.no_joint ss true p.symbol) None t (λ h. bracket_moves (p.from, p.to) p.symbol a h) (λ h. cc) e
moves s t p (Stands.number {outer = outer} {joint = joint} {last = last} {ss = ss} a q k) e =
    by_otherwise (m.number_ended (m.brackets joint last ∷ outer) ss k p.symbol) None t (λ h. number_moves q k (p.from, p.to) p.symbol a h) (λ h. cc) e
