-- Only a bracket or a parenthesis opens more than was open.
use Rattle.std.proofs.Common.{◌≡◌, ◌≤◌, ◌<◌, ◌⊎◌, inl, inr, ℕ, Bool, true, false, List, [], ◌∷◌, ◌++◌, length, Option, Some, None, refl, ap, subst, arith}
use Rattle.std.specs.Prelude.{codes}
use Rattle.selection_grammar.specs.declared.symbol.Symbol.{Symbol}
use Rattle.selection_grammar.specs.declared.symbol.Symbol.TheVariants as S
use Rattle.selection_grammar.specs.declared.symbol.Placed.{Placed}
use Rattle.selection_grammar.specs.Shapes.{Shape}
use Rattle.selection_grammar.specs.steps.Machine as selection
use Rattle.selection_grammar.specs.Tree.{Tree}
use Rattle.path_grammar.specs.Form as form
use Rattle.path_grammar.specs.Grammar.{Inside}
use Rattle.path_grammar.specs.steps.Machine as m
use Rattle.path_grammar.specs.steps.Machine.{LastStep, Ignoring, Joint, to_left, Frame, Stage, Inner, stand, RootStage, State, advance, open_count, read, most_open}
use Rattle.path_grammar.proofs.Moves.{by_word}
use Rattle.path_grammar.proofs.Reached.{by_otherwise}

-- a symbol opens, or leaves no more open
data Kept : Symbol → ℕ → ℕ → Type 0 where
  bracket : {before suffix : ℕ} → Kept S.OpenBracket before suffix
  parenthesis : {before suffix : ℕ} → Kept S.OpenParenthesis before suffix
  no_more : {z : Symbol} {before suffix : ℕ} → suffix ≤ before → Kept z before suffix

kept : {z : Symbol} {before : ℕ} {s t : Inner} → Some s ≡ Some t → length s.frames ≤ before → Kept z before (length t.frames)
kept {s = s} {t = t} e few = let there : s ≡ t = cc in Kept.no_more (omega (arith, few, ap (λ (r : Inner). length r.frames) there))

contains_keeps : {z : Symbol} (frame : Frame) (outer : List Frame) (joint : Joint) (all : List Inside) (xs : List form.Step) (o : Option Ignoring) (t : Inner) → m.unless_ignored o (Some (stand (frame ∷ outer) joint all (m.contains xs))) ≡ Some t → Kept z (length (frame ∷ outer)) (length t.frames)
contains_keeps frame outer joint all xs None t e = kept e (omega arith)
contains_keeps frame outer joint all xs (Some i) t e = cc

bar_keeps : {z : Symbol} (frames : List Frame) (joint : Joint) (all : List Inside) (xs : List form.Step) (o : Option Ignoring) (t : Inner) → m.bar_next frames joint all xs o ≡ Some t → Kept z (length frames) (length t.frames)
bar_keeps frames joint all xs None t e = cc
bar_keeps frames joint all xs (Some i) t e = kept e (omega arith)

steps_keep : (frames : List Frame) (joint : Joint) (all : List Inside) (xs : List form.Step) (z : Symbol) (t : Inner) → m.steps_next frames joint all xs z ≡ Some t → Kept z (length frames) (length t.frames)
steps_keep frames joint all xs S.Slash t e = kept e (omega arith)
steps_keep frames joint all xs S.DoubleSlash t e = kept e (omega arith)
steps_keep [] joint all xs (S.Name s) t e = by_word (codes "contains") (S.Name s) None None t (λ k h. cc) (λ h. cc) e
steps_keep (frame ∷ outer) joint all xs (S.Name s) t e = by_word (codes "contains") (S.Name s) (m.contains_next (frame ∷ outer) joint all xs) None t (λ k h. contains_keeps frame outer joint all xs joint.ignoring t h) (λ h. cc) e
steps_keep frames joint all xs S.VerticalBar t e = bar_keeps frames joint all xs joint.ignoring t e
steps_keep frames joint all xs other t e = cc

step_keeps : (frames : List Frame) (joint : Joint) (all : List Inside) (last : LastStep) (z : Symbol) (t : Inner) → m.step_next frames joint all last z ≡ Some t → Kept z (length frames) (length t.frames)
step_keeps frames joint all last S.OpenBracket t e = Kept.bracket
step_keeps frames joint all last other t e = steps_keep frames joint all (m.all_steps last) other t e

test_keeps : (frames : List Frame) (joint : Joint) (all : List Inside) (xs : List form.Step) (deep : Bool) (z : Symbol) (t : Inner) → m.test_next frames joint all xs deep z ≡ Some t → Kept z (length frames) (length t.frames)
test_keeps frames joint all xs deep (S.Name s) t e = kept e (omega arith)
test_keeps frames joint all xs deep S.Star t e = kept e (omega arith)
test_keeps frames joint all xs deep other t e = cc

wanted_keeps : (frames : List Frame) (joint : Joint) (all : List Inside) (first : Bool) (z : Symbol) (t : Inner) → m.wanted_next frames joint all first z ≡ Some t → Kept z (length frames) (length t.frames)
wanted_keeps frames joint all true (S.Number k) t e = kept e (omega arith)
wanted_keeps frames joint all false (S.Number k) t e = cc
wanted_keeps frames joint all first S.OpenParenthesis t e = Kept.parenthesis
wanted_keeps frames joint all first S.At t e = kept e (omega arith)
wanted_keeps frames joint all first S.Period t e = kept e (omega arith)
wanted_keeps frames joint all first (S.Name s) t e = by_word (codes "not") (S.Name s) (Some (stand frames joint all m.not_name)) (m.test_next frames joint all [] false (S.Name s)) t (λ k h. kept h (omega arith)) (λ h. test_keeps frames joint all [] false (S.Name s) t h) e
wanted_keeps frames joint all first S.Star t e = kept e (omega arith)
wanted_keeps frames joint all first other t e = cc

not_keeps : (frames : List Frame) (joint : Joint) (all : List Inside) (z : Symbol) (t : Inner) → m.not_next frames joint all z ≡ Some t → Kept z (length frames) (length t.frames)
not_keeps frames joint all S.OpenParenthesis t e = Kept.parenthesis
not_keeps frames joint all other t e = step_keeps frames joint all m.not_step other t e

close_bracket_keeps : {z : Symbol} (frames : List Frame) (all : List Inside) (x : form.Predicate) (t : Inner) → m.close_bracket frames all x ≡ Some t → Kept z (length frames) (length t.frames)
close_bracket_keeps [] all x t e = cc
close_bracket_keeps (m.brackets joint last ∷ outer) all x t e = kept e (omega arith)
close_bracket_keeps (m.parentheses joint ∷ outer) all x t e = cc
close_bracket_keeps (m.negation joint ∷ outer) all x t e = cc

close_parenthesis_keeps : {z : Symbol} (frames : List Frame) (all : List Inside) (c : form.Condition) (t : Inner) → m.close_parenthesis frames all c ≡ Some t → Kept z (length frames) (length t.frames)
close_parenthesis_keeps [] all c t e = cc
close_parenthesis_keeps (m.brackets joint last ∷ outer) all c t e = cc
close_parenthesis_keeps (m.parentheses joint ∷ outer) all c t e = kept e (omega arith)
close_parenthesis_keeps (m.negation joint ∷ outer) all c t e = kept e (omega arith)

number_keeps : (frames : List Frame) (all : List Inside) (k : ℕ) (z : Symbol) (t : Inner) → m.number_ended frames all k z ≡ Some t → Kept z (length frames) (length t.frames)
number_keeps frames all k S.CloseBracket t e = close_bracket_keeps frames all (form.number k) t e
number_keeps frames all k other t e = cc

name_keeps : (frames : List Frame) (joint : Joint) (all : List Inside) (z : Symbol) (t : Inner) → m.name_next frames joint all z ≡ Some t → Kept z (length frames) (length t.frames)
name_keeps frames joint all (S.Name s) t e = kept e (omega arith)
name_keeps frames joint all other t e = cc

attribute_keeps : (frames : List Frame) (joint : Joint) (all : List Inside) (s : List ℕ) (z : Symbol) (t : Inner) → m.attribute_next frames joint all s z ≡ Some t → Kept z (length frames) (length t.frames)
attribute_keeps frames joint all s S.Equals t e = kept e (omega arith)
attribute_keeps frames joint all s other t e = cc

value_keeps : (frames : List Frame) (joint : Joint) (all : List Inside) (s : List ℕ) (z : Symbol) (t : Inner) → m.value_next frames joint all s z ≡ Some t → Kept z (length frames) (length t.frames)
value_keeps frames joint all s (S.Text v) t e = kept e (omega arith)
value_keeps frames joint all s other t e = cc

text_keeps : (frames : List Frame) (joint : Joint) (all : List Inside) (xs : List form.Step) (z : Symbol) (t : Inner) → m.text_next frames joint all xs z ≡ Some t → Kept z (length frames) (length t.frames)
text_keeps frames joint all xs z t e = by_word (codes "text") z (Some (stand frames joint all (m.selecting xs [] (Shape.whole selection.start)))) None t (λ k h. kept h (omega arith)) (λ h. cc) e

selecting_keeps : {z : Symbol} (frames : List Frame) (joint : Joint) (all : List Inside) (xs : List form.Step) (w : List Placed) (o : Option (Shape selection.State)) (t : Inner) → m.selecting_next frames joint all xs w o ≡ Some t → Kept z (length frames) (length t.frames)
selecting_keeps frames joint all xs w None t e = cc
selecting_keeps frames joint all xs w (Some shape) t e = kept e (omega arith)

path_keeps : (frames : List Frame) (joint : Joint) (all : List Inside) (z : Symbol) (t : Inner) → m.path_next frames joint all z ≡ Some t → Kept z (length frames) (length t.frames)
path_keeps frames joint all S.Period t e = kept e (omega arith)
path_keeps frames joint all (S.Name s) t e = kept e (omega arith)
path_keeps frames joint all S.Star t e = kept e (omega arith)
path_keeps frames joint all other t e = cc

without_keeps : (frames : List Frame) (joint : Joint) (all : List Inside) (xs : List form.Step) (k : ℕ) (z : Symbol) (t : Inner) → m.without_next frames joint all xs k z ≡ Some t → Kept z (length frames) (length t.frames)
without_keeps frames joint all xs n z t e = by_word (codes "without") z (Some (stand frames joint all (m.without xs n))) None t (λ k h. kept h (omega arith)) (λ h. cc) e

content_keeps : (frames : List Frame) (joint : Joint) (all : List Inside) (xs : List form.Step) (k : ℕ) (z : Symbol) (t : Inner) → m.content_next frames joint all xs k z ≡ Some t → Kept z (length frames) (length t.frames)
content_keeps frames joint all xs n z t e = by_word (codes "content") z (Some _) None t (λ k h. kept h (omega arith)) (λ h. cc) e

whole_keeps : (frames : List Frame) (joint : Joint) (all : List Inside) (xs : List form.Step) (w : List Placed) (o : Option Tree) (z : Symbol) (t : Inner) → m.whole_next frames joint all xs w o z ≡ Some t → Kept z (length frames) (length t.frames)
whole_keeps frames joint all xs w None z t e = cc
whole_keeps frames joint all xs w (Some tree) z t e = without_keeps frames joint _ xs (length all) z t e

within_keeps : (frames : List Frame) (joint : Joint) (all : List Inside) (stage : Stage) (p : Placed) (t : Inner) → m.within_next frames joint all stage p ≡ Some t → Kept p.symbol (length frames) (length t.frames)
within_keeps frames joint all m.no_step p t e = steps_keep frames joint all [] p.symbol t e
within_keeps frames joint all (m.slashes xs deep) p t e = test_keeps frames joint all xs deep p.symbol t e
within_keeps frames joint all (m.stepped last) p t e = step_keeps frames joint all last p.symbol t e
within_keeps frames joint all (m.wanted first) p t e = wanted_keeps frames joint all first p.symbol t e
within_keeps frames joint all (m.number k) p t e = number_keeps frames all k p.symbol t e
within_keeps frames joint all m.not_name p t e = not_keeps frames joint all p.symbol t e
within_keeps frames joint all m.at_sign p t e = name_keeps frames joint all p.symbol t e
within_keeps frames joint all (m.attribute s) p t e = attribute_keeps frames joint all s p.symbol t e
within_keeps frames joint all (m.equals s) p t e = value_keeps frames joint all s p.symbol t e
within_keeps frames joint all (m.ended c) p t e = cc
within_keeps frames joint all (m.contains xs) p t e = text_keeps frames joint all xs p.symbol t e
within_keeps frames joint all (m.selecting xs w shape) p t e =
    by_otherwise (m.selecting_next frames joint all xs (w ++ p ∷ []) (selection.advance shape p)) (m.whole_next frames joint all xs w (selection.finished_at shape) p.symbol) t
    (λ h. selecting_keeps frames joint all xs (w ++ p ∷ []) (selection.advance shape p) t h) (λ h. whole_keeps frames joint all xs w (selection.finished_at shape) p.symbol t h) e
within_keeps frames joint all (m.selected xs k) p t e = without_keeps frames joint all xs k p.symbol t e
within_keeps frames joint all (m.without xs k) p t e = content_keeps frames joint all xs k p.symbol t e
within_keeps frames joint all m.path_wanted p t e = path_keeps frames joint all p.symbol t e

joint_keeps : (frames : List Frame) (joint : Joint) (c : form.Condition) (all : List Inside) (z : Symbol) (t : Inner) → m.joint_next frames joint c all z ≡ Some t → Kept z (length frames) (length t.frames)
joint_keeps [] joint c all z t e = cc
joint_keeps (frame ∷ outer) joint c all S.CloseBracket t e = close_bracket_keeps (frame ∷ outer) all (form.holds (m.condition_with joint c)) t e
joint_keeps (frame ∷ outer) joint c all S.CloseParenthesis t e = close_parenthesis_keeps (frame ∷ outer) all (m.condition_with joint c) t e
joint_keeps (frame ∷ outer) joint c all (S.Name s) t e =
    by_word (codes "and") (S.Name s) (Some (stand (frame ∷ outer) (to_left joint.ors (m.ands_with joint c)) all (m.wanted false))) _ t (λ k h. kept h (omega arith))
    (λ i. by_word (codes "or") (S.Name s) (Some (stand (frame ∷ outer) (to_left (m.ors_with joint c) []) all (m.wanted false))) None t (λ k h. kept h (omega arith)) (λ h. cc) i) e
joint_keeps (frame ∷ outer) joint c all other t e = cc

after_keeps : (frames : List Frame) (joint : Joint) (o : Option (form.Condition × List Inside)) (z : Symbol) (t : Inner) → m.after_next frames joint o z ≡ Some t → Kept z (length frames) (length t.frames)
after_keeps frames joint None z t e = cc
after_keeps frames joint (Some (c, all)) z t e = joint_keeps frames joint c all z t e

inner_keeps : (s t : Inner) (p : Placed) → m.advance_inner s p ≡ Some t → Kept p.symbol (length s.frames) (length t.frames)
inner_keeps s t p e =
    by_otherwise (m.within_next s.frames s.joint s.selections s.stage p) (m.after_next s.frames s.joint (m.condition_at s.joint.ignoring s.selections s.stage) p.symbol) t
    (λ h. within_keeps s.frames s.joint s.selections s.stage p t h) (λ h. after_keeps s.frames s.joint (m.condition_at s.joint.ignoring s.selections s.stage) p.symbol t h) e

-- and in the root
root_kept : {z : Symbol} {s t : State} → Some s ≡ Some t → open_count s ≡ 0 → Kept z 0 (open_count t)
root_kept {s = s} {t = t} e none = let there : s ≡ t = cc in Kept.no_more (omega (arith, none, ap open_count there))

root_keeps : (stage : RootStage) (z : Symbol) (t : State) → m.root_next stage z ≡ Some t → Kept z 0 (open_count t)
root_keeps m.nothing z t e =
    by_word (codes "collection") z (Some (m.at_root m.collection_name)) _ t (λ k h. root_kept h refl)
    (λ i. by_word (codes "doc") z (Some (m.at_root m.doc_name)) None t (λ k h. root_kept h refl) (λ h. cc) i) e
root_keeps m.collection_name S.OpenParenthesis t e = Kept.parenthesis
root_keeps m.collection_open S.CloseParenthesis t e = root_kept e refl
root_keeps m.doc_name S.OpenParenthesis t e = Kept.parenthesis
root_keeps m.doc_open (S.Text s) t e = root_kept e refl
root_keeps (m.doc_text s) S.CloseParenthesis t e = root_kept e refl
root_keeps m.collection_name other t e = cc
root_keeps m.collection_open other t e = cc
root_keeps m.doc_name other t e = cc
root_keeps m.doc_open other t e = cc
root_keeps (m.doc_text s) other t e = cc

keeps : (s t : State) (p : Placed) → advance s p ≡ Some t → Kept p.symbol (open_count s) (open_count t)
keeps (m.at_root stage) t p e = root_keeps stage p.symbol t e
keeps (m.along root s) t p e = go (m.advance_inner s p) refl e
  where
    go : (o : Option Inner) → m.advance_inner s p ≡ o → m.along_to root o ≡ Some t → Kept p.symbol (length s.frames) (open_count t)
    go None k h = cc
    go (Some r) k h = let there : m.along root r ≡ t = cc in subst (λ (z : State). Kept p.symbol (length s.frames) (open_count z)) there (inner_keeps s r p k)

opening : {z : Symbol} {before suffix : ℕ} → Kept z before suffix → before < suffix → (z ≡ S.OpenBracket) ⊎ (z ≡ S.OpenParenthesis)
opening Kept.bracket more = inl refl
opening Kept.parenthesis more = inr refl
opening (Kept.no_more few) more = absurd (omega (arith, few, more))

pub grows_by : (s t : State) (p : Placed) → advance s p ≡ Some t → open_count s < open_count t → (p.symbol ≡ S.OpenBracket) ⊎ (p.symbol ≡ S.OpenParenthesis)
grows_by s t p e more = opening (keeps s t p e) more
