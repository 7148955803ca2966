-- How the machine's ways through conditions are put together.
use Rattle.std.proofs.Common.{◌≡◌, ℕ, suc, ◌+◌, Bool, false, List, [], ◌∷◌, ◌++◌, length, Option, Some, None, refl, sym, ◌∙◌, ap, subst, append_assoc, append-nil, arith}
use Rattle.std.proofs.lemmas.List.{length-append}
use Rattle.std.specs.Prelude.{codes, max}
use Rattle.selection_grammar.specs.declared.symbol.Symbol.{Symbol}
use Rattle.selection_grammar.specs.declared.symbol.Symbol.TheVariants as S
use Rattle.selection_grammar.specs.declared.symbol.Placed.{Placed}
use Rattle.selection_grammar.specs.Grammar.{Spot, at, name, string, Selection}
use Rattle.selection_grammar.specs.Shapes.{Shape}
use Rattle.selection_grammar.specs.steps.Machine as selection
use Rattle.selection_grammar.specs.Tree.{Tree}
use Rattle.selection_grammar.proofs.Decided as laws
use Rattle.path_grammar.specs.Form as form
use Rattle.path_grammar.specs.Form.{steps, paths, no_paths, joined, or_of, and_of}
use Rattle.path_grammar.specs.Grammar.{Inside, inside}
use Rattle.path_grammar.specs.steps.Machine as m
use Rattle.path_grammar.specs.steps.Machine.{Ignoring, with_path, Joint, to_left, no_joint, ignored, ands_with, ors_with, Frame, Stage, Inner, stand, advance_inner}
use Rattle.path_grammar.proofs.Followers.{Follower, Ending, selection_stops}
use Rattle.path_grammar.proofs.Walks.{Walks, stays, one, goes_on, walks_same, After, contains_leads, bar_leads, Ends, after_ends, ignored_ends, ended_ends, attribute_ends}
use Rattle.path_grammar.proofs.Conditions.{StepsWalk, ConditionWalk, AndsWalk, OrsWalk, condition_same}

-- one symbol, with as much open after it as before
moved : {frame : Frame} {outer : List Frame} {joint next : Joint} {stage stage' : Stage} {all more : List Inside} (p : Placed) → advance_inner (stand (frame ∷ outer) joint all stage) p ≡ Some (stand (frame ∷ outer) next more stage')
    → Walks (stand (frame ∷ outer) joint all stage) (p ∷ []) (stand (frame ∷ outer) next more stage') (suc (length outer))
moved p e = walks_same (one p e) refl (omega arith)

pub negated_walk : {frame : Frame} {outer : List Frame} {joint : Joint} {all more : List Inside} {xs : List form.Condition} {u : List Placed} {l : ℕ} (first : Bool) (p q r : Spot)
    → OrsWalk (m.negation joint) (frame ∷ outer) xs more (stand (m.negation joint ∷ frame ∷ outer) no_joint all (m.wanted false)) u l
    → ConditionWalk frame outer joint (form.not_of (joined or_of xs)) more (stand (frame ∷ outer) joint all (m.wanted first)) (name p (codes "not") ∷ at q S.OpenParenthesis ∷ u ++ at r S.CloseParenthesis ∷ []) (suc l)
negated_walk {frame = frame} {outer = outer} {joint = joint} {all = all} {more = more} {xs = xs} first p q r w = record {
  there = stand (frame ∷ outer) joint more (m.ended (form.not_of (joined or_of xs)));
  walks = walks_same (goes_on named (goes_on opens (goes_on w.walks closes))) refl (omega (arith, ap length w.ends.frames_are));
  ends = ended_ends frame outer joint (form.not_of (joined or_of xs)) more;
}
  where
    named : Walks (stand (frame ∷ outer) joint all (m.wanted first)) (name p (codes "not") ∷ []) (stand (frame ∷ outer) joint all m.not_name) (suc (length outer))
    named = moved (name p (codes "not")) refl

    opens : Walks (stand (frame ∷ outer) joint all m.not_name) (at q S.OpenParenthesis ∷ []) (stand (m.negation joint ∷ frame ∷ outer) no_joint all (m.wanted false)) (max (suc (length outer)) (suc (suc (length outer))))
    opens = one (at q S.OpenParenthesis) refl

    closes : Walks w.there (at r S.CloseParenthesis ∷ []) (stand (frame ∷ outer) joint more (m.ended (form.not_of (joined or_of xs)))) (max (length w.there.frames) (suc (length outer)))
    closes = one (at r S.CloseParenthesis) (w.ends.takes r S.CloseParenthesis Follower.close_parenthesis ∙ ap (λ z. Some (stand (frame ∷ outer) joint more (m.ended (form.not_of (joined or_of z))))) w.conditions)

pub parentheses_walk : {frame : Frame} {outer : List Frame} {joint : Joint} {all more : List Inside} {xs : List form.Condition} {u : List Placed} {l : ℕ} (first : Bool) (p q : Spot)
    → OrsWalk (m.parentheses joint) (frame ∷ outer) xs more (stand (m.parentheses joint ∷ frame ∷ outer) no_joint all (m.wanted false)) u l
    → ConditionWalk frame outer joint (joined or_of xs) more (stand (frame ∷ outer) joint all (m.wanted first)) (at p S.OpenParenthesis ∷ u ++ at q S.CloseParenthesis ∷ []) (suc l)
parentheses_walk {frame = frame} {outer = outer} {joint = joint} {all = all} {more = more} {xs = xs} first p q w = record {
  there = stand (frame ∷ outer) joint more (m.ended (joined or_of xs));
  walks = walks_same (goes_on opens (goes_on w.walks closes)) refl (omega (arith, ap length w.ends.frames_are));
  ends = ended_ends frame outer joint (joined or_of xs) more;
}
  where
    opens : Walks (stand (frame ∷ outer) joint all (m.wanted first)) (at p S.OpenParenthesis ∷ []) (stand (m.parentheses joint ∷ frame ∷ outer) no_joint all (m.wanted false)) (max (suc (length outer)) (suc (suc (length outer))))
    opens = one (at p S.OpenParenthesis) refl

    closes : Walks w.there (at q S.CloseParenthesis ∷ []) (stand (frame ∷ outer) joint more (m.ended (joined or_of xs))) (max (length w.there.frames) (suc (length outer)))
    closes = one (at q S.CloseParenthesis) (w.ends.takes q S.CloseParenthesis Follower.close_parenthesis ∙ ap (λ z. Some (stand (frame ∷ outer) joint more (m.ended (joined or_of z)))) w.conditions)

-- attributes
name_walk : (frame : Frame) (outer : List Frame) (joint : Joint) (all : List Inside) (first : Bool) (p q : Spot) (s : List ℕ)
    → Walks (stand (frame ∷ outer) joint all (m.wanted first)) (at p S.At ∷ name q s ∷ []) (stand (frame ∷ outer) joint all (m.attribute s)) (suc (length outer))
name_walk frame outer joint all first p q s = walks_same (goes_on sign named) refl (omega arith)
  where
    sign : Walks (stand (frame ∷ outer) joint all (m.wanted first)) (at p S.At ∷ []) (stand (frame ∷ outer) joint all m.at_sign) (suc (length outer))
    sign = moved (at p S.At) refl

    named : Walks (stand (frame ∷ outer) joint all m.at_sign) (name q s ∷ []) (stand (frame ∷ outer) joint all (m.attribute s)) (suc (length outer))
    named = moved (name q s) refl

pub attribute_walk : (frame : Frame) (outer : List Frame) (joint : Joint) (all : List Inside) (first : Bool) (p q : Spot) (s : List ℕ)
    → ConditionWalk frame outer joint (form.attribute s None) (all ++ []) (stand (frame ∷ outer) joint all (m.wanted first)) (at p S.At ∷ name q s ∷ []) 0
attribute_walk frame outer joint all first p q s = condition_same (record {
  there = stand (frame ∷ outer) joint all (m.attribute s);
  walks = walks_same (name_walk frame outer joint all first p q s) refl (omega arith);
  ends = attribute_ends frame outer joint s all;
}) refl (sym (append-nil all)) refl

pub value_walk : (frame : Frame) (outer : List Frame) (joint : Joint) (all : List Inside) (first : Bool) (p q r t : Spot) (s value : List ℕ)
    → ConditionWalk frame outer joint (form.attribute s (Some value)) (all ++ []) (stand (frame ∷ outer) joint all (m.wanted first)) (at p S.At ∷ name q s ∷ at r S.Equals ∷ string t value ∷ []) 0
value_walk frame outer joint all first p q r t s value = condition_same (record {
  there = stand (frame ∷ outer) joint all (m.ended (form.attribute s (Some value)));
  walks = walks_same (goes_on (name_walk frame outer joint all first p q s) (goes_on sign valued)) refl (omega arith);
  ends = ended_ends frame outer joint (form.attribute s (Some value)) all;
}) refl (sym (append-nil all)) refl
  where
    sign : Walks (stand (frame ∷ outer) joint all (m.attribute s)) (at r S.Equals ∷ []) (stand (frame ∷ outer) joint all (m.equals s)) (suc (length outer))
    sign = moved (at r S.Equals) refl

    valued : Walks (stand (frame ∷ outer) joint all (m.equals s)) (string t value ∷ []) (stand (frame ∷ outer) joint all (m.ended (form.attribute s (Some value)))) (suc (length outer))
    valued = moved (string t value) refl

pub exists_walk : {frame : Frame} {outer : List Frame} {all : List Inside} {s : Inner} {u : List Placed} {xs : List form.Step} {l : ℕ} (ors ands : List form.Condition) → StepsWalk (frame ∷ outer) (to_left ors ands) all s u xs l
    → ConditionWalk frame outer (to_left ors ands) (form.exists (steps xs)) all s u l
exists_walk {all = all} ors ands w = record { there = _; walks = w.walks; ends = after_ends (to_left ors ands) all w.suffix }

-- the symbols of a selection
abbrev pub selecting : Frame → List Frame → Joint → List Inside → List form.Step → List Placed → Shape selection.State → Inner
selecting frame outer joint all xs w t = stand (frame ∷ outer) joint all (m.selecting xs w t)

-- where a symbol leads from there, by where it leads in the selection, and by what the symbols so far are as a whole
abbrev pub leads_by : List Frame → Joint → List Inside → List form.Step → List Placed → Placed → Option (Shape selection.State) → Option Tree → Option Inner
leads_by frames joint all xs w p o x =
    m.otherwise (m.otherwise (m.selecting_next frames joint all xs (w ++ p ∷ []) o) (m.whole_next frames joint all xs w x p.symbol)) (m.after_next frames joint (m.with_selection all xs w x) p.symbol)

selecting_leads : (frame : Frame) (outer : List Frame) (joint : Joint) (all : List Inside) (xs : List form.Step) (w : List Placed) (t r : Shape selection.State) (p : Placed) → selection.advance t p ≡ Some r
    → advance_inner (selecting frame outer joint all xs w t) p ≡ Some (selecting frame outer joint all xs (w ++ p ∷ []) r)
selecting_leads frame outer joint all xs w t r p k = ap (λ o. leads_by (frame ∷ outer) joint all xs w p o (selection.finished_at t)) k

selecting_by : (frame : Frame) (outer : List Frame) (joint : Joint) (all : List Inside) (xs : List form.Step) (p : Placed) (v w : List Placed) (t r : Shape selection.State) (o : Option (Shape selection.State)) → selection.advance t p ≡ o
    → ((next : Shape selection.State) → selection.run_on (Some next) v ≡ Some r → Walks (selecting frame outer joint all xs (w ++ p ∷ []) next) v (selecting frame outer joint all xs (w ++ p ∷ [] ++ v) r) (suc (length outer)))
    → selection.run_on o v ≡ Some r → Walks (selecting frame outer joint all xs w t) (p ∷ v) (selecting frame outer joint all xs (w ++ p ∷ v) r) (suc (length outer))
selecting_by frame outer joint all xs p v w t r None k go e = cc
selecting_by frame outer joint all xs p v w t r (Some next) k go e =
    subst (λ z. Walks (selecting frame outer joint all xs w t) (p ∷ v) (selecting frame outer joint all xs z r) (suc (length outer))) (append_assoc w (p ∷ []) v)
    (walks_same (goes_on (moved p (selecting_leads frame outer joint all xs w t next p k)) (go next e)) refl (omega arith))

pub selecting_walk : (frame : Frame) (outer : List Frame) (joint : Joint) (all : List Inside) (xs : List form.Step) (v w : List Placed) (t r : Shape selection.State) → selection.run_on (Some t) v ≡ Some r
    → Walks (selecting frame outer joint all xs w t) v (selecting frame outer joint all xs (w ++ v) r) (suc (length outer))
selecting_walk frame outer joint all xs [] w t r e =
    let same : t ≡ r = cc in
    subst (λ z. Walks (selecting frame outer joint all xs w t) [] (selecting frame outer joint all xs (w ++ []) z) (suc (length outer))) same
    (subst (λ z. Walks (selecting frame outer joint all xs w t) [] (selecting frame outer joint all xs z t) (suc (length outer))) (sym (append-nil w)) (stays (selecting frame outer joint all xs w t)))
selecting_walk frame outer joint all xs (p ∷ v) w t r e = selecting_by frame outer joint all xs p v w t r (selection.advance t p) refl (λ next h. selecting_walk frame outer joint all xs v (w ++ p ∷ []) next r h) e

selecting_stops : {z : Symbol} (frame : Frame) (outer : List Frame) (joint : Joint) (all : List Inside) (xs : List form.Step) (w : List Placed) (r : Shape selection.State) (x : Tree) (p : Spot) → Ending z → selection.finished_at r ≡ Some x
    → advance_inner (selecting frame outer joint all xs w r) (at p z) ≡ leads_by (frame ∷ outer) joint all xs w (at p z) None (Some x)
selecting_stops {z = z} frame outer joint all xs w r x p f e =
    ap (λ o. leads_by (frame ∷ outer) joint all xs w (at p z) o (selection.finished_at r)) (selection_stops p r x f e) ∙ ap (leads_by (frame ∷ outer) joint all xs w (at p z) None) e

-- a follower of a whole selection
selection_takes : (frame : Frame) (outer : List Frame) (joint : Joint) (all : List Inside) (xs : List form.Step) (w : List Placed) (x : Tree) (p : Spot) (z : Symbol) → Follower z
    → leads_by (frame ∷ outer) joint all xs w (at p z) None (Some x) ≡ m.joint_next (frame ∷ outer) joint (form.contains (steps xs) (length all) no_paths) (all ++ inside w x ∷ []) z
selection_takes frame outer joint all xs w x p z Follower.close_bracket = refl
selection_takes frame outer joint all xs w x p z Follower.close_parenthesis = refl
selection_takes frame outer joint all xs w x p z Follower.and = refl
selection_takes frame outer joint all xs w x p z Follower.or = refl

pub selecting_ends : (frame : Frame) (outer : List Frame) (joint : Joint) (all : List Inside) (xs : List form.Step) (w : List Placed) (r : Shape selection.State) (x : Tree) → selection.finished_at r ≡ Some x
    → Ends frame outer joint (form.contains (steps xs) (length all) no_paths) (all ++ inside w x ∷ []) (selecting frame outer joint all xs w r)
selecting_ends frame outer joint all xs w r x e = record {
  takes = λ p z f. selecting_stops frame outer joint all xs w r x p (Ending.follower f) e ∙ selection_takes frame outer joint all xs w x p z f;
  frames_are = refl;
}

-- up to the end of a selection
record SelectedWalk (frame : Frame) (outer : List Frame) (joint : Joint) (all : List Inside) (s : Inner) (u : List Placed) (xs : List form.Step) (v : List Placed) (x : Tree) (levels : ℕ) : Type 0 where
  shape : Shape selection.State
  ends : selection.finished_at shape ≡ Some x
  walks : Walks s u (selecting frame outer joint all xs v shape) (suc (length outer) + levels)

selected_walk : {frame : Frame} {outer : List Frame} {ors ands : List form.Condition} {all : List Inside} {s : Inner} {u v : List Placed} {xs : List form.Step} {l : ℕ} {x : Tree} (p q : Spot) → StepsWalk (frame ∷ outer) (to_left ors ands) all s u xs l → Selection v x
    → SelectedWalk frame outer (to_left ors ands) all s (u ++ name p (codes "contains") ∷ name q (codes "text") ∷ v) xs v x l
selected_walk {frame = frame} {outer = outer} {ors = ors} {ands = ands} {all = all} {s = s} {u = u} {v = v} {xs = xs} {l = l} {x = x} p q w a = go (selection.read v) refl (laws.spells_read v x a)
  where
    contained : Walks (stand (frame ∷ outer) (to_left ors ands) all w.stage) (name p (codes "contains") ∷ []) (stand (frame ∷ outer) (to_left ors ands) all (m.contains xs)) (suc (length outer))
    contained = moved (name p (codes "contains")) (contains_leads ors ands all p w.suffix)

    texted : Walks (stand (frame ∷ outer) (to_left ors ands) all (m.contains xs)) (name q (codes "text") ∷ []) (selecting frame outer (to_left ors ands) all xs [] (Shape.whole selection.start)) (suc (length outer))
    texted = moved (name q (codes "text")) refl

    go : (o : Option (Shape selection.State)) → selection.read v ≡ o → selection.finished o ≡ Some x → SelectedWalk frame outer (to_left ors ands) all s (u ++ name p (codes "contains") ∷ name q (codes "text") ∷ v) xs v x l
    go None k h = cc
    go (Some r) k h = record {
      shape = r;
      ends = h;
      walks = walks_same (goes_on w.walks (goes_on contained (goes_on texted (selecting_walk frame outer (to_left ors ands) all xs v [] (Shape.whole selection.start) r k)))) refl (omega arith);
    }

-- what the selection of a condition is numbered
numbered : (n : ℕ) (all ss : List Inside) → length all ≡ n → length (all ++ ss) ≡ n + length ss
numbered n all ss e = omega (arith, e, length-append all ss)

pub contains_walk : {frame : Frame} {outer : List Frame} {ors ands : List form.Condition} {s : Inner} {u v : List Placed} {xs : List form.Step} {l : ℕ} {x : Tree} (n : ℕ) (all ss : List Inside) (p q : Spot) → length all ≡ n → StepsWalk (frame ∷ outer) (to_left ors ands) (all ++ ss) s u xs l → Selection v x
    → ConditionWalk frame outer (to_left ors ands) (form.contains (steps xs) (n + length ss) no_paths) (all ++ (ss ++ inside v x ∷ [])) s (u ++ name p (codes "contains") ∷ name q (codes "text") ∷ v) l
contains_walk {frame = frame} {outer = outer} {ors = ors} {ands = ands} {v = v} {xs = xs} {x = x} n all ss p q e w a =
    let b = selected_walk p q w a in
    condition_same (record { there = _; walks = b.walks; ends = selecting_ends frame outer (to_left ors ands) (all ++ ss) xs v b.shape x b.ends })
    (ap (λ k. form.contains (steps xs) k no_paths) (numbered n all ss e)) (append_assoc all ss (inside v x ∷ [])) refl

-- ignored paths
abbrev pub from_paths : List form.Step → ℕ → List form.Steps → Ignoring
from_paths before k ys = record { before = before; selection = k; paths = ys }

pub record RelsWalk (frame : Frame) (outer : List Frame) (ors ands : List form.Condition) (before : List form.Step) (k : ℕ) (ys : List form.Steps) (all : List Inside) (s : Inner) (u : List Placed) (levels : ℕ) : Type 0 where
  pub stage : Stage
  pub first : List form.Steps
  pub last : List form.Step
  pub paths_are : first ++ steps last ∷ [] ≡ ys
  pub suffix : After (frame ∷ outer) last stage
  pub walks : Walks s u (stand (frame ∷ outer) (ignored ors ands (from_paths before k first)) all stage) (suc (length outer) + levels)

pub first_rel_walk : {frame : Frame} {outer : List Frame} {all : List Inside} {s : Inner} {u : List Placed} {xs : List form.Step} {l : ℕ} (ors ands : List form.Condition) (before : List form.Step) (k : ℕ) → StepsWalk (frame ∷ outer) (ignored ors ands (from_paths before k [])) all s u xs l
    → RelsWalk frame outer ors ands before k (steps xs ∷ []) all s u l
first_rel_walk {xs = xs} ors ands before k w = record { stage = w.stage; first = []; last = xs; paths_are = refl; suffix = w.suffix; walks = w.walks }

pub further_rel_walk : {frame : Frame} {outer : List Frame} {ors ands : List form.Condition} {before : List form.Step} {number : ℕ} {ys : List form.Steps} {s : Inner} {u v : List Placed} {xs : List form.Step} {k l : ℕ} (all ss tt : List Inside) (p : Spot)
    → (b : RelsWalk frame outer ors ands before number ys (all ++ ss) s u k)
    → StepsWalk (frame ∷ outer) (ignored ors ands (with_path (from_paths before number b.first) b.last)) (all ++ ss ++ tt) (stand (frame ∷ outer) (ignored ors ands (with_path (from_paths before number b.first) b.last)) (all ++ ss) m.path_wanted) v xs l
    → RelsWalk frame outer ors ands before number (ys ++ steps xs ∷ []) (all ++ (ss ++ tt)) s (u ++ at p S.VerticalBar ∷ v) (max k l)
further_rel_walk {frame = frame} {outer = outer} {ors = ors} {ands = ands} {before = before} {number = number} {s = s} {u = u} {v = v} {xs = xs} {k = k} {l = l} all ss tt p b w = record {
  stage = w.stage;
  first = b.first ++ steps b.last ∷ [];
  last = xs;
  paths_are = ap (λ z. z ++ steps xs ∷ []) b.paths_are;
  suffix = w.suffix;
  walks = subst (λ z. Walks s (u ++ at p S.VerticalBar ∷ v) (stand (frame ∷ outer) (ignored ors ands (with_path (from_paths before number b.first) b.last)) z w.stage) (suc (length outer) + max k l)) (append_assoc all ss tt)
      (walks_same (goes_on b.walks (goes_on (moved (at p S.VerticalBar) (bar_leads ors ands (from_paths before number b.first) (all ++ ss) p b.suffix)) w.walks)) refl (omega arith));
}

pub without_walk : {frame : Frame} {outer : List Frame} {ors ands : List form.Condition} {s : Inner} {u v w : List Placed} {xs : List form.Step} {ys : List form.Steps} {k l : ℕ} {x : Tree} (n : ℕ) (all ss tt : List Inside) (p q r t : Spot) → length all ≡ n
    → StepsWalk (frame ∷ outer) (to_left ors ands) (all ++ ss) s u xs k → Selection v x
    → RelsWalk frame outer ors ands xs (length (all ++ ss)) ys (all ++ (ss ++ inside v x ∷ []) ++ tt) (stand (frame ∷ outer) (ignored ors ands (from_paths xs (length (all ++ ss)) [])) (all ++ (ss ++ inside v x ∷ [])) m.path_wanted) w l
    → ConditionWalk frame outer (to_left ors ands) (form.contains (steps xs) (n + length ss) (paths ys)) (all ++ (ss ++ inside v x ∷ [] ++ tt)) s
    (u ++ name p (codes "contains") ∷ name q (codes "text") ∷ v ++ name r (codes "without") ∷ name t (codes "content") ∷ w) (max k l)
without_walk {frame = frame} {outer = outer} {ors = ors} {ands = ands} {s = s} {u = u} {v = v} {w = z} {xs = xs} {ys = ys} {k = k} {l = l} {x = x} n all ss tt p q r t e w a b =
    let c = selected_walk p q w a in
    let without : Walks (selecting frame outer (to_left ors ands) (all ++ ss) xs v c.shape) (name r (codes "without") ∷ []) (stand (frame ∷ outer) (to_left ors ands) (all ++ ss ++ inside v x ∷ []) (m.without xs (length (all ++ ss)))) (suc (length outer)) =
    moved (name r (codes "without")) (selecting_stops frame outer (to_left ors ands) (all ++ ss) xs v c.shape x r Ending.without c.ends) in
    let content : Walks (stand (frame ∷ outer) (to_left ors ands) (all ++ ss ++ inside v x ∷ []) (m.without xs (length (all ++ ss)))) (name t (codes "content") ∷ []) (started (all ++ ss ++ inside v x ∷ [])) (suc (length outer)) =
    moved (name t (codes "content")) refl in
    condition_same (record {
      there = _;
      walks = walks_same (goes_on c.walks (goes_on without (goes_on (subst (λ z. Walks (stand (frame ∷ outer) (to_left ors ands) (all ++ ss ++ inside v x ∷ []) (m.without xs (length (all ++ ss)))) (name t (codes "content") ∷ []) (started z) (suc (length outer))) (append_assoc all ss (inside v x ∷ [])) content) b.walks))) refl (omega arith);
      ends = ignored_ends ors ands (from_paths xs (length (all ++ ss)) b.first) (all ++ (ss ++ inside v x ∷ []) ++ tt) b.suffix;
    })
    (ap (λ z. form.contains (steps xs) (length (all ++ ss)) (paths z)) b.paths_are ∙ ap (λ k. form.contains (steps xs) k (paths ys)) (numbered n all ss e)) (append_assoc all (ss ++ inside v x ∷ []) tt) refl
  where
    started : List Inside → Inner
    started more = stand (frame ∷ outer) (ignored ors ands (from_paths xs (length (all ++ ss)) [])) more m.path_wanted

-- conditions joined by `and` and `or`
pub first_and_walk : {frame : Frame} {outer : List Frame} {ors : List form.Condition} {all : List Inside} {c : form.Condition} {s : Inner} {u : List Placed} {l : ℕ} → ConditionWalk frame outer (to_left ors []) c all s u l → AndsWalk frame outer ors (c ∷ []) all s u l
first_and_walk {c = c} w = record { there = w.there; walks = w.walks; first = []; last = c; conditions = refl; ends = w.ends }

pub further_and_walk : {frame : Frame} {outer : List Frame} {ors xs : List form.Condition} {s : Inner} {u v : List Placed} {c : form.Condition} {k l : ℕ} (all ss tt : List Inside) (p : Spot) → (b : AndsWalk frame outer ors xs (all ++ ss) s u k)
    → ConditionWalk frame outer (to_left ors (b.first ++ b.last ∷ [])) c (all ++ ss ++ tt) (stand (frame ∷ outer) (to_left ors (b.first ++ b.last ∷ [])) (all ++ ss) (m.wanted false)) v l
    → AndsWalk frame outer ors (xs ++ c ∷ []) (all ++ (ss ++ tt)) s (u ++ name p (codes "and") ∷ v) (max k l)
further_and_walk {frame = frame} {outer = outer} {ors = ors} {c = c} all ss tt p b w = record {
  there = w.there;
  walks = walks_same (goes_on b.walks (goes_on (one (name p (codes "and")) (b.ends.takes p (S.Name (codes "and")) Follower.and)) w.walks)) refl (omega (arith, ap length b.ends.frames_are));
  first = b.first ++ b.last ∷ [];
  last = c;
  conditions = ap (λ z. z ++ c ∷ []) b.conditions;
  ends = subst (λ z. Ends frame outer (to_left ors (b.first ++ b.last ∷ [])) c z w.there) (append_assoc all ss tt) w.ends;
}

pub first_or_walk : {frame : Frame} {outer : List Frame} {xs : List form.Condition} {all : List Inside} {s : Inner} {u : List Placed} {l : ℕ} → AndsWalk frame outer [] xs all s u l → OrsWalk frame outer (joined and_of xs ∷ []) all s u l
first_or_walk w = record { there = w.there; walks = w.walks; joint = to_left [] w.first; last = w.last; conditions = ap (λ z. joined and_of z ∷ []) w.conditions; ends = w.ends }

pub further_or_walk : {frame : Frame} {outer : List Frame} {xs ys : List form.Condition} {s : Inner} {u v : List Placed} {k l : ℕ} (all ss tt : List Inside) (p : Spot) → (b : OrsWalk frame outer xs (all ++ ss) s u k)
    → AndsWalk frame outer (ors_with b.joint b.last) ys (all ++ ss ++ tt) (stand (frame ∷ outer) (to_left (ors_with b.joint b.last) []) (all ++ ss) (m.wanted false)) v l
    → OrsWalk frame outer (xs ++ joined and_of ys ∷ []) (all ++ (ss ++ tt)) s (u ++ name p (codes "or") ∷ v) (max k l)
further_or_walk {frame = frame} {outer = outer} {xs = xs} all ss tt p b w = record {
  there = w.there;
  walks = walks_same (goes_on b.walks (goes_on (one (name p (codes "or")) (b.ends.takes p (S.Name (codes "or")) Follower.or)) w.walks)) refl (omega (arith, ap length b.ends.frames_are));
  joint = to_left (ors_with b.joint b.last) w.first;
  last = w.last;
  conditions = ap (λ z. z ++ joined and_of (w.first ++ w.last ∷ []) ∷ []) b.conditions ∙ ap (λ z. xs ++ joined and_of z ∷ []) w.conditions;
  ends = subst (λ z. Ends frame outer (to_left (ors_with b.joint b.last) w.first) w.last z w.there) (append_assoc all ss tt) w.ends;
}
