-- The machine reads each path as what it is.
use Rattle.std.proofs.Common.{◌≡◌, ℕ, ◌+◌, List, [], ◌∷◌, ◌++◌, length, Option, Some, None, refl, ◌∙◌, ap, append_assoc, arith}
use Rattle.std.specs.Prelude.{max}
use Rattle.selection_grammar.specs.declared.symbol.Placed.{Placed}
use Rattle.path_grammar.specs.declared.path.PathRoot.{PathRoot}
use Rattle.path_grammar.specs.Form as form
use Rattle.path_grammar.specs.Grammar as g
use Rattle.path_grammar.specs.Grammar.{Inside, Root, Path}
use Rattle.path_grammar.specs.Levels.{levels}
use Rattle.path_grammar.specs.steps.Machine as m
use Rattle.path_grammar.specs.steps.Machine.{Frame, Stage, Inner, State, read, run_on, finished, most_open, most_open_on}
use Rattle.path_grammar.proofs.Given.{given}
use Rattle.path_grammar.proofs.Walks.{run_inner, highest, Walks, goes_on, AtStep, After}
use Rattle.path_grammar.proofs.Conditions.{StepsWalk}
use Rattle.path_grammar.proofs.Derived.{steps_walk, step_walk}

-- after the root the machine of the steps goes on
pub along_runs : (root : PathRoot) (o : Option Inner) (u : List Placed) → run_on (m.along_to root o) u ≡ m.along_to root (run_inner o u)
along_runs root None u = refl
along_runs root (Some s) [] = refl
along_runs root (Some s) (p ∷ u) = along_runs root (m.advance_inner s p) u

pub along_most : (root : PathRoot) (o : Option Inner) (u : List Placed) → most_open_on (m.along_to root o) u ≡ highest o u
along_most root None u = refl
along_most root (Some s) [] = refl
along_most root (Some s) (p ∷ u) = ap (λ n. max (length s.frames) n) (along_most root (m.advance_inner s p) u)

root_read : {u : List Placed} {root : PathRoot} (v : List Placed) → Root u root → read (u ++ v) ≡ run_on (Some (m.along root m.start)) v
root_read v (Root.collection p q r) = refl
root_read v (Root.doc p q r t s) = refl

root_most : {u : List Placed} {root : PathRoot} (v : List Placed) → Root u root → most_open (u ++ v) ≡ most_open_on (Some (m.along root m.start)) v
root_most v (Root.collection p q r) = omega arith
root_most v (Root.doc p q r t s) = omega arith

abbrev path_of : PathRoot → List form.Step → form.Path
path_of root xs = record { root = root; steps = form.steps xs }

-- after the last step the path is whole
ends_path : {zs : List form.Step} {stage : Stage} (root : PathRoot) (all : List Inside) (xs : List form.Step) (x : form.Step) → After [] zs stage → zs ≡ xs ++ x ∷ [] → m.finished_inner root [] all stage ≡ given (path_of root (xs ++ x ∷ [])) all
ends_path root all [] x After.after_none e = cc
ends_path root all (y ∷ xs) x After.after_none e = cc
ends_path root all xs x (After.after_step (AtStep.at_step last)) e = ap (λ z. given (path_of root z) all) e

-- a path that was read, and the most that was open on the way
pub record Completed (u : List Placed) (value : form.Path) (selections : List Inside) (most : ℕ) : Type 0 where
  pub state : State
  pub is_read : read u ≡ Some state
  pub ends : finished state ≡ Some (value, selections)
  pub most_is : most_open u ≡ most

completed : {u v w : List Placed} {root : PathRoot} {all more : List Inside} {k l : ℕ} (xs : List form.Step) (x : form.Step) → Root u root → (b : StepsWalk [] m.no_joint all m.start v xs k) → StepsWalk [] m.no_joint more (m.stand [] m.no_joint all b.stage) w (xs ++ x ∷ []) l
    → Completed (u ++ v ++ w) (path_of root (xs ++ x ∷ [])) more (max k l)
completed {u = u} {v = v} {w = w} {root = root} {more = more} {k = k} {l = l} xs x r b s = record {
  state = m.along root (m.stand [] m.no_joint more s.stage);
  is_read = ap read (append_assoc u v w) ∙ root_read (v ++ w) r ∙ along_runs root (Some m.start) (v ++ w) ∙ ap (m.along_to root) both.ends;
  ends = ends_path root more xs x s.suffix refl;
  most_is = ap most_open (append_assoc u v w) ∙ root_most (v ++ w) r ∙ along_most root (Some m.start) (v ++ w) ∙ both.peak ∙ omega arith;
}
  where
    both : Walks m.start (v ++ w) (m.stand [] m.no_joint more s.stage) (max (0 + k) (0 + l))
    both = goes_on b.walks s.walks

pub complete : {u : List Placed} {value : form.Path} {selections : List Inside} (a : Path u value selections) → Completed u value selections (levels a)
complete (g.path {xs = xs} {x = x} {ss = ss} root before last) = let b = steps_walk before m.no_joint [] refl After.after_none in completed xs x root b (step_walk last m.no_joint ss refl b.suffix)

pub path_read : (u : List Placed) (value : form.Path) (selections : List Inside) → Path u value selections → (state : State) × (read u ≡ Some state) × (finished state ≡ Some (value, selections))
path_read u value selections a = let c = complete a in (c.state, c.is_read, c.ends)
