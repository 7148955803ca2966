-- The machine decides which symbols begin a path.
use Rattle.std.proofs.Common.{◌≡◌, List, [], ◌∷◌, ◌++◌, Option, Some, None, refl, sym, ◌∙◌, ap}
use Rattle.std.specs.Prelude.{codes}
use Rattle.selection_grammar.specs.declared.symbol.Symbol.TheVariants as S
use Rattle.selection_grammar.specs.declared.symbol.Placed.{Placed}
use Rattle.selection_grammar.specs.Grammar.{Spot, at, name, string}
use Rattle.path_grammar.specs.declared.path.PathRoot.{PathRoot}
use Rattle.path_grammar.specs.Form as form
use Rattle.path_grammar.specs.Grammar.{Inside, Path, Begins}
use Rattle.path_grammar.specs.steps.Machine as m
use Rattle.path_grammar.specs.steps.Machine.{Inner, RootStage, State, read, run_on, finished, open_count, most_open, most_open_on}
use Rattle.path_grammar.proofs.Given.{given, same_value, same_selections}
use Rattle.path_grammar.proofs.Rooted.{Reads, reads, read_path}
use Rattle.path_grammar.proofs.Completed.{along_runs, along_most, path_read}
use Rattle.path_grammar.proofs.Finishes.{Finish, finish}

pub one_path : (u : List Placed) (x y : form.Path) (ss tt : List Inside) → Path u x ss → Path u y tt → (x ≡ y) × (ss ≡ tt)
one_path u x y ss more a b = go (path_read u x ss a) (path_read u y more b)
  where
    alike : (s t : State) → s ≡ t → finished s ≡ given x ss → finished t ≡ given y more → (x ≡ y) × (ss ≡ more)
    alike s t e f h = let same : given x ss ≡ given y more = sym f ∙ ap finished e ∙ h in (same_value same, same_selections same)

    go : (s : State) × (read u ≡ Some s) × (finished s ≡ given x ss) → (t : State) × (read u ≡ Some t) × (finished t ≡ given y more) → (x ≡ y) × (ss ≡ more)
    go (s, r, f) (t, k, h) = let both : Some s ≡ Some t = sym r ∙ k in alike s t (let same : s ≡ t = cc in same) f h

pub run_on-append : (o : Option State) (u v : List Placed) → run_on o (u ++ v) ≡ run_on (run_on o u) v
run_on-append None u v = refl
run_on-append (Some s) [] v = refl
run_on-append (Some s) (p ∷ u) v = run_on-append (m.advance s p) u v

-- some further symbols end the path, and open nothing more than is open
pub record Completion (s : State) : Type 0 where
  pub rest : List Placed
  pub last : State
  pub value : form.Path
  pub selections : List Inside
  pub runs : run_on (Some s) rest ≡ Some last
  pub ends : finished last ≡ Some (value, selections)
  pub most : most_open_on (Some s) rest ≡ open_count s

along_completion : (root : PathRoot) (s : Inner) → Finish s → Completion (m.along root s)
along_completion root s f = record {
  rest = f.rest;
  last = m.along root (m.stand [] f.joint f.all (m.stepped f.last));
  value = record { root = root; steps = form.steps (m.all_steps f.last) };
  selections = f.all;
  runs = along_runs root (Some s) f.rest ∙ ap (m.along_to root) f.walks.ends;
  ends = refl;
  most = along_most root (Some s) f.rest ∙ f.walks.peak;
}

here : Spot
here = (0, 0)

root_completion : (stage : RootStage) → Completion (m.at_root stage)
unfolding here
root_completion m.nothing = record { rest = name here (codes "collection") ∷ at here S.OpenParenthesis ∷ at here S.CloseParenthesis ∷ at here S.Slash ∷ at here S.Star ∷ []; last = _; value = _; selections = []; runs = refl; ends = refl; most = refl }
root_completion m.collection_name = record { rest = at here S.OpenParenthesis ∷ at here S.CloseParenthesis ∷ at here S.Slash ∷ at here S.Star ∷ []; last = _; value = _; selections = []; runs = refl; ends = refl; most = refl }
root_completion m.collection_open = record { rest = at here S.CloseParenthesis ∷ at here S.Slash ∷ at here S.Star ∷ []; last = _; value = _; selections = []; runs = refl; ends = refl; most = refl }
root_completion m.doc_name = record { rest = at here S.OpenParenthesis ∷ string here [] ∷ at here S.CloseParenthesis ∷ at here S.Slash ∷ at here S.Star ∷ []; last = _; value = _; selections = []; runs = refl; ends = refl; most = refl }
root_completion m.doc_open = record { rest = string here [] ∷ at here S.CloseParenthesis ∷ at here S.Slash ∷ at here S.Star ∷ []; last = _; value = _; selections = []; runs = refl; ends = refl; most = refl }
root_completion (m.doc_text s) = record { rest = at here S.CloseParenthesis ∷ at here S.Slash ∷ at here S.Star ∷ []; last = _; value = _; selections = []; runs = refl; ends = refl; most = refl }

completion : {u : List Placed} {s : State} → Reads u s → Completion s
completion (Reads.at_root {stage = stage} a) = root_completion stage
completion (Reads.along {root = root} {s = s} r a) = along_completion root s (finish a)

pub completion_of : (u : List Placed) (s : State) → read u ≡ Some s → Completion s
completion_of u s e = completion (reads u s e)

pub read-append : (u v : List Placed) → read (u ++ v) ≡ run_on (read u) v
read-append u v = run_on-append (Some (m.at_root m.nothing)) u v

pub whole_of : (u : List Placed) (s : State) → read u ≡ Some s → (c : Completion s) → Path (u ++ c.rest) c.value c.selections
whole_of u s e c = read_path (u ++ c.rest) c.last c.value c.selections (read-append u c.rest ∙ ap (λ o. run_on o c.rest) e ∙ c.runs) c.ends

pub read_begins : (u : List Placed) (s : State) → read u ≡ Some s → Begins u
read_begins u s e = let c = completion_of u s e in (c.rest, c.value, c.selections, whole_of u s e c)

-- what is read of a whole path is read up to each symbol
began : (o : Option State) (v : List Placed) (t : State) → run_on o v ≡ Some t → (s : State) × (o ≡ Some s)
began None v t e = cc
began (Some s) v t e = (s, refl)

pub begins_read : (u : List Placed) → Begins u → (s : State) × (read u ≡ Some s)
begins_read u (rest, x, ss, a) = go (path_read (u ++ rest) x ss a)
  where
    go : (t : State) × (read (u ++ rest) ≡ Some t) × (finished t ≡ given x ss) → (s : State) × (read u ≡ Some s)
    go (t, r, f) = began (read u) rest t (sym (read-append u rest) ∙ r)

pub refused_begins : (u : List Placed) → read u ≡ None → Begins u → ⊥
refused_begins u e b = go (begins_read u b)
  where
    go : (s : State) × (read u ≡ Some s) → ⊥
    go (s, r) = let two : None ≡ Some s = sym e ∙ r in cc

pub not_begun : (u : List Placed) → (Begins u → ⊥) → read u ≡ None
not_begun u h = go (read u) refl
  where
    go : (o : Option State) → read u ≡ o → o ≡ None
    go None e = refl
    go (Some s) e = absurd (h (read_begins u s e))
