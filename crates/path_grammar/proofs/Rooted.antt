-- What the machine has read of a whole path is spelled by the grammar.
use Rattle.std.proofs.Common.{◌≡◌, ℕ, List, [], ◌∷◌, ◌++◌, Option, Some, None, refl, sym, subst, append_assoc, append-nil, arith}
use Rattle.std.specs.Prelude.{codes}
use Rattle.selection_grammar.specs.declared.symbol.Symbol.{Symbol}
use Rattle.selection_grammar.specs.declared.symbol.Symbol.TheVariants as S
use Rattle.selection_grammar.specs.declared.symbol.Placed.{Placed}
use Rattle.selection_grammar.specs.Grammar.{Spot, at, name, string}
use Rattle.path_grammar.specs.declared.path.PathRoot.{PathRoot}
use Rattle.path_grammar.specs.Form as form
use Rattle.path_grammar.specs.Grammar as g
use Rattle.path_grammar.specs.Grammar.{Inside, Root, Predicates, Path}
use Rattle.path_grammar.specs.steps.Machine as m
use Rattle.path_grammar.specs.steps.Machine.{LastStep, all_steps, Joint, Frame, Stage, Inner, RootStage, State, read, run_on, advance, finished}
use Rattle.path_grammar.proofs.Given.{given, same_value, same_selections}
use Rattle.path_grammar.proofs.Standing.{same, Walked, Trail, Under, Place, Stands}
use Rattle.path_grammar.proofs.Moves.{by_word}
use Rattle.path_grammar.proofs.Reached.{moves}

-- a root under way
pub data Rooted : List Placed → RootStage → Type 0 where
  nothing : Rooted [] m.nothing
  collection_name : (p : Spot) → Rooted (name p (codes "collection") ∷ []) m.collection_name
  collection_open : (p q : Spot) → Rooted (name p (codes "collection") ∷ at q S.OpenParenthesis ∷ []) m.collection_open
  doc_name : (p : Spot) → Rooted (name p (codes "doc") ∷ []) m.doc_name
  doc_open : (p q : Spot) → Rooted (name p (codes "doc") ∷ at q S.OpenParenthesis ∷ []) m.doc_open
  doc_text : (p q r : Spot) (s : List ℕ) → Rooted (name p (codes "doc") ∷ at q S.OpenParenthesis ∷ string r s ∷ []) (m.doc_text s)

-- the symbols up to where the machine stands
pub data Reads : List Placed → State → Type 0 where
  at_root : {u : List Placed} {stage : RootStage} → Rooted u stage → Reads u (m.at_root stage)
  along : {u v : List Placed} {root : PathRoot} {s : Inner} → Root u root → Stands v s → Reads (u ++ v) (m.along root s)

reached : {u : List Placed} {s t : State} → Some s ≡ Some t → Reads u s → Reads u t
reached {u = u} {s = s} {t = t} e a = let there : s ≡ t = cc in subst (Reads u) there a

started : Stands [] m.start
started = Stands.under Place.at_root (Under.no_step (Walked.of_path g.no_step))

root_moves : {u : List Placed} {stage : RootStage} {t : State} (q : Spot) (z : Symbol) → Rooted u stage → m.root_next stage z ≡ Some t → Reads (u ++ at q z ∷ []) t
root_moves {t = t} q z Rooted.nothing e =
    by_word (codes "collection") z (Some (m.at_root m.collection_name)) _ t (λ k h. reached h (subst (λ y. Reads (at q y ∷ []) (m.at_root m.collection_name)) (sym k) (Reads.at_root (Rooted.collection_name q))))
    (λ i. by_word (codes "doc") z (Some (m.at_root m.doc_name)) None t (λ k h. reached h (subst (λ y. Reads (at q y ∷ []) (m.at_root m.doc_name)) (sym k) (Reads.at_root (Rooted.doc_name q)))) (λ h. cc) i) e
root_moves q S.OpenParenthesis (Rooted.collection_name p) e = reached e (Reads.at_root (Rooted.collection_open p q))
root_moves q S.CloseParenthesis (Rooted.collection_open p r) e = reached e (Reads.along (Root.collection p r q) started)
root_moves q S.OpenParenthesis (Rooted.doc_name p) e = reached e (Reads.at_root (Rooted.doc_open p q))
root_moves q (S.Text s) (Rooted.doc_open p r) e = reached e (Reads.at_root (Rooted.doc_text p r q s))
root_moves q S.CloseParenthesis (Rooted.doc_text p r o s) e = reached e (Reads.along (Root.doc p r o q s) started)
root_moves q other (Rooted.collection_name p) e = cc
root_moves q other (Rooted.collection_open p r) e = cc
root_moves q other (Rooted.doc_name p) e = cc
root_moves q other (Rooted.doc_open p r) e = cc
root_moves q other (Rooted.doc_text p r o s) e = cc

further : {u : List Placed} {s t : State} (p : Placed) → Reads u s → advance s p ≡ Some t → Reads (u ++ p ∷ []) t
further p (Reads.at_root a) e = root_moves (p.from, p.to) p.symbol a e
further {t = t} p (Reads.along {u = u} {v = v} {root = root} {s = s} a b) e = go (m.advance_inner s p) refl e
  where
    go : (o : Option Inner) → m.advance_inner s p ≡ o → m.along_to root o ≡ Some t → Reads (u ++ v ++ p ∷ []) t
    go None k h = cc
    go (Some next) k h = reached h (subst (λ z. Reads z (m.along root next)) (sym (append_assoc u v (p ∷ []))) (Reads.along a (moves s next p b k)))

reads_by : (u v : List Placed) (p : Placed) (t : State) (o : Option State) → ((next : State) → o ≡ Some next → run_on (Some next) v ≡ Some t → Reads (u ++ p ∷ [] ++ v) t) → run_on o v ≡ Some t → Reads (u ++ p ∷ v) t
reads_by u v p t None go e = cc
reads_by u v p t (Some next) go e = subst (λ z. Reads z t) (append_assoc u (p ∷ []) v) (go next refl e)

reads_on : (u v : List Placed) (s t : State) → Reads u s → run_on (Some s) v ≡ Some t → Reads (u ++ v) t
reads_on u [] s t a e = subst (λ z. Reads z t) (sym (append-nil u)) (reached e a)
reads_on u (p ∷ v) s t a e = reads_by u v p t (advance s p) (λ next k h. reads_on (u ++ p ∷ []) v next t (further p a k) h) e

pub reads : (u : List Placed) (s : State) → read u ≡ Some s → Reads u s
reads u s e = reads_on [] u (m.at_root m.nothing) s (Reads.at_root Rooted.nothing) e

spelled : {u : List Placed} {x y : form.Path} {ss ts : List Inside} → Path u x ss → given x ss ≡ given y ts → Path u y ts
spelled {u = u} {x = x} {y = y} {ss = ss} {ts = ts} a e = subst (λ z. Path u z ts) (same_value e) (subst (λ z. Path u x z) (same_selections e) a)

trail_path : {u v : List Placed} {root : PathRoot} {last : LastStep} {ss : List Inside} → Root u root → Trail [] 0 v last ss → Path (u ++ v) (record { root = root; steps = form.steps (all_steps last) }) ss
trail_path {u = r} {root = root} root_is (Trail.further {u = u} {v = v} {w = w} {z = z} {xs = xs} {deep = deep} {test = test} {ps = ps} {ss = ss} {ts = ts} (Walked.of_path a) s t p) =
    subst (λ y. Path y (record { root = root; steps = form.steps (xs ++ form.step deep test (form.predicates ps) ∷ []) }) (ss ++ ts)) (regrouped r u v w z)
    (g.path root_is a (g.step s t (same (λ k y ss. Predicates k y ps ss) p (omega arith) refl refl)))
  where
    regrouped : (r u v w z : List Placed) → r ++ u ++ (v ++ w ++ z) ≡ r ++ (u ++ v ++ w ++ z)
    regrouped r u v w z = simp append_assoc

inner_path : {u v : List Placed} {root : PathRoot} {s : Inner} {value : form.Path} {selections : List Inside} → Root u root → Stands v s → m.finished_inner root s.frames s.selections s.stage ≡ given value selections → Path (u ++ v) value selections
inner_path r (Stands.under Place.at_root (Under.stepped x)) e = spelled (trail_path r x) e
inner_path r (Stands.under Place.at_root (Under.no_step x)) e = cc
inner_path r (Stands.under Place.at_root (Under.slashes x s)) e = cc
inner_path r (Stands.under (Place.in_condition a b) x) e = cc
inner_path r (Stands.under (Place.in_ignored a b) x) e = cc
inner_path r (Stands.bracket a) e = cc
inner_path r (Stands.number a p k) e = cc

reads_path : {u : List Placed} {s : State} {value : form.Path} {selections : List Inside} → Reads u s → finished s ≡ given value selections → Path u value selections
reads_path (Reads.at_root a) e = cc
reads_path (Reads.along r a) e = inner_path r a e

pub read_path : (u : List Placed) (s : State) (value : form.Path) (selections : List Inside) → read u ≡ Some s → finished s ≡ given value selections → Path u value selections
read_path u s value selections r e = reads_path (reads u s r) e
