-- Where the reader stands after symbols that may stand.
use Rattle.std.proofs.Common.{◌≡◌, ◌≤◌, ℕ, zero, suc, false, List, [], ◌∷◌, ◌++◌, length, take, drop, Option, Some, None, option_map, Result, refl, sym, ◌∙◌, ap, subst, append_assoc, append-nil, arith}
use Rattle.ft_base.specs.declared.fault.QueryFault.{QueryFault}
use Rattle.selection_grammar.specs.declared.symbol.Placed.{Placed}
use Rattle.selection_grammar.specs.steps.Machine as selection
use Rattle.selection_grammar.specs.Shapes.{Shape}
use Rattle.path_grammar.specs.declared.path.PathRoot.{PathRoot}
use Rattle.path_grammar.specs.Form as form
use Rattle.path_grammar.specs.Form.{steps}
use Rattle.path_grammar.specs.Grammar.{Inside, inside}
use Rattle.path_grammar.specs.steps.Machine as m
use Rattle.path_grammar.specs.steps.Machine.{Inner, stand}
use Rattle.path_grammar.proofs.Begun.{read-append, begins_read}
use Rattle.path_subset.specs.Answer.{after_run, with_run, led_by, before_selection_at, before_selection, further, read_from}
use Rattle.path_subset.specs.Limits.{exceeds}
use Rattle.path_subset.specs.Paths.{PlacedForm, placed_form, PathForm}
use Rattle.path_subset.specs.Refused as R
use Rattle.path_subset.specs.Refused.{MayStand}
use Rattle.path_subset.specs.Spelled as E
use Rattle.path_subset.specs.Spelled.{Each}
use Rattle.path_subset.proofs.Runs.{whole_read}
use Rattle.path_subset.proofs.RunLaws.{IsReadAmong, read_among}
use Rattle.path_subset.proofs.Skipped.{first, turned_within}
use Rattle.path_subset.proofs.Spelled.{Stands, with_state, step_same, next_stands, fresh_selecting, selecting_run, counted, open_same, outside}

-- The reader after some symbols and the machine with the selections beside it, where reading goes on as it was expected to.
pub record Arrived (prefix rest : List Placed) (bad : Option ℕ) (size : ℕ) (expected : Result PathForm QueryFault) : Type 0 where
  pub s : m.State
  pub real : m.State
  pub all : List Inside
  pub found : List PlacedForm
  pub stands : Stands s rest all real
  pub each : Each all found
  pub reads : m.read prefix ≡ Some real
  pub is : expected ≡ read_from s found 0 rest bad size

arrived_as : (prefix rest : List Placed) (bad : Option ℕ) (size : ℕ) (x y : Result PathForm QueryFault) → x ≡ y → Arrived prefix rest bad size y → Arrived prefix rest bad size x
arrived_as prefix rest bad size x y e h = record { s = h.s; real = h.real; all = h.all; found = h.found; stands = h.stands; each = h.each; reads = h.reads; is = e ∙ h.is }

-- a symbol that exceeds no limit leads on, and through a selection where one comes next
pub one_read : (s t : m.State) (found : List PlacedForm) (p : Placed) (rest : List Placed) (bad : Option ℕ) (size : ℕ) (o : Option (List form.Step)) → exceeds (m.open_count s) p.symbol ≡ false → m.advance s p ≡ Some t → before_selection t ≡ o
    → read_from s found 0 (p ∷ rest) bad size ≡ further (with_run t found o rest bad size) (λ l. read_from l.state l.selections l.count rest bad size)
one_read s t found p rest bad size o l a b =
    first s found p rest bad size
    ∙ ap (λ r. further r (λ l. read_from l.state l.selections l.count rest bad size)) (sym (turned_within s found p rest bad size l) ∙ ap (λ x. led_by p x found rest bad size) a ∙ ap (λ x. with_run t found x rest bad size) b)

-- one symbol on, where a selection comes next
pub selection_next : (done : List Placed) (p : Placed) (rest : List Placed) (s real : m.State) (all : List Inside) (root : PathRoot) (i : Inner) (before : List form.Step) → Stands s (p ∷ rest) all real → m.read done ≡ Some real
    → m.advance s p ≡ Some (m.along root i) → before_selection_at i.stage ≡ Some before → m.read (done ++ p ∷ []) ≡ Some (m.along root (stand i.frames i.joint all (m.selecting before [] (Shape.whole selection.start))))
selection_next done p rest s real all root i before st r a b =
    read-append done (p ∷ []) ∙ ap (λ o. m.run_on o (p ∷ [])) r ∙ ap (λ o. m.run_on o []) (step_same s real p rest all st ∙ ap (option_map (with_state all)) a)
    ∙ ap (λ z. Some (m.along root (stand i.frames i.joint all z))) (fresh_selecting i.stage before b)

-- symbols lead on that may stand with what the reader has read
abbrev Leads : Option ℕ → ℕ → List Placed → List Placed → Type 0
Leads bad size rest u = (done : List Placed) (count : ℕ) (s real : m.State) (all : List Inside) (found : List PlacedForm) → count ≤ length u → Stands s (drop count (u ++ rest)) all real → Each all found
    → m.read (done ++ take count (u ++ rest)) ≡ Some real → MayStand (done ++ u) rest → Arrived (done ++ u) rest bad size (read_from s found count (u ++ rest) bad size)

module _ (bad : Option ℕ) (size : ℕ) (rest : List Placed) (p : Placed) (u : List Placed) (again : Leads bad size rest u) (done : List Placed) (s real : m.State) (all : List Inside) (found : List PlacedForm)
    (st : Stands s (p ∷ u ++ rest) all real) (each : Each all found) (r : m.read done ≡ Some real) (h : MayStand (done ++ p ∷ u) rest) where
  abbrev There : Type 0
  There = Arrived (done ++ p ∷ u) rest bad size (read_from s found 0 (p ∷ u ++ rest) bad size)

  below : exceeds (m.open_count s) p.symbol ≡ false
  below = ap (λ n. exceeds n p.symbol) (open_same s real (p ∷ u ++ rest) all st) ∙ h.limits done p u real refl r (outside s real p (u ++ rest) all st)

  on : (count : ℕ) (t next : m.State) (these : List Inside) (those : List PlacedForm) → count ≤ length u → Stands t (drop count (u ++ rest)) these next → Each these those → m.read ((done ++ p ∷ []) ++ take count (u ++ rest)) ≡ Some next
      → read_from s found 0 (p ∷ u ++ rest) bad size ≡ read_from t those count (u ++ rest) bad size → There
  on count t next these those few stands_there each_there k e =
      subst (λ z. Arrived z rest bad size (read_from s found 0 (p ∷ u ++ rest) bad size)) (append_assoc done (p ∷ []) u)
      (arrived_as ((done ++ p ∷ []) ++ u) rest bad size (read_from s found 0 (p ∷ u ++ rest) bad size) (read_from t those count (u ++ rest) bad size) e
      (again (done ++ p ∷ []) count t next these those few stands_there each_there k (subst (λ z. MayStand z rest) (sym (append_assoc done (p ∷ []) u)) h)))

  -- through a selection
  through : (root : PathRoot) (i : Inner) (before : List form.Step) → m.advance s p ≡ Some (m.along root i) → before_selection_at i.stage ≡ Some before → IsReadAmong u rest bad size → There
  through root i before a b (x, n, e, few) =
      let run = whole_read (u ++ rest) bad size x n e in
      on n (m.along root (stand i.frames i.joint i.selections (m.selected before (length all)))) (m.along root (stand i.frames i.joint all (m.selecting before (take n (u ++ rest)) run.shape)))
      (all ++ inside (take n (u ++ rest)) run.selects.tree ∷ []) (found ++ placed_form x (take n (u ++ rest)) ∷ []) few
      (Stands.ended root i.frames i.joint i.selections all before (take n (u ++ rest)) run.selects.tree run.shape (drop n (u ++ rest)) run.ends run.stops)
      (E.further each (inside (take n (u ++ rest)) run.selects.tree) x run.selects)
      (read-append (done ++ p ∷ []) (take n (u ++ rest)) ∙ ap (λ o. m.run_on o (take n (u ++ rest))) (selection_next done p (u ++ rest) s real all root i before st r a b)
      ∙ selecting_run root i.frames i.joint all before (take n (u ++ rest)) [] (Shape.whole selection.start) run.shape run.reads)
      (one_read s (m.along root i) found p (u ++ rest) bad size (Some before) below a b
      ∙ ap (λ z. further (after_run (m.along root i) found before (u ++ rest) z) (λ l. read_from l.state l.selections l.count (u ++ rest) bad size)) e
      ∙ ap (λ c. read_from (m.along root (stand i.frames i.joint i.selections (m.selected before c))) (found ++ placed_form x (take n (u ++ rest)) ∷ []) n (u ++ rest) bad size) (counted each))

  by_selection : (t : m.State) (o : Option (List form.Step)) → before_selection t ≡ o → m.advance s p ≡ Some t → There
  by_selection t None b a =
      on 0 t (with_state all t) all found (omega arith) (next_stands s real t p (u ++ rest) all st a b) each
      (ap m.read (append-nil (done ++ p ∷ [])) ∙ read-append done (p ∷ []) ∙ ap (λ o. m.run_on o (p ∷ [])) r ∙ ap (λ o. m.run_on o []) (step_same s real p (u ++ rest) all st ∙ ap (option_map (with_state all)) a))
      (one_read s t found p (u ++ rest) bad size None below a b)
  by_selection (m.at_root stage) (Some before) b a = cc
  by_selection (m.along root i) (Some before) b a =
      through root i before a b
      (read_among u rest bad size (h.selections (done ++ p ∷ []) u (sym (append_assoc done (p ∷ []) u)) (R.after_text root i.frames i.joint all before (selection_next done p (u ++ rest) s real all root i before st r a b))))

  stuck : m.advance s p ≡ None → (t : m.State) × (m.read (done ++ p ∷ u) ≡ Some t) → ⊥
  stuck a (t, k) =
      let two : None ≡ Some t = ap (λ o. m.run_on o u) (sym (step_same s real p (u ++ rest) all st ∙ ap (option_map (with_state all)) a)) ∙ sym (read-append done (p ∷ u) ∙ ap (λ o. m.run_on o (p ∷ u)) r) ∙ k in cc

  by_state : (o : Option m.State) → m.advance s p ≡ o → There
  by_state None a = absurd (stuck a (begins_read (done ++ p ∷ u) h.begins))
  by_state (Some t) a = by_selection t (before_selection t) refl a

  pub one_leads : There
  one_leads = by_state (m.advance s p) refl

along : (bad : Option ℕ) (size : ℕ) (rest u : List Placed) → Leads bad size rest u
unfolding read_from
along bad size rest [] done zero s real all found few st each r h = record { s = s; real = real; all = all; found = found; stands = st; each = each; reads = r; is = refl }
along bad size rest [] done (suc count) s real all found few st each r h = absurd (omega (arith, few))
along bad size rest (p ∷ u) done zero s real all found few st each r h = one_leads bad size rest p u (along bad size rest u) done s real all found st each (ap m.read (sym (append-nil done)) ∙ r) h
along bad size rest (p ∷ u) done (suc count) s real all found few st each r h =
    subst (λ z. Arrived z rest bad size (read_from s found count (u ++ rest) bad size)) (append_assoc done (p ∷ []) u)
    (along bad size rest u (done ++ p ∷ []) count s real all found (omega (arith, few)) st each (ap m.read (append_assoc done (p ∷ []) (take count (u ++ rest))) ∙ r)
    (subst (λ z. MayStand z rest) (sym (append_assoc done (p ∷ []) u)) h))

pub arrive : (before rest : List Placed) (bad : Option ℕ) (size : ℕ) → MayStand before rest → Arrived before rest bad size (read_from (m.at_root m.nothing) [] 0 (before ++ rest) bad size)
arrive before rest bad size h = along bad size rest before [] 0 (m.at_root m.nothing) (m.at_root m.nothing) [] [] (omega arith) (Stands.at_root m.nothing (before ++ rest)) E.none refl h
