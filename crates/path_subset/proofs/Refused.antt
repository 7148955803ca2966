-- Each fault has its cause: the reader goes over the symbols before it, through each selection as it was read.
use Rattle.std.proofs.Common.{◌≡◌, ℕ, zero, suc, Bool, true, false, cond, List, [], ◌∷◌, ◌++◌, length, take, drop, Option, Some, None, option_map, Result, Ok, Err, refl, sym, ◌∙◌, ap, subst, append_assoc, append-nil}
use Rattle.std.proofs.lemmas.List.{take-append-drop}
use Rattle.ft_base.specs.Selection.{Form}
use Rattle.ft_base.specs.declared.fault.QueryFault.{QueryFault}
use Rattle.ft_base.specs.declared.fault.QueryFault.TheVariants as Q
use Rattle.selection_grammar.specs.declared.symbol.Placed.{Placed}
use Rattle.selection_grammar.specs.steps.Machine as selection
use Rattle.selection_grammar.specs.Shapes.{Shape}
use Rattle.selection_grammar.proofs.Decided as laws
use Rattle.ft_parser.specs.Prefix.{run_read}
use Rattle.ft_parser.specs.Selected.{Selects}
use Rattle.query_lexer.specs.Symbols.{symbols_of}
use Rattle.path_grammar.specs.declared.path.PathRoot.{PathRoot}
use Rattle.path_grammar.specs.Form as form
use Rattle.path_grammar.specs.Form.{steps}
use Rattle.path_grammar.specs.Grammar.{Inside, inside}
use Rattle.path_grammar.specs.steps.Machine as m
use Rattle.path_grammar.specs.steps.Machine.{Joint, Frame, Stage, Inner, stand}
use Rattle.path_grammar.proofs.Begun.{read-append, refused_begins}
use Rattle.path_grammar.proofs.Completed as completed
use Rattle.path_subset.specs.Answer.{Led, after_run, with_run, led_by, before_selection_at, before_selection, with_selection, turned, further, ended_by, finished_path, read_from, path_read}
use Rattle.path_subset.specs.Limits.{exceeds, limit_fault, WithinFrom}
use Rattle.path_subset.specs.Paths.{PlacedForm, placed_form, PathForm}
use Rattle.path_subset.specs.Refused as R
use Rattle.path_subset.specs.Refused.{WantSelection, MayStand, Refuses, IsFaultOf}
use Rattle.path_subset.specs.Runs.{IsRun, EndsAmong}
use Rattle.path_subset.specs.Spelled as E
use Rattle.path_subset.specs.Spelled.{Each}
use Rattle.path_subset.proofs.Arrived.{selection_next}
use Rattle.path_subset.proofs.MayStand.{wants, nothing_stands, stands_on}
use Rattle.path_subset.proofs.RefusedExact.{fresh_before, finished_same}
use Rattle.path_subset.proofs.RunLaws.{run_of, misread}
use Rattle.path_subset.proofs.Runs.{Whole, whole_read}
use Rattle.path_subset.proofs.Spelled.{Stands, with_state, step_same, next_stands, fresh_selecting, selecting_run, selection_within, none_within, counted, open_same}

-- after all symbols
ended : (u : List Placed) (s : m.State) (bad : Option ℕ) (size : ℕ) (found : List PlacedForm) (fault : QueryFault) → MayStand u [] → m.read u ≡ Some s → (o : Option form.Path) → finished_path s ≡ o → ended_by bad size found o ≡ Err fault → Refuses u bad size fault
ended u s (Some at) size found fault h r o f e = let same : Q.Syntax at ≡ fault = cc in subst (Refuses u (Some at) size) same (Refuses.character at refl h)
ended u s None size found fault h r (Some path) f e = cc
ended u s None size found fault h r None f e =
    let same : Q.Syntax size ≡ fault = cc in
    subst (Refuses u None size) same (Refuses.end refl h (λ value insides path. unread value insides (completed.path_read u value insides path)))
  where
    unread : (value : form.Path) (insides : List Inside) → (x : m.State) × (m.read u ≡ Some x) × (m.finished x ≡ Some (value, insides)) → ⊥
    unread value insides (x, k, g) =
        let both : Some x ≡ Some s = sym k ∙ r in
        let same : x ≡ s = cc in
        let two : ◌≡◌ {A = Option form.Path} (Some value) None = sym (ap (option_map (λ whole. whole.0)) g) ∙ ap finished_path same ∙ f in cc

-- inside a selection none begins
abbrev selecting_stage : Stage → List Placed
selecting_stage (m.selecting before symbols shape) = symbols
selecting_stage other = []

abbrev selecting_at : m.State → List Placed
selecting_at (m.at_root stage) = []
selecting_at (m.along root s) = selecting_stage s.stage

-- what is read on from after some of the symbols has its cause
abbrev Stops : Option ℕ → ℕ → QueryFault → List Placed → Type 0
Stops bad size fault u = (done : List Placed) (count : ℕ) (s real : m.State) (all : List Inside) (found : List PlacedForm) → Stands s (drop count u) all real → Each all found → m.read (done ++ take count u) ≡ Some real
    → MayStand (done ++ take count u) (drop count u) → read_from s found count u bad size ≡ Err fault → Refuses (done ++ u) bad size fault

module _ (bad : Option ℕ) (size : ℕ) (fault : QueryFault) (p : Placed) (rest : List Placed) (again : Stops bad size fault rest) (done : List Placed) (s real : m.State) (all : List Inside) (found : List PlacedForm)
    (st : Stands s (p ∷ rest) all real) (each : Each all found) (r : m.read done ≡ Some real) (h : MayStand done (p ∷ rest)) where
  abbrev on : Led → Result PathForm QueryFault
  on l = read_from l.state l.selections l.count rest bad size

  stays : (b : Bool) → exceeds (m.open_count s) p.symbol ≡ b → exceeds (m.open_count real) p.symbol ≡ b
  stays b l = ap (λ n. exceeds n p.symbol) (sym (open_same s real (p ∷ rest) all st)) ∙ l

  -- the machine with the selections, one symbol on
  one_on : (o : Option m.State) → m.advance s p ≡ o → m.advance real p ≡ option_map (with_state all) o
  one_on o a = step_same s real p rest all st ∙ ap (option_map (with_state all)) a

  reads_on : (o : Option m.State) (v : List Placed) → m.advance real p ≡ o → m.read (done ++ p ∷ v) ≡ m.run_on o v
  reads_on o v a = read-append done (p ∷ v) ∙ ap (λ x. m.run_on x (p ∷ v)) r ∙ ap (λ x. m.run_on x v) a

  next : (count : ℕ) (t there : m.State) (these : List Inside) (those : List PlacedForm) → Stands t (drop count rest) these there → Each these those → m.read (done ++ p ∷ take count rest) ≡ Some there → MayStand (done ++ p ∷ take count rest) (drop count rest)
      → read_from t those count rest bad size ≡ Err fault → Refuses (done ++ p ∷ rest) bad size fault
  next count t there these those stands_there each_there k may e =
      subst (λ z. Refuses z bad size fault) (append_assoc done (p ∷ []) rest)
      (again (done ++ p ∷ []) count t there these those stands_there each_there (ap m.read (append_assoc done (p ∷ []) (take count rest)) ∙ k)
      (subst (λ z. MayStand z (drop count rest)) (sym (append_assoc done (p ∷ []) (take count rest))) may) e)

  -- through a selection
  module _ (root : PathRoot) (i : Inner) (before : List form.Step) (x : Form) (n : ℕ) (a : m.advance s p ≡ Some (m.along root i)) (b : before_selection_at i.stage ≡ Some before) (k : run_read rest bad size ≡ Ok (x, n)) (run : Whole rest x n) where
    abbrev into : List Placed → Shape selection.State → m.State
    into w shape = m.along root (stand i.frames i.joint all (m.selecting before w shape))

    begun : m.advance real p ≡ Some (into [] (Shape.whole selection.start))
    begun = one_on (Some (m.along root i)) a ∙ ap (λ z. Some (m.along root (stand i.frames i.joint all z))) (fresh_selecting i.stage before b)

    runs : m.run_on (Some (into [] (Shape.whole selection.start))) (take n rest) ≡ Some (into (take n rest) run.shape)
    runs = selecting_run root i.frames i.joint all before (take n rest) [] (Shape.whole selection.start) run.shape run.reads

    stays_within : WithinFrom (into [] (Shape.whole selection.start)) (take n rest)
    stays_within =
        subst (WithinFrom (into [] (Shape.whole selection.start))) (append-nil (take n rest))
        (selection_within root i.frames i.joint all before (take n rest) [] [] (Shape.whole selection.start) run.shape run.reads (none_within (into (take n rest) run.shape)))

    within_none : (q : Placed) (c d : List Placed) (o : Option (Shape selection.State)) → take n rest ≡ (q ∷ c) ++ d → selection.run_on (Some (Shape.whole selection.start)) (q ∷ c) ≡ o → WantSelection (done ++ p ∷ q ∷ c) → ⊥
    within_none q c d None j e want =
        let two : None ≡ Some run.shape = ap (λ o. selection.run_on o d) (sym e) ∙ sym (laws.read-append (q ∷ c) d) ∙ ap selection.read (sym j) ∙ run.reads in cc
    within_none q c d (Some y) j e (R.after_text other frames joint insides xs g) =
        let there : Some (into (q ∷ c) y) ≡ Some (m.along other (stand frames joint insides (m.selecting xs [] (Shape.whole selection.start)))) =
        sym (reads_on (Some (into [] (Shape.whole selection.start))) (q ∷ c) begun ∙ selecting_run root i.frames i.joint all before (q ∷ c) [] (Shape.whole selection.start) y e) ∙ g in
        let same : into (q ∷ c) y ≡ m.along other (stand frames joint insides (m.selecting xs [] (Shape.whole selection.start))) = cc in
        let two : q ∷ c ≡ [] = ap selecting_at same in cc

    ends_among : (c d : List Placed) → take n rest ≡ c ++ d → WantSelection (done ++ p ∷ c) → EndsAmong d (drop n rest)
    ends_among [] d j want = record {
      run = d;
      after = [];
      form = x;
      parts = sym (append-nil d);
      is_run = subst (λ z. IsRun z (drop n rest)) j (run_of (take n rest) (drop n rest) run.shape run.reads run.stops);
      selects = subst (λ z. Selects z None x) j run.selects;
    }
    ends_among (q ∷ c) d j want = absurd (within_none q c d (selection.run_on (Some (Shape.whole selection.start)) (q ∷ c)) j refl want)

    through : exceeds (m.open_count s) p.symbol ≡ false → read_from (with_selection (m.along root i) before (length found)) (found ++ placed_form x (take n rest) ∷ []) n rest bad size ≡ Err fault → Refuses (done ++ p ∷ rest) bad size fault
    through l e =
        next n (m.along root (stand i.frames i.joint i.selections (m.selected before (length all)))) (into (take n rest) run.shape) (all ++ inside (take n rest) run.selects.tree ∷ []) (found ++ placed_form x (take n rest) ∷ [])
        (Stands.ended root i.frames i.joint i.selections all before (take n rest) run.selects.tree run.shape (drop n rest) run.ends run.stops)
        (E.further each (inside (take n rest) run.selects.tree) x run.selects)
        (reads_on (Some (into [] (Shape.whole selection.start))) (take n rest) begun ∙ runs)
        (stands_on done p (take n rest) (drop n rest) (subst (λ z. MayStand done (p ∷ z)) (sym (take-append-drop n rest)) h) real (into [] (Shape.whole selection.start)) r begun (stays false l) stays_within
        (into (take n rest) run.shape) runs ends_among)
        (ap (λ c. read_from (m.along root (stand i.frames i.joint i.selections (m.selected before c))) (found ++ placed_form x (take n rest) ∷ []) n rest bad size) (sym (counted each)) ∙ e)

  by_run : (t : m.State) (before : List form.Step) (o : Result (Form × ℕ) QueryFault) → run_read rest bad size ≡ o → exceeds (m.open_count s) p.symbol ≡ false → m.advance s p ≡ Some t → before_selection t ≡ Some before
      → further (after_run t found before rest o) on ≡ Err fault → Refuses (done ++ p ∷ rest) bad size fault
  by_run (m.at_root stage) before (Err f) k l a b e = cc
  by_run (m.along root i) before (Err f) k l a b e =
      let same : f ≡ fault = cc in
      Refuses.misread done p rest fault refl h (R.after_text root i.frames i.joint all before (selection_next done p rest s real all root i before st r a b)) (misread rest bad size fault (k ∙ ap Err same))
  by_run (m.at_root stage) before (Ok (x, n)) k l a b e = cc
  by_run (m.along root i) before (Ok (x, n)) k l a b e = through root i before x n a b k (whole_read rest bad size x n k) l e

  none_begins : (t : m.State) → before_selection t ≡ None → m.advance s p ≡ Some t → (c d : List Placed) → [] ≡ c ++ d → WantSelection (done ++ p ∷ c) → EndsAmong d rest
  none_begins t b a [] d j want = absurd (wants (done ++ p ∷ []) (with_state all t) (reads_on (Some (with_state all t)) [] (one_on (Some t) a)) (fresh_before all t ∙ b) want)
  none_begins t b a (q ∷ c) d j want = cc

  by_selection : (t : m.State) (o : Option (List form.Step)) → before_selection t ≡ o → exceeds (m.open_count s) p.symbol ≡ false → m.advance s p ≡ Some t → further (with_run t found o rest bad size) on ≡ Err fault → Refuses (done ++ p ∷ rest) bad size fault
  by_selection t None b l a e =
      next 0 t (with_state all t) all found (next_stands s real t p rest all st a b) each (reads_on (Some (with_state all t)) [] (one_on (Some t) a))
      (stands_on done p [] rest h real (with_state all t) r (one_on (Some t) a) (stays false l) (none_within (with_state all t)) (with_state all t) refl (none_begins t b a)) e
  by_selection t (Some before) b l a e = by_run t before (run_read rest bad size) refl l a b e

  by_state : (o : Option m.State) → m.advance s p ≡ o → exceeds (m.open_count s) p.symbol ≡ false → further (led_by p o found rest bad size) on ≡ Err fault → Refuses (done ++ p ∷ rest) bad size fault
  by_state None a l e =
      let same : Q.Syntax p.from ≡ fault = cc in
      subst (Refuses (done ++ p ∷ rest) bad size) same (Refuses.symbol done p rest real refl h r (stays false l) (refused_begins (done ++ p ∷ []) (reads_on None [] (one_on None a))))
  by_state (Some t) a l e = by_selection t (before_selection t) refl l a e

  by_limit : (b : Bool) → exceeds (m.open_count s) p.symbol ≡ b → further (cond b (Err (limit_fault p)) (led_by p (m.advance s p) found rest bad size)) on ≡ Err fault → Refuses (done ++ p ∷ rest) bad size fault
  by_limit true l e = let same : limit_fault p ≡ fault = cc in subst (Refuses (done ++ p ∷ rest) bad size) same (Refuses.limit done p rest real refl h r (stays true l))
  by_limit false l e = by_state (m.advance s p) refl l e

  pub one_stops : further (turned s found p rest bad size) on ≡ Err fault → Refuses (done ++ p ∷ rest) bad size fault
  unfolding turned
  one_stops e = by_limit (exceeds (m.open_count s) p.symbol) refl e

stops : (bad : Option ℕ) (size : ℕ) (fault : QueryFault) (u : List Placed) → Stops bad size fault u
unfolding read_from
stops bad size fault [] done zero s real all found st each r h e = ended (done ++ []) real bad size found fault h r (finished_path s) (sym (finished_same s real [] all st)) e
stops bad size fault [] done (suc count) s real all found st each r h e = ended (done ++ []) real bad size found fault h r (finished_path s) (sym (finished_same s real [] all st)) e
stops bad size fault (p ∷ rest) done (suc count) s real all found st each r h e =
    subst (λ z. Refuses z bad size fault) (append_assoc done (p ∷ []) rest)
    (stops bad size fault rest (done ++ p ∷ []) count s real all found st each (ap m.read (append_assoc done (p ∷ []) (take count rest)) ∙ r)
    (subst (λ z. MayStand z (drop count rest)) (sym (append_assoc done (p ∷ []) (take count rest))) h) e)
stops bad size fault (p ∷ rest) done zero s real all found st each r h e =
    one_stops bad size fault p rest (stops bad size fault rest) done s real all found st each (ap m.read (sym (append-nil done)) ∙ r) (subst (λ z. MayStand z (p ∷ rest)) (append-nil done) h) e

pub refused : (text : List ℕ) (fault : QueryFault) → path_read text ≡ Err fault → IsFaultOf text fault
unfolding path_read
refused text fault e =
    stops (symbols_of text).bad (length text) fault (symbols_of text).placed [] 0 (m.at_root m.nothing) (m.at_root m.nothing) [] [] (Stands.at_root m.nothing (symbols_of text).placed) E.none refl
    (nothing_stands (symbols_of text).placed) e
