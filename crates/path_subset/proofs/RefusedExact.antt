-- What has the cause of a fault is read as that fault.
use Rattle.std.proofs.Common.{◌≡◌, ℕ, Bool, true, false, List, [], ◌∷◌, ◌++◌, Option, Some, None, option_map, Result, Err, refl, sym, ◌∙◌, ap, subst, append_assoc, append-nil}
use Rattle.std.specs.Prelude.{codes}
use Rattle.ft_base.specs.declared.fault.QueryFault.{QueryFault}
use Rattle.ft_base.specs.declared.fault.QueryFault.TheVariants as Q
use Rattle.selection_grammar.specs.declared.symbol.Placed.{Placed}
use Rattle.selection_grammar.specs.Grammar.{Spot, name}
use Rattle.selection_grammar.specs.steps.Machine as selection
use Rattle.selection_grammar.specs.Shapes.{Shape}
use Rattle.ft_parser.specs.Prefix.{run_read}
use Rattle.path_grammar.specs.declared.path.PathRoot.{PathRoot}
use Rattle.path_grammar.specs.Form as form
use Rattle.path_grammar.specs.Grammar.{Inside, Path}
use Rattle.path_grammar.specs.steps.Machine as m
use Rattle.path_grammar.specs.steps.Machine.{Joint, Frame, Stage, Inner, stand}
use Rattle.path_grammar.proofs.Begun.{read-append, not_begun}
use Rattle.path_grammar.proofs.Rooted as rooted
use Rattle.path_grammar.proofs.Standing as standing
use Rattle.path_subset.specs.Answer.{Led, after_run, led_by, before_selection_at, before_selection, further, ended_by, finished_path, read_from}
use Rattle.path_subset.specs.Limits.{exceeds, limit_fault, goes_on}
use Rattle.path_subset.specs.Paths.{PlacedForm, PathForm}
use Rattle.path_subset.specs.Refused as R
use Rattle.path_subset.specs.Refused.{WantSelection, MayStand, Refuses}
use Rattle.path_subset.proofs.Arrived.{Arrived, arrive, one_read}
use Rattle.path_subset.proofs.Everywhere.{fresh}
use Rattle.path_subset.proofs.RunLaws.{misread_read}
use Rattle.path_subset.proofs.Skipped.{first, nothing_left, turned_within, turned_past}
use Rattle.path_subset.proofs.Spelled.{Stands, with_state, step_same, open_same, outside}

-- the last symbol before a selection is `text`
record EndsWithText (u : List Placed) : Type 0 where
  prefix : List Placed
  at : Spot
  is : u ≡ prefix ++ name at (codes "text") ∷ []

after_more : (u v : List Placed) → EndsWithText v → EndsWithText (u ++ v)
after_more u v h = record { prefix = u ++ h.prefix; at = h.at; is = ap (λ z. u ++ z) h.is ∙ sym (append_assoc u h.prefix (name h.at (codes "text") ∷ [])) }

under_ends : {frames : List Frame} {joint : m.Joint} {n : ℕ} {u : List Placed} {stage : Stage} {ss : List Inside} → standing.Under frames joint n u stage ss → (xs : List form.Step) → stage ≡ m.selecting xs [] (Shape.whole selection.start) → EndsWithText u
under_ends (standing.selecting {u = u} rel p q v shape r) xs e =
    let none : v ≡ [] = cc in
    subst (λ z. EndsWithText (u ++ name p (codes "contains") ∷ name q (codes "text") ∷ z)) (sym none) (after_more u (name p (codes "contains") ∷ name q (codes "text") ∷ []) (record { prefix = name p (codes "contains") ∷ []; at = q; is = refl }))
under_ends other xs e = cc

inner_ends : {u : List Placed} {s : Inner} → standing.Stands u s → (xs : List form.Step) → s.stage ≡ m.selecting xs [] (Shape.whole selection.start) → EndsWithText u
inner_ends (standing.under {u = u} {v = v} place a) xs e = after_more u v (under_ends a xs e)
inner_ends (standing.bracket a) xs e = cc
inner_ends (standing.number a p k) xs e = cc

abbrev stage_of : m.State → Option Stage
stage_of (m.at_root stage) = None
stage_of (m.along root s) = Some s.stage

state_ends : {u : List Placed} {s : m.State} → rooted.Reads u s → (xs : List form.Step) → stage_of s ≡ Some (m.selecting xs [] (Shape.whole selection.start)) → EndsWithText u
state_ends (rooted.at_root a) xs e = cc
state_ends (rooted.along {u = u} {v = v} {s = s} root a) xs e = let same : s.stage ≡ m.selecting xs [] (Shape.whole selection.start) = cc in after_more u v (inner_ends a xs same)

last_same : (u prefix : List Placed) (p q : Placed) → u ++ p ∷ [] ≡ prefix ++ q ∷ [] → p ≡ q
last_same [] [] p q e = cc
last_same [] (r ∷ []) p q e = cc
last_same [] (r ∷ t ∷ prefix) p q e = cc
last_same (r ∷ []) [] p q e = cc
last_same (r ∷ t ∷ u) [] p q e = cc
last_same (r ∷ u) (t ∷ prefix) p q e = let tail : u ++ p ∷ [] ≡ prefix ++ q ∷ [] = cc in last_same u prefix p q tail

text_exceeds_none : (before : List Placed) (p : Placed) (depth : ℕ) → WantSelection (before ++ p ∷ []) → exceeds depth p.symbol ≡ false
text_exceeds_none before p depth (R.after_text root frames joint insides steps r) =
    let h = state_ends (rooted.reads (before ++ p ∷ []) (m.along root (stand frames joint insides (m.selecting steps [] (Shape.whole selection.start)))) r) steps refl in
    ap (λ (q : Placed). exceeds depth q.symbol) (last_same before h.prefix p (name h.at (codes "text")) h.is)

-- a selection comes next for the reader where it does for the machine
fresh_at : (stage : Stage) → before_selection_at (fresh stage) ≡ before_selection_at stage
fresh_at (m.selecting before symbols shape) = refl
fresh_at other = refl

pub fresh_before : (all : List Inside) (t : m.State) → before_selection (with_state all t) ≡ before_selection t
fresh_before all (m.at_root stage) = refl
fresh_before all (m.along root s) = fresh_at s.stage

-- the path that may end here
along_finished : (root : PathRoot) (frames : List Frame) (some all : List Inside) (stage : Stage)
    → option_map (λ whole. whole.0) (m.finished_inner root frames some stage) ≡ option_map (λ whole. whole.0) (m.finished_inner root frames all stage)
along_finished root [] some all (m.stepped last) = refl
along_finished root [] some all other = refl
along_finished root (frame ∷ outer) some all other = refl

pub finished_same : (s real : m.State) (u : List Placed) (all : List Inside) → Stands s u all real → finished_path s ≡ finished_path real
finished_same s real u all (Stands.at_root r v) = refl
finished_same s real u all (Stands.along root frames joint some these stage v h) = along_finished root frames some these stage
finished_same s real u all (Stands.ended root [] joint some these before w x shape v h stops) = refl
finished_same s real u all (Stands.ended root (frame ∷ outer) joint some these before w x shape v h stops) = refl

-- the machine stands where it was said to
same_there : (u : List Placed) (s t : m.State) → m.read u ≡ Some s → m.read u ≡ Some t → s ≡ t
same_there u s t e f = let two : Some s ≡ Some t = sym e ∙ f in cc

pub outside_after : (before : List Placed) (p : Placed) (rest : List Placed) (s : m.State) → MayStand before (p ∷ rest) → m.read before ≡ Some s → goes_on s p ≡ false
outside_after before p rest s h r =
    let a = arrive before (p ∷ rest) None 0 h in
    ap (λ x. goes_on x p) (same_there before s a.real r a.reads) ∙ outside a.s a.real p rest a.all a.stands

module _ (bad : Option ℕ) (size : ℕ) (p : Placed) (rest : List Placed) (before : List Placed) (expected : Result PathForm QueryFault) (a : Arrived before (p ∷ rest) bad size expected) where
  abbrev on : Led → Result PathForm QueryFault
  on l = read_from l.state l.selections l.count rest bad size

  limited : (s : m.State) → m.read before ≡ Some s → (b : Bool) → exceeds (m.open_count s) p.symbol ≡ b → exceeds (m.open_count a.s) p.symbol ≡ b
  limited s r b l =
      ap (λ n. exceeds n p.symbol) (open_same a.s a.real (p ∷ rest) a.all a.stands) ∙ ap (λ (x : m.State). exceeds (m.open_count x) p.symbol) (same_there before a.real s a.reads r) ∙ l

  one_on : m.read (before ++ p ∷ []) ≡ m.run_on (option_map (with_state a.all) (m.advance a.s p)) []
  one_on = read-append before (p ∷ []) ∙ ap (λ o. m.run_on o (p ∷ [])) a.reads ∙ ap (λ o. m.run_on o []) (step_same a.s a.real p rest a.all a.stands)

  pub past_limit : (s : m.State) → m.read before ≡ Some s → exceeds (m.open_count s) p.symbol ≡ true → expected ≡ Err (limit_fault p)
  past_limit s r l = a.is ∙ first a.s a.found p rest bad size ∙ ap (λ z. further z on) (turned_past a.s a.found p rest bad size (limited s r true l))

  pub at_symbol : (s : m.State) → m.read before ≡ Some s → exceeds (m.open_count s) p.symbol ≡ false → m.read (before ++ p ∷ []) ≡ None → expected ≡ Err (Q.Syntax p.from)
  at_symbol s r l none =
      a.is ∙ first a.s a.found p rest bad size
      ∙ ap (λ z. further z on) (sym (turned_within a.s a.found p rest bad size (limited s r false l)) ∙ ap (λ o. led_by p o a.found rest bad size) (stuck (m.advance a.s p) (sym one_on ∙ none)))
    where
      stuck : (o : Option m.State) → m.run_on (option_map (with_state a.all) o) [] ≡ None → o ≡ None
      stuck None e = refl
      stuck (Some t) e = cc

  pub at_selection : (fault : QueryFault) → WantSelection (before ++ p ∷ []) → run_read rest bad size ≡ Err fault → expected ≡ Err fault
  at_selection fault (R.after_text root frames joint insides steps r) k = by (m.advance a.s p) refl (sym one_on ∙ r)
    where
      by : (o : Option m.State) → m.advance a.s p ≡ o → m.run_on (option_map (with_state a.all) o) [] ≡ Some (m.along root (stand frames joint insides (m.selecting steps [] (Shape.whole selection.start)))) → expected ≡ Err fault
      by None e f = cc
      by (Some t) e f =
          let same : with_state a.all t ≡ m.along root (stand frames joint insides (m.selecting steps [] (Shape.whole selection.start))) = cc in
          a.is
          ∙ one_read a.s t a.found p rest bad size (Some steps) (text_exceeds_none before p (m.open_count a.s) (R.after_text root frames joint insides steps r)) e (sym (fresh_before a.all t) ∙ ap before_selection same)
          ∙ ap (λ z. further (after_run t a.found steps rest z) on) k

-- after all symbols
at_end : (symbols : List Placed) (bad : Option ℕ) (size : ℕ) (r : Result PathForm QueryFault) → MayStand symbols [] → ((s : m.State) (found : List PlacedForm) → m.read symbols ≡ Some s → ended_by bad size found (finished_path s) ≡ r)
    → read_from (m.at_root m.nothing) [] 0 symbols bad size ≡ r
at_end symbols bad size r h ends =
    let a = arrive symbols [] bad size h in
    ap (λ u. read_from (m.at_root m.nothing) [] 0 u bad size) (sym (append-nil symbols)) ∙ a.is ∙ nothing_left a.s a.found bad size
    ∙ ap (ended_by bad size a.found) (finished_same a.s a.real [] a.all a.stands) ∙ ends a.real a.found a.reads

unfinished : (symbols : List Placed) (s : m.State) → ((value : form.Path) (insides : List Inside) → Path symbols value insides → ⊥) → m.read symbols ≡ Some s → finished_path s ≡ None
unfinished symbols s none r = by (m.finished s) refl
  where
    by : (o : Option (form.Path × List Inside)) → m.finished s ≡ o → finished_path s ≡ None
    by None e = ap (option_map (λ whole. whole.0)) e
    by (Some (value, insides)) e = absurd (none value insides (rooted.read_path symbols s value insides r e))

pub refuses_read : (symbols : List Placed) (bad : Option ℕ) (size : ℕ) (fault : QueryFault) → Refuses symbols bad size fault → read_from (m.at_root m.nothing) [] 0 symbols bad size ≡ Err fault
refuses_read symbols bad size fault (Refuses.limit before p rest s e h r l) =
    ap (λ u. read_from (m.at_root m.nothing) [] 0 u bad size) e ∙ past_limit bad size p rest before _ (arrive before (p ∷ rest) bad size h) s r l
refuses_read symbols bad size fault (Refuses.symbol before p rest s e h r l none) =
    ap (λ u. read_from (m.at_root m.nothing) [] 0 u bad size) e ∙ at_symbol bad size p rest before _ (arrive before (p ∷ rest) bad size h) s r l (not_begun (before ++ p ∷ []) none)
refuses_read symbols bad size fault (Refuses.misread before p rest f e h want k) =
    ap (λ u. read_from (m.at_root m.nothing) [] 0 u bad size) e ∙ at_selection bad size p rest before _ (arrive before (p ∷ rest) bad size h) f want (misread_read rest bad size f k)
refuses_read symbols bad size fault (Refuses.character at e h) = at_end symbols bad size (Err (Q.Syntax at)) h (λ s found k. ap (λ b. ended_by b size found (finished_path s)) e)
refuses_read symbols bad size fault (Refuses.end e h none) =
    at_end symbols bad size (Err (Q.Syntax size)) h (λ s found k. ap (λ b. ended_by b size found (finished_path s)) e ∙ ap (ended_by None size found) (unfinished symbols s none k))
