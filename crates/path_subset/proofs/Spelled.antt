-- What is read is spelled: the machine goes over all symbols, through each selection as it was read.
use Rattle.std.proofs.Common.{◌≡◌, ℕ, zero, suc, Bool, true, false, cond, List, [], ◌∷◌, ◌++◌, length, take, drop, Option, Some, None, option_map, Result, Ok, Err, refl, sym, ◌∙◌, ap, subst, append_assoc, append-nil, arith}
use Rattle.std.proofs.lemmas.List.{length-append, take-append-drop}
use Rattle.std.specs.Option.{is_some}
use Rattle.std.specs.Prelude.{codes}
use Rattle.ft_base.specs.Selection.{Form}
use Rattle.ft_base.specs.declared.fault.QueryFault.{QueryFault}
use Rattle.selection_grammar.specs.declared.symbol.Symbol.{Symbol}
use Rattle.selection_grammar.specs.declared.symbol.Symbol.TheVariants as S
use Rattle.selection_grammar.specs.declared.symbol.Placed.{Placed}
use Rattle.selection_grammar.specs.steps.Machine as selection
use Rattle.selection_grammar.specs.Shapes.{Shape, is_word}
use Rattle.selection_grammar.specs.Tree.{Tree}
use Rattle.ft_parser.specs.Prefix.{run_read}
use Rattle.query_lexer.specs.Symbols.{symbols_of}
use Rattle.path_grammar.specs.declared.path.PathRoot.{PathRoot}
use Rattle.path_grammar.specs.Form as form
use Rattle.path_grammar.specs.Form.{steps}
use Rattle.path_grammar.specs.Grammar.{Inside, inside}
use Rattle.path_grammar.specs.steps.Machine as m
use Rattle.path_grammar.specs.steps.Machine.{Joint, Frame, Stage, Inner, stand}
use Rattle.path_grammar.proofs.Begun.{run_on-append}
use Rattle.path_grammar.proofs.Primaries.{leads_by}
use Rattle.path_grammar.proofs.Rooted.{read_path}
use Rattle.path_subset.specs.Answer.{Led, after_run, with_run, led_by, before_selection_at, before_selection, with_selection, turned, further, ended_by, finished_path, read_from, path_read}
use Rattle.path_subset.specs.Limits.{exceeds, limit_fault, goes_on, goes_on_at, WithinFrom}
use Rattle.path_subset.specs.Paths.{PlacedForm, placed_form, PathForm, path_form}
use Rattle.path_subset.specs.Spelled as E
use Rattle.path_subset.specs.Spelled.{Each, SpellsPath}
use Rattle.path_subset.proofs.Everywhere.{fresh, with_all, with_these, advance_same}
use Rattle.path_subset.proofs.Runs.{Whole, whole_read}

-- How the machine with the selections so far stands where the reader's, without them, stands before some symbols. After a selection it is inside it
-- still, and nothing of what comes next goes on there.
pub data Stands : m.State → List Placed → List Inside → m.State → Type 0 where
  at_root : (r : m.RootStage) (u : List Placed) → Stands (m.at_root r) u [] (m.at_root r)
  along : (root : PathRoot) (frames : List Frame) (joint : Joint) (some all : List Inside) (stage : Stage) (u : List Placed) → before_selection_at stage ≡ None
      → Stands (m.along root (stand frames joint some stage)) u all (m.along root (stand frames joint all stage))
  ended : (root : PathRoot) (frames : List Frame) (joint : Joint) (some all : List Inside) (before : List form.Step) (w : List Placed) (x : Tree) (shape : Shape selection.State) (u : List Placed)
      → selection.finished_at shape ≡ Some x → ((q : Placed) (z : List Placed) → u ≡ q ∷ z → selection.advance shape q ≡ None)
      → Stands (m.along root (stand frames joint some (m.selected before (length all)))) u (all ++ inside w x ∷ []) (m.along root (stand frames joint all (m.selecting before w shape)))

abbrev pub with_state : List Inside → m.State → m.State
with_state all (m.at_root r) = m.at_root r
with_state all (m.along root s) = m.along root (with_all all s)

-- the root
words_fixed : (b c : Bool) → cond b (Some (m.at_root m.collection_name)) (cond c (Some (m.at_root m.doc_name)) None) ≡ option_map (with_state []) (cond b (Some (m.at_root m.collection_name)) (cond c (Some (m.at_root m.doc_name)) None))
words_fixed true c = refl
words_fixed false true = refl
words_fixed false false = refl

root_fixed : (r : m.RootStage) (z : Symbol) → m.root_next r z ≡ option_map (with_state []) (m.root_next r z)
root_fixed m.nothing z = words_fixed (is_word (codes "collection") z) (is_word (codes "doc") z)
root_fixed m.collection_name S.OpenParenthesis = refl
root_fixed m.collection_name other = refl
root_fixed m.collection_open S.CloseParenthesis = refl
root_fixed m.collection_open other = refl
root_fixed m.doc_name S.OpenParenthesis = refl
root_fixed m.doc_name other = refl
root_fixed m.doc_open (S.Text name) = refl
root_fixed m.doc_open other = refl
root_fixed (m.doc_text name) S.CloseParenthesis = refl
root_fixed (m.doc_text name) other = refl

-- one symbol
along_these : (root : PathRoot) (all : List Inside) (o : Option Inner) → m.along_to root (with_these all o) ≡ option_map (with_state all) (m.along_to root o)
along_these root all None = refl
along_these root all (Some s) = refl

ended_next : (frames : List Frame) (joint : Joint) (some all : List Inside) (before : List form.Step) (w : List Placed) (x : Tree) (shape : Shape selection.State) (p : Placed) → selection.finished_at shape ≡ Some x → selection.advance shape p ≡ None
    → m.advance_inner (stand frames joint all (m.selecting before w shape)) p ≡ with_these (all ++ inside w x ∷ []) (m.advance_inner (stand frames joint some (m.selected before (length all))) p)
ended_next frames joint some all before w x shape p e stops =
    ap (λ o. leads_by frames joint all before w p o (selection.finished_at shape)) stops
    ∙ ap (leads_by frames joint all before w p None) e
    ∙ advance_same (all ++ inside w x ∷ []) some frames joint (m.selected before (length all)) p refl

pub step_same : (s real : m.State) (p : Placed) (rest : List Placed) (all : List Inside) → Stands s (p ∷ rest) all real → m.advance real p ≡ option_map (with_state all) (m.advance s p)
step_same s real p rest all (Stands.at_root r u) = root_fixed r p.symbol
step_same s real p rest all (Stands.along root frames joint some these stage u e) =
    ap (m.along_to root) (advance_same these some frames joint stage p e) ∙ along_these root these (m.advance_inner (stand frames joint some stage) p)
step_same s real p rest all (Stands.ended root frames joint some these before w x shape u e stops) =
    ap (m.along_to root) (ended_next frames joint some these before w x shape p e (stops p rest refl))
    ∙ along_these root (these ++ inside w x ∷ []) (m.advance_inner (stand frames joint some (m.selected before (length these))) p)

fresh_same : (stage : Stage) → before_selection_at stage ≡ None → fresh stage ≡ stage
fresh_same (m.selecting before symbols shape) e = cc
fresh_same other e = refl

pub fresh_selecting : (stage : Stage) (before : List form.Step) → before_selection_at stage ≡ Some before → fresh stage ≡ m.selecting before [] (Shape.whole selection.start)
fresh_selecting (m.selecting b symbols shape) before e = let same : b ≡ before = cc in ap (λ z. m.selecting z [] (Shape.whole selection.start)) same
fresh_selecting other before e = cc

stands_along : (root : PathRoot) (s : Inner) (all : List Inside) (rest : List Placed) → before_selection_at s.stage ≡ None → Stands (m.along root s) rest all (with_state all (m.along root s))
stands_along root s all rest e = subst (λ z. Stands (m.along root s) rest all (m.along root (stand s.frames s.joint all z))) (sym (fresh_same s.stage e)) (Stands.along root s.frames s.joint s.selections all s.stage rest e)

led_along : (root : PathRoot) (o : Option Inner) (t : m.State) (all : List Inside) (rest : List Placed) → m.along_to root o ≡ Some t → before_selection t ≡ None → Stands t rest all (with_state all t)
led_along root None t all rest k e = cc
led_along root (Some s) (m.at_root r) all rest k e = cc
led_along root (Some s) (m.along other i) all rest k e = stands_along other i all rest e

root_stands : (t : m.State) (rest : List Placed) → before_selection t ≡ None → Stands t rest [] (with_state [] t)
root_stands (m.at_root r) rest e = Stands.at_root r rest
root_stands (m.along root s) rest e = stands_along root s [] rest e

pub next_stands : (s real t : m.State) (p : Placed) (rest : List Placed) (all : List Inside) → Stands s (p ∷ rest) all real → m.advance s p ≡ Some t → before_selection t ≡ None → Stands t rest all (with_state all t)
next_stands s real t p rest all (Stands.at_root r u) k e = root_stands t rest e
next_stands s real t p rest all (Stands.along root frames joint some these stage u h) k e = led_along root (m.advance_inner (stand frames joint some stage) p) t these rest k e
next_stands s real t p rest all (Stands.ended root frames joint some these before w x shape u h stops) k e =
    led_along root (m.advance_inner (stand frames joint some (m.selected before (length these))) p) t (these ++ inside w x ∷ []) rest k e

-- the symbols of a selection
selecting_by : (root : PathRoot) (frames : List Frame) (joint : Joint) (all : List Inside) (before : List form.Step) (p : Placed) (v w : List Placed) (x r : Shape selection.State) (o : Option (Shape selection.State)) → selection.advance x p ≡ o → selection.run_on o v ≡ Some r
    → ((y : Shape selection.State) → selection.run_on (Some y) v ≡ Some r → m.run_on (Some (m.along root (stand frames joint all (m.selecting before (w ++ p ∷ []) y)))) v ≡ Some (m.along root (stand frames joint all (m.selecting before ((w ++ p ∷ []) ++ v) r))))
    → m.run_on (Some (m.along root (stand frames joint all (m.selecting before w x)))) (p ∷ v) ≡ Some (m.along root (stand frames joint all (m.selecting before (w ++ p ∷ v) r)))
selecting_by root frames joint all before p v w x r None k e again = cc
selecting_by root frames joint all before p v w x r (Some y) k e again =
    ap (λ o. m.run_on (m.along_to root (leads_by frames joint all before w p o (selection.finished_at x))) v) k
    ∙ again y e
    ∙ ap (λ z. Some (m.along root (stand frames joint all (m.selecting before z r)))) (append_assoc w (p ∷ []) v)

pub selecting_run : (root : PathRoot) (frames : List Frame) (joint : Joint) (all : List Inside) (before : List form.Step) (v w : List Placed) (x r : Shape selection.State) → selection.run_on (Some x) v ≡ Some r
    → m.run_on (Some (m.along root (stand frames joint all (m.selecting before w x)))) v ≡ Some (m.along root (stand frames joint all (m.selecting before (w ++ v) r)))
selecting_run root frames joint all before [] w x r e =
    let same : x ≡ r = cc in
    ap (λ z. Some (m.along root (stand frames joint all (m.selecting before w z)))) same ∙ ap (λ z. Some (m.along root (stand frames joint all (m.selecting before z r)))) (sym (append-nil w))
selecting_run root frames joint all before (p ∷ v) w x r e = selecting_by root frames joint all before p v w x r (selection.advance x p) refl e (λ y h. selecting_run root frames joint all before v (w ++ p ∷ []) y r h)

-- the limits
pub open_same : (s real : m.State) (u : List Placed) (all : List Inside) → Stands s u all real → m.open_count s ≡ m.open_count real
open_same s real u all (Stands.at_root r v) = refl
open_same s real u all (Stands.along root frames joint some these stage v h) = refl
open_same s real u all (Stands.ended root frames joint some these before w x shape v h stops) = refl

-- what comes next is outside of the selection before it
outside_at : (stage : Stage) (p : Placed) → before_selection_at stage ≡ None → goes_on_at stage p ≡ false
outside_at (m.selecting before symbols shape) p e = cc
outside_at other p e = refl

pub outside : (s real : m.State) (p : Placed) (rest : List Placed) (all : List Inside) → Stands s (p ∷ rest) all real → goes_on real p ≡ false
outside s real p rest all (Stands.at_root r u) = refl
outside s real p rest all (Stands.along root frames joint some these stage u h) = outside_at stage p h
outside s real p rest all (Stands.ended root frames joint some these before w x shape u h stops) = ap is_some (stops p rest refl)

pub none_within : (s : m.State) → WithinFrom s []
none_within s [] p rest t e r g = cc
none_within s (q ∷ before) p rest t e r g = cc

one_within : (s t : m.State) (p : Placed) (rest : List Placed) → m.advance s p ≡ Some t → (goes_on s p ≡ false → exceeds (m.open_count s) p.symbol ≡ false) → WithinFrom t rest → WithinFrom s (p ∷ rest)
one_within s t p rest a l within [] q z there e r g =
    let first : p ≡ q = cc in
    let same : s ≡ there = cc in
    subst (λ x. exceeds (m.open_count x) q.symbol ≡ false) same (subst (λ x. exceeds (m.open_count s) x.symbol ≡ false) first (l (ap (λ x. goes_on s x) first ∙ ap (λ x. goes_on x q) same ∙ g)))
one_within s t p rest a l within (b ∷ before) q z there e r g =
    let first : b ≡ p = cc in
    let further : rest ≡ before ++ q ∷ z = cc in
    within before q z there further (sym (ap (λ o. m.run_on o before) (ap (m.advance s) first ∙ a)) ∙ r) g

symbol_within : (root : PathRoot) (frames : List Frame) (joint : Joint) (all : List Inside) (before : List form.Step) (p : Placed) (v b w : List Placed) (x r : Shape selection.State) (o : Option (Shape selection.State)) → selection.advance x p ≡ o → selection.run_on o v ≡ Some r
    → ((y : Shape selection.State) → selection.run_on (Some y) v ≡ Some r → WithinFrom (m.along root (stand frames joint all (m.selecting before (w ++ p ∷ []) y))) (v ++ b))
    → WithinFrom (m.along root (stand frames joint all (m.selecting before w x))) (p ∷ v ++ b)
symbol_within root frames joint all before p v b w x r None k e again = cc
symbol_within root frames joint all before p v b w x r (Some y) k e again =
    one_within (m.along root (stand frames joint all (m.selecting before w x))) (m.along root (stand frames joint all (m.selecting before (w ++ p ∷ []) y))) p (v ++ b)
    (ap (λ o. m.along_to root (leads_by frames joint all before w p o (selection.finished_at x))) k)
    (λ g. let two : true ≡ false = sym (ap is_some k) ∙ g in cc)
    (again y e)

pub selection_within : (root : PathRoot) (frames : List Frame) (joint : Joint) (all : List Inside) (before : List form.Step) (v b w : List Placed) (x r : Shape selection.State) → selection.run_on (Some x) v ≡ Some r
    → WithinFrom (m.along root (stand frames joint all (m.selecting before (w ++ v) r))) b → WithinFrom (m.along root (stand frames joint all (m.selecting before w x))) (v ++ b)
selection_within root frames joint all before [] b w x r e within =
    let same : x ≡ r = cc in
    subst (λ z. WithinFrom (m.along root (stand frames joint all (m.selecting before w z))) b) (sym same) (subst (λ z. WithinFrom (m.along root (stand frames joint all (m.selecting before z r))) b) (append-nil w) within)
selection_within root frames joint all before (p ∷ v) b w x r e within =
    symbol_within root frames joint all before p v b w x r (selection.advance x p) refl e
    (λ y h. selection_within root frames joint all before v b (w ++ p ∷ []) y r h (subst (λ z. WithinFrom (m.along root (stand frames joint all (m.selecting before z r))) b) (sym (append_assoc w (p ∷ []) v)) within))

-- as many places as selections
pub counted : {all : List Inside} {found : List PlacedForm} → Each all found → length found ≡ length all
counted E.none = refl
counted (E.further {insides = insides} {found = found} each i x s) = omega (arith, counted each, length-append insides (i ∷ []), length-append found (placed_form x i.symbols ∷ []))

-- what is read from a state of the machine on
pub record Sound (real : m.State) (u : List Placed) (bad : Option ℕ) (value : PathForm) : Type 0 where
  pub there : m.State
  pub insides : List Inside
  pub runs : m.run_on (Some real) u ≡ Some there
  pub ends : m.finished there ≡ Some (value.path, insides)
  pub each : Each insides value.selections
  pub all : bad ≡ None
  pub limits : WithinFrom real u

sound_before : (real there : m.State) (u v : List Placed) (bad : Option ℕ) (value : PathForm) → m.run_on (Some real) u ≡ m.run_on (Some there) v → (WithinFrom there v → WithinFrom real u) → Sound there v bad value → Sound real u bad value
sound_before real there u v bad value e within on = record { limits = within on.limits; there = on.there; insides = on.insides; runs = e ∙ on.runs; ends = on.ends; each = on.each; all = on.all }

-- after all symbols
steps_end : (root : PathRoot) (frames : List Frame) (joint : Joint) (some all : List Inside) (stage : Stage) (bad : Option ℕ) (size : ℕ) (found : List PlacedForm) (value : PathForm) → Each all found
    → ended_by bad size found (option_map (λ whole. whole.0) (m.finished_inner root frames some stage)) ≡ Ok value → Sound (m.along root (stand frames joint all stage)) [] bad value
steps_end root frames joint some all stage (Some at) size found value each e = cc
steps_end root [] joint some all (m.stepped last) None size found value each e =
    let whole : form.Path = record { root = root; steps = steps (m.all_steps last) } in
    let same : path_form whole found ≡ value = cc in
    record {
      there = m.along root (stand [] joint all (m.stepped last));
      insides = all;
      runs = refl;
      ends = ap (λ v. Some (v.path, all)) same;
      each = subst (λ v. Each all v.selections) same each;
      all = refl;
      limits = none_within (m.along root (stand [] joint all (m.stepped last)));
    }
steps_end root [] joint some all other None size found value each e = cc
steps_end root (frame ∷ outer) joint some all other None size found value each e = cc

at_end : (s real : m.State) (all : List Inside) (bad : Option ℕ) (size : ℕ) (found : List PlacedForm) (value : PathForm) → Stands s [] all real → Each all found → ended_by bad size found (finished_path s) ≡ Ok value → Sound real [] bad value
at_end s real all (Some at) size found value st each e = cc
at_end s real all None size found value (Stands.at_root r u) each e = cc
at_end s real all None size found value (Stands.along root frames joint some these stage u h) each e = steps_end root frames joint some these stage None size found value each e
at_end s real all None size found value (Stands.ended root [] joint some these before w x shape u h stops) each e = cc
at_end s real all None size found value (Stands.ended root (frame ∷ outer) joint some these before w x shape u h stops) each e = cc

-- what is read on from after some of the symbols is sound
abbrev Reads : Option ℕ → ℕ → PathForm → List Placed → Type 0
Reads bad size value rest = (count : ℕ) (s real : m.State) (all : List Inside) (found : List PlacedForm) → Stands s (drop count rest) all real → Each all found → read_from s found count rest bad size ≡ Ok value → Sound real (drop count rest) bad value

module _ (bad : Option ℕ) (size : ℕ) (value : PathForm) (p : Placed) (rest : List Placed) (again : Reads bad size value rest) (s real : m.State) (all : List Inside) (found : List PlacedForm) (st : Stands s (p ∷ rest) all real) (each : Each all found) where
  abbrev on : Led → Result PathForm QueryFault
  on l = read_from l.state l.selections l.count rest bad size

  stays_within : exceeds (m.open_count s) p.symbol ≡ false → goes_on real p ≡ false → exceeds (m.open_count real) p.symbol ≡ false
  stays_within l g = ap (λ n. exceeds n p.symbol) (sym (open_same s real (p ∷ rest) all st)) ∙ l

  -- the machine with the selections, one symbol on
  advances : (t : m.State) → m.advance s p ≡ Some t → m.advance real p ≡ Some (with_state all t)
  advances t a = step_same s real p rest all st ∙ ap (option_map (with_state all)) a

  one_on : (t : m.State) → m.advance s p ≡ Some t → m.run_on (Some real) (p ∷ rest) ≡ m.run_on (Some (with_state all t)) rest
  one_on t a = ap (λ o. m.run_on o rest) (advances t a)

  -- through a selection
  through : (root : PathRoot) (i : Inner) (before : List form.Step) (x : Form) (n : ℕ) → exceeds (m.open_count s) p.symbol ≡ false → m.advance s p ≡ Some (m.along root i) → before_selection_at i.stage ≡ Some before → Whole rest x n
      → read_from (with_selection (m.along root i) before (length found)) (found ++ placed_form x (take n rest) ∷ []) n rest bad size ≡ Ok value → Sound real (p ∷ rest) bad value
  through root i before x n l a k run e =
      let fresh_is : fresh i.stage ≡ m.selecting before [] (Shape.whole selection.start) = fresh_selecting i.stage before k in
      let along_is : m.run_on (Some (with_state all (m.along root i))) rest ≡ m.run_on (Some (m.along root (stand i.frames i.joint all (m.selecting before [] (Shape.whole selection.start))))) rest = ap (λ z. m.run_on (Some (m.along root (stand i.frames i.joint all z))) rest) fresh_is in
      let split : m.run_on (Some (m.along root (stand i.frames i.joint all (m.selecting before [] (Shape.whole selection.start))))) rest ≡ m.run_on (Some (m.along root (stand i.frames i.joint all (m.selecting before (take n rest) run.shape)))) (drop n rest) =
      ap (m.run_on (Some (m.along root (stand i.frames i.joint all (m.selecting before [] (Shape.whole selection.start)))))) (sym (take-append-drop n rest))
      ∙ run_on-append (Some (m.along root (stand i.frames i.joint all (m.selecting before [] (Shape.whole selection.start))))) (take n rest) (drop n rest)
      ∙ ap (λ o. m.run_on o (drop n rest)) (selecting_run root i.frames i.joint all before (take n rest) [] (Shape.whole selection.start) run.shape run.reads) in
      let stands : Stands (m.along root (stand i.frames i.joint i.selections (m.selected before (length all)))) (drop n rest) (all ++ inside (take n rest) run.selects.tree ∷ []) (m.along root (stand i.frames i.joint all (m.selecting before (take n rest) run.shape))) =
      Stands.ended root i.frames i.joint i.selections all before (take n rest) run.selects.tree run.shape (drop n rest) run.ends run.stops in
      let reads : read_from (m.along root (stand i.frames i.joint i.selections (m.selected before (length all)))) (found ++ placed_form x (take n rest) ∷ []) n rest bad size ≡ Ok value =
      ap (λ c. read_from (m.along root (stand i.frames i.joint i.selections (m.selected before c))) (found ++ placed_form x (take n rest) ∷ []) n rest bad size) (sym (counted each)) ∙ e in
      sound_before real (m.along root (stand i.frames i.joint all (m.selecting before (take n rest) run.shape))) (p ∷ rest) (drop n rest) bad value (one_on (m.along root i) a ∙ along_is ∙ split)
      (λ w. one_within real (with_state all (m.along root i)) p rest (advances (m.along root i) a) (stays_within l)
      (subst (λ z. WithinFrom (m.along root (stand i.frames i.joint all z)) rest) (sym fresh_is)
      (subst (WithinFrom (m.along root (stand i.frames i.joint all (m.selecting before [] (Shape.whole selection.start))))) (take-append-drop n rest)
      (selection_within root i.frames i.joint all before (take n rest) (drop n rest) [] (Shape.whole selection.start) run.shape run.reads w))))
      (again n (m.along root (stand i.frames i.joint i.selections (m.selected before (length all)))) (m.along root (stand i.frames i.joint all (m.selecting before (take n rest) run.shape)))
      (all ++ inside (take n rest) run.selects.tree ∷ []) (found ++ placed_form x (take n rest) ∷ []) stands (E.further each (inside (take n rest) run.selects.tree) x run.selects) reads)

  by_run : (t : m.State) (before : List form.Step) (r : Result (Form × ℕ) QueryFault) → run_read rest bad size ≡ r → exceeds (m.open_count s) p.symbol ≡ false → m.advance s p ≡ Some t → before_selection t ≡ Some before
      → further (after_run t found before rest r) on ≡ Ok value → Sound real (p ∷ rest) bad value
  by_run t before (Err fault) k l a b e = cc
  by_run (m.at_root r) before (Ok (x, n)) k l a b e = cc
  by_run (m.along root i) before (Ok (x, n)) k l a b e = through root i before x n l a b (whole_read rest bad size x n k) e

  by_selection : (t : m.State) (o : Option (List form.Step)) → before_selection t ≡ o → exceeds (m.open_count s) p.symbol ≡ false → m.advance s p ≡ Some t → further (with_run t found o rest bad size) on ≡ Ok value → Sound real (p ∷ rest) bad value
  by_selection t None b l a e = sound_before real (with_state all t) (p ∷ rest) rest bad value (one_on t a) (one_within real (with_state all t) p rest (advances t a) (stays_within l)) (again 0 t (with_state all t) all found (next_stands s real t p rest all st a b) each e)
  by_selection t (Some before) b l a e = by_run t before (run_read rest bad size) refl l a b e

  by_state : (o : Option m.State) → m.advance s p ≡ o → exceeds (m.open_count s) p.symbol ≡ false → further (led_by p o found rest bad size) on ≡ Ok value → Sound real (p ∷ rest) bad value
  by_state None a l e = cc
  by_state (Some t) a l e = by_selection t (before_selection t) refl l a e

  by_limit : (b : Bool) → exceeds (m.open_count s) p.symbol ≡ b → further (cond b (Err (limit_fault p)) (led_by p (m.advance s p) found rest bad size)) on ≡ Ok value → Sound real (p ∷ rest) bad value
  by_limit true l e = cc
  by_limit false l e = by_state (m.advance s p) refl l e

  pub one_sound : further (turned s found p rest bad size) on ≡ Ok value → Sound real (p ∷ rest) bad value
  unfolding turned
  one_sound e = by_limit (exceeds (m.open_count s) p.symbol) refl e

sound : (bad : Option ℕ) (size : ℕ) (value : PathForm) (u : List Placed) → Reads bad size value u
unfolding read_from
sound bad size value [] zero s real all found st each e = at_end s real all bad size found value st each e
sound bad size value [] (suc count) s real all found st each e = at_end s real all bad size found value st each e
sound bad size value (p ∷ rest) (suc count) s real all found st each e = sound bad size value rest count s real all found st each e
sound bad size value (p ∷ rest) zero s real all found st each e = one_sound bad size value p rest (sound bad size value rest) s real all found st each e

pub spelled : (text : List ℕ) (value : PathForm) → path_read text ≡ Ok value → SpellsPath text value
unfolding path_read
spelled text value e =
    let on = sound (symbols_of text).bad (length text) value (symbols_of text).placed 0 (m.at_root m.nothing) (m.at_root m.nothing) [] [] (Stands.at_root m.nothing (symbols_of text).placed) E.none e in
    record { insides = on.insides; all = on.all; spells = read_path (symbols_of text).placed on.there value.path on.insides on.runs on.ends; selections = on.each; limits = on.limits }
