-- What is right by the grammar is what symbols are read as.
use Rattle.std.proofs.Common.{◌≡◌, ℕ, true, false, List, [], ◌∷◌, ◌++◌, length, map, Option, Some, None, Result, Ok, Err, refl, sym, ◌∙◌, ap, subst, append_assoc, append-nil}
use Rattle.std.proofs.lemmas.List.{map-append}
use Rattle.std.proofs.lemmas.List.Elements.{All-nil, All-cons, All-head, All-tail, All-append}
use Rattle.std.specs.List.{All}
use Rattle.ft_base.specs.Selection.{Form}
use Rattle.ft_base.specs.declared.fault.QueryFault.{QueryFault}
use Rattle.selection_grammar.specs.declared.symbol.Placed.{Placed}
use Rattle.selection_grammar.specs.steps.Machine as selection
use Rattle.selection_grammar.specs.Shapes.{Shape}
use Rattle.selection_grammar.specs.Tree.{Tree}
use Rattle.ft_parser.specs.Prefix.{run_read}
use Rattle.ft_parser.specs.Selected.{Selects}
use Rattle.query_lexer.specs.Symbols.{symbols_of}
use Rattle.ft_parser.proofs.SelectedExact.{selects_read}
use Rattle.ft_parser.proofs.SelectedLaws.{rest_read}
use Rattle.path_grammar.specs.declared.path.PathRoot.{PathRoot}
use Rattle.path_grammar.specs.Form as form
use Rattle.path_grammar.specs.Grammar.{Inside, inside, Path, Begins}
use Rattle.path_grammar.specs.steps.Machine as m
use Rattle.path_grammar.specs.steps.Machine.{Joint, Frame, Stage, Inner, stand}
use Rattle.path_grammar.proofs.Begun.{one_path, read-append}
use Rattle.path_grammar.proofs.Completed as completed
use Rattle.path_grammar.proofs.Given.{given, same_selections}
use Rattle.path_grammar.proofs.Primaries.{leads_by}
use Rattle.path_subset.specs.Answer.{path_read}
use Rattle.path_subset.specs.Paths.{PlacedForm, placed_form, PathForm, path_form, extent_of}
use Rattle.path_subset.specs.declared.path.Extent.{Extent}
use Rattle.path_subset.specs.Refused as R
use Rattle.path_subset.specs.Refused.{Refuses, WantSelection, IsFaultOf}
use Rattle.path_subset.specs.Spelled as E
use Rattle.path_subset.specs.Spelled.{Each, SpellsPath}
use Rattle.path_subset.proofs.Everywhere.{with_all, with_these, advance_same}
use Rattle.path_subset.proofs.Refused.{refused}
use Rattle.path_subset.proofs.RunLaws.{run_of, run_selects, misread_read}
use Rattle.path_subset.proofs.RefusedExact.{outside_after, refuses_read}
use Rattle.path_subset.proofs.Spelled.{spelled}

-- the selections so far stay, and further ones come after them
record Grown (all more : List Inside) : Type 0 where
  suffix : List Inside
  is : more ≡ all ++ suffix

these_kept : (all : List Inside) (o : Option Inner) (t : Inner) → with_these all o ≡ Some t → t.selections ≡ all
these_kept all None t e = cc
these_kept all (Some s) t e = let same : with_all all s ≡ t = cc in ap (λ (i : Inner). i.selections) (sym same)

selected_kept : (frames : List Frame) (joint : Joint) (all : List Inside) (before : List form.Step) (k : ℕ) (p : Placed) (t : Inner) → m.advance_inner (stand frames joint all (m.selected before k)) p ≡ Some t → t.selections ≡ all
selected_kept frames joint all before k p t e = these_kept all (m.advance_inner (stand frames joint all (m.selected before k)) p) t (sym (advance_same all all frames joint (m.selected before k) p refl) ∙ e)

selecting_grows : (frames : List Frame) (joint : Joint) (all : List Inside) (before : List form.Step) (w : List Placed) (p : Placed) (o : Option (Shape selection.State)) (x : Option Tree) (t : Inner)
    → leads_by frames joint all before w p o x ≡ Some t → Grown all t.selections
selecting_grows frames joint all before w p (Some y) x t e =
    let same : stand frames joint all (m.selecting before (w ++ p ∷ []) y) ≡ t = cc in
    record { suffix = []; is = ap (λ (i : Inner). i.selections) (sym same) ∙ sym (append-nil all) }
selecting_grows frames joint all before w p None None t e = cc
selecting_grows frames joint all before w p None (Some x) t e = record { suffix = inside w x ∷ []; is = selected_kept frames joint (all ++ inside w x ∷ []) before (length all) p t e }

inner_grows : (frames : List Frame) (joint : Joint) (all : List Inside) (stage : Stage) (p : Placed) (t : Inner) → m.advance_inner (stand frames joint all stage) p ≡ Some t → Grown all t.selections
inner_grows frames joint all (m.selecting before w shape) p t e = selecting_grows frames joint all before w p (selection.advance shape p) (selection.finished_at shape) t e
inner_grows frames joint all other p t e =
    record { suffix = []; is = these_kept all (m.advance_inner (stand frames joint all other) p) t (sym (advance_same all all frames joint other p refl) ∙ e) ∙ sym (append-nil all) }

finished_kept : (root : PathRoot) (frames : List Frame) (all : List Inside) (stage : Stage) (value : form.Path) (insides : List Inside) → m.finished_inner root frames all stage ≡ given value insides → insides ≡ all
finished_kept root [] all (m.stepped last) value insides e = sym (same_selections e)
finished_kept root [] all other value insides e = cc
finished_kept root (frame ∷ outer) all other value insides e = cc

ends_grown : (root : PathRoot) (u : List Placed) (i : Inner) (x : m.State) (value : form.Path) (insides : List Inside) → m.run_on (Some (m.along root i)) u ≡ Some x → m.finished x ≡ given value insides → Grown i.selections insides
ends_grown root [] i x value insides e f =
    let same : m.along root i ≡ x = cc in
    record { suffix = []; is = finished_kept root i.frames i.selections i.stage value insides (ap m.finished same ∙ f) ∙ sym (append-nil i.selections) }
ends_grown root (p ∷ u) i x value insides e f = by (m.advance_inner i p) refl e (λ t k. ends_grown root u t x value insides k f)
  where
    by : (o : Option Inner) → m.advance_inner i p ≡ o → m.run_on (m.along_to root o) u ≡ Some x → ((t : Inner) → m.run_on (Some (m.along root t)) u ≡ Some x → Grown t.selections insides) → Grown i.selections insides
    by None a k again = cc
    by (Some t) a k again =
        let first = inner_grows i.frames i.joint i.selections i.stage p t a in
        let further = again t k in
        record { suffix = first.suffix ++ further.suffix; is = further.is ∙ ap (λ z. z ++ further.suffix) first.is ∙ append_assoc i.selections first.suffix further.suffix }

-- A selection of a path that is whole: the symbols that lead on in it, which are one of the path's selections, and those after it.
record Passed (w : List Placed) (y : Shape selection.State) (rest : List Placed) (insides : List Inside) : Type 0 where
  prefix : List Placed
  back : List Placed
  shape : Shape selection.State
  tree : Tree
  first : List Inside
  last : List Inside
  parts : rest ≡ prefix ++ back
  runs : selection.run_on (Some y) prefix ≡ Some shape
  stops : (q : Placed) (z : List Placed) → back ≡ q ∷ z → selection.advance shape q ≡ None
  ends : selection.finished_at shape ≡ Some tree
  found : insides ≡ first ++ inside (w ++ prefix) tree ∷ last

module _ (root : PathRoot) (frames : List Frame) (joint : Joint) (all : List Inside) (before : List form.Step) (x : m.State) (value : form.Path) (insides : List Inside) (f : m.finished x ≡ given value insides) where
  abbrev there : List Placed → Shape selection.State → m.State
  there w y = m.along root (stand frames joint all (m.selecting before w y))

  -- none leads on
  ended_by_next : (w : List Placed) (y : Shape selection.State) (q : Placed) (rest : List Placed) (tree : Tree) (o : Option Inner) → selection.advance y q ≡ None → selection.finished_at y ≡ Some tree
      → m.advance_inner (stand frames joint (all ++ inside w tree ∷ []) (m.selected before (length all))) q ≡ o → m.run_on (m.along_to root o) rest ≡ Some x → Passed w y (q ∷ rest) insides
  ended_by_next w y q rest tree None a k j e = cc
  ended_by_next w y q rest tree (Some t) a k j e =
      let grown = ends_grown root rest t x value insides e f in
      record {
        prefix = [];
        back = q ∷ rest;
        shape = y;
        tree = tree;
        first = all;
        last = grown.suffix;
        parts = refl;
        runs = refl;
        ends = k;
        stops = λ p z h. let same : q ≡ p = cc in ap (selection.advance y) (sym same) ∙ a;
        found = grown.is ∙ ap (λ z. z ++ grown.suffix) (selected_kept frames joint (all ++ inside w tree ∷ []) before (length all) q t j)
            ∙ append_assoc all (inside w tree ∷ []) grown.suffix ∙ ap (λ z. all ++ inside z tree ∷ grown.suffix) (sym (append-nil w));
      }

  ended_by : (w : List Placed) (y : Shape selection.State) (q : Placed) (rest : List Placed) (o : Option Tree) → selection.advance y q ≡ None → selection.finished_at y ≡ o
      → m.run_on (m.along_to root (leads_by frames joint all before w q None o)) rest ≡ Some x → Passed w y (q ∷ rest) insides
  ended_by w y q rest None a k e = cc
  ended_by w y q rest (Some tree) a k e = ended_by_next w y q rest tree (m.advance_inner (stand frames joint (all ++ inside w tree ∷ []) (m.selected before (length all))) q) a k refl e

  passed_by : (w : List Placed) (y : Shape selection.State) (q : Placed) (rest : List Placed) (o : Option (Shape selection.State)) → selection.advance y q ≡ o
      → m.run_on (m.along_to root (leads_by frames joint all before w q o (selection.finished_at y))) rest ≡ Some x
      → ((next : Shape selection.State) → m.run_on (Some (there (w ++ q ∷ []) next)) rest ≡ Some x → Passed (w ++ q ∷ []) next rest insides) → Passed w y (q ∷ rest) insides
  passed_by w y q rest None a e again = ended_by w y q rest (selection.finished_at y) a refl e
  passed_by w y q rest (Some next) a e again =
      let on = again next e in
      record {
        prefix = q ∷ on.prefix;
        back = on.back;
        shape = on.shape;
        tree = on.tree;
        first = on.first;
        last = on.last;
        parts = ap (λ z. q ∷ z) on.parts;
        runs = ap (λ o. selection.run_on o on.prefix) a ∙ on.runs;
        stops = on.stops;
        ends = on.ends;
        found = on.found ∙ ap (λ z. on.first ++ inside z on.tree ∷ on.last) (append_assoc w (q ∷ []) on.prefix);
      }

  passed : (rest w : List Placed) (y : Shape selection.State) → m.run_on (Some (there w y)) rest ≡ Some x → Passed w y rest insides
  passed [] w y e = let same : there w y ≡ x = cc in unfinished frames (ap m.finished same ∙ f)
    where
      unfinished : (these : List Frame) → m.finished_inner root these all (m.selecting before w y) ≡ given value insides → Passed w y [] insides
      unfinished [] h = cc
      unfinished (frame ∷ outer) h = cc
  passed (q ∷ rest) w y e = passed_by w y q rest (selection.advance y q) refl e (λ next k. passed rest (w ++ q ∷ []) next k)

-- each of a path's selections is one without a fault
abbrev Readable : Inside → Type 0
Readable i = (x : Form) × Selects i.symbols None x

readable : {all : List Inside} {found : List PlacedForm} → Each all found → All Readable all
readable E.none = All-nil Readable
readable (E.further {insides = insides} each i x s) = All-append Readable insides (i ∷ []) (readable each) (All-cons Readable i [] (x, s) (All-nil Readable))

middle : (a b : List Inside) (i : Inside) → All Readable (a ++ i ∷ b) → Readable i
middle [] b i h = All-head Readable i b h
middle (j ∷ a) b i h = middle a b i (All-tail Readable j (a ++ i ∷ b) h)

-- a path that is whole is refused for nothing
path_begins : (u v : List Placed) (value : form.Path) (insides : List Inside) → Path (u ++ v) value insides → Begins u
path_begins u v value insides h = (v, value, insides, h)

module _ (text : List ℕ) (value : PathForm) (h : SpellsPath text value) where
  abbrev symbols : List Placed
  symbols = (symbols_of text).placed

  run_on_from : (before rest : List Placed) (s : m.State) → symbols ≡ before ++ rest → m.read before ≡ Some s → (x : m.State) × (m.run_on (Some s) rest ≡ Some x) × (m.finished x ≡ given value.path h.insides)
  run_on_from before rest s e r = by (completed.path_read symbols value.path h.insides h.spells)
    where
      by : (x : m.State) × (m.read symbols ≡ Some x) × (m.finished x ≡ given value.path h.insides) → (x : m.State) × (m.run_on (Some s) rest ≡ Some x) × (m.finished x ≡ given value.path h.insides)
      by (x, k, f) = (x, ap (λ o. m.run_on o rest) (sym r) ∙ sym (read-append before rest) ∙ ap m.read (sym e) ∙ k, f)

  not_misread : (before rest : List Placed) (bad : Option ℕ) (size : ℕ) (fault : QueryFault) → symbols ≡ before ++ rest → WantSelection before → run_read rest bad size ≡ Err fault → ⊥
  not_misread before rest bad size fault e (R.after_text root frames joint all xs r) k = by (run_on_from before rest (m.along root (stand frames joint all (m.selecting xs [] (Shape.whole selection.start)))) e r)
    where
      by : (x : m.State) × (m.run_on (Some (m.along root (stand frames joint all (m.selecting xs [] (Shape.whole selection.start))))) rest ≡ Some x) × (m.finished x ≡ given value.path h.insides) → ⊥
      by (x, runs, f) =
          let p = passed root frames joint all xs x value.path h.insides f rest [] (Shape.whole selection.start) runs in
          let one : Readable (inside p.prefix p.tree) = middle p.first p.last (inside p.prefix p.tree) (subst (All Readable) p.found (readable h.selections)) in
          let is : run_read rest bad size ≡ Ok (one.0, length p.prefix) = ap (λ z. run_read z bad size) p.parts ∙ run_selects p.prefix p.back one.0 bad size (run_of p.prefix p.back p.shape p.runs p.stops) one.1 in
          let two : ◌≡◌ {A = Result (Form × ℕ) QueryFault} (Err fault) (Ok (one.0, length p.prefix)) = sym k ∙ is in cc

  not_refused : (size : ℕ) (fault : QueryFault) → Refuses symbols (symbols_of text).bad size fault → ⊥
  not_refused size fault (Refuses.limit before p rest s e may r l) = let two : true ≡ false = sym l ∙ h.limits before p rest s e r (outside_after before p rest s may r) in cc
  not_refused size fault (Refuses.symbol before p rest s e may r l none) = none (path_begins (before ++ p ∷ []) rest value.path h.insides (subst (λ z. Path z value.path h.insides) (e ∙ sym (append_assoc before (p ∷ []) rest)) h.spells))
  not_refused size fault (Refuses.misread before p rest f e may want k) = not_misread (before ++ p ∷ []) rest (symbols_of text).bad size f (e ∙ sym (append_assoc before (p ∷ []) rest)) want (misread_read rest (symbols_of text).bad size f k)
  not_refused size fault (Refuses.character at e may) = let two : Some at ≡ None = sym e ∙ h.all in cc
  not_refused size fault (Refuses.end e may none) = none value.path h.insides h.spells

-- the selections inside have one form and one place each
abbrev known : PlacedForm → Result Form QueryFault × Extent
known found = (Ok found.form, found.extent)

abbrev asked : Inside → Result Form QueryFault × Extent
asked i = (rest_read 0 (Shape.whole selection.start) i.symbols None 0, extent_of i.symbols)

each_told : {all : List Inside} {found : List PlacedForm} → Each all found → map known found ≡ map asked all
each_told E.none = refl
each_told (E.further {insides = insides} {found = found} each i x s) =
    map-append known found (placed_form x i.symbols ∷ []) ∙ ap (λ z. z ++ known (placed_form x i.symbols) ∷ []) (each_told each)
    ∙ ap (λ r. map asked insides ++ (r, extent_of i.symbols) ∷ []) (sym (selects_read i.symbols None 0 x s)) ∙ sym (map-append asked insides (i ∷ []))

told_same : (x y : PlacedForm) → known x ≡ known y → x ≡ y
told_same x y e =
    let ok : ◌≡◌ {A = Result Form QueryFault} (Ok x.form) (Ok y.form) = ap (λ b. b.0) e in
    let forms : x.form ≡ y.form = cc in
    let extents : x.extent ≡ y.extent = ap (λ b. b.1) e in
    ap (λ z. placed x.extent z) forms ∙ ap (λ z. placed z y.form) extents
  where
    placed : Extent → Form → PlacedForm
    placed extent x = record { form = x; extent = extent }

told_one : (a b : List PlacedForm) → map known a ≡ map known b → a ≡ b
told_one [] [] e = refl
told_one [] (y ∷ b) e = cc
told_one (x ∷ a) [] e = cc
told_one (x ∷ a) (y ∷ b) e =
    let first : known x ≡ known y = cc in
    let further : map known a ≡ map known b = cc in
    ap (λ z. z ∷ a) (told_same x y first) ∙ ap (λ z. y ∷ z) (told_one a b further)

one_value : (text : List ℕ) (x y : PathForm) → SpellsPath text x → SpellsPath text y → x ≡ y
one_value text x y h k =
    let both = one_path (symbols_of text).placed x.path y.path h.insides k.insides h.spells k.spells in
    let selections : x.selections ≡ y.selections = told_one x.selections y.selections (each_told h.selections ∙ ap (map asked) both.1 ∙ sym (each_told k.selections)) in
    ap (λ z. path_form z x.selections) both.0 ∙ ap (path_form y.path) selections

pub exact : (text : List ℕ) (value : PathForm) → SpellsPath text value → path_read text ≡ Ok value
exact text value h = by (path_read text) refl
  where
    by : (r : Result PathForm QueryFault) → path_read text ≡ r → r ≡ Ok value
    by (Ok other) e = ap Ok (one_value text other value (spelled text other e) h)
    by (Err fault) e = absurd (not_refused text value h (length text) fault (refused text fault e))

pub cause_read : (text : List ℕ) (fault : QueryFault) → IsFaultOf text fault → path_read text ≡ Err fault
unfolding path_read
cause_read text fault h = refuses_read (symbols_of text).placed (symbols_of text).bad (length text) fault h
