-- The machine decides which texts are documents and fragments, and which begin one.
use Rattle.std.proofs.Common.{◌≡◌, ℕ, Bool, true, false, ◌&&◌, not, cond, ◌⊎◌, inl, inr, List, [], ◌∷◌, ◌++◌, Option, Some, None, refl, sym, ◌∙◌, ap, subst}
use Rattle.std.proofs.lemmas.List.{append-nil}
use Rattle.std.specs.Prelude.{◌==◌, codes, encode_utf8, is_some}
use Rattle.std.proofs.Math.Bool.{and-false}
use Rattle.plain_tree.specs.Document.{Node, element, no_nodes}
use Rattle.ft_base.specs.Characters.{is_name_start, is_name_char}
use Rattle.doc_grammar.specs.Grammar.{text_node, Document, Fragment, lines_from, with_line_ends}
use Rattle.doc_grammar.specs.Texts.{Kind, Spells, Begins, GoesWrong}
use Rattle.doc_grammar.specs.steps.Machine as m
use Rattle.doc_grammar.specs.steps.Machine.{Outer, document, fragment, level, Place, Phase, State, finished, finished_in, is_ready, run_on, step_at, start}
use Rattle.doc_grammar.specs.steps.Reading.{outer_of, read, returned}
use Rattle.doc_grammar.specs.Opened.{bottom}
use Rattle.doc_grammar.proofs.Bottom.{run_bottom}
use Rattle.doc_grammar.proofs.Spelled.{no_return, Spelled, go}
use Rattle.doc_grammar.specs.Opened.{At, before, after, in_fragment, within}
use Rattle.doc_grammar.proofs.Moves.{at_same}
use Rattle.doc_grammar.proofs.Accepted.{run_spelled, spelled_from, document_spelled, fragment_spelled}
use Rattle.doc_grammar.proofs.Walks.{st, Runs, still, join, then, run_on-append}
use Rattle.doc_grammar.proofs.WalksOfElements.{content_of, content_runs, document_runs, end_begins, end_name_runs, end_name_close}
use Rattle.doc_grammar.proofs.Completed.{no_return-append}
use Rattle.doc_grammar.proofs.CompletedTags.{state_ends, open_name, name_bytes, name_plain}

-- some text without carriage returns leads to the end
pub record Finish (s : State) : Type 0 where
  pub rest : List ℕ
  pub last : State
  pub nodes : List Node
  pub runs : Runs s rest last
  pub is_finished : finished last ≡ Some nodes
  pub is_plain : no_return rest ≡ true

finish_after : {s t : State} {u : List ℕ} → Runs s u t → no_return u ≡ true → Finish t → Finish s
finish_after {u = u} r plain f = record { rest = u ++ f.rest; last = f.last; nodes = f.nodes; runs = join r f.runs; is_finished = f.is_finished; is_plain = no_return-append u f.rest plain f.is_plain }

-- a document has no node before its root, and no text
abbrev OneRoot : Outer → List Node → List ℕ → Type 0
OneRoot document kids text = ((kids ≡ []) × (text ≡ [])) ⊎ ((n : Node) × (kids ≡ n ∷ []))
OneRoot fragment kids text = Unit {0}
OneRoot (level name attrs k t o) kids text = Unit {0}

one_root : {w : List ℕ} {p : Place} → At w p → OneRoot p.outer p.kids p.text
one_root (before x) = inl (refl, refl)
one_root (after {node = n} x e y) = inr (n, refl)
one_root (in_fragment x) = tt
one_root (within a takes tag sp x) = tt

smallest_runs : Runs (st (content_of [] [] document) m.ready) (codes "<a/>") (st (content_of (element (encode_utf8 97) [] no_nodes ∷ []) [] document) m.ready)
unfolding step_at m.from_ready m.from_opened m.from_start_name m.from_tag m.from_slashed is_name_start is_name_char
smallest_runs = record { ends = refl }

document_finishes : (kids : List Node) (text : List ℕ) → OneRoot document kids text → Finish (st (content_of kids text document) m.ready)
document_finishes kids text (inl (e, f)) =
    let nothing : Finish (st (content_of [] [] document) m.ready) = record { rest = codes "<a/>"; last = _; nodes = _; runs = smallest_runs; is_finished = refl; is_plain = refl } in
    subst (λ (z : List Node × List ℕ). Finish (st (content_of z.0 z.1 document) m.ready)) (ap (λ z. (z, [])) (sym e) ∙ ap (λ z. (kids, z)) (sym f)) nothing
document_finishes kids text (inr (n, e)) =
    let one_node : Finish (st (content_of (n ∷ []) text document) m.ready) = record { rest = []; last = _; nodes = n ∷ text_node text; runs = still _; is_finished = refl; is_plain = refl } in
    subst (λ z. Finish (st (content_of z text document) m.ready)) (sym e) one_node

pub spelled_at : {w : List ℕ} {p : Place} → Spelled w (st p m.ready) → At w p
spelled_at x = at_same x.is_at (sym (append-nil x.prefix) ∙ ap (λ z. x.prefix ++ z) (sym x.is_part) ∙ sym x.spelled)

at_spelled : {w : List ℕ} {p : Place} → At w p → Spelled w (st p m.ready)
at_spelled {w = w} a = record { prefix = w; part = []; is_at = a; is_part = refl; spelled = sym (append-nil w) }

runs_spelled : {w u : List ℕ} {s t : State} → Spelled w s → Runs s u t → Spelled (w ++ u) t
runs_spelled {w = w} {u = u} {s = s} {t = t} x r = spelled_from (run_spelled w (Some s) u (go x)) t r.ends

-- between items, each open element can be ended
place_finishes : (o : Outer) (kids : List Node) (text w : List ℕ) → At w (content_of kids text o) → Finish (st (content_of kids text o) m.ready)
place_finishes document kids text w a = document_finishes kids text (one_root a)
place_finishes fragment kids text w a = record { rest = []; last = _; nodes = kids ++ text_node text; runs = still _; is_finished = refl; is_plain = refl }
place_finishes (level name attrs ok ot o) kids text w a =
    let n = open_name a in
    let p : Place = content_of ok ot o in
    let q : Place = content_of kids text (level name attrs ok ot o) in
    let named : Runs (st q (m.end_name name)) n.0 (st q (m.end_name [])) = subst (λ z. Runs (st q (m.end_name z)) n.0 (st q (m.end_name []))) (name_bytes n.1) (end_name_runs q n.0) in
    let leaving = then (join (end_begins p kids text name attrs) named) (end_name_close p kids text name attrs) in
    let plain : no_return ((codes "</" ++ n.0) ++ codes ">") ≡ true = no_return-append (codes "</" ++ n.0) (codes ">") (name_plain n.1) refl in
    let there = spelled_at (runs_spelled (at_spelled a) leaving) in
    finish_after leaving plain (place_finishes o _ _ _ there)

-- every state that was reached can be brought to the end
pub state_finishes : {w : List ℕ} {s : State} → Spelled w s → Finish s
state_finishes {w = w} {s = s} x =
    let e = state_ends w s x in
    finish_after e.runs e.is_plain (place_finishes e.place.outer e.place.kids e.place.text _ (spelled_at (runs_spelled x e.runs)))

-- line ends in two parts of a text
pub lines-return : (b : Bool) (c : ℕ) (u : List ℕ) → (c == 13) ≡ true → lines_from b (c ∷ u) ≡ 10 ∷ lines_from true u
lines-return b c u h = ap (λ z. cond z (10 ∷ lines_from true u) (cond ((c == 10) && b) (lines_from false u) (c ∷ lines_from false u))) h

pub lines-skipped : (b : Bool) (c : ℕ) (u : List ℕ) → (c == 13) ≡ false → ((c == 10) && b) ≡ true → lines_from b (c ∷ u) ≡ lines_from false u
lines-skipped b c u h k = ap (λ z. cond z (10 ∷ lines_from true u) (cond ((c == 10) && b) (lines_from false u) (c ∷ lines_from false u))) h ∙ ap (λ z. cond z (lines_from false u) (c ∷ lines_from false u)) k

pub lines-kept : (b : Bool) (c : ℕ) (u : List ℕ) → (c == 13) ≡ false → ((c == 10) && b) ≡ false → lines_from b (c ∷ u) ≡ c ∷ lines_from false u
lines-kept b c u h k = ap (λ z. cond z (10 ∷ lines_from true u) (cond ((c == 10) && b) (lines_from false u) (c ∷ lines_from false u))) h ∙ ap (λ z. cond z (lines_from false u) (c ∷ lines_from false u)) k

pub lines-append : (b : Bool) (u v : List ℕ) → lines_from b (u ++ v) ≡ lines_from b u ++ lines_from (returned b u) v
lines-append b [] v = refl
lines-append b (c ∷ u) v = go (c == 13) ((c == 10) && b) refl refl (lines-append true u v) (lines-append false u v)
  where
    go : (x y : Bool) → (c == 13) ≡ x → ((c == 10) && b) ≡ y → lines_from true (u ++ v) ≡ lines_from true u ++ lines_from (returned true u) v → lines_from false (u ++ v) ≡ lines_from false u ++ lines_from (returned false u) v
        → lines_from b (c ∷ (u ++ v)) ≡ lines_from b (c ∷ u) ++ lines_from (returned (c == 13) u) v
    go true y h k i j = lines-return b c (u ++ v) h ∙ ap (λ z. 10 ∷ z) i ∙ ap (λ z. (10 ∷ lines_from true u) ++ lines_from (returned z u) v) (sym h) ∙ ap (λ z. z ++ lines_from (returned (c == 13) u) v) (sym (lines-return b c u h))
    go false true h k i j = lines-skipped b c (u ++ v) h k ∙ j ∙ ap (λ z. lines_from false u ++ lines_from (returned z u) v) (sym h) ∙ ap (λ z. z ++ lines_from (returned (c == 13) u) v) (sym (lines-skipped b c u h k))
    go false false h k i j = lines-kept b c (u ++ v) h k ∙ ap (λ z. c ∷ z) j ∙ ap (λ z. (c ∷ lines_from false u) ++ lines_from (returned z u) v) (sym h) ∙ ap (λ z. z ++ lines_from (returned (c == 13) u) v) (sym (lines-kept b c u h k))

not_and : (x y : Bool) → (not x && y) ≡ true → (x ≡ false) × (y ≡ true)
not_and true y h = cc
not_and false y h = (refl, h)

pub lines-plain : (u : List ℕ) → no_return u ≡ true → lines_from false u ≡ u
lines-plain [] h = refl
lines-plain (c ∷ u) h = let two = not_and _ _ h in lines-kept false c u two.0 (and-false (c == 10)) ∙ ap (λ z. c ∷ z) (lines-plain u two.1)

-- a text that leads on as u does, also after a carriage return
suffix : Bool → List ℕ → List ℕ
suffix true u = 10 ∷ u
suffix false u = u

lines-suffix : (b : Bool) (u : List ℕ) → no_return u ≡ true → lines_from b (suffix b u) ≡ u
unfolding suffix
lines-suffix true u h = lines-plain u h
lines-suffix false u h = lines-plain u h

pub read_spelled : (kind : Kind) (text : List ℕ) (s : State) → read kind text ≡ Some s → Spelled (with_line_ends text) s
read_spelled Kind.document text s e = document_spelled (with_line_ends text) s e
read_spelled Kind.fragment text s e = fragment_spelled (with_line_ends text) s e

-- whatever is spelled is read, with its nodes
pub spells_read : (kind : Kind) (text : List ℕ) (kids : List Node) → Spells kind text kids → (s : State) × (read kind text ≡ Some s) × (finished s ≡ Some kids)
spells_read Kind.document text kids (n, e, x) = (st (content_of (n ∷ []) [] document) m.ready, (document_runs x).ends, ap Some (sym e))
spells_read Kind.fragment text kids x = fragment_read (with_line_ends text) kids x
  where
    fragment_read : (w : List ℕ) (kids : List Node) → Fragment w kids → (s : State) × (run_on (Some (start fragment)) w ≡ Some s) × (finished s ≡ Some kids)
    fragment_read w ks (Fragment.fragment {bytes = bytes} {kids = kids} x) = (st (content_of kids bytes fragment) m.ready, (content_runs x fragment refl).ends, refl)

-- where the machine is at the end, the text is spelled
at_document : {w : List ℕ} {p : Place} → At w p → (kids : List Node) → p.outer ≡ document → finished_in p.outer p.kids p.text ≡ Some kids → (node : Node) × (kids ≡ node ∷ []) × Document w node
at_document (before x) kids e f = cc
at_document (after {node = n} x y z) kids e f = (n, (let same : n ∷ [] ≡ kids = cc in sym same), Document.document x y z)
at_document (in_fragment x) kids e f = cc
at_document (within a takes tag sp x) kids e f = cc

at_fragment : {w : List ℕ} {p : Place} → At w p → (kids : List Node) → p.outer ≡ fragment → finished_in p.outer p.kids p.text ≡ Some kids → Fragment w kids
at_fragment (before x) kids e f = cc
at_fragment (after x y z) kids e f = cc
at_fragment {w = w} (in_fragment {bytes = bytes} {kids = ks} x) kids e f = let same : ks ++ text_node bytes ≡ kids = cc in subst (λ z. Fragment w z) same (Fragment.fragment x)
at_fragment (within a takes tag sp x) kids e f = cc

-- only what stands round everything can be finished
outer_finished : (o : Outer) (kids ks : List Node) (text : List ℕ) → finished_in o kids text ≡ Some ks → o ≡ bottom o
outer_finished document kids ks text e = refl
outer_finished fragment kids ks text e = refl
outer_finished (level name attrs k t o) kids ks text e = cc

pub ready_is : (phase : Phase) → is_ready phase ≡ true → phase ≡ m.ready
ready_is m.ready h = refl
ready_is m.opened h = cc
ready_is m.bang h = cc
ready_is m.bang_dash h = cc
ready_is (m.comment n) h = cc
ready_is (m.instruction b) h = cc
ready_is (m.reference r) h = cc
ready_is (m.end_name left) h = cc
ready_is m.end_spaced h = cc
ready_is (m.start_name name) h = cc
ready_is (m.spaced name attrs) h = cc
ready_is (m.attr_name name attrs attr) h = cc
ready_is (m.attr_named name attrs attr) h = cc
ready_is (m.equals name attrs attr) h = cc
ready_is (m.quoted name attrs attr quote value) h = cc
ready_is (m.quoted_reference name attrs attr quote value r) h = cc
ready_is (m.valued name attrs) h = cc
ready_is (m.slashed name attrs) h = cc

pub finished_parts : (b : Bool) (x : Option (List Node)) (kids : List Node) → cond b x None ≡ Some kids → (b ≡ true) × (x ≡ Some kids)
finished_parts true x kids e = (refl, e)
finished_parts false x kids e = cc

pub spelled_ready : {w : List ℕ} {s : State} → Spelled w s → is_ready s.phase ≡ true → At w s.place
spelled_ready {w = w} {s = s} x h = spelled_at (subst (λ f. Spelled w (st s.place f)) (ready_is s.phase h) x)

pub read_spells : (kind : Kind) (text : List ℕ) (s : State) (kids : List Node) → read kind text ≡ Some s → finished s ≡ Some kids → Spells kind text kids
read_spells kind text s kids e f = go kind (spelled_ready (read_spelled kind text s e) parts.0) (outer_finished s.place.outer s.place.kids kids s.place.text parts.1 ∙ run_bottom (start (outer_of kind)) s (with_line_ends text) e ∙ bottom_is kind)
  where
    parts : (is_ready s.phase ≡ true) × (finished_in s.place.outer s.place.kids s.place.text ≡ Some kids)
    parts = finished_parts (is_ready s.phase) (finished_in s.place.outer s.place.kids s.place.text) kids f

    bottom_is : (k : Kind) → bottom (outer_of k) ≡ outer_of k
    bottom_is Kind.document = refl
    bottom_is Kind.fragment = refl

    go : (k : Kind) → At (with_line_ends text) s.place → s.place.outer ≡ outer_of k → Spells k text kids
    go Kind.document a o = at_document a kids o parts.1
    go Kind.fragment a o = at_fragment a kids o parts.1

pub read-append : (kind : Kind) (u v : List ℕ) → read kind (u ++ v) ≡ run_on (read kind u) (lines_from (returned false u) v)
read-append kind u v = ap (λ z. run_on (Some (start (outer_of kind))) z) (lines-append false u v) ∙ run_on-append (Some (start (outer_of kind))) (with_line_ends u) (lines_from (returned false u) v)

-- what the machine has read begins a document
pub read_begins : (kind : Kind) (text : List ℕ) (s : State) → read kind text ≡ Some s → Begins kind text
read_begins kind text s e =
    let f = state_finishes (read_spelled kind text s e) in
    let rest = suffix (returned false text) f.rest in
    let last : read kind (text ++ rest) ≡ Some f.last = read-append kind text rest ∙ ap (λ o. run_on o (lines_from (returned false text) rest)) e ∙ ap (λ z. run_on (Some s) z) (lines-suffix (returned false text) f.rest f.is_plain) ∙ f.runs.ends in
    (rest, f.nodes, read_spells kind (text ++ rest) f.last f.nodes last f.is_finished)

-- and what it refuses begins none
pub refused_begins : (kind : Kind) (text : List ℕ) → read kind text ≡ None → Begins kind text → ⊥
refused_begins kind text e (rest, kids, x) =
    let r = spells_read kind (text ++ rest) kids x in
    let n : read kind (text ++ rest) ≡ None = read-append kind text rest ∙ ap (λ o. run_on o (lines_from (returned false text) rest)) e in
    let some_is_none : Some r.0 ≡ None = sym r.1 ∙ n in
    cc

-- one reading for each text
pub one_reading : (kind : Kind) (text : List ℕ) (ks ls : List Node) → Spells kind text ks → Spells kind text ls → ks ≡ ls
one_reading kind text ks ls x y =
    let a = spells_read kind text ks x in
    let b = spells_read kind text ls y in
    let same_state : Some a.0 ≡ Some b.0 = sym a.1 ∙ b.1 in
    let same_kids : Some ks ≡ Some ls = sym a.2 ∙ (let e : a.0 ≡ b.0 = cc in ap finished e) ∙ b.2 in
    cc

-- where the machine refuses the next character
pub goes_wrong : (kind : Kind) (text prefix : List ℕ) (c : ℕ) (more : List ℕ) (s : State) → text ≡ prefix ++ c ∷ more → read kind prefix ≡ Some s → read kind (prefix ++ c ∷ []) ≡ None → GoesWrong kind text prefix
goes_wrong kind text prefix c more s e a b = record {
  rest = c ∷ more;
  spelled = e;
  begins = read_begins kind prefix s a;
  ends = λ h. cc;
  goes_on = λ d others h begun. refused_begins kind (prefix ++ c ∷ []) b (subst (λ z. Begins kind (prefix ++ z ∷ [])) (let same : d ≡ c = cc in same) begun);
}

-- where it isn't finished at the end
pub ends_wrong : (kind : Kind) (text : List ℕ) (s : State) → read kind text ≡ Some s → finished s ≡ None → GoesWrong kind text text
ends_wrong kind text s a f = record {
  rest = [];
  spelled = sym (append-nil text);
  begins = read_begins kind text s a;
  ends = λ _ kids x. not_finished kids (spells_read kind text kids x);
  goes_on = λ d others h. cc;
}
  where
    not_finished : (kids : List Node) → ((t : State) × (read kind text ≡ Some t) × (finished t ≡ Some kids)) → ⊥
    not_finished kids (t, e, g) =
        let same_state : Some s ≡ Some t = sym a ∙ e in
        let none : finished t ≡ None = (let same : s ≡ t = cc in ap finished (sym same)) ∙ f in
        let contradiction : Some kids ≡ None = sym g ∙ none in
        cc

-- the nodes of a text that ends here
pub in_finished : (o : Outer) (kids ks : List Node) (text : List ℕ) → finished_in o kids text ≡ Some ks → ks ≡ kids ++ text_node text
in_finished document [] ks text e = cc
in_finished document (n ∷ []) ks text e = cc
in_finished document (n ∷ k ∷ kids) ks text e = cc
in_finished fragment kids ks text e = cc
in_finished (level name attrs k t o) kids ks text e = cc

pub not_finished : (s : State) → is_some (finished s) ≡ false → finished s ≡ None
not_finished s h = go (finished s) refl h
  where
    go : (o : Option (List Node)) → finished s ≡ o → is_some o ≡ false → finished s ≡ None
    go None e k = e
    go (Some ks) e k = cc
