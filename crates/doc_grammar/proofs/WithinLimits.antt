-- A text whose nodes are within the limits passes none on the way.
use Rattle.std.proofs.Common.{◌≡◌, ℕ, ◌+◌, ◌≤◌, max, Bool, true, false, ◌&&◌, ◌||◌, List, [], ◌∷◌, ◌++◌, Option, Some, None, refl, sym, ◌∙◌, ap, append_assoc, arith}
use Rattle.std.proofs.lemmas.Bool.{eqb-true, and_parts, and_right, and_left}
use Rattle.std.specs.Prelude.{◌==◌}
use Rattle.plain_tree.specs.Document.{Node, nodes}
use Rattle.ft_base.specs.Characters.{is_name_start}
use Rattle.doc_grammar.specs.Grammar.{text_node, lines_from}
use Rattle.doc_grammar.specs.Texts.{Kind, Spells}
use Rattle.doc_grammar.specs.steps.Machine as m
use Rattle.doc_grammar.specs.steps.Machine.{Outer, document, fragment, level, Place, State, finished, finished_in, run_on, step, start, takes_element, is_ready}
use Rattle.doc_grammar.specs.steps.Reading.{read, returned}
use Rattle.doc_grammar.specs.Limits.{heights, nodes_count, list_count, text_count, outer_count, place_count, depth, is_opened, begins_element, element_here, one_if, ElementBegins, TextBegins, Limit, Passes, too_deep, element_too_many, text_too_many}
use Rattle.doc_grammar.proofs.Counts.{begun, list_count-append, list_count-text, nodes_count-nodes}
use Rattle.doc_grammar.proofs.Heights.{heights-nodes, list_height, list_height-append, list_height-text, outer_height, one_level_if, reached, step_reaches, reached_by}
use Rattle.doc_grammar.proofs.Decided.{lines-return, lines-skipped, lines-kept, read-append, spells_read, in_finished, finished_parts, ready_is}
use Rattle.doc_grammar.proofs.Passed.{at_read, opened_read}
use Rattle.doc_grammar.proofs.PassedFaults.{step_adds, taken_adds}
use Rattle.doc_grammar.proofs.Walks.{st, run_on-nil}

-- what is begun and reached never falls
step_grows : (s t : State) (c : ℕ) → step s c ≡ Some t → (reached s ≤ reached t) × (begun s ≤ begun t)
step_grows s t c e = (omega (arith, reached_by (step_reaches s.place s.phase c) t e), omega (arith, step_adds s t c e))

run_grows : (cs : List ℕ) (s t : State) → run_on (Some s) cs ≡ Some t → (reached s ≤ reached t) × (begun s ≤ begun t)
run_grows [] s t e = let same : s ≡ t = cc in (omega (arith, ap reached same), omega (arith, ap begun same))
run_grows (c ∷ cs) s t e = go (step s c) refl e (run_grows cs)
  where
    go : (o : Option State) → step s c ≡ o → run_on o cs ≡ Some t → ((s t : State) → run_on (Some s) cs ≡ Some t → (reached s ≤ reached t) × (begun s ≤ begun t)) → (reached s ≤ reached t) × (begun s ≤ begun t)
    go None h r more = cc
    go (Some u) h r more =
        let one = step_grows s u c h in
        let rest = more u t r in
        (omega (arith, one.0, rest.0), omega (arith, one.1, rest.1))

-- a character as it is written
no_element : (s : State) (c k : ℕ) → (c == k) ≡ true → is_name_start k ≡ false → element_here s c ≡ false
no_element s c k h n = and_right (is_opened s.phase) (begins_element s.place c) (and_left (is_name_start c) (takes_element s.place) (ap is_name_start (eqb-true c k h) ∙ n))

pub taken_reaches : (s t : State) (b : Bool) (c : ℕ) → run_on (Some s) (lines_from b (c ∷ [])) ≡ Some t → reached t ≡ max (reached s) (one_level_if (element_here s c) (depth s.place.outer))
unfolding is_name_start
taken_reaches s t b c e = go (c == 13) ((c == 10) && b) refl refl
  where
    go : (x y : Bool) → (c == 13) ≡ x → ((c == 10) && b) ≡ y → reached t ≡ max (reached s) (one_level_if (element_here s c) (depth s.place.outer))
    go true y h k =
        let one : step s 10 ≡ Some t = sym (run_on-nil (step s 10)) ∙ sym (ap (λ (cs : List ℕ). run_on (Some s) cs) (lines-return b c [] h)) ∙ e in
        reached_by (step_reaches s.place s.phase 10) t one ∙ ap (λ (x : Bool). max (reached s) (one_level_if x (depth s.place.outer))) (no_element s 10 10 refl refl ∙ sym (no_element s c 13 h refl))
    go false true h k =
        let stays : Some s ≡ Some t = sym (ap (λ (cs : List ℕ). run_on (Some s) cs) (lines-skipped b c [] h k)) ∙ e in
        let same : s ≡ t = cc in
        ap reached (sym same) ∙ omega (arith, ap (λ (x : Bool). one_level_if x (depth s.place.outer)) (no_element s c 10 (and_parts (c == 10) b k).0 refl))
    go false false h k =
        let one : step s c ≡ Some t = sym (run_on-nil (step s c)) ∙ sym (ap (λ (cs : List ℕ). run_on (Some s) cs) (lines-kept b c [] h k)) ∙ e in
        reached_by (step_reaches s.place s.phase c) t one

-- a text that is read, in two parts
pub record Parts (kind : Kind) (u v : List ℕ) (s : State) : Type 0 where
  pub middle : State
  pub first : read kind u ≡ Some middle
  pub rest : run_on (Some middle) (lines_from (returned false u) v) ≡ Some s

parts : (kind : Kind) (u v : List ℕ) (s : State) → read kind (u ++ v) ≡ Some s → Parts kind u v s
parts kind u v s e = go (read kind u) refl (sym (read-append kind u v) ∙ e)
  where
    go : (o : Option State) → read kind u ≡ o → run_on o (lines_from (returned false u) v) ≡ Some s → Parts kind u v s
    go None h r = cc
    go (Some t) h r = record { middle = t; first = h; rest = r }

-- the character after a prefix takes the machine on, and the rest does
record Taken (s : State) (b : Bool) (c : ℕ) (last : State) : Type 0 where
  pub suffix : State
  pub is_taken : run_on (Some s) (lines_from b (c ∷ [])) ≡ Some suffix
  pub reaches : reached suffix ≤ reached last
  pub begins : begun suffix ≤ begun last

taken_in : (kind : Kind) (u rest : List ℕ) (c : ℕ) (s last : State) → read kind u ≡ Some s → read kind (u ++ c ∷ rest) ≡ Some last → Taken s (returned false u) c last
taken_in kind u rest c s last r e =
    let two = parts kind (u ++ c ∷ []) rest last (ap (read kind) (append_assoc u (c ∷ []) rest) ∙ e) in
    let grows = run_grows (lines_from (returned false (u ++ c ∷ [])) rest) two.middle last two.rest in
    record {
      suffix = two.middle;
      is_taken = ap (λ (o : Option State). run_on o (lines_from (returned false u) (c ∷ []))) (sym r) ∙ sym (read-append kind u (c ∷ [])) ∙ two.first;
      reaches = grows.0;
      begins = grows.1;
    }

-- what is begun and reached at the end is that of the nodes
totals_in : (o : Outer) (kids ks : List Node) (text : List ℕ) → finished_in o kids text ≡ Some ks → (max (depth o + list_height kids) (outer_height o) ≡ list_height (kids ++ text_node text)) × (list_count kids + text_count text + outer_count o ≡ list_count (kids ++ text_node text))
totals_in document kids ks text e = (omega (arith, list_height-append kids (text_node text), list_height-text text), omega (arith, list_count-append kids (text_node text), list_count-text text))
totals_in fragment kids ks text e = (omega (arith, list_height-append kids (text_node text), list_height-text text), omega (arith, list_count-append kids (text_node text), list_count-text text))
totals_in (level name attrs k t o) kids ks text e = cc

pub record Totals (kids : List Node) (s : State) : Type 0 where
  pub reached_is : reached s ≡ list_height kids
  pub begun_is : begun s ≡ list_count kids

pub totals : (s : State) (kids : List Node) → finished s ≡ Some kids → Totals kids s
totals s kids f =
    let two = finished_parts (is_ready s.phase) (finished_in s.place.outer s.place.kids s.place.text) kids f in
    let phase = ready_is s.phase two.0 in
    let all = totals_in s.place.outer s.place.kids kids s.place.text two.1 in
    let same = in_finished s.place.outer s.place.kids kids s.place.text two.1 in
    record {
      reached_is = ap (λ (f : m.Phase). reached (st s.place f)) phase ∙ omega (arith, all.0, ap list_height same);
      begun_is = ap (λ (f : m.Phase). begun (st s.place f)) phase ∙ omega (arith, all.1, ap list_count same);
    }

-- where a node begins, as many have begun and as many levels are reached
element_grows : (kind : Kind) (whole prefix : List ℕ) (p : Place) (last : State) → ElementBegins kind whole prefix p → read kind whole ≡ Some last → (1 + depth p.outer ≤ reached last) × (1 + place_count p ≤ begun last)
element_grows kind whole prefix p last x e =
    let opened = opened_read kind prefix p (at_read kind prefix p x.is_at x.is_kind) in
    let there : whole ≡ (prefix ++ 60 ∷ []) ++ x.c ∷ x.rest = x.spelled ∙ sym (append_assoc prefix (60 ∷ []) (x.c ∷ x.rest)) in
    let t = taken_in kind (prefix ++ 60 ∷ []) x.rest x.c (st p m.opened) last opened (ap (read kind) (sym there) ∙ e) in
    let reaches = taken_reaches (st p m.opened) t.suffix _ x.c t.is_taken in
    let adds = taken_adds (st p m.opened) t.suffix _ x.c t.is_taken in
    (omega (arith, t.reaches, reaches, ap (λ (b : Bool). one_level_if b (depth p.outer)) x.begins), omega (arith, t.begins, adds, ap one_if x.begins))

text_grows : (kind : Kind) (whole prefix : List ℕ) (p : Place) (last : State) → TextBegins kind whole prefix p → read kind whole ≡ Some last → 1 + place_count p ≤ begun last
text_grows kind whole prefix p last x e =
    let t = taken_in kind prefix x.rest x.c (st p m.ready) last (at_read kind prefix p x.is_at x.is_kind) (ap (read kind) (sym x.spelled) ∙ e) in
    let adds = taken_adds (st p m.ready) t.suffix (returned false prefix) x.c t.is_taken in
    omega (arith, t.begins, adds, ap (λ (b : Bool). one_if (b || false)) x.begins)

pub passes_none : (max_depth max_nodes : ℕ) (kind : Kind) (whole : List ℕ) (kids : List Node) → Spells kind whole kids → heights (nodes kids) ≤ max_depth → nodes_count (nodes kids) ≤ max_nodes
    → (prefix : List ℕ) (limit : Limit) → Passes max_depth max_nodes kind whole prefix limit → ⊥
passes_none max_depth max_nodes kind whole kids x low few prefix limit y =
    let r = spells_read kind whole kids x in
    let all = totals r.0 kids r.2 in
    go r.0 r.1 (omega (arith, low, heights-nodes kids, all.reached_is)) (omega (arith, few, nodes_count-nodes kids, all.begun_is)) y
  where
    go : {l : Limit} (s : State) → read kind whole ≡ Some s → reached s ≤ max_depth → begun s ≤ max_nodes → Passes max_depth max_nodes kind whole prefix l → ⊥
    go s e h n (too_deep p b d) = absurd (omega (arith, d, (element_grows kind whole prefix p s b e).0))
    go s e h n (element_too_many p b d) = absurd (omega (arith, d, (element_grows kind whole prefix p s b e).1))
    go s e h n (text_too_many p b d) = absurd (omega (arith, d, text_grows kind whole prefix p s b e))
