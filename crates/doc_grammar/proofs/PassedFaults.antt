-- Where a limit is passed, said by the state of the machine; and that refused characters come before any limit.
use Rattle.std.proofs.Common.{◌≡◌, ℕ, suc, ◌+◌, ◌≤◌, ◌<◌, Bool, true, false, ◌&&◌, ◌||◌, not, ◌⊎◌, inl, inr, List, [], ◌∷◌, ◌++◌, length, Option, Some, None, refl, sym, ◌∙◌, ap, subst, append_assoc, arith}
use Rattle.std.proofs.lemmas.List.{length-append}
use Rattle.std.proofs.lemmas.Bool.{eqb-true, and_parts, or_cases, and_right, and_left}
use Rattle.std.proofs.Math.Bool.{or-false, and-false}
use Rattle.std.specs.Prelude.{◌==◌}
use Rattle.ft_base.specs.Lists.{is_empty}
use Rattle.ft_base.specs.Characters.{is_char, is_name_start}
use Rattle.doc_grammar.specs.Grammar.{lines_from, with_line_ends}
use Rattle.doc_grammar.specs.Texts.{Kind}
use Rattle.doc_grammar.specs.steps.Machine as m
use Rattle.doc_grammar.specs.steps.Machine.{Outer, Place, Phase, State, run_on, step, step_at, start, is_content, takes_element}
use Rattle.doc_grammar.specs.Opened.{At, bottom}
use Rattle.doc_grammar.specs.steps.Reading.{outer_of, read, returned}
use Rattle.doc_grammar.specs.Limits.{node_here, one_if, is_opened, text_here, element_here, place_count, depth, begins_text, begins_element, TextBegins, ElementBegins, Limit, depth_limit, Passes, too_deep, element_too_many, text_too_many, KeepsLimits}
use Rattle.doc_grammar.proofs.Bottom.{run_bottom}
use Rattle.doc_grammar.proofs.Classes.{start-is}
use Rattle.doc_grammar.proofs.Counts.{phase_count, begins, begun, step_counts, counted}
use Rattle.doc_grammar.proofs.Spelled.{Spelled, Part}
use Rattle.doc_grammar.proofs.Walks.{opened_start, run_on-nil}
use Rattle.doc_grammar.proofs.Decided.{lines-return, lines-skipped, lines-kept, read_spelled, spelled_ready, ready_is}
use Rattle.doc_grammar.proofs.Passed.{Clean, element_same, same_prefix, raw_last}

opened_is : (phase : Phase) → is_opened phase ≡ true → phase ≡ m.opened
opened_is m.opened h = refl
opened_is m.ready h = cc
opened_is m.bang h = cc
opened_is m.bang_dash h = cc
opened_is (m.comment n) h = cc
opened_is (m.instruction b) h = cc
opened_is (m.reference r) h = cc
opened_is (m.end_name left) h = cc
opened_is m.end_spaced h = cc
opened_is (m.start_name name) h = cc
opened_is (m.spaced name attrs) h = cc
opened_is (m.attr_name name attrs attr) h = cc
opened_is (m.attr_named name attrs attr) h = cc
opened_is (m.equals name attrs attr) h = cc
opened_is (m.quoted name attrs attr quote value) h = cc
opened_is (m.quoted_reference name attrs attr quote value r) h = cc
opened_is (m.valued name attrs) h = cc
opened_is (m.slashed name attrs) h = cc

kind_is : (kind : Kind) (prefix : List ℕ) (s : State) → read kind prefix ≡ Some s → bottom s.place.outer ≡ outer_of kind
kind_is kind prefix s r = run_bottom (start (outer_of kind)) s (with_line_ends prefix) r ∙ same kind
  where
    same : (k : Kind) → bottom (outer_of k) ≡ outer_of k
    same Kind.document = refl
    same Kind.fragment = refl

-- the prefix before a `<` that is under way
pub record Before (kind : Kind) (whole prefix : List ℕ) (s : State) : Type 0 where
  pub before : List ℕ
  pub spelled : prefix ≡ before ++ 60 ∷ []
  pub begins : ElementBegins kind whole before s.place

pub element_begins : (kind : Kind) (whole prefix : List ℕ) (c : ℕ) (more : List ℕ) (s : State) → whole ≡ prefix ++ c ∷ more → read kind prefix ≡ Some s → element_here s c ≡ true → Before kind whole prefix s
element_begins kind whole prefix c more s e r h = go (read_spelled kind prefix s r)
  where
    two : (is_opened s.phase ≡ true) × (begins_element s.place c ≡ true)
    two = and_parts _ _ h

    go : Spelled (with_line_ends prefix) s → Before kind whole prefix s
    go x =
        let part : Part s.place m.opened x.part = subst (λ (f : Phase). Part s.place f x.part) (opened_is s.phase two.0) x.is_part in
        let last = raw_last false prefix x.prefix (x.spelled ∙ ap (λ (u : List ℕ). x.prefix ++ u) part) in
        record {
          before = last.0;
          spelled = last.1;
          begins = record {
            c = c;
            rest = more;
            spelled = e ∙ ap (λ (u : List ℕ). u ++ c ∷ more) last.1 ∙ append_assoc last.0 (60 ∷ []) (c ∷ more);
            is_at = subst (λ (u : List ℕ). At u s.place) (sym last.2) x.is_at;
            is_kind = kind_is kind prefix s r;
            begins = two.1;
          };
        }

pub text_begins : (kind : Kind) (whole prefix : List ℕ) (c : ℕ) (more : List ℕ) (s : State) → whole ≡ prefix ++ c ∷ more → read kind prefix ≡ Some s → text_here s (returned false prefix) c ≡ true → TextBegins kind whole prefix s.place
text_begins kind whole prefix c more s e r h =
    let two = and_parts (m.is_ready s.phase) (begins_text s.place (returned false prefix) c) h in
    record { c = c; rest = more; spelled = e; is_at = spelled_ready (read_spelled kind prefix s r) two.0; is_kind = kind_is kind prefix s r; begins = two.1 }

-- limits passed at a `<`, or later
pub element_keeps : (max_depth max_nodes : ℕ) (kind : Kind) (whole prefix before : List ℕ) → Clean max_depth max_nodes kind whole prefix → prefix ≡ before ++ 60 ∷ [] → KeepsLimits max_depth max_nodes kind whole before
element_keeps max_depth max_nodes kind whole prefix before clean e other limit x = go x
  where
    longer : length prefix ≡ suc (length before)
    longer = ap length e ∙ omega (arith, length-append before (60 ∷ []))

    go : {l : Limit} → Passes max_depth max_nodes kind whole other l → length before ≤ length other
    go (too_deep p y k) = omega (arith, longer, clean.elements other p y (inl k))
    go (element_too_many p y k) = omega (arith, longer, clean.elements other p y (inr k))
    go (text_too_many p y k) = omega (arith, longer, clean.texts other p y k)

-- where the machine says that an element fits in depth, it does
pub not_deep : (max_depth max_nodes : ℕ) (kind : Kind) (whole prefix before : List ℕ) (c : ℕ) (more : List ℕ) (s : State) → whole ≡ prefix ++ c ∷ more → read kind prefix ≡ Some s → prefix ≡ before ++ 60 ∷ [] → depth s.place.outer < max_depth
    → Passes max_depth max_nodes kind whole before depth_limit → ⊥
not_deep max_depth max_nodes kind whole prefix before c more s e r f fits (too_deep p x k) =
    let there = element_same prefix c more s e r x (ap length f ∙ omega (arith, length-append before (60 ∷ []))) in
    let deep : max_depth ≤ depth s.place.outer = subst (λ (q : Place). max_depth ≤ depth q.outer) (sym there.1) k in
    omega arith

-- no element begins where a text does
pub text_not_deep : (max_depth max_nodes : ℕ) (kind : Kind) (whole prefix : List ℕ) (c : ℕ) (more : List ℕ) (s : State) → whole ≡ prefix ++ c ∷ more → text_here s (returned false prefix) c ≡ true → Passes max_depth max_nodes kind whole prefix depth_limit → ⊥
text_not_deep max_depth max_nodes kind whole prefix c more s e h (too_deep p x k) =
    let tails = (same_prefix prefix prefix (c ∷ more) (60 ∷ x.c ∷ x.rest) (sym e ∙ x.spelled) refl).1 in
    let is_markup : c ≡ 60 = cc in
    let begun_here : begins_text s.place (returned false prefix) c ≡ true = (and_parts (m.is_ready s.phase) (begins_text s.place (returned false prefix) c) h).1 in
    let no_markup : not (c == 60) ≡ true = (and_parts (not (c == 60)) (is_content s.place.outer && (is_empty s.place.text && is_char c)) (and_parts (not ((c == 10) && returned false prefix)) (not (c == 60) && (is_content s.place.outer && (is_empty s.place.text && is_char c))) begun_here).1).0 in
    let two : not (60 == 60) ≡ true = subst (λ (d : ℕ). not (d == 60) ≡ true) is_markup no_markup in
    cc

ready_not_opened : (phase : Phase) → m.is_ready phase ≡ true → is_opened phase ≡ false
ready_not_opened phase h = ap is_opened (ready_is phase h)

pub text_no_element : (s : State) (b : Bool) (c : ℕ) → text_here s b c ≡ true → element_here s c ≡ false
text_no_element s b c h = and_left (is_opened s.phase) (begins_element s.place c) (ready_not_opened s.phase (and_parts (m.is_ready s.phase) (begins_text s.place b c) h).0)

start_lines : (b : Bool) (c : ℕ) → is_name_start c ≡ true → lines_from b (c ∷ []) ≡ c ∷ []
unfolding is_name_start
start_lines b c h = lines-kept b c [] (start-is c 13 h refl) (and_left (c == 10) b (start-is c 10 h refl))

accepted : (s : State) (c : ℕ) → is_opened s.phase ≡ true → begins_element s.place c ≡ true → (t : State) × (step s c ≡ Some t)
accepted s c h k = let two = and_parts (is_name_start c) (takes_element s.place) k in (_, ap (λ (f : Phase). step_at s.place f c) (opened_is s.phase h) ∙ (opened_start s.place c two.1 two.0).gives.is)

-- a character that is refused begins no element
pub refused_no_element : (s : State) (b : Bool) (c : ℕ) → run_on (Some s) (lines_from b (c ∷ [])) ≡ None → element_here s c ≡ false
refused_no_element s b c e = go (element_here s c) refl
  where
    go : (x : Bool) → element_here s c ≡ x → x ≡ false
    go false h = refl
    go true h =
        let two = and_parts (is_opened s.phase) (begins_element s.place c) h in
        let next = accepted s c two.0 two.1 in
        let ended : Some next.0 ≡ None = sym (ap (λ (o : Option State). run_on o []) next.1) ∙ sym (ap (λ (cs : List ℕ). run_on (Some s) cs) (start_lines b c (and_parts (is_name_start c) (takes_element s.place) two.1).0)) ∙ e in
        cc

-- what a character as it is written adds to the nodes that have begun
is_here : (phase : Phase) (p : Place) (c : ℕ) → begins phase p c ≡ ((m.is_ready phase && begins_text p false c) || (is_opened phase && begins_element p c))
is_here m.ready p c = sym (or-false (begins_text p false c))
is_here m.opened p c = refl
is_here m.bang p c = refl
is_here m.bang_dash p c = refl
is_here (m.comment n) p c = refl
is_here (m.instruction b) p c = refl
is_here (m.reference r) p c = refl
is_here (m.end_name left) p c = refl
is_here m.end_spaced p c = refl
is_here (m.start_name name) p c = refl
is_here (m.spaced name attrs) p c = refl
is_here (m.attr_name name attrs attr) p c = refl
is_here (m.attr_named name attrs attr) p c = refl
is_here (m.equals name attrs attr) p c = refl
is_here (m.quoted name attrs attr quote value) p c = refl
is_here (m.quoted_reference name attrs attr quote value r) p c = refl
is_here (m.valued name attrs) p c = refl
is_here (m.slashed name attrs) p c = refl

pub step_adds : (s t : State) (c : ℕ) → step s c ≡ Some t → begun t ≡ begun s + one_if (node_here s false c)
step_adds s t c e = counted (step_counts s.place s.phase c) t e ∙ ap (λ (x : Bool). begun s + one_if x) (is_here s.phase s.place c)

-- an LF that stands for a CR begins what the CR begins
return_here : (s : State) (b : Bool) → node_here s false 10 ≡ node_here s b 13
unfolding is_char is_name_start
return_here s b = refl

kept_here : (s : State) (b : Bool) (c : ℕ) → ((c == 10) && b) ≡ false → node_here s false c ≡ node_here s b c
kept_here s b c h = ap (λ (x : Bool). (m.is_ready s.phase && (not x && (not (c == 60) && (is_content s.place.outer && (is_empty s.place.text && is_char c))))) || element_here s c) (and-false (c == 10) ∙ sym h)

skipped_here : (s : State) (b : Bool) (c : ℕ) → ((c == 10) && b) ≡ true → node_here s b c ≡ false
unfolding is_name_start
skipped_here s b c h =
    let is_feed : c ≡ 10 = eqb-true c 10 (and_parts (c == 10) b h).0 in
    let no_text : text_here s b c ≡ false = and_right (m.is_ready s.phase) (begins_text s.place b c) (and_left (not ((c == 10) && b)) _ (ap not h)) in
    let no_element : element_here s c ≡ false = and_right (is_opened s.phase) (begins_element s.place c) (and_left (is_name_start c) (takes_element s.place) (ap is_name_start is_feed)) in
    ap (λ (x : Bool). x || element_here s c) no_text ∙ no_element

pub taken_adds : (s t : State) (b : Bool) (c : ℕ) → run_on (Some s) (lines_from b (c ∷ [])) ≡ Some t → begun t ≡ begun s + one_if (node_here s b c)
taken_adds s t b c e = go (c == 13) ((c == 10) && b) refl refl
  where
    go : (x y : Bool) → (c == 13) ≡ x → ((c == 10) && b) ≡ y → begun t ≡ begun s + one_if (node_here s b c)
    go true y h k =
        let one : step s 10 ≡ Some t = sym (run_on-nil (step s 10)) ∙ sym (ap (λ (cs : List ℕ). run_on (Some s) cs) (lines-return b c [] h)) ∙ e in
        step_adds s t 10 one ∙ ap (λ (x : Bool). begun s + one_if x) (return_here s b ∙ ap (λ (d : ℕ). node_here s b d) (sym (eqb-true c 13 h)))
    go false true h k =
        let stays : Some s ≡ Some t = sym (ap (λ (cs : List ℕ). run_on (Some s) cs) (lines-skipped b c [] h k)) ∙ e in
        let same : s ≡ t = cc in
        ap begun (sym same) ∙ omega (arith, ap one_if (skipped_here s b c k))
    go false false h k =
        let one : step s c ≡ Some t = sym (run_on-nil (step s c)) ∙ sym (ap (λ (cs : List ℕ). run_on (Some s) cs) (lines-kept b c [] h k)) ∙ e in
        step_adds s t c one ∙ ap (λ (x : Bool). begun s + one_if x) (kept_here s b c k)

-- between two items and after a `<` every node that has begun is in its place
pub here_count : (s : State) (b : Bool) (c : ℕ) → node_here s b c ≡ true → begun s ≡ place_count s.place
here_count s b c h = go (or_cases (text_here s b c) (element_here s c) h)
  where
    go : ((text_here s b c ≡ true) ⊎ (element_here s c ≡ true)) → begun s ≡ place_count s.place
    go (inl x) = ap (λ (f : Phase). place_count s.place + phase_count f s.place.text) (ready_is s.phase (and_parts (m.is_ready s.phase) (begins_text s.place b c) x).0) ∙ omega arith
    go (inr x) = ap (λ (f : Phase). place_count s.place + phase_count f s.place.text) (opened_is s.phase (and_parts (is_opened s.phase) (begins_element s.place c) x).0) ∙ omega arith
