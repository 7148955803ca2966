-- How far a text is read: the characters of the prefix, where the machine stands after them, and that no limit is passed.
use Rattle.std.proofs.Common.{◌≡◌, ℕ, ◌+◌, ◌-◌, ◌≤◌, ◌<◌, ◌⊎◌, inl, inr, Bool, true, false, cond, List, [], ◌∷◌, ◌++◌, length, Option, Some, None, refl, sym, ◌∙◌, ap, subst, append_assoc, arith}
use Rattle.std.proofs.lemmas.List.{append-nil, length-append}
use Rattle.std.proofs.lemmas.Str.{length-encode}
use Rattle.std.specs.Prelude.{◌==◌, nat_le, encode_utf8, encode_utf8_all}
use Rattle.std.proofs.lemmas.Bool.{or_cases, leb-false, leb-true}
use Rattle.ft_base.proofs.WalkLemmas.{encodes-last}
use Rattle.doc_grammar.specs.Grammar.{lines_from}
use Rattle.doc_grammar.specs.steps.Machine.{State, run_on, start}
use Rattle.doc_grammar.specs.Texts.{Kind}
use Rattle.doc_grammar.specs.Limits.{text_here, element_here, node_here, one_if, place_count, depth, too_deep, element_too_many, text_too_many}
use Rattle.doc_grammar.specs.steps.Reading.{outer_of, read, returned}
use Rattle.doc_grammar.proofs.Counts.{begun}
use Rattle.doc_grammar.proofs.Heights.{reached, one_level_if}
use Rattle.doc_grammar.proofs.Decided.{read-append, goes_wrong}
use Rattle.doc_grammar.proofs.Passed.{Clean, Checked, clean_start, clean_further, clean_end, clean_keeps}
use Rattle.doc_grammar.proofs.PassedFaults.{element_begins, text_begins, element_keeps, not_deep, text_not_deep, text_no_element, refused_no_element, taken_adds, here_count}
use Rattle.doc_grammar.proofs.WithinLimits.{taken_reaches}
use Rattle.ft_base.specs.Limits.{max_depth, max_nodes}
use Rattle.doc_profile.specs.Faults.{Fits, IsPlace, SyntaxAt, DepthAt, NodesAt, FaultIn}
use Rattle.doc_profile.specs.Readings.{element_passes, text_passes, passes, taken}
use Rattle.doc_profile.specs.declared.fault.DocFault.{DocFault}
use Rattle.doc_profile.specs.declared.fault.DocFault.TheVariants as faults

pub record Walked (kind : Kind) (text rest : List ℕ) (from at : ℕ) (s : State) (b : Bool) : Type 0 where
  pub prefix : List ℕ
  pub split : text ≡ prefix ++ rest
  pub is_place : IsPlace from prefix at
  pub is_read : read kind prefix ≡ Some s
  pub suffix : returned false prefix ≡ b
  pub clean : Clean max_depth max_nodes kind text prefix
  pub low : reached s ≤ max_depth
  pub few : begun s ≤ max_nodes

pub walked_start : (kind : Kind) (text : List ℕ) (from : ℕ) → Walked kind text text from from (start (outer_of kind)) false
walked_start kind text from = record { prefix = []; split = refl; is_place = omega arith; is_read = refl; suffix = refl; clean = clean_start max_depth max_nodes kind text; low = none_reached kind; few = none_begun kind }
  where
    none_reached : (k : Kind) → reached (start (outer_of k)) ≤ max_depth
    none_reached Kind.document = omega arith
    none_reached Kind.fragment = omega arith

    none_begun : (k : Kind) → begun (start (outer_of k)) ≤ max_nodes
    none_begun Kind.document = omega arith
    none_begun Kind.fragment = omega arith

returned-append : (b : Bool) (u : List ℕ) (c : ℕ) → returned b (u ++ c ∷ []) ≡ (c == 13)
returned-append b [] c = refl
returned-append b (d ∷ u) c = returned-append (d == 13) u c

read_one : {kind : Kind} {text rest : List ℕ} {from at : ℕ} {s : State} {b : Bool} (w : Walked kind text rest from at s b) (c : ℕ) (t : Option State) → taken s b c ≡ t → read kind (w.prefix ++ c ∷ []) ≡ t
read_one {kind = kind} {s = s} {b = b} w c t e =
    read-append kind w.prefix (c ∷ []) ∙ ap (λ o. run_on o (lines_from (returned false w.prefix) (c ∷ []))) w.is_read ∙ ap (λ x. run_on (Some s) (lines_from x (c ∷ []))) w.suffix ∙ e

-- a character that passes no limit
if_none : {A : Type 0} (b : Bool) (x y : Option A) → cond b x y ≡ None → ((b ≡ true) × (x ≡ None)) ⊎ ((b ≡ false) × (y ≡ None))
if_none true x y e = inl (refl, e)
if_none false x y e = inr (refl, e)

not_some : {A : Type 0} (b : Bool) (x : A) (y : Option A) → cond b (Some x) y ≡ None → (b ≡ false) × (y ≡ None)
not_some true x y e = cc
not_some false x y e = (refl, e)

checked : (s : State) (b : Bool) (c at : ℕ) → passes s b c at ≡ None → Checked max_depth max_nodes s b c
checked s b c at e = go (if_none (element_here s c) (element_passes s at) _ e)
  where
    no_text : element_here s c ≡ true → text_here s b c ≡ true → ⊥
    no_text h k = let both : true ≡ false = sym h ∙ text_no_element s b c k in cc

    go : ((element_here s c ≡ true) × (element_passes s at ≡ None)) ⊎ ((element_here s c ≡ false) × (cond (text_here s b c) (text_passes s at) None ≡ None)) → Checked max_depth max_nodes s b c
    go (inl (h, k)) =
        let deep = not_some _ _ _ k in
        let full = not_some _ _ _ deep.1 in
        record { text_fits = λ t. absurd (no_text h t); shallow = λ _. leb-false max_depth (depth s.place.outer) deep.0; element_fits = λ _. leb-false max_nodes (place_count s.place) full.0 }
    go (inr (h, k)) = record {
      text_fits = λ t. leb-false max_nodes (place_count s.place) (not_some _ _ _ (sym (ap (λ x. cond x (text_passes s at) None) t) ∙ k)).0;
      shallow = λ t. let both : true ≡ false = sym t ∙ h in cc;
      element_fits = λ t. let both : true ≡ false = sym t ∙ h in cc;
    }

still_low : (s t : State) (b : Bool) (c : ℕ) → reached s ≤ max_depth → Checked max_depth max_nodes s b c → taken s b c ≡ Some t → reached t ≤ max_depth
still_low s t b c h k e = go (element_here s c) refl
  where
    go : (x : Bool) → element_here s c ≡ x → reached t ≤ max_depth
    go true i = omega (arith, taken_reaches s t b c e, ap (λ (y : Bool). one_level_if y (depth s.place.outer)) i, k.shallow i)
    go false i = omega (arith, taken_reaches s t b c e, ap (λ (y : Bool). one_level_if y (depth s.place.outer)) i)

still_few : (s t : State) (b : Bool) (c : ℕ) → begun s ≤ max_nodes → Checked max_depth max_nodes s b c → taken s b c ≡ Some t → begun t ≤ max_nodes
still_few s t b c h k e = go (node_here s b c) refl
  where
    room : ((text_here s b c ≡ true) ⊎ (element_here s c ≡ true)) → place_count s.place < max_nodes
    room (inl i) = k.text_fits i
    room (inr i) = k.element_fits i

    go : (x : Bool) → node_here s b c ≡ x → begun t ≤ max_nodes
    go true i = omega (arith, taken_adds s t b c e, ap one_if i, here_count s b c i, room (or_cases (text_here s b c) (element_here s c) i))
    go false i = omega (arith, taken_adds s t b c e, ap one_if i)

pub walked_further : (kind : Kind) (text rest : List ℕ) (from at : ℕ) (s t : State) (b : Bool) (c : ℕ) → Walked kind text (c ∷ rest) from at s b → passes s b c at ≡ None → taken s b c ≡ Some t
    → Walked kind text rest from (at + length (encode_utf8 c)) t (c == 13)
walked_further kind text rest from at s t b c w e r = record {
  prefix = w.prefix ++ c ∷ [];
  split = w.split ∙ sym (append_assoc w.prefix (c ∷ []) rest);
  is_place = omega (arith, w.is_place, length-append (encode_utf8_all w.prefix) (encode_utf8 c), ap length (encodes-last w.prefix c));
  is_read = read_one w c (Some t) r;
  suffix = returned-append false w.prefix c;
  clean = clean_further max_depth max_nodes kind text w.prefix c rest s w.clean w.split w.is_read (subst (λ x. Checked max_depth max_nodes s x c) (sym w.suffix) (checked s b c at e));
  low = still_low s t b c w.low (checked s b c at e) r;
  few = still_few s t b c w.few (checked s b c at e) r;
}

pub walked_refused : (kind : Kind) (text rest : List ℕ) (from at : ℕ) (s : State) (b : Bool) (c : ℕ) → Walked kind text (c ∷ rest) from at s b → taken s b c ≡ None → SyntaxAt kind text from at
walked_refused kind text rest from at s b c w r = record {
  prefix = w.prefix;
  goes_wrong = goes_wrong kind text w.prefix c rest s w.split w.is_read (read_one w c None r);
  keeps = clean_keeps max_depth max_nodes kind text w.prefix c rest s w.clean w.split w.is_read (refused_no_element s b c r);
  is_place = w.is_place;
}

-- the place of the `<` before
place_before : (prefix before : List ℕ) (from at : ℕ) → prefix ≡ before ++ 60 ∷ [] → IsPlace from prefix at → at - 1 ≡ from + length (encode_utf8_all before)
place_before prefix before from at e f = omega (arith, f, ap (λ z. length (encode_utf8_all z)) e, ap length (encodes-last before 60), length-append (encode_utf8_all before) (encode_utf8 60), length-encode 60)

deep_stops : (kind : Kind) (text rest : List ℕ) (from at : ℕ) (s : State) (b : Bool) (c : ℕ) → Walked kind text (c ∷ rest) from at s b → element_here s c ≡ true → nat_le max_depth (depth s.place.outer) ≡ true → DepthAt kind text from (at - 1)
deep_stops kind text rest from at s b c w h deep =
    let x = element_begins kind text w.prefix c rest s w.split w.is_read h in
    record {
      prefix = x.before;
      passes = too_deep s.place x.begins (leb-true max_depth (depth s.place.outer) deep);
      keeps = element_keeps max_depth max_nodes kind text w.prefix x.before w.clean x.spelled;
      is_place = place_before w.prefix x.before from at x.spelled w.is_place;
    }

element_stops : (kind : Kind) (text rest : List ℕ) (from at : ℕ) (s : State) (b : Bool) (c : ℕ) → Walked kind text (c ∷ rest) from at s b → element_here s c ≡ true → nat_le max_depth (depth s.place.outer) ≡ false
    → nat_le max_nodes (place_count s.place) ≡ true → NodesAt kind text from (at - 1)
element_stops kind text rest from at s b c w h shallow full =
    let x = element_begins kind text w.prefix c rest s w.split w.is_read h in
    record {
      prefix = x.before;
      passes = element_too_many s.place x.begins (leb-true max_nodes (place_count s.place) full);
      not_deep = not_deep max_depth max_nodes kind text w.prefix x.before c rest s w.split w.is_read x.spelled (leb-false max_depth (depth s.place.outer) shallow);
      keeps = element_keeps max_depth max_nodes kind text w.prefix x.before w.clean x.spelled;
      is_place = place_before w.prefix x.before from at x.spelled w.is_place;
    }

text_stops : (kind : Kind) (text rest : List ℕ) (from at : ℕ) (s : State) (b : Bool) (c : ℕ) → Walked kind text (c ∷ rest) from at s b → text_here s b c ≡ true → nat_le max_nodes (place_count s.place) ≡ true → NodesAt kind text from at
text_stops kind text rest from at s b c w h full =
    let here : text_here s (returned false w.prefix) c ≡ true = subst (λ x. text_here s x c ≡ true) (sym w.suffix) h in
    record {
      prefix = w.prefix;
      passes = text_too_many s.place (text_begins kind text w.prefix c rest s w.split w.is_read here) (leb-true max_nodes (place_count s.place) full);
      not_deep = text_not_deep max_depth max_nodes kind text w.prefix c rest s w.split here;
      keeps = clean_keeps max_depth max_nodes kind text w.prefix c rest s w.clean w.split w.is_read (text_no_element s b c h);
      is_place = w.is_place;
    }

-- a fault, and no want of memory
pub record Faulty (kind : Kind) (text : List ℕ) (from : ℕ) (fault : DocFault) : Type 0 where
  pub is_fault : FaultIn kind text from fault
  pub no_memory : fault ≡ faults.Memory → ⊥

pub walked_stops : (kind : Kind) (text rest : List ℕ) (from at : ℕ) (s : State) (b : Bool) (c : ℕ) (fault : DocFault) → Walked kind text (c ∷ rest) from at s b → passes s b c at ≡ Some fault → Faulty kind text from fault
walked_stops kind text rest from at s b c fault w e = element (element_here s c) refl e
  where
    syntax_free : {f : DocFault} → f ≡ fault → Faulty kind text from f → Faulty kind text from fault
    syntax_free f x = subst (λ z. Faulty kind text from z) f x

    full_element : (x y : Bool) → element_here s c ≡ true → nat_le max_depth (depth s.place.outer) ≡ x → nat_le max_nodes (place_count s.place) ≡ y
        → cond x (Some (faults.Depth (at - 1))) (cond y (Some (faults.Nodes (at - 1))) None) ≡ Some fault → Faulty kind text from fault
    full_element true y h d n e = syntax_free (let same : faults.Depth (at - 1) ≡ fault = cc in same) (record { is_fault = deep_stops kind text rest from at s b c w h d; no_memory = λ f. cc })
    full_element false true h d n e = syntax_free (let same : faults.Nodes (at - 1) ≡ fault = cc in same) (record { is_fault = element_stops kind text rest from at s b c w h d n; no_memory = λ f. cc })
    full_element false false h d n e = cc

    full_text : (x : Bool) → text_here s b c ≡ true → nat_le max_nodes (place_count s.place) ≡ x → cond x (Some (faults.Nodes at)) None ≡ Some fault → Faulty kind text from fault
    full_text true h n e = syntax_free (let same : faults.Nodes at ≡ fault = cc in same) (record { is_fault = text_stops kind text rest from at s b c w h n; no_memory = λ f. cc })
    full_text false h n e = cc

    text_first : (x : Bool) → text_here s b c ≡ x → cond x (text_passes s at) None ≡ Some fault → Faulty kind text from fault
    text_first true h e = full_text (nat_le max_nodes (place_count s.place)) h refl e
    text_first false h e = cc

    element : (x : Bool) → element_here s c ≡ x → cond x (element_passes s at) (cond (text_here s b c) (text_passes s at) None) ≡ Some fault → Faulty kind text from fault
    element true h e = full_element (nat_le max_depth (depth s.place.outer)) (nat_le max_nodes (place_count s.place)) h refl refl e
    element false h e = text_first (text_here s b c) refl e

pub walked_end : (kind : Kind) (text : List ℕ) (from at : ℕ) (s : State) (b : Bool) → Walked kind text [] from at s b → (read kind text ≡ Some s) × Fits kind text × (reached s ≤ max_depth) × (begun s ≤ max_nodes)
walked_end kind text from at s b w =
    let whole : w.prefix ≡ text = sym (w.split ∙ append-nil w.prefix) in
    (ap (read kind) (sym whole) ∙ w.is_read, clean_end max_depth max_nodes kind text (subst (λ z. Clean max_depth max_nodes kind text z) whole w.clean), w.low, w.few)
