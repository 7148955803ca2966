-- What is right by the grammar is what symbols are read as.
use Rattle.std.proofs.Common.{◌≡◌, ℕ, true, false, ◌||◌, ◌&&◌, cond, List, [], ◌∷◌, ◌++◌, Option, Some, None, Ok, Err, refl, sym, ◌∙◌, ap, subst, append_assoc}
use Rattle.std.proofs.lemmas.Bool.{and_from, or_parts, or_right}
use Rattle.std.proofs.lemmas.List.{append-nil}
use Rattle.std.specs.Prelude.{nat_le}
use Rattle.ft_base.specs.Limits.{max_open}
use Rattle.ft_base.specs.Selection.{Form}
use Rattle.ft_base.specs.declared.fault.QueryFault.{QueryFault}
use Rattle.ft_base.specs.declared.fault.QueryFault.TheVariants as Q
use Rattle.selection_grammar.specs.declared.symbol.Placed.{Placed}
use Rattle.selection_grammar.specs.Grammar.{Selection}
use Rattle.selection_grammar.specs.steps.Machine.{State, start, advance, run_on, read, finished, finished_at}
use Rattle.selection_grammar.specs.Shapes.{Shape, whole, is_mark, open_parenthesis, number_of}
use Rattle.selection_grammar.specs.Texts.{Begins}
use Rattle.selection_grammar.specs.Tree.{Tree}
use Rattle.selection_grammar.proofs.Decided.{spells_read, read_spells, read_begins, refused_begins, read-append}
use Rattle.ft_parser.specs.Answer.{scanned_on, scanned_from, faultless, ended, read_as}
use Rattle.ft_parser.specs.Limits.{is_great, depth_after, exceeds, before_limit, from_limit, limit_fault, is_deep_filter}
use Rattle.ft_parser.specs.Selected.{open_in, is_deep_there, is_deep_after, exceeds_limit, MayStand, IsWhole, Selects, Refuses}
use Rattle.ft_parser.proofs.FilterRuns.{led, within_none_deep}
use Rattle.ft_parser.proofs.SelectedLaws.{number_no_mark, deep_exceeds_none, open_on, rest_read}

-- what begins a selection is read
begun : (u : List Placed) → Begins u → (C : Type 0) → ((shape : Shape State) → read u ≡ Some shape → C) → C
begun u b C there = go (read u) refl
  where
    go : (o : Option (Shape State)) → read u ≡ o → C
    go None e = absurd (refused_begins u e b)
    go (Some shape) e = there shape e

-- a symbol that may stand
pub passed : (bad : Option ℕ) (size depth : ℕ) (p : Placed) (v : List Placed) (shape next : Shape State) → exceeds depth p.symbol ≡ false → is_deep_filter shape p.symbol ≡ false → advance shape p ≡ Some next → rest_read depth shape (p ∷ v) bad size ≡ rest_read (depth_after depth p.symbol) next v bad size
unfolding scanned_from
passed bad size depth p v shape next l f a =
    ap (λ b. read_as (scanned_from shape (cond b [] (p ∷ before_limit (depth_after depth p.symbol) v))) (cond b (p ∷ v) (from_limit (depth_after depth p.symbol) v)) bad size) l
    ∙ ap (λ b. read_as (cond b (Err (Q.Deep p.from)) (scanned_on p (advance shape p) (λ s. scanned_from s (before_limit (depth_after depth p.symbol) v)))) (from_limit (depth_after depth p.symbol) v) bad size) f
    ∙ ap (λ o. read_as (scanned_on p o (λ s. scanned_from s (before_limit (depth_after depth p.symbol) v))) (from_limit (depth_after depth p.symbol) v) bad size) a

abbrev Limits : List Placed → Type 0
Limits symbols = (before : List Placed) (p : Placed) (rest : List Placed) → symbols ≡ before ++ p ∷ rest → exceeds_limit before p.symbol ≡ false

-- symbols that may stand
along : (bad : Option ℕ) (size : ℕ) (u u0 v : List Placed) (s0 s : Shape State) → read u0 ≡ Some s0 → read (u0 ++ u) ≡ Some s → Limits (u0 ++ u) → rest_read (open_in u0) s0 (u ++ v) bad size ≡ rest_read (open_in (u0 ++ u)) s v bad size
along bad size [] u0 v s0 s r0 r h =
    let two : Some s0 ≡ Some s = sym r0 ∙ ap read (sym (append-nil u0)) ∙ r in
    let same : s0 ≡ s = cc in
    ap (λ z. rest_read (open_in u0) z v bad size) same ∙ ap (λ z. rest_read (open_in z) s v bad size) (sym (append-nil u0))
along bad size (p ∷ u) u0 v s0 s r0 r h =
    let limits = or_parts (exceeds (open_in u0) p.symbol) (is_deep_after u0 p.symbol) (h u0 p u refl) in
    let runs : run_on (advance s0 p) u ≡ Some s = sym (read-append u0 (p ∷ u) ∙ ap (λ o. run_on o (p ∷ u)) r0) ∙ r in
    led (advance s0 p) u s _ runs (λ next a.
    let there : read (u0 ++ p ∷ []) ≡ Some next = read-append u0 (p ∷ []) ∙ ap (λ o. run_on o (p ∷ [])) r0 ∙ ap (λ o. run_on o []) a in
    passed bad size (open_in u0) p (u ++ v) s0 next limits.0 (sym (ap (λ o. is_deep_there o p.symbol) r0) ∙ limits.1) a
    ∙ ap (λ n. rest_read n next (u ++ v) bad size) (sym (open_on u0 (p ∷ []) 0))
    ∙ along bad size u (u0 ++ p ∷ []) v next s there (ap read (append_assoc u0 (p ∷ []) u) ∙ r) (subst Limits (sym (append_assoc u0 (p ∷ []) u)) h)
    ∙ ap (λ z. rest_read (open_in z) s v bad size) (append_assoc u0 (p ∷ []) u))

to_there : (symbols : List Placed) (bad : Option ℕ) (size : ℕ) (u v : List Placed) (s : Shape State) → symbols ≡ u ++ v → read u ≡ Some s → MayStand u → rest_read 0 (whole start) symbols bad size ≡ rest_read (open_in u) s v bad size
to_there symbols bad size u v s e r h = ap (λ w. rest_read 0 (whole start) w bad size) e ∙ along bad size u [] v (whole start) s refl r h.limits

-- a symbol that may not
pub at_limit : (bad : Option ℕ) (size depth : ℕ) (p : Placed) (v : List Placed) (shape : Shape State) → exceeds depth p.symbol ≡ true → rest_read depth shape (p ∷ v) bad size ≡ Err (limit_fault p)
unfolding scanned_from
at_limit bad size depth p v shape l = ap (λ b. read_as (scanned_from shape (cond b [] (p ∷ before_limit (depth_after depth p.symbol) v))) (cond b (p ∷ v) (from_limit (depth_after depth p.symbol) v)) bad size) l

pub at_filter : (bad : Option ℕ) (size depth : ℕ) (p : Placed) (v : List Placed) (shape : Shape State) → is_deep_filter shape p.symbol ≡ true → rest_read depth shape (p ∷ v) bad size ≡ Err (Q.Deep p.from)
unfolding scanned_from
at_filter bad size depth p v shape f =
    ap (λ b. read_as (scanned_from shape (cond b [] (p ∷ before_limit (depth_after depth p.symbol) v))) (cond b (p ∷ v) (from_limit (depth_after depth p.symbol) v)) bad size) (deep_exceeds_none shape p.symbol depth f)
    ∙ ap (λ b. read_as (cond b (Err (Q.Deep p.from)) (scanned_on p (advance shape p) (λ s. scanned_from s (before_limit (depth_after depth p.symbol) v)))) (from_limit (depth_after depth p.symbol) v) bad size) f

pub at_symbol : (bad : Option ℕ) (size depth : ℕ) (p : Placed) (v : List Placed) (shape : Shape State) → exceeds depth p.symbol ≡ false → is_deep_filter shape p.symbol ≡ false → advance shape p ≡ None → rest_read depth shape (p ∷ v) bad size ≡ Err (Q.Syntax p.from)
unfolding scanned_from
at_symbol bad size depth p v shape l f a =
    ap (λ b. read_as (scanned_from shape (cond b [] (p ∷ before_limit (depth_after depth p.symbol) v))) (cond b (p ∷ v) (from_limit (depth_after depth p.symbol) v)) bad size) l
    ∙ ap (λ b. read_as (cond b (Err (Q.Deep p.from)) (scanned_on p (advance shape p) (λ s. scanned_from s (before_limit (depth_after depth p.symbol) v)))) (from_limit (depth_after depth p.symbol) v) bad size) f
    ∙ ap (λ o. read_as (scanned_on p o (λ s. scanned_from s (before_limit (depth_after depth p.symbol) v))) (from_limit (depth_after depth p.symbol) v) bad size) a

-- all symbols
to_end : (symbols : List Placed) (bad : Option ℕ) (size : ℕ) (s : Shape State) → read symbols ≡ Some s → MayStand symbols → rest_read 0 (whole start) symbols bad size ≡ ended bad size (finished_at s)
unfolding scanned_from
to_end symbols bad size s r h = to_there symbols bad size symbols [] s (sym (append-nil symbols)) r h

refused_there : (u : List Placed) (p : Placed) (s : Shape State) → read u ≡ Some s → (Begins (u ++ p ∷ []) → ⊥) → advance s p ≡ None
refused_there u p s r h = go (advance s p) refl
  where
    go : (o : Option (Shape State)) → advance s p ≡ o → advance s p ≡ None
    go None a = a
    go (Some next) a = absurd (h (read_begins (u ++ p ∷ []) next (read-append u (p ∷ []) ∙ ap (λ o. run_on o (p ∷ [])) r ∙ ap (λ o. run_on o []) a)))

finish : (symbols : List Placed) (tree : Tree) (s : Shape State) → Selection symbols tree → read symbols ≡ Some s → finished_at s ≡ Some tree
finish symbols tree s a r = sym (ap finished r) ∙ spells_read symbols tree a

unfinish : (symbols : List Placed) (s : Shape State) → ((tree : Tree) → Selection symbols tree → ⊥) → read symbols ≡ Some s → finished_at s ≡ None
unfinish symbols s h r = go (finished_at s) refl
  where
    go : (o : Option Tree) → finished_at s ≡ o → finished_at s ≡ None
    go None e = e
    go (Some tree) e = absurd (h tree (read_spells symbols tree (ap finished r ∙ e)))

-- a whole selection
whole_begins : {symbols : List Placed} {tree : Tree} → Selection symbols tree → Begins symbols
whole_begins {symbols = symbols} {tree = tree} a = ([], tree, subst (λ w. Selection w tree) (sym (append-nil symbols)) a)

whole_stands : {symbols : List Placed} {tree : Tree} → IsWhole symbols tree → MayStand symbols
whole_stands {symbols = symbols} {tree = tree} h = record {
  begins = whole_begins h.spells;
  limits = λ before p rest e. ap (λ b. b || is_deep_after before p.symbol) (h.limits before p rest e) ∙ within_none_deep symbols tree h.spells h.filters before p rest e;
}

pub selects_read : (symbols : List Placed) (bad : Option ℕ) (size : ℕ) (form : Form) → Selects symbols bad form → rest_read 0 (whole start) symbols bad size ≡ Ok form
selects_read symbols bad size form x = begun symbols (whole_begins x.whole.spells) _ (λ s r.
    to_end symbols bad size s r (whole_stands x.whole) ∙ ap (ended bad size) (finish symbols x.tree s x.whole.spells r) ∙ ap (λ b. ended b size (Some x.tree)) x.all
    ∙ ap (faultless x.tree) x.faultless ∙ ap Ok (sym x.is))

pub refuses_read : (symbols : List Placed) (bad : Option ℕ) (size : ℕ) (fault : QueryFault) → Refuses symbols bad size fault → rest_read 0 (whole start) symbols bad size ≡ Err fault
refuses_read symbols bad size fault (Refuses.number u p rest e h great) = begun u h.begins _ (λ s r.
    to_there symbols bad size u (p ∷ rest) s e r h ∙ at_limit bad size (open_in u) p rest s (ap (λ b. b || (nat_le max_open (open_in u) && is_mark open_parenthesis p.symbol)) great)
    ∙ ap (λ b. Err (cond b (Q.Deep p.from) (Q.Number p.from))) (number_no_mark p.symbol great))
refuses_read symbols bad size fault (Refuses.parenthesis u p rest e h opens full) = begun u h.begins _ (λ s r.
    to_there symbols bad size u (p ∷ rest) s e r h ∙ at_limit bad size (open_in u) p rest s (or_right (is_great (number_of p.symbol)) (nat_le max_open (open_in u) && is_mark open_parenthesis p.symbol) (and_from (nat_le max_open (open_in u)) (is_mark open_parenthesis p.symbol) full opens))
    ∙ ap (λ b. Err (cond b (Q.Deep p.from) (Q.Number p.from))) opens)
refuses_read symbols bad size fault (Refuses.filter u p rest e h deep) = begun u h.begins _ (λ s r.
    to_there symbols bad size u (p ∷ rest) s e r h ∙ at_filter bad size (open_in u) p rest s (sym (ap (λ o. is_deep_there o p.symbol) r) ∙ deep))
refuses_read symbols bad size fault (Refuses.symbol u p rest e h l refused) = begun u h.begins _ (λ s r.
    let limits = or_parts (exceeds (open_in u) p.symbol) (is_deep_after u p.symbol) l in
    to_there symbols bad size u (p ∷ rest) s e r h ∙ at_symbol bad size (open_in u) p rest s limits.0 (sym (ap (λ o. is_deep_there o p.symbol) r) ∙ limits.1) (refused_there u p s r refused))
refuses_read symbols bad size fault (Refuses.character at e h) = begun symbols h.begins _ (λ s r. to_end symbols bad size s r h ∙ ap (λ b. ended b size (finished_at s)) e)
refuses_read symbols bad size fault (Refuses.end e h refused) = begun symbols h.begins _ (λ s r. to_end symbols bad size s r h ∙ ap (λ b. ended b size (finished_at s)) e ∙ ap (ended None size) (unfinish symbols s refused r))
refuses_read symbols bad size fault (Refuses.selection tree f e h k) = begun symbols (whole_begins h.spells) _ (λ s r.
    to_end symbols bad size s r (whole_stands h) ∙ ap (λ b. ended b size (finished_at s)) e ∙ ap (ended None size) (finish symbols tree s h.spells r) ∙ ap (faultless tree) k)
