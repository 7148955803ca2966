-- What the run is read as is right by the grammar, and what is right by the grammar is read.
use Rattle.std.proofs.Common.{◌≡◌, ◌≤◌, ℕ, suc, Bool, true, false, List, [], ◌∷◌, ◌++◌, length, take, drop, Option, Some, None, Result, Ok, Err, refl, sym, ◌∙◌, ap, subst, append_assoc, append-nil, arith}
use Rattle.std.proofs.Math.Seq.{take-append_seam, drop-append_seam}
use Rattle.std.proofs.lemmas.List.{length-append, length-take-le, take-append-drop}
use Rattle.std.specs.Option.{is_some}
use Rattle.ft_base.specs.Selection.{Form}
use Rattle.ft_base.specs.declared.fault.QueryFault.{QueryFault}
use Rattle.selection_grammar.specs.declared.symbol.Placed.{Placed}
use Rattle.selection_grammar.specs.Grammar.{Selection}
use Rattle.selection_grammar.specs.steps.Machine.{State, start, advance, run_on, read, finished}
use Rattle.selection_grammar.specs.Shapes.{Shape, whole}
use Rattle.selection_grammar.specs.Texts.{Begins}
use Rattle.selection_grammar.specs.Tree.{Tree}
use Rattle.selection_grammar.proofs.Decided.{spells_read, read_spells, read_begins, refused_begins, not_begun, read-append}
use Rattle.ft_parser.specs.Answer.{symbols_read, symbols_with}
use Rattle.ft_parser.specs.Prefix.{run_length, is_whole, with_number, counted, run_read}
use Rattle.ft_parser.specs.Selected as selected
use Rattle.ft_parser.specs.Selected.{Selects, Refuses}
use Rattle.ft_parser.proofs.Runs.{run_is, run_suffices}
use Rattle.ft_parser.proofs.SelectedExact.{selects_read, refuses_read}
use Rattle.ft_parser.proofs.SelectedLaws.{Outcome, all_read}
use Rattle.path_subset.specs.Runs as R
use Rattle.path_subset.specs.Runs.{IsRun, EndsAmong, Misread}
use Rattle.path_subset.proofs.Runs.{leading, take_more, take_all, whole_read}

pub run_of : (run rest : List Placed) (shape : Shape State) → read run ≡ Some shape → ((q : Placed) (z : List Placed) → rest ≡ q ∷ z → advance shape q ≡ None) → IsRun run rest
run_of run rest shape r stops = record {
  begins = read_begins run shape r;
  longest = λ q z e. refused_begins (run ++ q ∷ []) (read-append run (q ∷ []) ∙ ap (λ o. run_on o (q ∷ [])) r ∙ ap (λ o. run_on o []) (stops q z e));
}

-- the run is as long as the symbols that lead on
run_taken : (run rest : List Placed) → IsRun run rest → run_length (run ++ rest) ≡ length run
run_taken run rest h = by (read run) refl
  where
    by : (o : Option (Shape State)) → read run ≡ o → run_length (run ++ rest) ≡ length run
    by None e = absurd (refused_begins run e h.begins)
    by (Some shape) e =
        let taken : take (length run) (run ++ rest) ≡ run = take-append_seam run rest in
        run_is (run ++ rest) (length run) shape (omega (arith, length-append run rest)) (ap read taken ∙ e)
        (λ q z k. ap (λ w. read (w ++ q ∷ [])) taken ∙ not_begun (run ++ q ∷ []) (h.longest q z (sym (drop-append_seam run rest) ∙ k)))

run_counted : (run rest : List Placed) (b : Bool) (bad : Option ℕ) (size : ℕ) → IsRun run rest → is_whole run ≡ b → run_read (run ++ rest) bad size ≡ counted b (length run) (run ++ rest) bad size
run_counted run rest b bad size h k = (run_suffices (run ++ rest) (length run) b (run_taken run rest h) (ap is_whole (take-append_seam run rest) ∙ k)).comes bad size

spelled_whole : (run : List Placed) (tree : Tree) → Selection run tree → is_whole run ≡ true
spelled_whole run tree a = ap is_some (spells_read run tree a)

pub run_selects : (run rest : List Placed) (x : Form) (bad : Option ℕ) (size : ℕ) → IsRun run rest → Selects run None x → run_read (run ++ rest) bad size ≡ Ok (x, length run)
unfolding counted
run_selects run rest x bad size h s =
    run_counted run rest true bad size h (spelled_whole run s.tree s.whole.spells)
    ∙ ap (λ w. with_number (length run) (symbols_read (symbols_with w None) size)) (take-append_seam run rest) ∙ ap (with_number (length run)) (selects_read run None size x s)

-- a run that is read without a fault
abbrev pub IsReadAmong : List Placed → List Placed → Option ℕ → ℕ → Type 0
IsReadAmong first rest bad size = (x : Form) × (count : ℕ) × (run_read (first ++ rest) bad size ≡ Ok (x, count)) × (count ≤ length first)

pub read_among : (first rest : List Placed) (bad : Option ℕ) (size : ℕ) → EndsAmong first rest → IsReadAmong first rest bad size
read_among first rest bad size h = (
  h.form,
  length h.run,
  ap (λ w. run_read (w ++ rest) bad size) h.parts ∙ ap (λ w. run_read w bad size) (append_assoc h.run h.after rest) ∙ run_selects h.run (h.after ++ rest) h.form bad size h.is_run h.selects,
  omega (arith, ap length h.parts, length-append h.run h.after),
)

-- the fault of a run that is a selection
fault_kept : (n : ℕ) (r : Result Form QueryFault) (fault : QueryFault) → with_number n r ≡ Err fault → r ≡ Err fault
fault_kept n (Ok x) fault e = cc
fault_kept n (Err f) fault e = cc

whole_fault : (run rest : List Placed) (tree : Tree) (bad : Option ℕ) (size : ℕ) (fault : QueryFault) → IsRun run rest → Selection run tree → counted true (length run) (run ++ rest) bad size ≡ Err fault → Misread (run ++ rest) bad size fault
unfolding counted
whole_fault run rest tree bad size fault h a e =
    let is : symbols_read (symbols_with run None) size ≡ Err fault = ap (λ w. symbols_read (symbols_with w None) size) (sym (take-append_seam run rest)) ∙ fault_kept (length run) _ fault e in
    R.whole run rest tree refl h a (subst (Outcome run None size) is (all_read run None size))

-- and of one that is none
refused_more : (u v : List Placed) (bad : Option ℕ) (size : ℕ) (fault : QueryFault) → (Begins u → ⊥) → Refuses u bad size fault → Refuses (u ++ v) bad size fault
refused_more u v bad size fault none (selected.number before p rest e h g) = selected.number before p (rest ++ v) (ap (λ w. w ++ v) e ∙ append_assoc before (p ∷ rest) v) h g
refused_more u v bad size fault none (selected.parenthesis before p rest e h o g) = selected.parenthesis before p (rest ++ v) (ap (λ w. w ++ v) e ∙ append_assoc before (p ∷ rest) v) h o g
refused_more u v bad size fault none (selected.filter before p rest e h g) = selected.filter before p (rest ++ v) (ap (λ w. w ++ v) e ∙ append_assoc before (p ∷ rest) v) h g
refused_more u v bad size fault none (selected.symbol before p rest e h l g) = selected.symbol before p (rest ++ v) (ap (λ w. w ++ v) e ∙ append_assoc before (p ∷ rest) v) h l g
refused_more u v bad size fault none (selected.character at e h) = absurd (none h.begins)
refused_more u v bad size fault none (selected.end e h g) = absurd (none h.begins)
refused_more u v bad size fault none (selected.selection tree f e h g) = absurd (none ([], tree, subst (λ w. Selection w tree) (sym (append-nil u)) h.spells))

prefix_refused : (run rest : List Placed) (bad : Option ℕ) (size : ℕ) (fault : QueryFault) → IsRun run rest → counted false (length run) (run ++ rest) bad size ≡ Err fault → Refuses (run ++ rest) bad size fault
unfolding counted
prefix_refused run [] bad size fault h e =
    let taken : take (suc (length run)) (run ++ []) ≡ run ++ [] = take_all (length run) (run ++ []) (drop-append_seam run []) ∙ take-append_seam run [] ∙ sym (append-nil run) in
    let is : symbols_read (symbols_with (run ++ []) bad) size ≡ Err fault = ap (λ w. symbols_read (symbols_with w bad) size) (sym taken) ∙ fault_kept (length run) _ fault e in
    subst (Outcome (run ++ []) bad size) is (all_read (run ++ []) bad size)
prefix_refused run (q ∷ z) bad size fault h e =
    let taken : take (suc (length run)) (run ++ q ∷ z) ≡ run ++ q ∷ [] = take_more (length run) (run ++ q ∷ z) q z (drop-append_seam run (q ∷ z)) ∙ ap (λ w. w ++ q ∷ []) (take-append_seam run (q ∷ z)) in
    let is : symbols_read (symbols_with (run ++ q ∷ []) bad) size ≡ Err fault = ap (λ w. symbols_read (symbols_with w bad) size) (sym taken) ∙ fault_kept (length run) _ fault e in
    subst (λ w. Refuses w bad size fault) (append_assoc run (q ∷ []) z) (refused_more (run ++ q ∷ []) z bad size fault (h.longest q z refl) (subst (Outcome (run ++ q ∷ []) bad size) is (all_read (run ++ q ∷ []) bad size)))

-- what the run is
parted : (run rest : List Placed) (bad : Option ℕ) (size : ℕ) (fault : QueryFault) → IsRun run rest → run_read (run ++ rest) bad size ≡ Err fault → Misread (run ++ rest) bad size fault
parted run rest bad size fault h e = by (finished (read run)) refl
  where
    by : (o : Option Tree) → finished (read run) ≡ o → Misread (run ++ rest) bad size fault
    by (Some tree) k = whole_fault run rest tree bad size fault h (read_spells run tree k) (sym (run_counted run rest true bad size h (ap is_some k)) ∙ e)
    by None k =
        R.part run rest refl h (λ tree a. let two : None ≡ Some tree = sym k ∙ spells_read run tree a in cc)
        (prefix_refused run rest bad size fault h (sym (run_counted run rest false bad size h (ap is_some k)) ∙ e))

pub misread : (symbols : List Placed) (bad : Option ℕ) (size : ℕ) (fault : QueryFault) → run_read symbols bad size ≡ Err fault → Misread symbols bad size fault
misread symbols bad size fault e =
    let n = run_length symbols in
    let on = leading symbols (whole start) in
    let parts : take n symbols ++ drop n symbols ≡ symbols = take-append-drop n symbols in
    subst (λ w. Misread w bad size fault) parts (parted (take n symbols) (drop n symbols) bad size fault (run_of (take n symbols) (drop n symbols) on.there on.runs on.stops) (ap (λ w. run_read w bad size) parts ∙ e))

-- the run that is none is not read, so that it has one fault
unread : (run rest : List Placed) (x : Form) (n : ℕ) (bad : Option ℕ) (size : ℕ) → IsRun run rest → ((tree : Tree) → Selection run tree → ⊥) → run_read (run ++ rest) bad size ≡ Ok (x, n) → ⊥
unread run rest x n bad size h none e =
    let all = whole_read (run ++ rest) bad size x n e in
    let parts : take n (run ++ rest) ++ drop n (run ++ rest) ≡ run ++ rest = take-append-drop n (run ++ rest) in
    let length_is : run_length (run ++ rest) ≡ n = ap run_length (sym parts) ∙ run_taken (take n (run ++ rest)) (drop n (run ++ rest)) (run_of (take n (run ++ rest)) (drop n (run ++ rest)) all.shape all.reads all.stops) ∙ length-take-le n (run ++ rest) all.within in
    let same : n ≡ length run = sym length_is ∙ run_taken run rest h in
    none all.selects.tree (subst (λ w. Selection w all.selects.tree) (ap (λ k. take k (run ++ rest)) same ∙ take-append_seam run rest) all.selects.whole.spells)

not_whole : (run : List Placed) → ((tree : Tree) → Selection run tree → ⊥) → is_whole run ≡ false
not_whole run none = by (finished (read run)) refl
  where
    by : (o : Option Tree) → finished (read run) ≡ o → is_some o ≡ false
    by None k = refl
    by (Some tree) k = absurd (none tree (read_spells run tree k))

prefix_fault : (run rest : List Placed) (bad : Option ℕ) (size : ℕ) (fault : QueryFault) → IsRun run rest → ((tree : Tree) → Selection run tree → ⊥) → Refuses (run ++ rest) bad size fault → run_read (run ++ rest) bad size ≡ Err fault
prefix_fault run rest bad size fault h none r = by (run_read (run ++ rest) bad size) refl
  where
    by : (o : Result (Form × ℕ) QueryFault) → run_read (run ++ rest) bad size ≡ o → o ≡ Err fault
    by (Ok (x, n)) e = absurd (unread run rest x n bad size h none e)
    by (Err f) e =
        let other : Refuses (run ++ rest) bad size f = prefix_refused run rest bad size f h (sym (run_counted run rest false bad size h (not_whole run none)) ∙ e) in
        let both : ◌≡◌ {A = Result Form QueryFault} (Err f) (Err fault) = sym (refuses_read (run ++ rest) bad size f other) ∙ refuses_read (run ++ rest) bad size fault r in
        let same : f ≡ fault = cc in ap Err same

pub misread_read : (symbols : List Placed) (bad : Option ℕ) (size : ℕ) (fault : QueryFault) → Misread symbols bad size fault → run_read symbols bad size ≡ Err fault
unfolding counted
misread_read symbols bad size fault (R.whole run rest tree e h a r) =
    ap (λ w. run_read w bad size) e ∙ run_counted run rest true bad size h (spelled_whole run tree a)
    ∙ ap (λ w. with_number (length run) (symbols_read (symbols_with w None) size)) (take-append_seam run rest) ∙ ap (with_number (length run)) (refuses_read run None size fault r)
misread_read symbols bad size fault (R.part run rest e h none r) = ap (λ w. run_read w bad size) e ∙ prefix_fault run rest bad size fault h none (subst (λ w. Refuses w bad size fault) e r)
