-- What is read as a selection is one without a fault, and no symbol after it goes on with it.
use Rattle.std.proofs.Common.{◌≡◌, ◌≤◌, ℕ, zero, suc, Bool, true, false, List, [], ◌∷◌, ◌++◌, length, take, drop, Option, Some, None, Result, Ok, Err, refl, sym, ◌∙◌, ap, subst, arith}
use Rattle.std.specs.Option.{is_some}
use Rattle.ft_base.specs.Selection.{Form}
use Rattle.ft_base.specs.declared.fault.QueryFault.{QueryFault}
use Rattle.selection_grammar.specs.declared.symbol.Placed.{Placed}
use Rattle.selection_grammar.specs.steps.Machine.{State, start, advance, run_on, read, finished, finished_at}
use Rattle.selection_grammar.specs.Shapes.{Shape, whole}
use Rattle.selection_grammar.specs.Tree.{Tree}
use Rattle.selection_grammar.proofs.Decided.{spells_read, read-append}
use Rattle.ft_parser.specs.Answer.{symbols_read, symbols_with}
use Rattle.ft_parser.specs.Prefix.{one_and, leading_from, run_length, is_whole, with_number, counted, run_read}
use Rattle.ft_parser.specs.Selected.{Selects}
use Rattle.ft_parser.proofs.SelectedLaws.{Outcome, all_read}

-- as many symbols as lead on, and where they lead
pub record Leading (x : Shape State) (u : List Placed) (n : ℕ) : Type 0 where
  pub there : Shape State
  pub runs : run_on (Some x) (take n u) ≡ Some there
  pub stops : (q : Placed) (z : List Placed) → drop n u ≡ q ∷ z → advance there q ≡ None

leading_by : (p : Placed) (u : List Placed) (x : Shape State) (o : Option (Shape State)) → advance x p ≡ o → ((s : Shape State) → Leading s u (leading_from s u)) → Leading x (p ∷ u) (one_and o (λ s. leading_from s u))
leading_by p u x None e further = record { there = x; runs = refl; stops = λ q z h. let same : p ≡ q = cc in ap (advance x) (sym same) ∙ e }
leading_by p u x (Some s) e further = let on = further s in record { there = on.there; runs = ap (λ o. run_on o (take (leading_from s u) u)) e ∙ on.runs; stops = on.stops }

pub leading : (u : List Placed) (x : Shape State) → Leading x u (leading_from x u)
unfolding leading_from
leading [] x = record { there = x; runs = refl; stops = λ q z e. cc }
leading (p ∷ u) x = leading_by p u x (advance x p) refl (leading u)

few_by : (p : Placed) (u : List Placed) (o : Option (Shape State)) → ((s : Shape State) → leading_from s u ≤ length u) → one_and o (λ s. leading_from s u) ≤ length (p ∷ u)
few_by p u None further = omega arith
few_by p u (Some s) further = omega (arith, further s)

few : (u : List Placed) (x : Shape State) → leading_from x u ≤ length u
unfolding leading_from
few [] x = omega arith
few (p ∷ u) x = few_by p u (advance x p) (few u)

pub take_more : (n : ℕ) (w : List Placed) (q : Placed) (z : List Placed) → drop n w ≡ q ∷ z → take (suc n) w ≡ take n w ++ q ∷ []
take_more zero [] q z e = cc
take_more (suc n) [] q z e = cc
take_more zero (p ∷ w) q z e = let same : p ≡ q = cc in ap (λ x. x ∷ []) same
take_more (suc n) (p ∷ w) q z e = ap (λ u. p ∷ u) (take_more n w q z e)

pub take_all : (n : ℕ) (w : List Placed) → drop n w ≡ [] → take (suc n) w ≡ take n w
take_all zero [] e = refl
take_all (suc n) [] e = refl
take_all zero (p ∷ w) e = cc
take_all (suc n) (p ∷ w) e = ap (λ u. p ∷ u) (take_all n w e)

pub record Whole (rest : List Placed) (x : Form) (n : ℕ) : Type 0 where
  pub within : n ≤ length rest
  pub shape : Shape State
  pub reads : read (take n rest) ≡ Some shape
  pub selects : Selects (take n rest) None x
  pub ends : finished_at shape ≡ Some selects.tree
  pub stops : (q : Placed) (z : List Placed) → drop n rest ≡ q ∷ z → advance shape q ≡ None

-- a number and what was read
same_number : (n k : ℕ) (x : Form) (r : Result Form QueryFault) → with_number k r ≡ Ok (x, n) → (k ≡ n) × (r ≡ Ok x)
same_number n k x (Ok y) e =
    let both : ◌≡◌ {A = Form × ℕ} (y, k) (x, n) = cc in
    (ap (λ b. b.1) both, ap (λ b. Ok b.0) both)
same_number n k x (Err fault) e = cc

-- the run of all symbols that lead on is whole where it is read
not_whole : (rest : List Placed) (tree : Tree) → Leading (whole start) rest (run_length rest) → is_whole (take (run_length rest) rest) ≡ false → finished (read (take (suc (run_length rest)) rest)) ≡ Some tree → ⊥
not_whole rest tree on h e = by (drop (run_length rest) rest) refl
  where
    by : (b : List Placed) → drop (run_length rest) rest ≡ b → ⊥
    by [] k =
        let is : is_whole (take (run_length rest) rest) ≡ true = ap (λ u. is_some (finished (read u))) (sym (take_all (run_length rest) rest k)) ∙ ap is_some e in
        let two : true ≡ false = sym is ∙ h in cc
    by (q ∷ z) k =
        let none : read (take (suc (run_length rest)) rest) ≡ None = ap read (take_more (run_length rest) rest q z k) ∙ read-append (take (run_length rest) rest) (q ∷ []) ∙ ap (λ o. run_on o (q ∷ [])) on.runs ∙ ap (λ o. run_on o []) (on.stops q z k) in
        let two : None ≡ Some tree = sym (ap finished none) ∙ e in cc

whole_run : (rest : List Placed) (bad : Option ℕ) (size : ℕ) (x : Form) (all : Bool) → Leading (whole start) rest (run_length rest) → is_whole (take (run_length rest) rest) ≡ all
    → (n : ℕ) → counted all (run_length rest) rest bad size ≡ Ok (x, n) → Whole rest x n
unfolding counted
whole_run rest bad size x true on h n e =
    let both = same_number n (run_length rest) x (symbols_read (symbols_with (take (run_length rest) rest) None) size) e in
    let is : Selects (take (run_length rest) rest) None x = subst (Outcome (take (run_length rest) rest) None size) both.1 (all_read (take (run_length rest) rest) None size) in
    let one : Whole rest x (run_length rest) = record { within = few rest (whole start); shape = on.there; reads = on.runs; selects = is; ends = sym (ap finished on.runs) ∙ spells_read (take (run_length rest) rest) is.tree is.whole.spells; stops = on.stops } in
    subst (Whole rest x) both.0 one
whole_run rest bad size x false on h n e =
    let both = same_number n (run_length rest) x (symbols_read (symbols_with (take (suc (run_length rest)) rest) bad) size) e in
    let is : Selects (take (suc (run_length rest)) rest) bad x = subst (Outcome (take (suc (run_length rest)) rest) bad size) both.1 (all_read (take (suc (run_length rest)) rest) bad size) in
    absurd (not_whole rest is.tree on h (spells_read (take (suc (run_length rest)) rest) is.tree is.whole.spells))

pub whole_read : (rest : List Placed) (bad : Option ℕ) (size : ℕ) (x : Form) (n : ℕ) → run_read rest bad size ≡ Ok (x, n) → Whole rest x n
unfolding run_read
whole_read rest bad size x n e = whole_run rest bad size x (is_whole (take (run_length rest) rest)) (leading rest (whole start)) refl n e
