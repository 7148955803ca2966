-- The run of symbols, by what the machine has read, and what it is read as where symbols have a fault.
use Rattle.std.proofs.Common.{◌≡◌, ◌≤◌, ◌+◌, ℕ, suc, Bool, true, false, List, [], ◌∷◌, ◌++◌, length, take, drop, Option, Some, None, Err, refl, sym, ◌∙◌, ap, arith}
use Rattle.std.proofs.lemmas.List.{take-append-drop, length-take-le}
use Rattle.std.proofs.Math.Seq.{take-add}
use Rattle.ft_base.specs.declared.fault.QueryFault.{QueryFault}
use Rattle.selection_grammar.specs.declared.symbol.Placed.{Placed}
use Rattle.selection_grammar.specs.steps.Machine.{State, start, advance, run_on, read}
use Rattle.selection_grammar.specs.Shapes.{Shape, whole}
use Rattle.selection_grammar.proofs.Decided.{read-append}
use Rattle.ft_parser.specs.Answer.{symbols_read, symbols_with}
use Rattle.ft_parser.specs.Prefix.{one_and, leading_from, run_length, is_whole, with_number, counted, run_read}
use Rattle.ft_parser.proofs.FilterRuns.{led}
use Rattle.ft_parser.proofs.SelectedLaws.{rest_read}

-- symbols that the machine reads are in the run
pub leading_along : (f b : List Placed) (x r : Shape State) → run_on (Some x) f ≡ Some r → leading_from x (f ++ b) ≡ length f + leading_from r b
unfolding leading_from
leading_along [] b x r e =
    let same : x ≡ r = cc in
    let leads : leading_from x b ≡ leading_from r b = ap (λ s. leading_from s b) same in
    omega (arith, leads)
leading_along (p ∷ f) b x r e = led (advance x p) f r (leading_from x (p ∷ f ++ b) ≡ length (p ∷ f) + leading_from r b) e (λ next a.
    let leads : leading_from x (p ∷ f ++ b) ≡ suc (leading_from next (f ++ b)) = ap (λ o. one_and o (λ s. leading_from s (f ++ b))) a in
    let suffix : leading_from next (f ++ b) ≡ length f + leading_from r b = leading_along f b next r (sym (ap (λ o. run_on o f) a) ∙ e) in
    omega (arith, leads, suffix))

-- as many as it reads and one symbol no more
none_leads : (b : List Placed) (x : Shape State) → ((p : Placed) (rest : List Placed) → b ≡ p ∷ rest → advance x p ≡ None) → leading_from x b ≡ 0
unfolding leading_from
none_leads [] x h = refl
none_leads (p ∷ b) x h = ap (λ o. one_and o (λ s. leading_from s b)) (h p b refl)

leads_nowhere : (o : Option (Shape State)) → run_on o [] ≡ None → o ≡ None
leads_nowhere None e = refl
leads_nowhere (Some x) e = cc

pub run_from_read : (w : List Placed) (n : ℕ) (x : Shape State) → n ≤ length w → read (take n w) ≡ Some x → run_length w ≡ n + leading_from x (drop n w)
run_from_read w n x h e =
    ap run_length (sym (take-append-drop n w)) ∙ leading_along (take n w) (drop n w) (whole start) x e ∙ ap (λ m. m + leading_from x (drop n w)) (length-take-le n w h)

pub run_is : (w : List Placed) (n : ℕ) (x : Shape State) → n ≤ length w → read (take n w) ≡ Some x → ((p : Placed) (rest : List Placed) → drop n w ≡ p ∷ rest → read (take n w ++ p ∷ []) ≡ None) → run_length w ≡ n
run_is w n x h e refuses =
    let none : leading_from x (drop n w) ≡ 0 = none_leads (drop n w) x (λ p rest k. leads_nowhere (advance x p) (sym (read-append (take n w) (p ∷ []) ∙ ap (λ o. run_on o (p ∷ [])) e) ∙ refuses p rest k)) in
    let all = run_from_read w n x h e in
    omega (arith, none, all)

-- What the run is read as follows from its length and from whether it is a whole selection.
pub record Suffices (w : List Placed) (n : ℕ) (all : Bool) : Type 0 where
  pub comes : (bad : Option ℕ) (size : ℕ) → run_read w bad size ≡ counted all n w bad size

pub run_suffices : (w : List Placed) (n : ℕ) (all : Bool) → run_length w ≡ n → is_whole (take n w) ≡ all → Suffices w n all
unfolding run_read
run_suffices w n all h k = record { comes = λ bad size. ap (λ m. counted (is_whole (take m w)) m w bad size) h ∙ ap (λ b. counted b n w bad size) k }

-- Symbols that are in the run, or in it with the first one after it, and have a fault whatever stands after them
module _ (w : List Placed) (n : ℕ) (fault : QueryFault) (all : (v : List Placed) (bad : Option ℕ) (size : ℕ) → rest_read 0 (whole start) (take n w ++ v) bad size ≡ Err fault) where
  taken_fails : (m k : ℕ) (bad : Option ℕ) (size : ℕ) → k ≡ n + m → symbols_read (symbols_with (take k w) bad) size ≡ Err fault
  taken_fails m k bad size e = ap (λ k. rest_read 0 (whole start) (take k w) bad size) e ∙ ap (λ u. rest_read 0 (whole start) u bad size) (take-add n m w) ∙ all (take m (drop n w)) bad size

  counted_fails : (b : Bool) (m k : ℕ) (bad : Option ℕ) (size : ℕ) → k ≡ n + m → counted b k w bad size ≡ Err fault
  unfolding counted
  counted_fails true m k bad size e = ap (with_number k) (taken_fails m k None size e)
  counted_fails false m k bad size e = ap (with_number k) (taken_fails (suc m) (suc k) bad size (omega (arith, e)))

  pub all_fails : (bad : Option ℕ) (size : ℕ) → symbols_read (symbols_with w bad) size ≡ Err fault
  all_fails bad size = ap (λ u. rest_read 0 (whole start) u bad size) (sym (take-append-drop n w)) ∙ all (drop n w) bad size

  pub run_fails : (x : Shape State) → n ≤ length w → read (take n w) ≡ Some x → (bad : Option ℕ) (size : ℕ) → run_read w bad size ≡ Err fault
  unfolding run_read
  run_fails x h e bad size = counted_fails (is_whole (take (run_length w) w)) (leading_from x (drop n w)) (run_length w) bad size (run_from_read w n x h e)

  pub next_fails : (k : ℕ) → n ≡ suc k → run_length w ≡ k → is_whole (take k w) ≡ false → (bad : Option ℕ) (size : ℕ) → run_read w bad size ≡ Err fault
  unfolding run_read counted
  next_fails k e h none bad size = (run_suffices w k false h none).comes bad size ∙ ap (with_number k) (taken_fails 0 (suc k) bad size (omega (arith, e)))
