-- How far one construct leads the machine of selections on its way through symbols.
use Rattle.std.proofs.Common.{◌≡◌, ◌≤◌, ◌<◌, ◌+◌, ◌-◌, ℕ, true, List, [], ◌∷◌, ◌++◌, length, take, drop, Some, Result, sym, ◌∙◌, ap, subst, arith}
use Rattle.std.proofs.lemmas.List.{length-append, take-append-drop, length-take-le, drop-drop}
use Rattle.std.proofs.Math.Seq.{take-add, take-append_seam, drop-append_seam}
use Rattle.selection_grammar.specs.declared.symbol.Placed.{Placed}
use Rattle.selection_grammar.specs.Shapes.{Shape, whole, step, run}
use Rattle.selection_grammar.specs.steps.Machine.{State, next, run_on, read}
use Rattle.selection_grammar.specs.steps.Reading.{reading}
use Rattle.selection_grammar.proofs.Ended.{Ends, next_ends}
use Rattle.selection_grammar.proofs.Readings.{Along, Outcome, outcome}
use Rattle.selection_grammar.proofs.Walks.{run_on_any}
use Rattle.selection_grammar.proofs.Decided.{read-append}
use Rattle.ft_parser.specs.steps.Turns.{state_turn}
use Rattle.ft_parser.proofs.TurnLaws.{state_law}

-- the symbols up to a number, by those up to another
taken_on : (w : List Placed) (i n : ℕ) → i ≤ n → take n w ≡ take i w ++ take (n - i) (drop i w)
taken_on w i n h = let sum : n ≡ i + (n - i) = omega (arith, h) in ap (λ m. take m w) sum ∙ take-add i (n - i) w

pub back_is : (w f b : List Placed) (i n : ℕ) → i ≤ length w → drop i w ≡ f ++ b → n ≡ length (take i w ++ f) → drop n w ≡ b
back_is w f b i n h k c = ap (λ m. drop m w) (c ∙ length-append (take i w) f ∙ ap (λ m. m + length f) (length-take-le i w h)) ∙ sym (drop-drop (length f) i w) ∙ ap (drop (length f)) k ∙ drop-append_seam f b

-- The symbols from one number to another lead along what may stand next.
pub record Goes (w : List Placed) (i n : ℕ) (s : State) (r : Shape State) : Type 0 where
  pub prefix : List Placed
  pub back : List Placed
  pub parts : drop i w ≡ prefix ++ back
  pub taken : take (n - i) (drop i w) ≡ prefix
  pub counted : n ≡ i + length prefix
  pub within : n ≤ length w
  pub runs : run (Some (next s)) prefix ≡ Some r

pub goes : (w : List Placed) (i n : ℕ) (s : State) (r : Shape State) → i ≤ length w → Along (next s) (take i w) (drop i w) n r → Goes w i n s r
goes w i n s r h a =
    let counted : n ≡ i + length a.prefix = a.counted ∙ length-append (take i w) a.prefix ∙ ap (λ m. m + length a.prefix) (length-take-le i w h) in
    let many : n - i ≡ length a.prefix = omega (arith, counted) in
    record {
      prefix = a.prefix;
      back = a.back;
      parts = a.spelled;
      taken = ap (λ z. take (n - i) z) a.spelled ∙ ap (λ m. take m (a.prefix ++ a.back)) many ∙ take-append_seam a.prefix a.back;
      counted = counted;
      within = omega (arith, counted, ap length a.spelled, ap length (take-append-drop i w), length-append (take i w) (drop i w), length-append a.prefix a.back, length-take-le i w h);
      runs = a.runs;
    }

-- what reading a construct comes to
pub outcome_at : (w : List Placed) (i : ℕ) (s : State) (r : Result (State × ℕ) ℕ) → i ≤ length w → r ≡ state_turn s w i → Outcome (next s) (take i w) (drop i w) r
outcome_at w i s r h e = outcome true (next s) (next_ends s) (take i w) (drop i w) r
    (ap (λ z. reading (next s) z (length (take i w))) (take-append-drop i w) ∙ ap (reading (next s) w) (length-take-le i w h) ∙ sym (state_law s w i) ∙ sym e)

-- a whole construct has a symbol
pub further : (w : List Placed) (i n : ℕ) (s t : State) → Goes w i n s (whole t) → i < n
further w i n s t g = go g.prefix g.counted g.runs
  where
    go : (f : List Placed) → n ≡ i + length f → run (Some (next s)) f ≡ Some (whole t) → i < n
    go [] c e = let is_end : next s ≡ whole t = cc in absurd (subst (Ends true) is_end (next_ends s))
    go (p ∷ f) c e = omega (arith, c)

-- all symbols up to there
pub taken_there : (w : List Placed) (i n : ℕ) (s : State) (r : Shape State) (g : Goes w i n s r) → take n w ≡ take i w ++ g.prefix
taken_there w i n s r g = taken_on w i n (omega (arith, g.counted)) ∙ ap (λ z. take i w ++ z) g.taken

-- after a first symbol the machine follows the shape of what may stand next
pub read_there : (w : List Placed) (i n : ℕ) (s : State) (r : Shape State) → read (take i w) ≡ Some (whole s) → Goes w i n s r → i < n → read (take n w) ≡ Some r
read_there w i n s r e g h = go g.prefix (taken_there w i n s r g) g.counted g.runs
  where
    go : (f : List Placed) → take n w ≡ take i w ++ f → n ≡ i + length f → run (Some (next s)) f ≡ Some r → read (take n w) ≡ Some r
    go [] k c j = absurd (omega (arith, h, c))
    go (p ∷ f) k c j = ap read k ∙ read-append (take i w) (p ∷ f) ∙ ap (λ o. run_on o (p ∷ f)) e ∙ run_on_any f (step (next s) p) r j
