-- The run is the longest prefix that begins a selection.
use Rattle.std.proofs.Common.{◌≡◌, ◌≤◌, ℕ, List, [], ◌∷◌, length, take, Option, Some, None, refl, ◌∙◌, ap, arith}
use Rattle.selection_grammar.specs.declared.symbol.Placed.{Placed}
use Rattle.selection_grammar.specs.steps.Machine.{State, start, advance, run_on, read}
use Rattle.selection_grammar.specs.Shapes.{Shape, whole}
use Rattle.selection_grammar.specs.Texts.{Begins}
use Rattle.selection_grammar.proofs.Decided.{read_begins, refused_begins}
use Rattle.ft_parser.specs.Prefix.{one_and, leading_from, run_length}
use Rattle.ft_parser.proofs.Runs.{run_from_read}

-- what leads on is read
record IsRead (x : Shape State) (u : List Placed) : Type 0 where
  pub shape : Shape State
  pub reads : run_on (Some x) u ≡ Some shape

leading_read : (w : List Placed) (x : Shape State) → IsRead x (take (leading_from x w) w)
unfolding leading_from
leading_read [] x = record { shape = x; reads = refl }
leading_read (p ∷ w) x = go (advance x p) refl (λ next. leading_read w next)
  where
    go : (o : Option (Shape State)) → advance x p ≡ o → ((next : Shape State) → IsRead next (take (leading_from next w) w)) → IsRead x (take (one_and o (λ s. leading_from s w)) (p ∷ w))
    go None a on = record { shape = x; reads = refl }
    go (Some next) a on = let read = on next in record { shape = read.shape; reads = ap (λ o. run_on o (take (leading_from next w) w)) a ∙ read.reads }

pub run_begins : (w : List Placed) → Begins (take (run_length w) w)
run_begins w = let x = leading_read w (whole start) in read_begins (take (run_length w) w) x.shape x.reads

pub run_longest : (w : List Placed) (n : ℕ) → n ≤ length w → Begins (take n w) → n ≤ run_length w
run_longest w n h b = go (read (take n w)) refl
  where
    go : (o : Option (Shape State)) → read (take n w) ≡ o → n ≤ run_length w
    go None e = absurd (refused_begins (take n w) e b)
    go (Some x) e = let all = run_from_read w n x h e in omega (arith, all)
