-- The numbers of sentences and of paragraphs rise with the places.
use Rattle.std.specs.Prelude.{◌≡◌, ℕ, ◌+◌, ◌≤◌, List, [], ◌∷◌, nat_le, cond}
use Rattle.std.proofs.Common.{arith}
use Rattle.std.proofs.lemmas.List.Sums.{sum_by-cons}
use Rattle.std.proofs.lemmas.Bool.Decides.{nat_tests}
use Rattle.index_cursors.specs.SpanHits.{started}

one_rises : (start first second : ℕ) → first ≤ second → cond (nat_le start first) 1 0 ≤ cond (nat_le start second) 1 0
one_rises start first second h = grind (arith, nat_tests, h)

pub started_rises : (starts : List ℕ) (first second : ℕ) → first ≤ second → started starts first ≤ started starts second
started_rises [] first second h = omega arith
started_rises (start ∷ starts) first second h =
    let rest = started_rises starts first second h in
    let one = one_rises start first second h in
    let a : started (start ∷ starts) first ≡ cond (nat_le start first) 1 0 + started starts first =
    sum_by-cons (λ other. cond (nat_le other first) 1 0) start starts in
    let b : started (start ∷ starts) second ≡ cond (nat_le start second) 1 0 + started starts second =
    sum_by-cons (λ other. cond (nat_le other second) 1 0) start starts in
    omega (arith, a, b, one, rest)
