-- Holes by the places that they leave out.
use Rattle.std.proofs.Common.{◌≡◌, ℕ, ◌+◌, ◌-◌, ◌<◌, ◌≤◌, Bool, true, false, ◌&&◌, ◌||◌, List, [], ◌∷◌, length, refl, arith}
use Rattle.std.specs.Prelude.{nat_le, nat_lt}
use Rattle.std.specs.List.{list_any}
use Rattle.std.proofs.lemmas.Bool.{and_parts, leb-true, le-leb, ltb-true, lt-ltb, or_left, or_right}
use Rattle.std.proofs.lemmas.Bool.Decides.{nat_tests}
use Rattle.ft_base.specs.declared.span.Span.{Span}
use Rattle.ft_base.specs.declared.token.Token.{Token}
use Rattle.index_cursors.specs.SpanHits.{is_inside}
use Rattle.ignore_view.specs.Holes.{holes_in}
use Rattle.ignore_view.specs.Without.{covers, is_left_out}

-- ---- in the numbers of a span

from-moved : (from place before : ℕ) → nat_le (from - before) place ≡ nat_le from (place + before)
from-moved from place before = grind (arith, nat_tests)

to-moved : (to place before : ℕ) → nat_lt place (to - before) ≡ nat_lt (place + before) to
to-moved to place before = grind (arith, nat_tests)

pub moved : (span : Span) (holes : List Span) (place : ℕ) → is_left_out (holes_in span holes) place ≡ is_left_out holes (place + (span.from - 1))
moved span [] place = refl
moved span (hole ∷ holes) place =
    let from = from-moved hole.from place (span.from - 1) in
    let to = to-moved hole.to place (span.from - 1) in
    let rest = moved span holes place in
    λ i. (from i && to i) || rest i

-- ---- one that holds all places

module _ (tokens : List Token) (place : ℕ) (first : 1 ≤ place) (last : place < 1 + length tokens) where
  inside : (hole : Span) → covers hole tokens ≡ true → is_inside hole place ≡ true
  inside hole h =
      let parts = and_parts (nat_le hole.from 1) (nat_lt (length tokens) hole.to) h in
      let from = leb-true hole.from 1 parts.0 in
      let to = ltb-true (length tokens) hole.to parts.1 in
      λ i. le-leb hole.from place (omega (arith, from, first)) i && lt-ltb place hole.to (omega (arith, to, last)) i

  pub left-out : (holes : List Span) → list_any (λ hole. covers hole tokens) holes ≡ true → is_left_out holes place ≡ true
  left-out [] h = h
  left-out (hole ∷ holes) h = by (covers hole tokens) refl h (λ any. left-out holes any)
    where
      by : (b : Bool) → covers hole tokens ≡ b → (b || list_any (λ other. covers other tokens) holes) ≡ true
          → (list_any (λ other. covers other tokens) holes ≡ true → is_left_out holes place ≡ true) → is_left_out (hole ∷ holes) place ≡ true
      by true e any rest = or_left (is_inside hole place) (is_left_out holes place) (inside hole e)
      by false e any rest = or_right (is_inside hole place) (is_left_out holes place) (rest any)
