-- A place behind one that is past an edge of bounds is past it too.
use Rattle.std.proofs.Common.{◌≡◌, refl, ap, sym, ◌∙◌, ℕ, ◌+◌, ◌-◌, ◌<◌, ◌≤◌, Bool, true, false, not, cond, ◌&&◌, ◌||◌, List, [], ◌∷◌, Option, Some, None, arith}
use Rattle.std.specs.Prelude.{nat_le, nat_lt}
use Rattle.std.proofs.lemmas.Bool.{and_from, and_parts}
use Rattle.std.proofs.lemmas.Bool.Decides.{nat_tests}
use Rattle.std.proofs.lemmas.List.Sums.{sum_by-cons}
use Rattle.ft_base.proofs.Truth.{fails_below}
use Rattle.ft_base.specs.declared.places.Breaks.{Breaks}
use Rattle.ft_base.specs.declared.span.Span.{Span}
use Rattle.ft_operators.specs.Bounds.{is_before}
use Rattle.ft_operators.specs.declared.bounds.Bounds.{Bounds}
use Rattle.index_cursors.specs.SpanHits.{started}
use Rattle.index_phrases.specs.Parts.{may_begin, may_end}
use Rattle.index_phrases.specs.Phrases.{own_number}
use Rattle.index_phrases.specs.declared.part.Edge.{Edge}
use Rattle.index_phrases.specs.declared.part.Edge.TheVariants as E
use Rattle.index_phrases.specs.steps.Parting.{is_past, IsSearched}

one_rises : (start first second : ℕ) → first ≤ second → cond (nat_le start first) 1 0 ≤ cond (nat_le start second) 1 0
one_rises start first second h = grind (arith, nat_tests, h)

started_rises : (starts : List ℕ) (first second : ℕ) → first ≤ second → started starts first ≤ started starts second
started_rises [] first second h = omega arith
started_rises (start ∷ starts) first second h =
    let rest = started_rises starts first second h in
    let one = one_rises start first second h in
    let a : started (start ∷ starts) first ≡ cond (nat_le start first) 1 0 + started starts first =
    sum_by-cons (λ other. cond (nat_le other first) 1 0) start starts in
    let b : started (start ∷ starts) second ≡ cond (nat_le start second) 1 0 + started starts second =
    sum_by-cons (λ other. cond (nat_le other second) 1 0) start starts in
    omega (arith, a, b, one, rest)

own_rises : (starts : List ℕ) (from first second : ℕ) → first ≤ second → own_number starts from first ≤ own_number starts from second
own_rises starts from first second h = let rises = started_rises starts first second h in omega (arith, rises)

from_rises : (k a b : ℕ) → a ≤ b → nat_le k a ≡ true → nat_le k b ≡ true
from_rises k a b h e = grind (arith, nat_tests)

to_falls : (to : Option ℕ) (a b : ℕ) → a ≤ b → is_before to b ≡ true → is_before to a ≡ true
to_falls None a b h e = refl
to_falls (Some to) a b h e = grind (arith, nat_tests)

or_rises : (a b c : Bool) → (a ≡ true → b ≡ true) → (a || c) ≡ true → (b || c) ≡ true
or_rises true b c more e = ap (λ x. x || c) (more refl)
or_rises false true c more e = refl
or_rises false false c more e = e

not_falls : (a b : Bool) → (b ≡ true → a ≡ true) → not a ≡ true → not b ≡ true
not_falls true b less e = cc
not_falls false true less e = sym (ap not (less refl)) ∙ e
not_falls false false less e = refl

module _ (bounds : Bounds) (number : ℕ) (breaks : Breaks) (span : Span) (a b : ℕ) (h : a ≤ b) where
  begin_rises : may_begin bounds number breaks span a ≡ true → may_begin bounds number breaks span b ≡ true
  begin_rises e =
      let word : a - (span.from - 1) ≤ b - (span.from - 1) = omega (arith, h) in
      let own = λ (starts : List ℕ). own_number starts span.from a in
      let all = and_parts (nat_le bounds.words.from (a - (span.from - 1)))
      ((nat_le bounds.sentences.from (own breaks.sentences) && nat_le bounds.paragraphs.from (own breaks.paragraphs))
      && (nat_le bounds.order.from (a - (span.from - 1)) || nat_le number bounds.order.query)) e in
      let rest = and_parts (nat_le bounds.sentences.from (own breaks.sentences) && nat_le bounds.paragraphs.from (own breaks.paragraphs))
      (nat_le bounds.order.from (a - (span.from - 1)) || nat_le number bounds.order.query) all.1 in
      let units = and_parts (nat_le bounds.sentences.from (own breaks.sentences)) (nat_le bounds.paragraphs.from (own breaks.paragraphs)) rest.0 in
      λ i. from_rises bounds.words.from (a - (span.from - 1)) (b - (span.from - 1)) word all.0 i
      && ((from_rises bounds.sentences.from (own breaks.sentences) (own_number breaks.sentences span.from b) (own_rises breaks.sentences span.from a b h) units.0 i
      && from_rises bounds.paragraphs.from (own breaks.paragraphs) (own_number breaks.paragraphs span.from b) (own_rises breaks.paragraphs span.from a b h) units.1 i)
      && or_rises (nat_le bounds.order.from (a - (span.from - 1))) (nat_le bounds.order.from (b - (span.from - 1))) (nat_le number bounds.order.query)
      (from_rises bounds.order.from (a - (span.from - 1)) (b - (span.from - 1)) word) rest.1 i)

  end_falls : may_end bounds breaks span b ≡ true → may_end bounds breaks span a ≡ true
  end_falls e =
      let word : a - (span.from - 1) ≤ b - (span.from - 1) = omega (arith, h) in
      let own = λ (starts : List ℕ). own_number starts span.from b in
      let all = and_parts (is_before bounds.words.to (b - (span.from - 1)))
      (is_before bounds.sentences.to (own breaks.sentences) && is_before bounds.paragraphs.to (own breaks.paragraphs)) e in
      let units = and_parts (is_before bounds.sentences.to (own breaks.sentences)) (is_before bounds.paragraphs.to (own breaks.paragraphs)) all.1 in
      λ i. to_falls bounds.words.to (a - (span.from - 1)) (b - (span.from - 1)) word all.0 i
      && (to_falls bounds.sentences.to (own_number breaks.sentences span.from a) (own breaks.sentences) (own_rises breaks.sentences span.from a b h) units.0 i
      && to_falls bounds.paragraphs.to (own_number breaks.paragraphs span.from a) (own breaks.paragraphs) (own_rises breaks.paragraphs span.from a b h) units.1 i)

past_rises : (edge : Edge) (bounds : Bounds) (number : ℕ) (breaks : Breaks) (span : Span) (a b : ℕ) → a ≤ b → is_past edge bounds number breaks span a ≡ true → is_past edge bounds number breaks span b ≡ true
past_rises E.Begin bounds number breaks span a b h e = begin_rises bounds number breaks span a b h e
past_rises E.End bounds number breaks span a b h e = not_falls (may_end bounds breaks span a) (may_end bounds breaks span b) (end_falls bounds number breaks span a b h) e

-- ---- the search

module _ (edge : Edge) (bounds : Bounds) (number : ℕ) (breaks : Breaks) (span : Span) (from to low size half : ℕ) (s : IsSearched (is_past edge bounds number breaks span) from to low size)
    (less : half < size) where
  abbrev test : ℕ → Bool
  test = is_past edge bounds number breaks span

  pub searched_down : test (low + half) ≡ true → IsSearched test from to low half
  searched_down past = record {
    begin = s.begin;
    end = let end = s.end in omega (arith, end, less);
    before = s.before;
    there = λ place behind last. past_rises edge bounds number breaks span (low + half) place behind past;
  }

  pub searched_up : test (low + half) ≡ false → IsSearched test from to (low + (half + 1)) (size - (half + 1))
  searched_up not_past =
      let end = s.end in
      let begin = s.begin in
      let at : (low + (half + 1)) + (size - (half + 1)) ≡ low + size = omega (arith, less) in
      record {
        begin = omega (arith, begin);
        end = omega (arith, end, less);
        before = λ place first ahead. fails_below (test place) (test (low + half)) (past_rises edge bounds number breaks span place (low + half) (omega (arith, ahead))) not_past;
        there = λ place behind last. s.there place (omega (arith, behind, at)) last;
      }
