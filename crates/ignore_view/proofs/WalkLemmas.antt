-- The walk over the places that are kept.
use Rattle.std.proofs.Common.{◌≡◌, ℕ, zero, suc, ◌+◌, ◌-◌, ◌<◌, ◌≤◌, Bool, true, false, if◌then◌else◌, Option, Some, List, [], ◌∷◌, ◌++◌, map, length, drop, get_or, refl, ap, ◌∙◌, arith, inl, inr, append_assoc}
use Rattle.std.specs.Prelude.{nat_le}
use Rattle.std.specs.List.{range_with_len}
use Rattle.std.specs.List.Sorted.{IsNonDecreasingBy, IsPartitionPoint}
use Rattle.std.proofs.Math.Seq.{drop-cons}
use Rattle.std.proofs.lemmas.Bool.{cases_lt, leb-false, leb-true}
use Rattle.std.proofs.lemmas.Grind.{get_or_default_zero}
use Rattle.std.proofs.lemmas.List.{length-append, map-append}
use Rattle.std.proofs.lemmas.List.FromFn.{length-range_with_len}
use Rattle.std.proofs.lemmas.List.Sums.{count_by-le-length}
use Rattle.ft_base.specs.declared.span.Span.{Span}
use Rattle.ft_base.specs.Places.{is_ascending}
use Rattle.all_matches.specs.Spans.{places_in}
use Rattle.index_document.proofs.TermLemmas.{ascending-at}
use Rattle.index_cursors.specs.SpanHits.{started}
use Rattle.index_cursors.proofs.AscendingLemmas.{up_to-fails, up_to-holds}
use Rattle.ignore_view.specs.steps.Kept.{changes, is_number, places_of}

-- ---- where starts up to a place end

pub rising : (xs : List ℕ) → is_ascending xs ≡ true → IsNonDecreasingBy (λ x. x) xs
rising xs up i j d order there = elim (cases_lt i j) [
  | inl less ↦
      let one = ascending-at xs i j up less there in
      let first = get_or_default_zero xs i d (omega (arith, less, there)) in
      let second = get_or_default_zero xs j d there in
      omega (arith, one, first, second)
  | inr more ↦
      let same : i ≡ j = omega (arith, order, more) in
      let read = ap (λ k. get_or xs k d) same in
      omega (arith, read)
]

module _ (starts : List ℕ) (place point : ℕ) (up : is_ascending starts ≡ true) (most : point ≤ length starts)
    (is : IsPartitionPoint (λ y. nat_le y place ≡ true) (λ y. nat_le y place ≡ false) starts point) where
  least-started : (n : ℕ) → n ≡ point → n ≤ started starts place
  least-started zero same = omega arith
  least-started (suc n) same =
      let there : n < length starts = omega (arith, same, most) in
      let before : n < point = omega (arith, same) in
      up_to-holds place starts n up there (leb-true (get_or starts n 0) place (is.0 n 0 (omega arith) before))

  most-started : started starts place ≤ point
  most-started = elim (cases_lt point (length starts)) [
    | inl there ↦ up_to-fails place starts point up there (leb-false (get_or starts point 0) place (is.1 point 0 (omega arith) there))
    | inr all ↦
        let few = count_by-le-length (λ start. nat_le start place) starts in
        omega (arith, few, all)
  ]

  pub point-started : point ≡ started starts place
  point-started =
      let least = least-started point refl in
      let upper = most-started in
      omega (arith, least, upper)

-- ---- one more place, and one more part

pub one-passed : (found now : List ℕ) (before : Option ℕ) (passed n : ℕ) (same : Bool) (rest : List ℕ) → same ≡ is_number before n
    → now ≡ found ++ (if same then [] else (passed + 1) ∷ [])
    → now ++ changes (Some n) (passed + 1 + 1) rest ≡ found ++ changes before (passed + 1) (n ∷ rest)
unfolding changes
one-passed found now before passed n same rest test is =
    let suffix = changes (Some n) (passed + 1 + 1) rest in
    ap (λ xs. xs ++ suffix) is
    ∙ append_assoc found (if same then [] else (passed + 1) ∷ []) suffix
    ∙ ap (λ b. found ++ ((if b then [] else (passed + 1) ∷ []) ++ suffix)) test

pub range-head : (place to : ℕ) → place < to → range_with_len place (to - place) ≡ place ∷ range_with_len (place + 1) (to - (place + 1))
range-head place to h = let size : to - place ≡ suc (to - (place + 1)) = omega (arith, h) in ap (range_with_len place) size

module _ (parts : List Span) (k : ℕ) (other : Span) (there : k < length parts) where
  abbrev part : Span
  part = get_or parts k other

  next-part : drop k parts ≡ part ∷ drop (k + 1) parts
  next-part =
      let next : suc k ≡ k + 1 = omega arith in
      drop-cons parts k other there ∙ ap (λ n. part ∷ drop n parts) next

  pub next-places : (f : ℕ → ℕ) → map f (places_of (drop k parts)) ≡ map f (places_in part) ++ map f (places_of (drop (k + 1) parts))
  next-places f = ap (λ ps. map f (places_of ps)) next-part ∙ map-append f (places_in part) (places_of (drop (k + 1) parts))

  pub next-many : length (places_of (drop k parts)) ≡ (part.to - part.from) + length (places_of (drop (k + 1) parts))
  next-many =
      ap (λ ps. length (places_of ps)) next-part
      ∙ length-append (places_in part) (places_of (drop (k + 1) parts))
      ∙ ap (λ n. n + length (places_of (drop (k + 1) parts))) (length-range_with_len part.from (part.to - part.from))
