-- What is kept of a span where the first of its holes in order is cut out.
use Rattle.std.proofs.Common.{◌≡◌, ℕ, zero, suc, ◌+◌, ◌-◌, ◌<◌, ◌≤◌, Bool, true, false, not, cond, ◌&&◌, ◌||◌, List, [], ◌∷◌, ◌++◌, length, get_or, refl, ap, sym, ◌∙◌, arith, inl, inr}
use Rattle.std.specs.Prelude.{max, min, nat_le, nat_lt}
use Rattle.std.specs.List.{filter, range_with_len}
use Rattle.std.specs.List.Sorted.{IsNonDecreasingBy}
use Rattle.std.proofs.Math.Nat.{le-max_left, le-max_right, le-min, max-le, min-le_left, min-le_right}
use Rattle.std.proofs.lemmas.Bool.{cases_lt, le-leb, le-ltb, lt-leb, lt-ltb}
use Rattle.std.proofs.lemmas.List.Elements.{filter-append}
use Rattle.ft_base.specs.declared.span.Span.{Span}
use Rattle.all_matches.specs.Spans.{places_in}
use Rattle.index_cursors.specs.SpanHits.{is_inside}
use Rattle.ignore_view.specs.Without.{is_left_out}
use Rattle.ignore_view.specs.steps.Kept.{first_place, kept_places, part_between}

-- ---- ranges

pub range-split : (a m n : ℕ) → range_with_len a (m + n) ≡ range_with_len a m ++ range_with_len (a + m) n
range-split a zero n =
    let none : 0 + n ≡ n = omega arith in
    let at : a + 0 ≡ a = omega arith in
    ap (range_with_len a) none ∙ ap (λ b. range_with_len b n) (sym at)
range-split a (suc m) n =
    let next : a + 1 + m ≡ a + suc m = omega arith in
    let more : suc m + n ≡ suc (m + n) = omega arith in
    ap (range_with_len a) more ∙ ap (λ xs. a ∷ xs) (range-split (a + 1) m n ∙ ap (λ b. range_with_len (a + 1) m ++ range_with_len b n) next)

filter-same : (p q : ℕ → Bool) (a n : ℕ) → ((x : ℕ) → a ≤ x → x < a + n → p x ≡ q x) → filter p (range_with_len a n) ≡ filter q (range_with_len a n)
filter-same p q a zero h = refl
filter-same p q a (suc n) h =
    let here : a < a + suc n = omega arith in
    let rest = filter-same p q (a + 1) n (λ x from to. h x (omega (arith, from)) (omega (arith, to))) in
    λ i. cond (h a (omega arith) here i) (a ∷ rest i) (rest i)

filter-all : (a n : ℕ) → filter (λ x. true) (range_with_len a n) ≡ range_with_len a n
filter-all a zero = refl
filter-all a (suc n) = ap (λ xs. a ∷ xs) (filter-all (a + 1) n)

filter-none : (a n : ℕ) → filter (λ x. false) (range_with_len a n) ≡ []
filter-none a zero = refl
filter-none a (suc n) = filter-none (a + 1) n

-- ---- a place that is held between two others

module _ (at place to : ℕ) (order : at ≤ to) where
  abbrev pub held : ℕ
  held = max (min place to) at

  pub held-from : at ≤ held
  held-from = le-max_right (min place to) at

  pub held-to : held ≤ to
  held-to = max-le (min-le_right place to) order

  -- what is from the first place on and before it is before the place too
  before-held : (x : ℕ) → at ≤ x → x < held → x < place
  before-held x from less = elim (cases_lt x place) [
    | inl sooner ↦ sooner
    | inr later ↦
        let below = min-le_left place to in
        let most = max-le {a = min place to} {b = at} {k = x} (omega (arith, below, later)) from in
        absurd (omega (arith, most, less))
  ]

  -- what is from it on and before the end is from the place on too
  after-held : (x : ℕ) → held ≤ x → x < to → place ≤ x
  after-held x from less = elim (cases_lt x place) [
    | inl sooner ↦
        let most = le-max_left (min place to) at in
        let least = le-min {k = suc x} {a = place} {b = to} (omega (arith, sooner)) (omega (arith, less)) in
        absurd (omega (arith, most, least, from))
    | inr later ↦ later
  ]

-- ---- holes that begin later

inside-before : (hole : Span) (x : ℕ) → x < hole.from → is_inside hole x ≡ false
inside-before hole x h = ap (λ b. b && nat_lt x hole.to) (lt-leb hole.from x h)

inside-after : (hole : Span) (x : ℕ) → hole.to ≤ x → is_inside hole x ≡ false
inside-after hole x h = ap (λ b. nat_le hole.from x && b) (le-ltb x hole.to h) ∙ none (nat_le hole.from x)
  where
    none : (b : Bool) → (b && false) ≡ false
    none true = refl
    none false = refl

inside-within : (hole : Span) (x : ℕ) → hole.from ≤ x → x < hole.to → is_inside hole x ≡ true
inside-within hole x from to = λ i. le-leb hole.from x from i && lt-ltb x hole.to to i

none-before : (holes : List Span) (x : ℕ) → ((k : ℕ) (d : Span) → k < length holes → x < (get_or holes k d).from) → is_left_out holes x ≡ false
none-before [] x h = refl
none-before (hole ∷ holes) x h =
    let here = inside-before hole x (h 0 hole (omega arith)) in
    let rest = none-before holes x (λ k d less. h (suc k) d (omega (arith, less))) in
    λ i. here i || rest i

-- ---- the first hole is cut out

abbrev keeps : List Span → ℕ → Bool
keeps holes place = not (is_left_out holes place)

module _ (at to : ℕ) (order : at ≤ to) (hole : Span) (holes : List Span) (sorted : IsNonDecreasingBy first_place (hole ∷ holes)) where
  abbrev pub from_hole : ℕ
  from_hole = max (min hole.from to) at

  abbrev pub to_hole : ℕ
  to_hole = max (min hole.to to) from_hole

  from-at : at ≤ from_hole
  from-at = held-from at hole.from to order

  from-end : from_hole ≤ to
  from-end = held-to at hole.from to order

  to-from : from_hole ≤ to_hole
  to-from = held-from from_hole hole.to to from-end

  to-end : to_hole ≤ to
  to-end = held-to from_hole hole.to to from-end

  abbrev here : ℕ → Bool
  here = keeps (hole ∷ holes)

  kept-first : filter here (range_with_len at (from_hole - at)) ≡ range_with_len at (from_hole - at)
  kept-first =
      let first = from-at in
      filter-same here (λ x. true) at (from_hole - at)
      (λ x from less.
      let before = before-held at hole.from to order x from (omega (arith, less, first)) in
      ap not (none-before (hole ∷ holes) x (λ k d there. let least = sorted 0 k d (omega arith) there in omega (arith, before, least))))
      ∙ filter-all at (from_hole - at)

  kept-inside : filter here (range_with_len from_hole (to_hole - from_hole)) ≡ []
  kept-inside =
      let first = to-from in
      let last = to-end in
      filter-same here (λ x. false) from_hole (to_hole - from_hole)
      (λ x from less.
      let within : x < to_hole = omega (arith, less, first) in
      let begins = after-held at hole.from to order x from (omega (arith, within, last)) in
      let ends = before-held from_hole hole.to to from-end x from within in
      ap (λ b. not (b || is_left_out holes x)) (inside-within hole x begins ends))
      ∙ filter-none from_hole (to_hole - from_hole)

  kept-after : filter here (range_with_len to_hole (to - to_hole)) ≡ filter (keeps holes) (range_with_len to_hole (to - to_hole))
  kept-after =
      let last = to-end in
      filter-same here (keeps holes) to_hole (to - to_hole)
      (λ x from less.
      let past = after-held from_hole hole.to to from-end x from (omega (arith, less, last)) in
      ap (λ b. not (b || is_left_out holes x)) (inside-after hole x past))

  whole : range_with_len at (to - at) ≡ range_with_len at (from_hole - at) ++ (range_with_len from_hole (to_hole - from_hole) ++ range_with_len to_hole (to - to_hole))
  whole =
      let a = from-at in
      let b = to-from in
      let c = to-end in
      let size : to - at ≡ (from_hole - at) + (to - from_hole) = omega (arith, a, b, c) in
      let first : at + (from_hole - at) ≡ from_hole = omega (arith, a) in
      let rest : to - from_hole ≡ (to_hole - from_hole) + (to - to_hole) = omega (arith, b, c) in
      let second : from_hole + (to_hole - from_hole) ≡ to_hole = omega (arith, b) in
      ap (range_with_len at) size
      ∙ range-split at (from_hole - at) (to - from_hole)
      ∙ ap (λ p. range_with_len at (from_hole - at) ++ range_with_len p (to - from_hole)) first
      ∙ ap (λ xs. range_with_len at (from_hole - at) ++ xs)
      (ap (range_with_len from_hole) rest
      ∙ range-split from_hole (to_hole - from_hole) (to - to_hole)
      ∙ ap (λ p. range_with_len from_hole (to_hole - from_hole) ++ range_with_len p (to - to_hole)) second)

  pub cut : kept_places (part_between at to) (hole ∷ holes) ≡ places_in (part_between at from_hole) ++ kept_places (part_between to_hole to) holes
  cut =
      let inner = range_with_len from_hole (to_hole - from_hole) in
      let suffix = range_with_len to_hole (to - to_hole) in
      ap (filter here) whole
      ∙ filter-append here (range_with_len at (from_hole - at)) (inner ++ suffix)
      ∙ (λ i. kept-first i ++ filter-append here inner suffix i)
      ∙ (λ i. range_with_len at (from_hole - at) ++ (kept-inside i ++ kept-after i))

-- ---- no hole is left, and none where holes cover the same places

pub kept-whole : (part : Span) → kept_places part [] ≡ places_in part
kept-whole part = filter-all part.from (part.to - part.from)

pub kept-alike : (part : Span) (a b : List Span) → ((place : ℕ) → is_left_out a place ≡ is_left_out b place) → kept_places part a ≡ kept_places part b
kept-alike part a b h = filter-same (keeps a) (keeps b) part.from (part.to - part.from) (λ x from to. ap not (h x))
