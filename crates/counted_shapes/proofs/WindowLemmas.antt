-- A window filter leaves a Match without excludes exactly where the Match is made in some window of its size.
use Rattle.std.proofs.Common.{◌≡◌, refl, ap, sym, ◌∙◌, ℕ, zero, suc, ◌+◌, ◌-◌, List, [], ◌∷◌, Bool, true, false, not, ◌&&◌, ◌||◌, length, arith, zero-add}
use Rattle.std.specs.Prelude.{◌<◌, ◌↔◌, map, filter, cond, min, max, nat_le, nat_lt, pos, ◌+ℤ◌, ◌-ℤ◌, int_le, Option, Some, None, option_to_list}
use Rattle.std.specs.List.{list_any, list_all, range_with_len}
use Rattle.std.proofs.lemmas.Bool.{and_parts, or_right}
use Rattle.std.proofs.lemmas.Bool.Decides.{nat_tests}
use Rattle.std.proofs.lemmas.Int.{ints}
use Rattle.std.proofs.Math.Bool.{and_assoc, and-true}
use Rattle.ft_base.specs.Lists.{is_not_empty}
use Rattle.ft_base.specs.declared.filter.Filter.TheVariants as F
use Rattle.ft_base.specs.declared.hit.Hit.{Hit}
use Rattle.ft_base.specs.declared.hit.Match.{Match}
use Rattle.ft_base.specs.declared.span.Span.{Span}
use Rattle.ft_base.specs.declared.unit.TextUnit.{TextUnit}
use Rattle.ft_base.specs.declared.unit.TextUnit.TheVariants.{Words, Sentences, Paragraphs}
use Rattle.all_matches.specs.declared.window.Window.{Window}
use Rattle.all_matches.specs.Boolean.{is_clean, satisfied, survives}
use Rattle.all_matches.specs.Filters.{passes, choices, through, filtered_match}
use Rattle.all_matches.specs.Join.{join, least, greatest}
use Rattle.all_matches.specs.Positions.{start_in, end_in}
use Rattle.all_matches.specs.Window.{window_at, windows_round, lies_in_window}
use Rattle.all_matches.proofs.ListTests.{list_any-alike, list_any-map}
use Rattle.all_matches.proofs.SomeWindow.{some_window}
use Rattle.counted_shapes.specs.Fields.{made_in, in_window}
use Rattle.counted_shapes.proofs.HitLemmas.{has_include}

-- ---- what is left of excludes

pub clean_filtered : (kept : Hit → Bool) (is hits : List Hit) → is_clean (record { includes = is; excludes = filter kept hits }) ≡ list_all (λ hit. not (kept hit)) hits
clean_filtered kept is [] = refl
clean_filtered kept is (hit ∷ rest) = one (kept hit) (clean_filtered kept is rest)
  where
    one : (b : Bool) → is_clean (record { includes = is; excludes = filter kept rest }) ≡ list_all (λ other. not (kept other)) rest
        → is_clean (record { includes = is; excludes = cond b (hit ∷ filter kept rest) (filter kept rest) }) ≡ (not b && list_all (λ other. not (kept other)) rest)
    one true e = refl
    one false e = e

pub all_alike : {X : Type 0} (p q : X → Bool) (xs : List X) → ((x : X) → p x ≡ q x) → list_all p xs ≡ list_all q xs
all_alike p q [] same = refl
all_alike p q (x ∷ xs) same = λ i. same x i && all_alike p q xs same i

pub survives_alike : (p q : Hit → Bool) (m : Match) → ((hit : Hit) → p hit ≡ q hit) → survives p m ≡ survives q m
survives_alike p q m same = all_alike (λ hit. not (p hit)) (λ hit. not (q hit)) m.excludes (λ hit. ap not (same hit))

-- ---- numbers of a range

any_of_range : (p : ℕ → Bool) (from count n : ℕ) → n < count → p (from + n) ≡ true → list_any p (range_with_len from count) ≡ true
any_of_range p from zero n less h = absurd (omega (arith, less))
any_of_range p from (suc count) zero less h = let same : from + 0 ≡ from = omega arith in ap (λ b. b || list_any p (range_with_len (from + 1) count)) (sym (ap p same) ∙ h)
any_of_range p from (suc count) (suc n) less h =
    let same : from + suc n ≡ (from + 1) + n = omega arith in
    let fewer : n < count = omega (arith, less) in
    or_right (p from) (list_any p (range_with_len (from + 1) count)) (any_of_range p (from + 1) count n fewer (sym (ap p same) ∙ h))

one_of_range : (p : ℕ → Bool) (from count : ℕ) → list_any p (range_with_len from count) ≡ true → (n : ℕ) × (n < count) × (p (from + n) ≡ true)
one_of_range p from zero h = cc
one_of_range p from (suc count) h = one (p from) refl h (one_of_range p (from + 1) count)
  where
    one : (b : Bool) → p from ≡ b → (b || list_any p (range_with_len (from + 1) count)) ≡ true
        → (list_any p (range_with_len (from + 1) count) ≡ true → (n : ℕ) × (n < count) × (p ((from + 1) + n) ≡ true))
        → (n : ℕ) × (n < suc count) × (p (from + n) ≡ true)
    one true e h further = let same : from + 0 ≡ from = omega arith in (0, omega arith, ap p same ∙ e)
    one false e h further =
        let found = further h in
        let same : from + suc found.0 ≡ (from + 1) + found.0 = omega arith in
        (suc found.0, omega (arith, found.1), ap p same ∙ found.2)

-- of the numbers from 0 on
any_below : (p : ℕ → Bool) (count n : ℕ) → n < count → p n ≡ true → list_any p (range_with_len 0 count) ≡ true
any_below p count n less h = any_of_range p 0 count n less (ap p (zero-add n) ∙ h)

one_below : (p : ℕ → Bool) (count : ℕ) → list_any p (range_with_len 0 count) ≡ true → (n : ℕ) × (n < count) × (p n ≡ true)
one_below p count h = let one = one_of_range p 0 count h in (one.0, one.1, sym (ap p (zero-add one.0)) ∙ one.2)

-- ---- windows by their last numbers

lies : (size last start end : ℕ)
    → (int_le (pos (suc last) -ℤ pos size) (pos start) && int_le (pos end) (((pos (suc last) -ℤ pos size) +ℤ pos size) -ℤ pos 1))
    ≡ (nat_le end last && nat_lt last (start + size))
lies size last start end = grind (arith, ints, nat_tests)

pub lies_in : (size : ℕ) (kind : TextUnit) (last : ℕ) (hit : Hit) → lies_in_window kind (window_at size (pos (suc last) -ℤ pos size)) hit ≡ in_window size kind last hit
lies_in size kind last hit = lies size last (start_in kind hit) (end_in kind hit)

-- a window holds the joined hit where it holds each
wider : (size last a b c d : ℕ)
    → (nat_le (max b d) last && nat_lt last (min a c + size)) ≡ ((nat_le b last && nat_lt last (a + size)) && (nat_le d last && nat_lt last (c + size)))
wider size last a b c d = grind (arith, nat_tests)

all_inside : (size last s e : ℕ) (start end : Hit → ℕ) (rest : List Hit)
    → (nat_le (greatest e (map end rest)) last && nat_lt last (least s (map start rest) + size))
    ≡ ((nat_le e last && nat_lt last (s + size)) && list_all (λ hit. nat_le (end hit) last && nat_lt last (start hit + size)) rest)
all_inside size last s e start end [] = sym (and-true (nat_le e last && nat_lt last (s + size)))
all_inside size last s e start end (hit ∷ rest) =
    all_inside size last (min s (start hit)) (max e (end hit)) start end rest
    ∙ ap (λ b. b && list_all (λ other. nat_le (end other) last && nat_lt last (start other + size)) rest) (wider size last s e (start hit) (end hit))
    ∙ and_assoc (nat_le e last && nat_lt last (s + size)) (nat_le (end hit) last && nat_lt last (start hit + size))
    (list_all (λ other. nat_le (end other) last && nat_lt last (start other + size)) rest)

-- whether the joined hit, if there is one, passes a test
abbrev joined_passes : (Hit → Bool) → Option Hit → Bool
joined_passes test None = false
joined_passes test (Some hit) = test hit

pub window_holds_all : (size : ℕ) (kind : TextUnit) (last : ℕ) (first : Hit) (rest : List Hit)
    → joined_passes (in_window size kind last) (join (first ∷ rest)) ≡ list_all (in_window size kind last) (first ∷ rest)
window_holds_all size Words last first rest = all_inside size last first.from first.to (λ hit. hit.from) (λ hit. hit.to) rest
window_holds_all size Sentences last first rest = all_inside size last first.sent_from first.sent_to (λ hit. hit.sent_from) (λ hit. hit.sent_to) rest
window_holds_all size Paragraphs last first rest = all_inside size last first.para_from first.para_to (λ hit. hit.para_from) (λ hit. hit.para_to) rest

-- ---- a Match with includes

-- a filter that keeps a Match where it has choices leaves the Matches through each
passing : {X Y : Type 0} (made_of : X → Y) (b : Bool) (xs : List X) → b ≡ nat_lt 0 (length xs) → cond b (map made_of xs) [] ≡ map made_of xs
passing made_of true xs h = refl
passing made_of false [] h = refl
passing made_of false (x ∷ xs) h = no_length (length xs) h
  where
    by_contradiction : {Z : Type 0} → false ≡ true → Z
    by_contradiction h = cc

    no_length : {Z : Type 0} (n : ℕ) → false ≡ nat_lt 0 (suc n) → Z
    no_length n h = let some : nat_lt 0 (suc n) ≡ true = grind (arith, nat_tests) in by_contradiction (h ∙ some)

next_number : (m n : ℕ) → suc m + n ≡ suc (m + n)
next_number m n = omega arith

module _ (size : ℕ) (kind : TextUnit) (m : Match) where
  -- the windows that hold the joined hit, by their last numbers
  abbrev window_ending : Hit → ℕ → Window
  window_ending joined n = window_at size (pos (suc (end_in kind joined) + n) -ℤ pos size)

  left_through : (ws : List Window) → list_any is_clean (map (through (F.Window size kind) m) (map Some ws)) ≡ list_any (λ window. survives (lies_in_window kind window) m) ws
  left_through ws =
      list_any-map is_clean (through (F.Window size kind) m) (map Some ws)
      ∙ list_any-map (λ choice. is_clean (through (F.Window size kind) m choice)) Some ws
      ∙ list_any-alike (λ window. is_clean (through (F.Window size kind) m (Some window))) (λ window. survives (lies_in_window kind window) m) ws
      (λ window. clean_filtered (lies_in_window kind window) (option_to_list (join m.includes)) m.excludes)

  left_by_choices : (item : Span) → satisfied (filtered_match (F.Window size kind) item m) ≡ list_any (λ window. survives (lies_in_window kind window) m) (windows_round size kind (join m.includes))
  left_by_choices item =
      ap (list_any is_clean)
      (passing (through (F.Window size kind) m) (passes (F.Window size kind) m.includes item) (choices (F.Window size kind) m.includes) (some_window size kind m.includes item))
      ∙ left_through (windows_round size kind (join m.includes))

  -- how many windows hold a hit
  abbrev room : Hit → ℕ
  room joined = (start_in kind joined + size) - end_in kind joined

  left_by_numbers : (joined : Hit)
      → list_any (λ window. survives (lies_in_window kind window) m) (windows_round size kind (Some joined))
      ≡ list_any (λ n. survives (in_window size kind (end_in kind joined + n)) m) (range_with_len 0 (room joined))
  left_by_numbers joined =
      list_any-map (λ window. survives (lies_in_window kind window) m) (window_ending joined) (range_with_len 0 (room joined))
      ∙ list_any-alike (λ n. survives (lies_in_window kind (window_ending joined n)) m) (λ n. survives (in_window size kind (end_in kind joined + n)) m) (range_with_len 0 (room joined))
      (λ n. survives_alike (lies_in_window kind (window_ending joined n)) (in_window size kind (end_in kind joined + n)) m
      (λ hit. ap (λ next. lies_in_window kind (window_at size (pos next -ℤ pos size)) hit) (next_number (end_in kind joined) n) ∙ lies_in size kind (end_in kind joined + n) hit))

ends_inside : (end room n start size : ℕ) → room ≡ (start + size) - end → n < room → (nat_le end (end + n) && nat_lt (end + n) (start + size)) ≡ true
ends_inside end room n start size is less = grind (arith, nat_tests)

number_inside : (last end start size : ℕ) → (nat_le end last && nat_lt last (start + size)) ≡ true → (last - end < (start + size) - end) × (end + (last - end) ≡ last)
number_inside last end start size h = grind (arith, nat_tests)

-- a Match with this joined hit, all of whose includes lie where the joined hit does
by_joined : (size : ℕ) (kind : TextUnit) (m : Match) (joined : Hit)
    → ((last : ℕ) → in_window size kind last joined ≡ list_all (in_window size kind last) m.includes)
    → (list_any (λ window. survives (lies_in_window kind window) m) (windows_round size kind (Some joined)) ≡ true)
    ↔ ((last : ℕ) × (made_in (in_window size kind last) m ≡ true))
by_joined size kind m joined holds = (found, back)
  where
    found : list_any (λ window. survives (lies_in_window kind window) m) (windows_round size kind (Some joined)) ≡ true → (last : ℕ) × (made_in (in_window size kind last) m ≡ true)
    found h =
        let one = one_below (λ n. survives (in_window size kind (end_in kind joined + n)) m) (room size kind m joined) (sym (left_by_numbers size kind m joined) ∙ h) in (
          end_in kind joined + one.0,
          (λ i. sym (holds (end_in kind joined + one.0)) i && survives (in_window size kind (end_in kind joined + one.0)) m)
              ∙ (λ i. ends_inside (end_in kind joined) (room size kind m joined) one.0 (start_in kind joined) size refl one.1 i && one.2 i),
        )

    back : (last : ℕ) × (made_in (in_window size kind last) m ≡ true) → list_any (λ window. survives (lies_in_window kind window) m) (windows_round size kind (Some joined)) ≡ true
    back made_there =
        let last = made_there.0 in
        let parts = and_parts (list_all (in_window size kind last) m.includes) (survives (in_window size kind last) m) made_there.1 in
        let number = number_inside last (end_in kind joined) (start_in kind joined) size (holds last ∙ parts.0) in
        left_by_numbers size kind m joined
        ∙ any_below (λ n. survives (in_window size kind (end_in kind joined + n)) m) (room size kind m joined) (last - end_in kind joined) number.0
        (ap (λ n. survives (in_window size kind n) m) number.1 ∙ parts.1)

window_made-joined : (size : ℕ) (kind : TextUnit) (m : Match) (first : Hit) (rest : List Hit) → m.includes ≡ first ∷ rest
    → (list_any (λ window. survives (lies_in_window kind window) m) (windows_round size kind (join (first ∷ rest))) ≡ true)
    ↔ ((last : ℕ) × (made_in (in_window size kind last) m ≡ true))
window_made-joined size kind m first rest is = by_joined size kind m _ (λ last. window_holds_all size kind last first rest ∙ ap (list_all (in_window size kind last)) (sym is))

pub window_made : (size : ℕ) (kind : TextUnit) (item : Span) (m : Match) → has_include m ≡ true
    → (satisfied (filtered_match (F.Window size kind) item m) ≡ true) ↔ ((last : ℕ) × (made_in (in_window size kind last) m ≡ true))
window_made size kind item m h = by_includes m.includes refl h
  where
    by_includes : (hits : List Hit) → m.includes ≡ hits → is_not_empty hits ≡ true
        → (satisfied (filtered_match (F.Window size kind) item m) ≡ true) ↔ ((last : ℕ) × (made_in (in_window size kind last) m ≡ true))
    by_includes [] is some = cc
    by_includes (first ∷ rest) is some =
        let whole = window_made-joined size kind m first rest is in
        let same = left_by_choices size kind m item ∙ ap (λ hits. list_any (λ window. survives (lies_in_window kind window) m) (windows_round size kind (join hits))) is in
        (λ left. whole.0 (sym same ∙ left), λ made_there. same ∙ whole.1 made_there)
