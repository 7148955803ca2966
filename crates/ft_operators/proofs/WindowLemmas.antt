-- The windows round the joined hit, as many as a size leaves, and the one of a number.
use Rattle.std.proofs.Common.{◌≡◌, refl, ap, sym, ◌∙◌, subst, ℕ, zero, suc, ◌+◌, ◌-◌, ◌<◌, List, drop, min, length, get_or, map, arith}
use Rattle.std.specs.Prelude.{pos, ◌+ℤ◌, ◌-ℤ◌, Some, None}
use Rattle.std.proofs.lemmas.Int.{ints}
use Rattle.std.specs.List.{range_with_len}
use Rattle.std.proofs.lemmas.List.{get_or-map, get_or-drop, length-drop, length-map}
use Rattle.std.proofs.lemmas.List.FromFn.{length-map-range_with_len, get_or-map-range_with_len}
use Rattle.ft_base.specs.declared.filter.Filter.TheVariants as F
use Rattle.ft_base.specs.declared.hit.Hit.{Hit}
use Rattle.ft_base.specs.declared.unit.TextUnit.{TextUnit}
use Rattle.all_matches.specs.declared.window.Window.{Window}
use Rattle.all_matches.specs.Filters.{choices}
use Rattle.all_matches.specs.Join.{join}
use Rattle.all_matches.specs.Positions.{start_in, end_in}
use Rattle.all_matches.specs.Window.{windows_round, window_at}
use Rattle.ft_operators.specs.declared.course.Windows.{Windows}
use Rattle.ft_operators.specs.declared.course.Windows.TheVariants.{Each, Telling, First}
use Rattle.ft_operators.specs.Course.{asked_for, number_among, up_to_zero}
use Rattle.ft_operators.proofs.TellingLemmas.{first_window_gap, nth_window}

windows_length : (size last start count : ℕ) → length (map Some (map (nth_window size last) (range_with_len start count))) ≡ count
windows_length size last start count = length-map (map (nth_window size last) (range_with_len start count)) Some ∙ length-map-range_with_len (nth_window size last) start count

pub length-windows : (size : ℕ) (kind : TextUnit) (joined : Hit) → length (windows_round size kind (Some joined)) ≡ (start_in kind joined + size) - end_in kind joined
length-windows size kind joined =
    length-map-range_with_len (λ n. window_at size (pos (suc (end_in kind joined) + n) -ℤ pos size)) 0 ((start_in kind joined + size) - end_in kind joined)

-- one of the windows that are asked for, by its number
asked_got : (windows : Windows) (size last all lead : ℕ) → (0 < all → size - suc last < all)
    → lead < length (asked_for windows (map Some (map (nth_window size last) (range_with_len 0 all))))
    → (number_among windows size last lead < all)
    × (get_or (asked_for windows (map Some (map (nth_window size last) (range_with_len 0 all)))) lead None ≡ get_or (map Some (map (nth_window size last) (range_with_len 0 all))) (number_among windows size last lead) None)
asked_got Each size last all lead few below = (omega (arith, below, windows_length size last 0 all), refl)
asked_got Telling size last zero lead few below = absurd (omega (arith, below))
asked_got Telling size last (suc all) zero few below = (omega arith, refl)
asked_got Telling size last (suc all) (suc lead) few below =
    let more = map Some (map (nth_window size last) (range_with_len 1 all)) in
    let skip = first_window_gap size last in
    let shorter : length (drop (up_to_zero (nth_window size last 0).from) more) ≡ all - (size - suc last) =
    length-drop (up_to_zero (nth_window size last 0).from) more ∙ (λ i. windows_length size last 1 all i - skip i) in
    (omega (arith, shorter, below), get_or-drop (up_to_zero (nth_window size last 0).from) more lead None ∙ ap (λ n. get_or more n None) (ap (λ k. k + lead) skip ∙ turned (size - suc last) lead))
  where
    turned : (a b : ℕ) → a + b ≡ b + a
    turned a b = omega arith
asked_got First size last zero lead few below = absurd (omega (arith, below))
asked_got First size last (suc all) zero few below = (omega arith, refl)
asked_got First size last (suc all) (suc lead) few below = absurd (omega (arith, below))

few_before : (start size last : ℕ) → 0 < (start + size) - last → size - suc last < (start + size) - last
few_before start size last some = omega (arith, some)

module _ (windows : Windows) (size : ℕ) (kind : TextUnit) (hits : List Hit) (joined : Hit) (lead : ℕ) (is : Some joined ≡ join hits)
    (below : lead < length (asked_for windows (choices (F.Window size kind) hits))) where
  got : (number_among windows size (end_in kind joined) lead < (start_in kind joined + size) - end_in kind joined)
      × (get_or (asked_for windows (map Some (windows_round size kind (Some joined)))) lead None
      ≡ get_or (map Some (windows_round size kind (Some joined))) (number_among windows size (end_in kind joined) lead) None)
  got =
      asked_got windows size (end_in kind joined) ((start_in kind joined + size) - end_in kind joined) lead (few_before (start_in kind joined) size (end_in kind joined))
      (subst (λ j. lead < length (asked_for windows (map Some (windows_round size kind j)))) (sym is) below)

  pub window_below : number_among windows size (end_in kind joined) lead < (start_in kind joined + size) - end_in kind joined
  window_below = got.0

  pub lead_few : lead < (start_in kind joined + size) - end_in kind joined
  lead_few = not_more windows window_below
    where
      not_more : (w : Windows) → number_among w size (end_in kind joined) lead < (start_in kind joined + size) - end_in kind joined → lead < (start_in kind joined + size) - end_in kind joined
      not_more Each h = h
      not_more Telling h = of lead h
        where
          of : (n : ℕ) → number_among Telling size (end_in kind joined) n < (start_in kind joined + size) - end_in kind joined → n < (start_in kind joined + size) - end_in kind joined
          of zero h = h
          of (suc n) h = omega (arith, h)
      not_more First h = h

  pub window_got : Some (nth_window size (end_in kind joined) (number_among windows size (end_in kind joined) lead)) ≡ get_or (asked_for windows (choices (F.Window size kind) hits)) lead None
  window_got =
      let number = number_among windows size (end_in kind joined) lead in
      sym
      (ap (λ j. get_or (asked_for windows (map Some (windows_round size kind j))) lead None) (sym is)
      ∙ got.1
      ∙ get_or-map Some (windows_round size kind (Some joined)) number (window_at size (pos 0)) None (subst (λ n. number < n) (sym (length-windows size kind joined)) window_below)
      ∙ ap Some
      (get_or-map-range_with_len (nth_window size (end_in kind joined)) 0 ((start_in kind joined + size) - end_in kind joined) number number (window_at size (pos 0)) window_below (omega arith)))

-- how many windows are asked for
abbrev pub count_among : Windows → ℕ → ℕ → ℕ → ℕ
count_among Each size last all = all
count_among Telling size last all = all - (size - suc last)
count_among First size last all = min all 1

counted : (windows : Windows) (size last all : ℕ) → (0 < all → size - suc last < all) → count_among windows size last all ≡ length (asked_for windows (map Some (map (nth_window size last) (range_with_len 0 all))))
counted Each size last all few = sym (windows_length size last 0 all)
counted Telling size last zero few = omega arith
counted Telling size last (suc all) few =
    let more = map Some (map (nth_window size last) (range_with_len 1 all)) in
    let shorter : length (drop (up_to_zero (nth_window size last 0).from) more) ≡ all - (size - suc last) =
    length-drop (up_to_zero (nth_window size last 0).from) more ∙ (λ i. windows_length size last 1 all i - first_window_gap size last i) in
    omega (arith, shorter, few (omega arith))
counted First size last zero few = refl
counted First size last (suc all) few = omega arith

pub count_asked : (windows : Windows) (size : ℕ) (kind : TextUnit) (hits : List Hit) (joined : Hit) → Some joined ≡ join hits
    → count_among windows size (end_in kind joined) ((start_in kind joined + size) - end_in kind joined) ≡ length (asked_for windows (choices (F.Window size kind) hits))
count_asked windows size kind hits joined is =
    counted windows size (end_in kind joined) ((start_in kind joined + size) - end_in kind joined) (few_before (start_in kind joined) size (end_in kind joined))
    ∙ ap (λ j. length (asked_for windows (map Some (windows_round size kind j)))) is

-- a window by its last number
last_again : (last size : ℕ) → pos last ≡ ((pos (suc last) -ℤ pos size) +ℤ pos size) -ℤ pos 1
last_again last size = omega (arith, ints)

pub window_shown : (size after lead : ℕ) (window : Window) (last : ℕ) → window.from ≡ pos (suc last) -ℤ pos size → window.to ≡ pos last → last ≡ after + lead
    → window ≡ window_at size (pos (suc after + lead) -ℤ pos size)
window_shown size after lead window last from to is =
    let number : suc last ≡ suc after + lead = omega (arith, is) in
    let first : pos (suc last) -ℤ pos size ≡ pos (suc after + lead) -ℤ pos size = ap (λ n. pos n -ℤ pos size) number in
    let end = to ∙ last_again last size ∙ ap (λ z. (z +ℤ pos size) -ℤ pos 1) first in
    λ i. record { from = (from ∙ first) i; to = end i }
