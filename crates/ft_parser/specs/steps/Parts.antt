-- How the parts of selections that hold no other parts are read, each step by itself.
use Rattle.std.specs.Prelude.{ℕ, ◌+◌, Bool, ◌||◌, if◌then◌else◌, List, drop, codes, Result, Ok, Err}
use Rattle.ft_base.specs.declared.filter.Filter.{Filter}
use Rattle.ft_base.specs.declared.filter.Filter.TheVariants as F
use Rattle.selection_grammar.specs.declared.symbol.Placed.{Placed}
use Rattle.selection_grammar.specs.declared.parsed.PlacedTimes.{PlacedTimes}
use Rattle.selection_grammar.specs.Keywords.{range, unit, scope, side}
use Rattle.selection_grammar.specs.steps.Reading.{reading, further, first_is, first_number, by_number}

-- a value and the keyword after it
abbrev pub before_word : {A : Type 0} → List ℕ → A → List Placed → ℕ → Result (A × ℕ) ℕ
before_word key value w i = if first_is key (drop i w) then Ok (value, i + 1) else Err i

abbrev pub times_reading : ℕ → List Placed → ℕ → Result (PlacedTimes × ℕ) ℕ
times_reading at w i = further (reading range w i) (λ r n. before_word (codes "times") (record { at = at; range = r }) w n)

abbrev pub distance_reading : List Placed → ℕ → Result (Filter × ℕ) ℕ
distance_reading w i = further (reading range w i) (λ r n. further (reading unit w n) (λ u k. Ok (F.Distance r u, k)))

abbrev pub window_reading : List Placed → ℕ → Result (Filter × ℕ) ℕ
window_reading w i = by_number (λ size. further (reading unit w (i + 1)) (λ u k. Ok (F.Window size u, k))) (Err i) (first_number (drop i w))

unfoldable pub other_filter_reading : List Placed → ℕ → Result (Filter × ℕ) ℕ
other_filter_reading w i =
    if first_is (codes "ordered") (drop i w) then Ok (F.Ordered, i + 1)
    else if first_is (codes "window") (drop i w) then window_reading w (i + 1)
    else if first_is (codes "distance") (drop i w) then distance_reading w (i + 1)
    else if first_is (codes "same") (drop i w) then reading (scope F.SameSentence F.SameParagraph) w (i + 1)
    else if first_is (codes "different") (drop i w) then reading (scope F.DifferentSentence F.DifferentParagraph) w (i + 1)
    else if first_is (codes "entire") (drop i w) then before_word (codes "content") F.EntireContent w (i + 1)
    else Err i

-- a filter with `at`, or another
unfoldable pub filter_reading : List Placed → ℕ → Result (Filter × ℕ) ℕ
filter_reading w i =
    if first_is (codes "at") (drop i w) then reading side w (i + 1) else other_filter_reading w i

abbrev pub begins_other_filter : List Placed → Bool
begins_other_filter w =
    first_is (codes "ordered") w || first_is (codes "window") w || first_is (codes "distance") w || first_is (codes "same") w
    || first_is (codes "different") w || first_is (codes "entire") w

abbrev pub begins_filter : List Placed → Bool
begins_filter w = begins_other_filter w || first_is (codes "at") w
