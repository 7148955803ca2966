-- Phrases at the places of a text: where a variant of a phrase stands, and at how many places one of several does.
use Rattle.std.specs.Prelude.{ℕ, ◌+◌, ◌-◌, ◌==◌, Bool, true, ◌&&◌, nat_le, List, [], ◌∷◌, length}
use Rattle.std.specs.List.{list_any, count_by, range_with_len}

-- what a word of a phrase has to be: any word, or a word at a place of one of these lists
pub data Wanted : Type 0 where
  any_word : Wanted
  one_of : List (List ℕ) → Wanted

-- whether the word at a place is what is wanted
abbrev pub fits : ℕ → Wanted → Bool
fits place any_word = true
fits place (one_of lists) = list_any (λ places. list_any (λ other. other == place) places) lists

-- whether the words of a variant stand one after the other, the first at the place
abbrev pub stands_at : ℕ → List Wanted → Bool
stands_at place [] = true
stands_at place (wanted ∷ rest) = fits place wanted && stands_at (place + 1) rest

-- whether they do so and all are before the end
abbrev pub stands_before : ℕ → ℕ → List Wanted → Bool
stands_before to place variant = nat_le (place + length variant) to && stands_at place variant

-- whether one of the variants does; a place counts once however many do
abbrev pub some_stands : ℕ → List (List Wanted) → ℕ → Bool
some_stands to variants place = list_any (stands_before to place) variants

-- at how many places of the span one of the variants stands
abbrev pub places_between : ℕ → ℕ → List (List Wanted) → ℕ
places_between from to variants = count_by (some_stands to variants) (range_with_len from (to - from))
