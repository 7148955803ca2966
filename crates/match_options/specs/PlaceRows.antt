-- Rows of places.
use Rattle.std.specs.Prelude.{ℕ, length}
use Rattle.match_options.specs.declared.place_row.PlaceRow.{PlaceRow}

-- how many places a row has: a word of fewer characters fits in
abbrev pub place_count : PlaceRow → ℕ
place_count row = length row.places.items
