-- A place in a posting list.
use Rattle.std.specs.Prelude.{ℕ, List}
use Rattle.postings.specs.declared.row.Row.{Row}

-- the rows of the list, and how many of them stand before the place
pub record RowPlace : Type 0 where
  pub rows : List Row
  pub place : ℕ

abbrev pub at_place : List Row → ℕ → RowPlace
at_place rows place = record { rows = rows; place = place }
