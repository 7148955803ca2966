-- How far occurrences have to be counted.
use Rattle.std.specs.Prelude.{ℕ, ◌+◌, Option, Some, None}
use Rattle.ft_base.specs.declared.range.Range.{Range}
use Rattle.ft_base.specs.declared.range.Range.TheVariants.{Exactly, AtLeast, AtMost, FromTo}

-- the least number that tells as much as every greater one
abbrev pub telling_in : Range → ℕ
telling_in (Exactly n) = n + 1
telling_in (AtLeast n) = n
telling_in (AtMost n) = n + 1
telling_in (FromTo low high) = high + 1

abbrev pub telling : Option Range → ℕ
telling None = 1
telling (Some range) = telling_in range
