-- The number of the first digits.
use Rattle.std.proofs.Common.{◌≡◌, ◌≤◌, ◌+◌, take}
use Rattle.ft_base.specs.Letters.{number_of}
use Rattle.ft_base.specs.Limits.{max_number}
use Rattle.ft_base.proofs.letters.number_of.Given as goal

abbrev pub invariant-loop-digit : goal.invariant-loop-digit
invariant-loop-digit l = record {
  value : l.number ≡ number_of (take l.digit-index l.digits);
  small : l.number ≤ max_number + 1;
}
