-- The characters so far pass, and the run is they and what is left of it.
use Rattle.std.proofs.Common.{◌≡◌, ◌+◌, drop}
use Rattle.std.specs.List.{prefix_len}
use Rattle.ft_base.specs.Letters.{is_digit}
use Rattle.ft_base.proofs.letters.digit_run.Given as goal

abbrev pub invariant-loop-letter : goal.invariant-loop-letter
invariant-loop-letter l = record {
  here : l.size ≡ l.letter-index;
  left : l.letter-index + prefix_len is_digit (drop l.letter-index l.letters) ≡ prefix_len is_digit l.letters;
}
