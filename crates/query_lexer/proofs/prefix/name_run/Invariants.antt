-- The characters so far pass, and the run is they and what is left of it.
use Rattle.std.proofs.Common.{◌≡◌, ◌+◌, drop}
use Rattle.std.specs.List.{prefix_len}
use Rattle.ft_base.specs.Characters.{is_name_char}
use Rattle.query_lexer.proofs.prefix.name_run.Given as goal

abbrev pub invariant-loop-letter : goal.invariant-loop-letter
invariant-loop-letter l = record {
  here : l.size ≡ l.letter-index;
  left : l.letter-index + prefix_len is_name_char (drop l.letter-index l.letters) ≡ prefix_len is_name_char l.letters;
}
