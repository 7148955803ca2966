-- The commands so far and those of what is left are all.
use Rattle.std.proofs.Common.{◌≡◌, ℕ, ◌+◌, ◌≤◌, Bool, true, List, ◌++◌, length}
use Rattle.std.specs.List.{list_all}
use Rattle.reply_lines.specs.Given.{block_lengths, is_readable}
use Rattle.session_text.specs.steps.SizedReading.{IsSizedPlace, bytes_held, sized_commands_from, sized_held_length}
use Rattle.session_text.proofs.sized.SizedUnfinished.take_piece.Given as goal

abbrev pub invariant-loop-suffix : goal.invariant-loop-suffix
invariant-loop-suffix l = record {
  known : (at_end : Bool) (more : List ℕ) → sized_commands_from at_end l.fn.self (l.piece ++ more) ≡ l.found ++ sized_commands_from at_end l.self (l.suffix ++ more);
  readable : list_all is_readable l.found ≡ true;
  blocks : block_lengths l.found + sized_held_length l.self + length l.suffix ≤ sized_held_length l.fn.self + length l.piece;
  place : IsSizedPlace l.self;
  counted : l.self.number + length (bytes_held l.self) + length l.suffix ≤ l.fn.self.number + length (bytes_held l.fn.self) + length l.piece;
}

abbrev pub decreases-loop-suffix : goal.decreases-loop-suffix
decreases-loop-suffix l = length l.suffix
