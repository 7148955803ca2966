-- The commands so far and those of what is left are all.
use Rattle.std.proofs.Common.{◌≡◌, ℕ, ◌+◌, ◌≤◌, Bool, true, List, ◌++◌, length}
use Rattle.std.specs.List.{list_all, position_or_len}
use Rattle.ft_base.specs.Characters.{is_line_feed}
use Rattle.reply_lines.specs.Given.{block_lengths, is_readable}
use Rattle.session_text.specs.steps.PeriodReading.{commands_from, held_length, is_unended}
use Rattle.session_text.proofs.unfinished.Unfinished.take_piece.Given as goal

abbrev pub invariant-loop-end : goal.invariant-loop-end
invariant-loop-end l = record {
  feed : l.end ≡ position_or_len is_line_feed l.suffix;
  known : (at_end : Bool) (more : List ℕ) → commands_from at_end l.fn.self (l.piece ++ more) ≡ l.found ++ commands_from at_end l.self (l.suffix ++ more);
  readable : list_all is_readable l.found ≡ true;
  blocks : block_lengths l.found + held_length l.self + length l.suffix ≤ held_length l.fn.self + length l.piece;
  unended : is_unended l.self.rest ≡ true;
  count : l.self.lines + length l.suffix ≤ l.fn.self.lines + length l.piece;
}

abbrev pub decreases-loop-end : goal.decreases-loop-end
decreases-loop-end l = length l.suffix
