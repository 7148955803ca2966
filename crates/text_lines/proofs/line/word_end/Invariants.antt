-- No blank stands before the place.
use Rattle.std.proofs.Common.{◌≡◌, ◌+◌, ◌-◌, ◌≤◌, length, drop, not}
use Rattle.std.specs.List.{prefix_len}
use Rattle.ft_base.specs.Characters.{is_blank}
use Rattle.text_lines.proofs.line.word_end.Given as goal

abbrev pub invariant-loop-at : goal.invariant-loop-at
invariant-loop-at l = record {
  within : l.at ≤ length l.text;
  passed : prefix_len (λ byte. not (is_blank byte)) l.text ≡ l.at + prefix_len (λ byte. not (is_blank byte)) (drop l.at l.text);
}

abbrev pub decreases-loop-at : goal.decreases-loop-at
decreases-loop-at l = length l.text - l.at
