-- The tokens so far, then those in the tags and texts that are left, are all; each step leaves fewer of these.
use Rattle.std.proofs.Common.{◌≡◌, ◌≤◌, ◌++◌, flat_map, length}
use Rattle.ft_base.specs.declared.limits.TheConstants.{MAX_TOKENS}
use Rattle.plain_tree.specs.View.{node}
use Rattle.tokenizer.specs.steps.Numbering.{tokens_left}
use Rattle.tokenizer.specs.Parts.{parts_of_event}
use Rattle.tokenizer.specs.Tokens.{tokens}
use Rattle.tokenizer.specs.steps.Walks.{events_left}
use Rattle.tokenizer.proofs.tokens.tokens_of_tree.Given as goal

abbrev pub invariant-loop-walk : goal.invariant-loop-walk
invariant-loop-walk l = record {
  left : tokens l.abbreviations (node l.tree) ≡ l.out.items ++ tokens_left l.last (flat_map (parts_of_event l.abbreviations) (events_left l.walk));
  few : length l.out.items ≤ MAX_TOKENS;
  sentence : l.last.sentence ≤ length l.out.items;
  paragraph : l.last.paragraph ≤ length l.out.items;
}

abbrev pub decreases-loop-walk : goal.decreases-loop-walk
decreases-loop-walk l = length (events_left l.walk)
