-- No part so far is badly formed.
use Rattle.std.proofs.Common.{◌≡◌, drop}
use Rattle.std.specs.List.{list_any}
use Rattle.match_options.specs.Patterns.{is_bad_pattern, holds_bad_pattern}
use Rattle.match_options.proofs.pattern.has_bad_pattern.Given as goal

abbrev pub invariant-loop-part : goal.invariant-loop-part
invariant-loop-part l = list_any is_bad_pattern (drop l.part-index l.part-items) ≡ holds_bad_pattern l.string
