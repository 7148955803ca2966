-- None of the items so far is a pattern.
use Rattle.std.proofs.Common.{◌≡◌, map, drop}
use Rattle.std.specs.List.{list_any}
use Rattle.all_matches.specs.Variants as the
use Rattle.match_options.specs.Items.{item}
use Rattle.plan_compiler.proofs.variants.holds_pattern.Given as goal

abbrev pub invariant-loop-item : goal.invariant-loop-item
invariant-loop-item l = list_any the.is_pattern (map item (drop l.item-index l.phrase)) ≡ list_any the.is_pattern (map item l.phrase)
