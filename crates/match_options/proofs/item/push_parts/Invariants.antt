-- The items of the parts so far were added.
use Rattle.std.proofs.Common.{◌≡◌, ◌++◌, map, take}
use Rattle.std.specs.Prelude.{flat_map}
use Rattle.match_options.specs.Items.{item, part_items}
use Rattle.match_options.proofs.item.push_parts.Given as goal

abbrev pub invariant-loop-part : goal.invariant-loop-part
invariant-loop-part l = map item l.items ≡ map item l.fn.items ++ flat_map part_items (take l.part-index l.part-items)
