-- The keys of the first words.
use Rattle.std.proofs.Common.{◌≡◌, map, take}
use Rattle.match_options.specs.Items.{item}
use Rattle.plan_compiler.specs.Stops.{item_key}
use Rattle.plan_compiler.proofs.variants.keys_of.Given as goal

abbrev pub invariant-loop-item : goal.invariant-loop-item
invariant-loop-item l = l.keys ≡ map item_key (map item (take l.item-index l.phrase))
