-- The keys of the first words were put into the set.
use Rattle.std.proofs.Common.{◌≡◌, map, take, fold}
use Rattle.std.specs.Prelude.{string_bytes}
use Rattle.match_options.specs.Items.{item}
use Rattle.word_lists.specs.KeySets.{with_key}
use Rattle.plan_compiler.specs.Stops.{item_key}
use Rattle.plan_compiler.proofs.stops.insert_keys.Given as goal

abbrev pub invariant-loop-item : goal.invariant-loop-item
invariant-loop-item l = map string_bytes l.keys.keys ≡ fold with_key (map string_bytes l.fn.keys.keys) (map item_key (map item (take l.item-index l.item-items)))
