-- The items of the first strings.
use Rattle.std.proofs.Common.{◌≡◌, map, take}
use Rattle.std.specs.Prelude.{flat_map}
use Rattle.match_options.specs.Items.{item}
use Rattle.match_options.specs.Items as items
use Rattle.plan_compiler.proofs.compiling_words.all_items.Given as goal

abbrev pub invariant-loop-string : goal.invariant-loop-string
invariant-loop-string l = map item l.all ≡ flat_map (items.items_of l.wildcards) (take l.string-index l.string-items)
