-- The first items were copied.
use Rattle.std.proofs.Common.{◌≡◌, map, take}
use Rattle.match_options.specs.Items.{item}
use Rattle.plan_compiler.proofs.variants.copy_phrase.Given as goal

abbrev pub invariant-loop-item : goal.invariant-loop-item
invariant-loop-item l = map item l.copy ≡ map item (take l.item-index l.phrase)
