-- The first items were added.
use Rattle.std.proofs.Common.{◌≡◌, ◌++◌, map}
use Rattle.match_options.specs.Items.{item}
use Rattle.plan_compiler.proofs.compiling_words.push_items.Given as goal

abbrev pub invariant-loop-item : goal.invariant-loop-item
invariant-loop-item l = map item l.all ≡ map item l.fn.all ++ map item l.yielded
