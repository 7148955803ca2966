-- The tests of the first phrases.
use Rattle.std.proofs.Common.{◌≡◌, map, take}
use Rattle.match_options.specs.Items.{item}
use Rattle.plan_compiler.specs.ItemTests.{asks_nothing, passes}
use Rattle.plan_compiler.specs.WordsMeaning as spec
use Rattle.plan_compiler.proofs.compiling_phrases.tests_of_phrases.Given as goal

abbrev pub invariant-loop-phrase : goal.invariant-loop-phrase
invariant-loop-phrase l = record {
  passes : map (map passes) l.variants ≡ map (map (spec.item_test l.reading)) (map (map item) (take l.phrase-index l.phrases));
  asks : map (map asks_nothing) l.variants ≡ map (map (spec.reads_any l.reading)) (map (map item) (take l.phrase-index l.phrases));
}
