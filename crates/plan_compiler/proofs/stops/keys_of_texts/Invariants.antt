-- The keys of the first strings.
use Rattle.std.proofs.Common.{◌≡◌, [], map, take, fold}
use Rattle.std.specs.Prelude.{flat_map, string_bytes}
use Rattle.word_lists.specs.KeySets.{with_key}
use Rattle.plan_compiler.specs.Stops.{string_keys}
use Rattle.plan_compiler.proofs.stops.keys_of_texts.Given as goal

abbrev pub invariant-loop-text : goal.invariant-loop-text
invariant-loop-text l = map string_bytes l.keys.keys ≡ fold with_key [] (flat_map string_keys (take l.text-index l.texts))
