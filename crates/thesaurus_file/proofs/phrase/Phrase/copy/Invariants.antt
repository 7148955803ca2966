-- The copy has the keys so far.
use Rattle.std.proofs.Common.{◌≡◌, map, take}
use Rattle.std.specs.Prelude.{string_bytes}
use Rattle.thesaurus_file.proofs.phrase.Phrase.copy.Given as goal

abbrev pub invariant-loop-key : goal.invariant-loop-key
invariant-loop-key l = l.copy ≡ map string_bytes (take l.key-index l.key-items)
