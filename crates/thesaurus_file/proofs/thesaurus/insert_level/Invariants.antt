-- What is seen, with what is left of the level, is all.
use Rattle.std.proofs.Common.{◌≡◌}
use Rattle.std.specs.Prelude.{fold}
use Rattle.std.specs.BTreeSet.{insert_key}
use Rattle.thesaurus_file.specs.Phrases.{phrase_cmp}
use Rattle.thesaurus_file.proofs.thesaurus.insert_level.Given as goal

abbrev pub invariant-loop-phrase : goal.invariant-loop-phrase
invariant-loop-phrase l = fold (insert_key phrase_cmp) l.seen.keys l.phrase-iterator ≡ fold (insert_key phrase_cmp) l.fn.seen.keys l.fn.level.keys
