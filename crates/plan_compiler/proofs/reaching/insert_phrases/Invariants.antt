-- What is in the set, with the phrases that are left, is all.
use Rattle.std.proofs.Common.{◌≡◌, drop}
use Rattle.std.specs.Prelude.{fold}
use Rattle.std.specs.BTreeSet.{insert_key}
use Rattle.thesaurus_file.specs.Phrases.{phrase_cmp}
use Rattle.plan_compiler.proofs.reaching.insert_phrases.Given as goal

abbrev pub invariant-loop-phrase : goal.invariant-loop-phrase
invariant-loop-phrase l = fold (insert_key phrase_cmp) l.reached.keys (drop l.phrase-index l.phrases) ≡ fold (insert_key phrase_cmp) l.fn.reached.keys l.fn.phrases
