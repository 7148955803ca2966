-- So many levels are passed: the last of them, what is seen with it, and what is reached before those that are left.
use Rattle.std.proofs.Common.{◌≡◌, ◌++◌, ◌-◌, suc, length}
use Rattle.std.specs.Prelude.{flat_map}
use Rattle.std.specs.Option.{option_copied}
use Rattle.std.specs.List.{list_any, range_with_len}
use Rattle.thesaurus_file.specs.Expansion.{asked_level, expanded, is_nearer, level}
use Rattle.thesaurus_file.specs.Phrases.{Phrase, phrase_eq}
use Rattle.thesaurus_file.proofs.thesaurus.Thesaurus.expand.Given as goal

abbrev pub invariant-loop-passed : goal.invariant-loop-passed
invariant-loop-passed l = record {
  last : l.level.keys ≡ level l.self (option_copied l.relationship) l.passed l.phrase;
  known : (q : Phrase) → list_any (phrase_eq q) l.seen.keys ≡ is_nearer l.self (option_copied l.relationship) (suc l.passed) l.phrase q;
  left : l.reached.items ++ flat_map (asked_level l.self (option_copied l.relationship) l.levels l.phrase) (range_with_len (suc l.passed) (length l.self - l.passed))
      ≡ expanded l.self (option_copied l.relationship) l.levels l.phrase;
}
