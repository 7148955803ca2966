-- What is put into the next level, with what is led to from the rest of the last, is all.
use Rattle.std.proofs.Common.{◌≡◌}
use Rattle.std.specs.Prelude.{fold, flat_map}
use Rattle.std.specs.Option.{option_copied}
use Rattle.std.specs.BTreeSet.{insert_key}
use Rattle.thesaurus_file.specs.Links.{links_from}
use Rattle.thesaurus_file.specs.Phrases.{phrase_cmp}
use Rattle.thesaurus_file.specs.steps.Walks.{level_after, unseen_ends}
use Rattle.thesaurus_file.proofs.thesaurus.Thesaurus.next_level.Given as goal

abbrev pub invariant-loop-phrase : goal.invariant-loop-phrase
invariant-loop-phrase l =
    fold (insert_key phrase_cmp) l.next.keys (flat_map (λ phrase. unseen_ends (option_copied l.relationship) l.seen.keys (links_from l.self phrase)) l.phrase-iterator)
    ≡ level_after l.self (option_copied l.relationship) l.seen.keys l.level.keys
