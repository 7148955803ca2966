-- What is put into the set, with what the links that are left lead to, is all.
use Rattle.std.proofs.Common.{◌≡◌, drop}
use Rattle.std.specs.Prelude.{fold}
use Rattle.std.specs.Option.{option_copied}
use Rattle.std.specs.BTreeSet.{insert_key}
use Rattle.thesaurus_file.specs.Phrases.{phrase_cmp}
use Rattle.thesaurus_file.specs.steps.Walks.{unseen_ends}
use Rattle.thesaurus_file.proofs.thesaurus.insert_ends.Given as goal

abbrev pub invariant-loop-link : goal.invariant-loop-link
invariant-loop-link l =
    fold (insert_key phrase_cmp) l.next.keys (unseen_ends (option_copied l.relationship) l.seen.keys (drop l.link-index l.links))
    ≡ fold (insert_key phrase_cmp) l.fn.next.keys (unseen_ends (option_copied l.relationship) l.seen.keys l.links)
