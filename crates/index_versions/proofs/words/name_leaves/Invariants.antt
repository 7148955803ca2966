-- The leaves up to the next one are made, and mean what they did.
use Rattle.std.proofs.Common.{◌≡◌, map, take}
use Rattle.index_document.specs.Terms as by_id
use Rattle.index_versions.specs.steps.Held.{leaf_under}
use Rattle.index_versions.specs.steps.Naming.{all_words, entries_of, IsKnown, IsNamed}
use Rattle.index_versions.proofs.words.name_leaves.Given as goal

abbrev pub invariant-loop-leaf : goal.invariant-loop-leaf
invariant-loop-leaf l = record {
  named : IsNamed l.fn.dictionary (entries_of (all_words (take l.leaf-index l.leaves))) l.dictionary (by_id.words_of l.made.items);
  leaves : map (leaf_under l.dictionary.given) l.made.items ≡ take l.leaf-index l.leaves;
  known : IsKnown l.counts l.first l.dictionary;
}
