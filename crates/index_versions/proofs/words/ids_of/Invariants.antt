-- The words up to the next one have their ids.
use Rattle.std.proofs.Common.{take}
use Rattle.index_versions.specs.steps.Naming.{entries_of, IsKnown, IsNamed}
use Rattle.index_versions.proofs.words.ids_of.Given as goal

abbrev pub invariant-loop-number : goal.invariant-loop-number
invariant-loop-number l = record {
  named : IsNamed l.fn.dictionary (entries_of (take l.number l.words)) l.dictionary l.named.items;
  known : IsKnown l.counts l.first l.dictionary;
}
