-- The documents so far are stamped, and the others are as they were.
use Rattle.std.proofs.Common.{◌≡◌, length, take}
use Rattle.stamped_documents.specs.Stamps.{restamped}
use Rattle.stamped_documents.proofs.stamping.restamp.Given as goal

abbrev pub invariant-loop-number : goal.invariant-loop-number
invariant-loop-number l = record {
  count : length l.stamps.items ≡ length l.fn.stamps.items;
  stamped : l.stamps.items ≡ restamped l.next (take l.number l.targets) l.fn.stamps.items;
}
