-- The first cursors were aimed.
use Rattle.std.proofs.Common.{◌≡◌, ◌+◌, length, map, take}
use Rattle.index_versions.specs.Terms.{aimed_at}
use Rattle.index_versions.proofs.term_sources.aim_all.Given as goal

abbrev pub invariant-loop-number : goal.invariant-loop-number
invariant-loop-number g l = record {
  same : l.sources.items ≡ l.fn.sources.items;
  many : length l.cursors.items ≡ length l.fn.sources.items;
  done : take l.number l.cursors.items ≡ map (aimed_at l.doc.0 l.span) (take l.number l.fn.sources.items);
  counted : l.steps ≡ l.fn.steps + l.number;
}
