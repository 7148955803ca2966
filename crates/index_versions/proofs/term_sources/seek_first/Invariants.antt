-- The first of the terms so far and of those that are left is the first of all; each stays as it is.
use Rattle.std.proofs.Common.{◌≡◌, drop, fold, map}
use Rattle.index_versions.specs.FirstPlaces.{soonest, sooner}
use Rattle.index_versions.specs.Terms.{first_in}
use Rattle.index_versions.proofs.term_sources.seek_first.Given as goal

abbrev pub invariant-loop-number : goal.invariant-loop-number
invariant-loop-number l = record {
  same : l.sources.items ≡ l.fn.sources.items;
  says : fold sooner l.first (map (first_in l.doc.0 l.span) (drop l.number l.fn.sources.items)) ≡ soonest (map (first_in l.doc.0 l.span) l.fn.sources.items);
}
