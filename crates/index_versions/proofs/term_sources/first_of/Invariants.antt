-- The first of the terms so far and of those that are left is the first of all.
use Rattle.std.proofs.Common.{◌≡◌, drop, fold, map}
use Rattle.index_versions.specs.FirstPlaces.{soonest, sooner}
use Rattle.index_versions.specs.Terms.{first_in}
use Rattle.index_versions.proofs.term_sources.first_of.Given as goal

abbrev pub invariant-loop-source : goal.invariant-loop-source
invariant-loop-source l = fold sooner l.first (map (first_in l.doc.0 l.span) (drop l.source-index l.sources.items))
    ≡ soonest (map (first_in l.doc.0 l.span) l.sources.items)
