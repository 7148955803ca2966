-- Whether one of the first terms stands there; each stays as it is.
use Rattle.std.proofs.Common.{◌≡◌, take}
use Rattle.std.specs.List.{list_any}
use Rattle.index_versions.specs.Versions.{stands_in}
use Rattle.index_versions.proofs.term_sources.look_all_up.Given as goal

abbrev pub invariant-loop-number : goal.invariant-loop-number
invariant-loop-number l = record {
  same : l.sources.items ≡ l.fn.sources.items;
  says : l.one ≡ list_any (λ source. stands_in source.term l.doc.0 source.version) (take l.number l.fn.sources.items);
}
