-- The terms of the first keys are marked.
use Rattle.std.proofs.Common.{◌≡◌, length, take}
use Rattle.index_meaning.specs.Entries.{Entry}
use Rattle.index_versions.specs.Versions.{terms_of}
use Rattle.word_lists.specs.Stems.{is_one_of}
use Rattle.plan_runs.specs.steps.MarkedTerms.{MarksAll}
use Rattle.plan_runs.proofs.stem_terms.marks_of.Given as goal

abbrev pub invariant-loop-key : goal.invariant-loop-key
invariant-loop-key l = record {
  size : length l.marks.items ≡ length (terms_of l.version);
  all : MarksAll (λ (term : Entry). is_one_of (take l.key-index l.keys) term.key) l.version l.marks.items;
}
