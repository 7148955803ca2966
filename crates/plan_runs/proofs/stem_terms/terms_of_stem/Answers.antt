-- The marked terms are enough.
use Rattle.std.proofs.Common.{subst, Bor, List, ℕ}
use Rattle.index_meaning.specs.Entries.{Entry}
use Rattle.word_lists.specs.Stems.{is_one_of}
use Rattle.plan_runs.specs.steps.MarkedTerms.{MarksAll}
use Rattle.plan_runs.specs.steps.OpenedItems.{word_test}
use Rattle.plan_runs.proofs.MarkLemmas.{marks_enough, stem_asked}
use Rattle.plan_runs.proofs.stem_terms.terms_of_stem.Goals as goal

pub marked-requires-clause-all : goal.marked-requires-clause-all
marked-requires-clause-all c =
    let opening = c.args.opening.now in
    let version = opening.version.now in
    let stems = opening.lists.now.stems in
    let stem = c.args.stem.now in
    let marks = c.in_ok-marks.marks.items in
    marks_enough version stems stem c.in_ok-keys.keys marks (word_test opening.looks stems c.args.test.now)
    (stem_asked opening.looks stems c.args.test.now stem c.requires)
    c.in_ok-keys.ensures
    (subst (λ (keys : List (Bor (List ℕ))). MarksAll (λ (term : Entry). is_one_of keys term.key) version marks) c.as_slice.ensures c.in_ok-marks.ensures.all)
