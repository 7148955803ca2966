-- The rows of a term stand from its start up to the next one; one that is not there has none.
use Rattle.std.proofs.Common.{length, ap, sym, ◌∙◌}
use Rattle.index_document.specs.Rows.{entries_of, runs_of}
use Rattle.index_document.proofs.PlaceLemmas.{run-found, run-none}
use Rattle.index_document.proofs.index_document.run_of.Goals as goal

pub returns-in-Some-clause-run : goal.returns-in-Some-clause-run
returns-in-Some-clause-run c =
    let parts = c.args.parts.now in
    let indexed = c.requires.indexed in
    let runs = runs_of (entries_of parts.leaves) parts.ids.items in
    let total = c.len.ensures ∙ ap length indexed.rows_are in
    let known = c.run_at.ensures in
    run-found parts.leaves parts.rows parts.ids.items parts.starts.items c.run_at.result.term c.in-Some.number c.run_at.result.first c.run_at.result.end indexed
    c.doc-doc.ensures.distinct c.in-Some.ensures.found.0 (sym known.term) (known.first runs indexed.starts_are total) (known.end runs indexed.starts_are total) known.fits

pub returns-in-None-clause-run : goal.returns-in-None-clause-run
returns-in-None-clause-run c =
    let parts = c.args.parts.now in run-none parts.leaves parts.rows parts.ids.items c.args.term c.requires.terms c.doc-doc.ensures.distinct c.in-None.ensures.none
