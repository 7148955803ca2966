-- A term stays where its run is not empty.
use Rattle.std.proofs.Common.{◌<◌, length, nat_lt, ap, refl, ◌∙◌, arith}
use Rattle.std.proofs.lemmas.List.{get_or_read}
use Rattle.index_document.specs.Rows.{entries_of, runs_of}
use Rattle.index_document.proofs.StepLemmas.{starts-length}
use Rattle.index_document.proofs.WideningLemmas.{narrowing-start, narrowing-more, narrowing-indexed, narrowing-ids}
use Rattle.index_document.proofs.terms.narrow.Goals as goal

pub loop-number-init : goal.loop-number-init
loop-number-init c = rw (c.new-ids.ensures.items, c.new-starts.ensures.items) (narrowing-start (entries_of c.args.parts.now.leaves) c.args.parts.now.ids.items)

pub index-first-requires : goal.index-first-requires
index-first-requires c =
    let parts = c.args.parts.now in
    omega (arith, c.loop-number-test.true, c.len-number-end.ensures, parts.ids.ok.0, parts.starts.ok.0, starts-length (entries_of parts.leaves) parts.ids.items parts.starts.items parts.rows c.requires.indexed)

pub loop-number-preserved : goal.loop-number-preserved
loop-number-preserved c =
    let parts = c.args.parts.now in
    let all = entries_of parts.leaves in
    let ids = parts.ids.items in
    let k = c.loop-number.number in
    let there : k < length ids = omega (arith, c.loop-number-test.true, c.len-number-end.ensures, parts.ids.ok.0) in
    let id = c.index.result.now in
    let first = c.index-first.result.now in
    let end = c.start_at-end.result in
    let total = c.len-total.ensures ∙ ap length c.requires.indexed.rows_are in
    rw (c.in_ok-push_if.ensures, c.in_ok-push_if-2.ensures)
    (narrowing-more all ids parts.starts.items k id first end (nat_lt first end) c.loop-number.ids.items c.loop-number.starts.items c.loop-number.invariant c.requires.indexed.starts_are there
    (get_or_read ids k id there c.index.ensures 0) c.index-first.ensures (c.start_at-end.ensures (runs_of all ids) c.requires.indexed.starts_are total) refl)

pub returns-clause-indexed : goal.returns-clause-indexed
returns-clause-indexed c =
    let parts = c.args.parts.now in
    narrowing-indexed (entries_of parts.leaves) parts.ids.items c.loop-number.number c.loop-number.ids.items c.loop-number.starts.items parts.rows c.loop-number.invariant c.requires.indexed.rows_are
    (omega (arith, c.loop-number-test.false, c.len-number-end.ensures, parts.ids.ok.0))

pub returns-clause-ids : goal.returns-clause-ids
returns-clause-ids c =
    let parts = c.args.parts.now in
    narrowing-ids (entries_of parts.leaves) parts.ids.items c.loop-number.number c.loop-number.ids.items c.loop-number.starts.items c.loop-number.invariant
    (omega (arith, c.loop-number-test.false, c.len-number-end.ensures, parts.ids.ok.0))
