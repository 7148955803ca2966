-- A place that isn't before the position ends the search, and all before it are.
use Rattle.std.proofs.Common.{◌<◌, ◌≤◌, length, get_or, Some, sym, ap, ◌∙◌, arith}
use Rattle.std.proofs.lemmas.Option.{slice_get-get_or}
use Rattle.index_cursors.proofs.AscendingLemmas.{below-holds, below-fails}
use Rattle.index_cursors.proofs.search.onward.Goals as goal

pub returns-then-place-from-clause-number : goal.returns-then-place-from-clause-number
returns-then-place-from-clause-number c =
    let there : c.loop-at.at < length c.args.places.now = omega (arith, c.loop-at-test.true, c.min-end.ensures, c.len-len.ensures.len) in
    let test : c.args.from ≤ get_or c.args.places.now c.loop-at.at 0 = omega (arith, c.get-place.ensures, c.if-place-from.true) in
    let most = below-fails c.args.from c.args.places.now c.loop-at.at c.requires.ascending there test in
    omega (arith, most, c.loop-at.invariant.from)

pub returns-then-place-from-clause-place : goal.returns-then-place-from-clause-place
returns-then-place-from-clause-place c =
    let there : c.loop-at.at < length c.args.places.now = omega (arith, c.loop-at-test.true, c.min-end.ensures, c.len-len.ensures.len) in
    ap Some c.get-place.ensures ∙ sym (slice_get-get_or c.args.places.now c.loop-at.at 0 there)

pub loop-at-preserved : goal.loop-at-preserved
loop-at-preserved c =
    let there : c.loop-at.at < length c.args.places.now = omega (arith, c.loop-at-test.true, c.min-end.ensures, c.len-len.ensures.len) in
    let test : get_or c.args.places.now c.loop-at.at 0 < c.args.from = omega (arith, c.get-place.ensures, c.if-place-from.false) in
    let more = below-holds c.args.from c.args.places.now c.loop-at.at c.requires.ascending there test in
    record { from = omega (arith, more) }
