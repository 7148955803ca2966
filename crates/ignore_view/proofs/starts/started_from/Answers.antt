-- The next start is counted where it is at the place or before it, and else none is.
use Rattle.std.proofs.Common.{◌<◌, ◌≤◌, length, get_or, subst, arith}
use Rattle.index_cursors.proofs.AscendingLemmas.{up_to-fails, up_to-holds}
use Rattle.ignore_view.proofs.starts.started_from.Goals as goal

pub loop-number-preserved : goal.loop-number-preserved
loop-number-preserved c =
    let starts = c.args.starts.now in
    let number = c.loop-number.number in
    let same = c.as_slice-items.ensures.value in
    let there : number < length starts = subst (λ xs. number < length xs) same c.loop-number-test.true in
    let test : get_or starts number 0 ≤ c.args.place = subst (λ xs. get_or xs number 0 ≤ c.args.place) same c.if-items-number.true in
    let more = up_to-holds c.args.place starts number c.as_slice-items.ensures.ascending there test in
    record { most = omega (arith, more); within = omega (arith, there) }

pub returns-else-items-number : goal.returns-else-items-number
returns-else-items-number c =
    let starts = c.args.starts.now in
    let number = c.loop-number.number in
    let same = c.as_slice-items.ensures.value in
    let there : number < length starts = subst (λ xs. number < length xs) same c.loop-number-test.true in
    let test : c.args.place < get_or starts number 0 = subst (λ xs. c.args.place < get_or xs number 0) same (omega (arith, c.if-items-number.false)) in
    let most = up_to-fails c.args.place starts number c.as_slice-items.ensures.ascending there test in
    let least = c.loop-number.invariant.most in
    omega (arith, most, least)
