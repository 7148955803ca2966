-- One construct on, or to where symbols stop: before a filter too many, in or after a construct, or after a whole selection.
use Rattle.std.proofs.Common.{◌≡◌, ◌≤◌, ◌-◌, true, false, Err, drop, take, length, sym, ◌∙◌, ap, subst, arith}
use Rattle.ft_base.specs.declared.fault.QueryFault.TheVariants as Q
use Rattle.ft_parser.specs.steps.Ending.{ends_before}
use Rattle.ft_parser.specs.Limits.{open_within}
use Rattle.ft_parser.specs.steps.Scan.{Fails, Scans, Stops, stopped}
use Rattle.ft_parser.specs.steps.State.{state_of}
use Rattle.ft_parser.specs.steps.Turns.{state_turn}
use Rattle.ft_parser.proofs.ScanLaws.{start_stands, turn_goes, turn_further, turn_stands, turn_fails, stuck_goes, stuck_further, stuck_scans, deep_fails, end_stops}
use Rattle.ft_parser.proofs.scan.scan_symbols.Goals as goal

pub loop-state-init : goal.loop-state-init
loop-state-init c = start_stands c.args.symbols.now (state_of c.start-state.result) c.start-state.ensures

pub returns-then-begins_deep_filter : goal.returns-then-begins_deep_filter
returns-then-begins_deep_filter c =
    let test = c.loop-state-test.ensures in
    let is_false = c.loop-state-test.true in
    let known = c.ends_before.ensures in
    let open_end : ends_before (state_of c.loop-state.state) (drop c.loop-state.next c.args.symbols.now) ≡ false = cc in
    subst (λ at. Fails c.args.symbols.now (Q.Deep at)) (sym c.place_at-at.ensures)
    (deep_fails c.args.symbols.now c.loop-state.next c.loop-state.depth (state_of c.loop-state.state) c.loop-state.invariant open_end (sym c.begins_deep_filter.ensures ∙ c.if-begins_deep_filter.true))

pub depth_after-requires-clause-further : goal.depth_after-requires-clause-further
depth_after-requires-clause-further c = let more = turn_further c.args.symbols.now c.loop-state.next c.in-Ok.end c.loop-state.depth (state_of c.loop-state.state) (state_of c.in-Ok.there) c.loop-state.invariant (sym c.if-begins_deep_filter.ensures) c.in-Ok.ensures in omega (arith, more)

pub depth_after-requires-clause-within : goal.depth_after-requires-clause-within
depth_after-requires-clause-within c = let there = turn_goes c.args.symbols.now c.loop-state.next c.in-Ok.end c.loop-state.depth (state_of c.loop-state.state) (state_of c.in-Ok.there) c.loop-state.invariant (sym c.if-begins_deep_filter.ensures) c.in-Ok.ensures in there.within

pub loop-state-smaller : goal.loop-state-smaller
loop-state-smaller c =
    let more = turn_further c.args.symbols.now c.loop-state.next c.in-Ok.end c.loop-state.depth (state_of c.loop-state.state) (state_of c.in-Ok.there) c.loop-state.invariant (sym c.if-begins_deep_filter.ensures) c.in-Ok.ensures in
    let there = turn_goes c.args.symbols.now c.loop-state.next c.in-Ok.end c.loop-state.depth (state_of c.loop-state.state) (state_of c.in-Ok.there) c.loop-state.invariant (sym c.if-begins_deep_filter.ensures) c.in-Ok.ensures in
    let within = there.within in
    omega (arith, more, within)

pub loop-state-preserved : goal.loop-state-preserved
loop-state-preserved c = turn_stands c.args.symbols.now c.loop-state.next c.in-Ok.end c.loop-state.depth (state_of c.loop-state.state) (state_of c.in-Ok.there) c.loop-state.invariant (sym c.if-begins_deep_filter.ensures) c.in-Ok.ensures c.in-Ok-depth_after.count (sym c.in-Ok-depth_after.ensures)

pub returns-in-Err : goal.returns-in-Err
returns-in-Err c = turn_fails c.args.symbols.now c.loop-state.next c.in-Ok.end c.loop-state.depth (state_of c.loop-state.state) (state_of c.in-Ok.there) c.loop-state.invariant (sym c.if-begins_deep_filter.ensures) c.in-Ok.ensures c.in-Err.fault (sym c.in-Err.ensures)

pub stopped-requires-clause-further : goal.stopped-requires-clause-further
stopped-requires-clause-further c =
    let test = c.loop-state-test.ensures in
    let is_false = c.loop-state-test.true in
    let known = c.ends_before.ensures in
    let open_end : ends_before (state_of c.loop-state.state) (drop c.loop-state.next c.args.symbols.now) ≡ false = cc in
    let stuck : Err c.in-Err-Stuck.end ≡ state_turn (state_of c.loop-state.state) c.args.symbols.now c.loop-state.next = rw c.in-Err-Stuck.field-0-is at c.in-Err-Stuck.ensures in
    subst (λ n. c.loop-state.next ≤ n) (sym c.in-Err-Stuck.end-is) (stuck_further c.args.symbols.now c.loop-state.next c.in-Err-Stuck.end c.loop-state.depth (state_of c.loop-state.state) c.loop-state.invariant open_end (sym c.if-begins_deep_filter.ensures) stuck)

pub stopped-requires-clause-within : goal.stopped-requires-clause-within
stopped-requires-clause-within c =
    let test = c.loop-state-test.ensures in
    let is_false = c.loop-state-test.true in
    let known = c.ends_before.ensures in
    let open_end : ends_before (state_of c.loop-state.state) (drop c.loop-state.next c.args.symbols.now) ≡ false = cc in
    let stuck : Err c.in-Err-Stuck.end ≡ state_turn (state_of c.loop-state.state) c.args.symbols.now c.loop-state.next = rw c.in-Err-Stuck.field-0-is at c.in-Err-Stuck.ensures in
    let there = stuck_goes c.args.symbols.now c.loop-state.next c.in-Err-Stuck.end c.loop-state.depth (state_of c.loop-state.state) c.loop-state.invariant open_end (sym c.if-begins_deep_filter.ensures) stuck in
    subst (λ n. n ≤ length c.args.symbols.now) (sym c.in-Err-Stuck.end-is) there.within

pub returns-in-Err-Stuck : goal.returns-in-Err-Stuck
returns-in-Err-Stuck c =
    let test = c.loop-state-test.ensures in
    let is_false = c.loop-state-test.true in
    let known = c.ends_before.ensures in
    let open_end : ends_before (state_of c.loop-state.state) (drop c.loop-state.next c.args.symbols.now) ≡ false = cc in
    let stuck : Err c.in-Err-Stuck.end ≡ state_turn (state_of c.loop-state.state) c.args.symbols.now c.loop-state.next = rw c.in-Err-Stuck.field-0-is at c.in-Err-Stuck.ensures in
    subst (Scans c.args.symbols.now)
    (sym (c.stopped.ensures ∙ ap (λ n. stopped n (open_within c.loop-state.depth (take (n - c.loop-state.next) (drop c.loop-state.next c.args.symbols.now)))) c.in-Err-Stuck.end-is))
    (stuck_scans c.args.symbols.now c.loop-state.next c.in-Err-Stuck.end c.loop-state.depth (state_of c.loop-state.state) c.loop-state.invariant open_end (sym c.if-begins_deep_filter.ensures) stuck)

pub returns-in-Ok-finish : goal.returns-in-Ok-finish
returns-in-Ok-finish c =
    let test = c.loop-state-test.ensures in
    let is_true = c.loop-state-test.false in
    let known = c.ends_before.ensures in
    let closed : ends_before (state_of c.loop-state.state) (drop c.loop-state.next c.args.symbols.now) ≡ true = cc in
    subst (Stops c.args.symbols.now c.loop-state.next c.loop-state.depth) (sym c.in-Ok-finish.ensures)
    (end_stops c.args.symbols.now c.loop-state.next c.loop-state.depth (state_of c.loop-state.state) c.loop-state.invariant closed)
