-- From one end of a window to the next.
use Rattle.std.proofs.Common.{sym, ◌+◌, ◌-◌, ◌<◌, arith}
use Rattle.std.specs.List.{list_all}
use Rattle.counted_shapes.specs.Fields.{in_window}
use Rattle.counted_shapes.specs.Shapes.{has_enough}
use Rattle.place_merges.specs.steps.Searching.{shown_all}
use Rattle.place_merges.proofs.MoveLemmas.{moved_on}
use Rattle.count_merges.specs.Groups.{all_counted}
use Rattle.count_merges.specs.steps.Passing.{holds_all, shown_item}
use Rattle.count_merges.proofs.FitLemmas.{in_no_text, in_text, none_fits, one_fits, started_hold}
use Rattle.count_merges.proofs.StartLemmas.{not_tried, started_moved, started_sound, tried_fits, tried_on}
use Rattle.count_merges.proofs.fitting.fit_in_window.Goals as goal

pub returns-then-span-clause-answer : goal.returns-then-span-clause-answer
returns-then-span-clause-answer g c =
    let unit = g.U.Units.number c.args.units.now in
    let rises = g.met.U.Units.rises c.args.units.now in
    λ kind same asks.
    sym (none_fits unit rises c.args.size g.H.Hits.stand c.args.span kind 0 (in_no_text unit rises c.args.size g.H.Hits.stand c.args.span c.if-span.true)
    c.args.items.now.items (λ other h. absurd (omega (arith, h))))

pub loop-last-init : goal.loop-last-init
loop-last-init g c =
    let stand = g.H.Hits.stand in
    let unit = g.U.Units.number c.args.units.now in
    let rises = g.met.U.Units.rises c.args.units.now in
    let items = c.args.items.now.items in
    let now = c.start_items.new.items.items in
    record {
      all_sound = started_sound unit (record { size = c.args.size; to = c.args.span.to }) c.args.span.from now items c.start_items.ensures (omega (arith, c.if-span.false));
      tried = λ kind same.
          not_tried (holds_all stand unit (record { size = c.args.size; to = c.args.span.to }) now)
          (λ last. list_all (has_enough (in_window c.args.size kind last)) (all_counted stand unit c.args.span items))
          (λ other. started_hold unit rises c.args.size stand c.args.span kind other now items c.start_items.ensures same);
      moved = started_moved unit (record { size = c.args.size; to = c.args.span.to }) c.args.span.from now items c.start_items.ensures stand g.H.Hits.plain c.args.steps.now;
    }

pub returns-then-next-last-clause-answer : goal.returns-then-next-last-clause-answer
returns-then-next-last-clause-answer g c =
    let stand = g.H.Hits.stand in
    let unit = g.U.Units.number c.args.units.now in
    let rises = g.met.U.Units.rises c.args.units.now in
    let items = c.args.items.now.items in
    λ kind same asks.
    sym (one_fits unit rises c.args.size stand c.args.span kind c.loop-last.last items asks
    (tried_fits (holds_all stand unit (record { size = c.args.size; to = c.args.span.to }) c.loop-last.items.items)
    (holds_all stand unit (record { size = c.args.size; to = c.args.span.to }) c.lead_of_items-next.new.items.items)
    (λ last. list_all (has_enough (in_window c.args.size kind last)) (all_counted stand unit c.args.span items))
    c.loop-last.last (c.from.result + c.from-2.result + 1) c.lead_of_items-next.result (c.loop-last.invariant.tried kind same)
    c.lead_of_items-next.ensures.leads c.lead_of_items-next.ensures.same c.if-next-last.true))

pub loop-last-preserved : goal.loop-last-preserved
loop-last-preserved g c =
    let stand = g.H.Hits.stand in
    let unit = g.U.Units.number c.args.units.now in
    let items = c.args.items.now.items in
    let shown = shown_item stand g.H.Hits.plain in
    record {
      all_sound = c.lead_of_items-next.ensures.sound;
      tried = λ kind same.
          tried_on (holds_all stand unit (record { size = c.args.size; to = c.args.span.to }) c.loop-last.items.items)
          (holds_all stand unit (record { size = c.args.size; to = c.args.span.to }) c.lead_of_items-next.new.items.items)
          (λ last. list_all (has_enough (in_window c.args.size kind last)) (all_counted stand unit c.args.span items))
          c.loop-last.last (c.from.result + c.from-2.result + 1) c.lead_of_items-next.result (c.loop-last.invariant.tried kind same)
          c.lead_of_items-next.ensures.leads c.lead_of_items-next.ensures.same;
      moved =
          moved_on (shown_all shown items) (shown_all shown c.loop-last.items.items) (shown_all shown c.lead_of_items-next.new.items.items)
          c.args.steps.now c.loop-last.steps c.lead_of_items-next.new.steps c.loop-last.invariant.moved c.lead_of_items-next.ensures.moved;
    }

pub returns-clause-answer : goal.returns-clause-answer
returns-clause-answer g c =
    let stand = g.H.Hits.stand in
    let unit = g.U.Units.number c.args.units.now in
    let rises = g.met.U.Units.rises c.args.units.now in
    let limit = c.from.result + c.from-2.result + 1 in
    let last : unit (c.args.span.to - 1) + c.args.size < limit = omega (arith, c.number_of.ensures, c.from.ensures, c.from-2.ensures) in
    λ kind same asks.
    sym (none_fits unit rises c.args.size stand c.args.span kind limit (in_text unit rises c.args.size stand c.args.span limit last)
    c.args.items.now.items (λ other h. (c.loop-last.invariant.tried kind same).none other (omega (arith, h, c.loop-last-test.false))))
