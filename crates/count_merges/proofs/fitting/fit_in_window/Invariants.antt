-- No window before this one fits.
use Rattle.std.proofs.Common.{◌≡◌, ◌-◌, true}
use Rattle.std.specs.List.{list_all}
use Rattle.ft_base.specs.declared.unit.TextUnit.{TextUnit}
use Rattle.counted_shapes.specs.Fields.{in_window}
use Rattle.counted_shapes.specs.Shapes.{has_enough}
use Rattle.place_merges.specs.steps.Searching.{Moved, shown_all}
use Rattle.count_merges.specs.Groups.{all_counted, backs_of, fronts_of}
use Rattle.count_merges.specs.steps.Passing.{holds_all, is_item_sound, shown_item}
use Rattle.count_merges.proofs.StartLemmas.{Tried}
use Rattle.count_merges.proofs.fitting.fit_in_window.Given as goal

abbrev pub invariant-loop-last : goal.invariant-loop-last
invariant-loop-last g l =
    let stand = g.H.Hits.stand in
    let unit = g.U.Units.number l.units in
    record {
      all_sound : list_all (is_item_sound unit l.window) l.items.items ≡ true;
      tried : (kind : TextUnit) → backs_of stand l.fn.items.items ≡ fronts_of stand l.fn.items.items
          → Tried (holds_all stand unit l.window l.items.items) (λ last. list_all (has_enough (in_window l.size kind last)) (all_counted stand unit l.fn.span l.fn.items.items)) l.last;
      moved : Moved (shown_all (shown_item stand g.H.Hits.plain) l.fn.items.items) (shown_all (shown_item stand g.H.Hits.plain) l.items.items) l.fn.steps l.steps;
    }

abbrev pub decreases-loop-last : goal.decreases-loop-last
decreases-loop-last g l = l.limit - l.last
