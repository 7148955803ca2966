-- The cursors were aimed, and the search for a field went on from there.
use Rattle.std.proofs.Common.{◌∙◌, ap, map, sym, ℕ}
use Rattle.std.specs.Prelude.{Option, nat_lt}
use Rattle.std.specs.List.{list_any}
use Rattle.all_matches.proofs.ListTests.{list_any-map}
use Rattle.counted_shapes.specs.Accepted.{fit_in}
use Rattle.plan_runs.specs.steps.RunShapes.{item_bounds, term_counts}
use Rattle.plan_runs.proofs.CountAims.{backs_kept, bounds_kept, counted_are, fronts_kept, terms_bounds}
use Rattle.plan_runs.proofs.counts_holding.counts_hold.Goals as goal

pub items_fit-requires-clause-asks : goal.items_fit-requires-clause-asks
items_fit-requires-clause-asks g c =
    let asks = λ (bounds : ℕ × Option ℕ). nat_lt 0 bounds.0 in
    let words = map term_counts c.args.counts.now.words.items in
    sym (list_any-map asks item_bounds c.aim_items.new.items.items)
    ∙ ap (list_any asks) (c.aim_items.ensures.bounds ∙ c.requires.bounds)
    ∙ list_any-map asks terms_bounds words
    ∙ c.requires.asks

pub returns-clause-says : goal.returns-clause-says
returns-clause-says g c =
    let field = c.args.counts.now.field in
    c.items_fit.ensures.says
    ∙ ap (fit_in field) (counted_are c.args.place.now field c.aim_items.new.items.items (map term_counts c.args.counts.now.words.items) (c.aim_items.ensures.bounds ∙ c.requires.bounds)
    (c.aim_items.ensures.front_sizes ∙ c.requires.fronts) c.aim_items.ensures.fronts)

pub returns-clause-same : goal.returns-clause-same
returns-clause-same g c =
    let aimed = c.aim_items.new.items.items in
    let then = c.items_fit.new.items.items in
    let stay = c.items_fit.ensures.lists in
    let bounds = bounds_kept aimed then stay ∙ c.aim_items.ensures.bounds in
    let fronts = fronts_kept aimed then stay ∙ c.aim_items.ensures.front_sizes in
    let backs = backs_kept aimed then stay ∙ c.aim_items.ensures.back_sizes in
    λ i. record { field = c.args.counts.now.field; words = c.aim_items.ensures.words i; bounds = bounds i; fronts = fronts i; backs = backs i }
