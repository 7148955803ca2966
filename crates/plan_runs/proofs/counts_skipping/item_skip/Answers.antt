-- By the groups of an item that asks for a hit.
use Rattle.std.proofs.Common.{◌≡◌, ◌∙◌, Bool, true, false, cond, map, sym, ap, Some, arith}
use Rattle.std.specs.Prelude.{nat_lt}
use Rattle.std.proofs.lemmas.Bool.{le-ltb, lt-ltb}
use Rattle.index_versions.specs.FirstPlaces.{soonest}
use Rattle.plan_runs.specs.steps.RunShapes.{term_groups}
use Rattle.plan_runs.specs.steps.Skips.{variants_skip}
use Rattle.plan_runs.proofs.SkipViews.{groups_listed}
use Rattle.plan_runs.proofs.TermReadings.{groups_read}
use Rattle.plan_runs.proofs.counts_skipping.item_skip.Goals as goal

pub returns-then-item-eq0-clause-says : goal.returns-then-item-eq0-clause-says
returns-then-item-eq0-clause-says g c =
    let item = c.args.item.now in
    let none : nat_lt 0 item.least ≡ false = le-ltb 0 item.least (omega (arith, c.if-item-eq0.true)) in
    sym (ap (λ (b : Bool). cond b (soonest (map (λ group. variants_skip c.args.doc.0 c.args.part group.1) (term_groups item.groups.items))) (Some 0)) none)

pub returns-clause-says : goal.returns-clause-says
returns-clause-says g c =
    let item = c.args.item.now in
    let some : nat_lt 0 item.least ≡ true = lt-ltb 0 item.least (omega (arith, c.if-item-eq0.false)) in
    c.groups_skip.ensures.says
    ∙ groups_listed c.args.doc.0 c.args.part item.groups.items
    ∙ sym (ap (λ (b : Bool). cond b (soonest (map (λ group. variants_skip c.args.doc.0 c.args.part group.1) (term_groups item.groups.items))) (Some 0)) some)

pub returns-clause-price : goal.returns-clause-price
returns-clause-price g c = omega (arith, c.groups_skip.ensures.price, groups_read c.args.item.now.groups.items)
