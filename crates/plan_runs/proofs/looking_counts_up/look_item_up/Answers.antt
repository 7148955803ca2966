-- By the groups of an item that asks for a hit.
use Rattle.std.proofs.Common.{◌≡◌, ◌∙◌, Bool, true, cond, map, ap, Some, arith}
use Rattle.std.specs.Prelude.{nat_lt}
use Rattle.std.proofs.lemmas.Bool.{lt-ltb}
use Rattle.index_versions.specs.FirstPlaces.{soonest}
use Rattle.plan_runs.specs.steps.RunShapes.{term_groups}
use Rattle.plan_runs.specs.steps.Skips.{variants_skip}
use Rattle.plan_runs.proofs.looking_counts_up.look_item_up.Goals as goal

pub returns-clause-none : goal.returns-clause-none
returns-clause-none c h part =
    let item = c.args.item.now in
    let some : nat_lt 0 item.least ≡ true = lt-ltb 0 item.least (omega (arith, c.if-item-eq0.false)) in
    ap (λ (b : Bool). cond b (soonest (map (λ group. variants_skip c.args.doc.0 part group.1) (term_groups item.groups.items))) (Some 0)) some
    ∙ c.look_groups_up.ensures.none h part
