-- One plan more stands before those that were copied.
use Rattle.std.proofs.Common.{◌≡◌, ◌∙◌, sym, ap, subst, ◌≤◌, [], ◌∷◌, ◌++◌, length, append_assoc, arith}
use Rattle.std.specs.Prelude.{bytes_eq}
use Rattle.std.specs.List.{IsDistinct}
use Rattle.std.specs.Map.{values_of}
use Rattle.std.proofs.lemmas.List.{map-append}
use Rattle.std.proofs.lemmas.Map.Entries.{length-values_of}
use Rattle.kept_plans.specs.Preparation.{texts_of}
use Rattle.kept_plans.proofs.OrderLemmas.{prefix_again}
use Rattle.kept_plans.proofs.recent_plans.RecentPlans.copy.Goals as goal

pub loop-text-preserved : goal.loop-text-preserved
loop-text-preserved c =
    let plan = c.in-Some.plan.now in
    let copy = c.loop-text.copy in
    let rest = c.next.new.self.iter in
    let inside = c.self.inside.plans.entries in
    let whole : values_of rest ++ plan ∷ copy ≡ c.args.self.now =
    sym (append_assoc (values_of rest) (plan ∷ []) copy)
    ∙ (ap (λ ps. ps ++ copy) (sym (map-append _ rest ((c.in-Some._text.now, plan) ∷ [])))
    ∙ (ap (λ es. values_of es ++ copy) (sym c.in-Some.ensures.steps) ∙ c.loop-text.invariant)) in
    let distinct = subst (λ ps. IsDistinct bytes_eq (texts_of ps)) (c.self.view_is ∙ sym whole) c.self.invariant.distinct in
    let within : length (values_of rest ++ plan ∷ copy) ≤ 64 =
    omega (arith, c.self.invariant.within, length-values_of inside, ap length (c.self.view_is ∙ sym whole)) in
    ap (λ ps. values_of rest ++ ps) (c.in_ok-put.ensures.plans ∙ prefix_again (values_of rest) plan copy distinct within) ∙ whole
