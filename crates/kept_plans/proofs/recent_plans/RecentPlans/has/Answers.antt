-- A text is found where one of the plans has it.
use Rattle.std.proofs.Common.{◌∙◌, ap}
use Rattle.kept_plans.specs.Kept.{is_kept}
use Rattle.kept_plans.specs.Preparation.{texts_of}
use Rattle.kept_plans.proofs.CacheLemmas.{has-lookup}
use Rattle.kept_plans.proofs.recent_plans.RecentPlans.has.Goals as goal

pub returns : goal.returns
returns c =
    c.contains.ensures
    ∙ (has-lookup c.args.text.now c.self.inside.plans.entries c.self.invariant.by_text ∙ ap (λ ps. is_kept c.args.text.now (texts_of ps)) c.self.view_is)
