-- Where each text is kept, nothing else is made ready; else it is what was filled.
use Rattle.std.proofs.Common.{◌≡◌, ◌∙◌, sym, ap, subst}
use Rattle.std.specs.Prelude.{All}
use Rattle.std.proofs.lemmas.List.Folds.{list_all-map}
use Rattle.std.proofs.lemmas.List.Sums.{AllPass-from_list_all}
use Rattle.kept_plans.specs.Kept.{all_used, is_kept}
use Rattle.kept_plans.specs.PlanOf.{PlanOf}
use Rattle.kept_plans.specs.Preparation.{texts_of, Preparation}
use Rattle.kept_plans.specs.steps.Recent.{kept_of, AllKept}
use Rattle.kept_plans.proofs.prepared.Prepared.next.Goals as goal

pub returns-then-have_all : goal.returns-then-have_all
returns-then-have_all c =
    let texts = texts_of c.self.inside.plans in
    let used = c.args.used.now in
    record {
      can_keep = c.requires;
      after = subst (λ (p : Preparation). AllKept (texts_of used) p.kept.texts) c.self.view_is
          (AllPass-from_list_all (λ t. is_kept t texts) (texts_of used)
          (list_all-map (λ t. is_kept t texts) (λ (p : PlanOf). p.text) used ∙ (sym c.have_all.ensures ∙ c.if-have_all.true)));
    }

pub returns-in-Ok : goal.returns-in-Ok
returns-in-Ok c =
    let used = c.args.used.now in
    let under : PlanOf → Type 0 = λ p. p.lists ≡ c.args.self.now.lists in
    let before : All under c.self.inside.plans =
    subst (λ (p : Preparation). All (λ plan. plan.lists ≡ p.lists) c.self.inside.plans) c.self.view_is c.self.invariant in
    record {
      can_keep = c.requires;
      after = record {
        under = c.in-Ok.ensures.under c.args.self.now.lists c.requires.lists (subst (All under) (sym c.in_ok-plans.ensures) before);
        kept = c.in-Ok.ensures.kept
            ∙ (ap (λ ps. all_used (texts_of used) (kept_of ps c.self.inside.hits)) c.in_ok-plans.ensures
            ∙ ap (λ (p : Preparation). all_used (texts_of used) p.kept) c.self.view_is);
      };
    }
