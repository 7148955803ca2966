-- Where a word that is needed doesn't stand in the document, none of its spans satisfies the selection.
use Rattle.std.proofs.Common.{sym, subst}
use Rattle.plan_compiler.specs.PlanMeaning.{plan_form, plan_lists}
use Rattle.plan_runs.specs.RunMeaning.{run_of}
use Rattle.plan_runs.specs.steps.OpenedWords.{IsOpened}
use Rattle.plan_runs.specs.steps.RuledOut.{HasNone}
use Rattle.plan_runs.specs.steps.RunShapes.{shape}
use Rattle.plan_runs.proofs.RuledOutLaw.{none_looked_up}
use Rattle.plan_runs.proofs.run.Run.look_up.Goals as goal

pub invariant_of-self : goal.invariant_of-self
invariant_of-self c =
    let inside = c.self.inside in
    let plan = inside.plan.now in
    let version = inside.version.now in
    let own = run_of (plan_form plan) (plan_lists plan) version in
    let known = c.looked_up-self-inside.result in
    let of-doc : HasNone own c.args.doc.0 known.from known.to =
    none_looked_up plan (shape inside.root) version c.self.invariant.0 c.args.doc.0 known.from known.to c.looked_up-self-inside.ensures.most c.look_up-may.result c.looked_up-self-inside.ensures.to c.look_up-may.ensures.none in (
      subst (λ s. IsOpened plan.looks plan.lists.stems version s plan.root) (sym c.look_up-may.ensures.same) c.self.invariant.0,
      subst (λ d. HasNone own d known.from known.to) (sym c.looked_up-self-inside.ensures.doc) of-doc,
    )
