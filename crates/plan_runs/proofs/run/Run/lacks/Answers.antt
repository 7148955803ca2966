-- What is known of a stretch of the document is known of the span in it, and what is read is within the price.
use Rattle.std.proofs.Common.{◌≡◌, ◌≤◌, ◌+◌, ◌∙◌, ℕ, true, List, sym, ap, subst, arith}
use Rattle.index_meaning.specs.Documents.{Numbered}
use Rattle.plan_compiler.specs.CheapSelections.{is_cheap}
use Rattle.plan_compiler.specs.Lexicon.{lexicon}
use Rattle.plan_compiler.specs.PlanMeaning.{plan_form, plan_lists}
use Rattle.plan_runs.specs.RunPrice.{price_at}
use Rattle.plan_runs.specs.RunMeaning.{RunMeaning, run_of}
use Rattle.plan_runs.specs.steps.AskedSpans.{IsAsked}
use Rattle.plan_runs.specs.steps.CheapShapes.{is_cheap_shape}
use Rattle.plan_runs.specs.steps.RuledOut.{HasNone, part_from, place_of}
use Rattle.plan_runs.specs.steps.RunCosts.{moves_for, run_cost, term_count}
use Rattle.plan_runs.specs.steps.RunShapes.{shape}
use Rattle.plan_runs.specs.steps.RunSkips.{skip}
use Rattle.plan_runs.specs.declared.asked_place.AskedPlace.{AskedPlace}
use Rattle.plan_runs.proofs.RuledOutLaw.{none_skipped}
use Rattle.plan_runs.proofs.RunLaw.{price_law}
use Rattle.plan_runs.proofs.run.Run.lacks.Goals as goal

pub returns-then-holds-clause-none : goal.returns-then-holds-clause-none
returns-then-holds-clause-none g c = λ is.
    let inside = c.self.inside in
    let own = run_of (plan_form inside.plan.now) (plan_lists inside.plan.now) inside.version.now in
    let known : HasNone own c.args.doc.0 inside.ruled_out.from inside.ruled_out.to =
    subst (λ d. HasNone own d inside.ruled_out.from inside.ruled_out.to) (c.holds.ensures.doc c.if-holds.true) c.self.invariant.1 in
    subst (λ (run : RunMeaning). HasNone run c.args.doc.0 inside.ruled_out.from inside.ruled_out.to) c.self.view_is known c.requires.there c.args.span c.requires.inside
    (c.holds.ensures.after c.if-holds.true) (c.holds.ensures.ends_before c.if-holds.true)

-- what is known after it looked how far the words are
pub invariant_of-self : goal.invariant_of-self
invariant_of-self g c =
    let plan = c.self.inside.plan.now in
    let version = c.self.inside.version.now in
    let run = shape c.self.inside.root in
    let known = c.answered-self-inside.result in
    let to-is = c.answered-self-inside.ensures.to in
    let from-is = ap (λ (from : ℕ). place_of (skip c.args.doc.0 (part_from from) run)) c.answered-self-inside.ensures.from in
    let place = c.skip_from-to.ensures.says in
    let bound = c.skip_from-to.type_inv in
    let small : known.to ≤ 4294967295 = omega (arith, bound, to-is) in
    let least : known.to ≤ place_of (skip c.args.doc.0 (part_from known.from) run) = omega (arith, to-is, place, from-is) in (
      c.self.invariant.0,
      subst (λ d. HasNone (run_of (plan_form plan) (plan_lists plan) version) d known.from known.to) (sym c.answered-self-inside.ensures.doc)
          (none_skipped plan run version c.self.invariant.0 c.args.doc.0 known.from known.to small least),
    )

pub returns-clause-none : goal.returns-clause-none
returns-clause-none g c = λ is.
    let plan = c.self.inside.plan.now in
    let version = c.self.inside.version.now in
    let run = shape c.self.inside.root in
    let known = c.answered-self-inside.result in
    let to-is = c.answered-self-inside.ensures.to in
    let from-is = ap (λ (from : ℕ). place_of (skip c.args.doc.0 (part_from from) run)) c.answered-self-inside.ensures.from in
    let place = c.skip_from-to.ensures.says in
    let bound = c.skip_from-to.type_inv in
    let small : known.to ≤ 4294967295 = omega (arith, bound, to-is) in
    let least : known.to ≤ place_of (skip c.args.doc.0 (part_from known.from) run) = omega (arith, to-is, place, from-is) in
    subst (λ (own : RunMeaning). HasNone own c.args.doc.0 known.from known.to) c.self.view_is
    (none_skipped plan run version c.self.invariant.0 c.args.doc.0 known.from known.to small least)
    c.requires.there c.args.span c.requires.inside (c.holds-2.ensures.after is) (c.holds-2.ensures.ends_before is)

pub returns-clause-price : goal.returns-clause-price
returns-clause-price g c cheap =
    let inside = c.self.inside in
    let version = ap (λ (run : RunMeaning). run.version) c.self.view_is in
    let asked : IsAsked inside.version.now (record { doc = c.args.doc.0; span = c.args.span }) =
    subst (λ (v : List Numbered). IsAsked v (record { doc = c.args.doc.0; span = c.args.span })) (sym version)
    (record { there = c.requires.there; inside = record { first = c.requires.inside.0; order = c.requires.inside.1; last = c.requires.inside.2 } }) in
    let place : AskedPlace =
    record { version = inside.version; doc = c.args.doc; span = c.args.span; there = asked.there; first = asked.inside.first; order = asked.inside.order; last = asked.inside.last } in
    let own : is_cheap (lexicon (plan_lists inside.plan.now)) (plan_form inside.plan.now) ≡ true = ap (λ (run : RunMeaning). is_cheap (lexicon run.lists) run.form) c.self.view_is ∙ cheap in
    let read : is_cheap_shape true (shape inside.root) ≡ true → c.skip_from-to.new.moves ≤ c.args.moves.now + run_cost (moves_for place) 2 (shape inside.root) + run_cost term_count 1 (shape inside.root) =
    λ h. let looked = c.skip_from-to.ensures.price h in omega (arith, looked) in
    let most = price_law inside.plan.now (shape inside.root) place c.self.invariant.0 c.args.moves.now c.skip_from-to.new.moves read own in
    let same = ap (λ (run : RunMeaning). price_at run c.args.doc.0 c.args.span) c.self.view_is in
    omega (arith, most, same)
