-- What is known of the document holds from the position on.
use Rattle.std.proofs.Common.{◌≡◌, ◌<◌, ◌≤◌, ◌+◌, true, sym, ap, subst, ◌∙◌, arith}
use Rattle.all_matches.specs.Meaning.{sat}
use Rattle.index_meaning.specs.Documents.{document_at, has_document, token_count}
use Rattle.index_phrases.specs.Tokens.{span_tokens}
use Rattle.plan_compiler.specs.Lexicon.{lexicon}
use Rattle.plan_compiler.specs.PlanMeaning.{plan_form, plan_lists}
use Rattle.plan_runs.specs.RunMeaning.{RunMeaning, run_of}
use Rattle.plan_runs.specs.steps.RuledOut.{HasNone}
use Rattle.plan_runs.proofs.RuledOutLaw.{own_words}
use Rattle.plan_runs.proofs.run.Run.skip_to.Goals as goal

pub returns : goal.returns
returns c = record {
  none = λ span bounds after within.
      let inside = c.self.inside in
      let own = run_of (plan_form inside.plan.now) (plan_lists inside.plan.now) inside.version.now in
      let some : 0 < c.skip_to.result = omega (arith, bounds.0, bounds.1, within) in
      let from = c.skip_to.ensures.after some in
      let to = c.skip_to.ensures.to some in
      let known : HasNone own c.args.doc.0 inside.ruled_out.from inside.ruled_out.to =
      subst (λ doc. HasNone own doc inside.ruled_out.from inside.ruled_out.to) (c.skip_to.ensures.doc some) c.self.invariant.1 in
      let there : has_document c.args.doc.0 own.version ≡ true = ap (λ (run : RunMeaning). has_document c.args.doc.0 run.version) c.self.view_is ∙ c.requires.there in
      ap (λ (run : RunMeaning). sat (lexicon run.lists) run.form (span_tokens span (document_at c.args.doc.0 run.version))) (sym c.self.view_is)
      ∙ known there span
      (subst (λ (run : RunMeaning). (1 ≤ span.from) × (span.from ≤ span.to) × (span.to ≤ token_count (document_at c.args.doc.0 run.version) + 1)) (sym c.self.view_is) bounds)
      (omega (arith, after, from)) (omega (arith, within, to))
      (span_tokens span (document_at c.args.doc.0 own.version)) (own_words (span_tokens span (document_at c.args.doc.0 own.version)));
}
