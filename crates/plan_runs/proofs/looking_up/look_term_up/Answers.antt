-- None of the terms stands in the document.
use Rattle.std.proofs.Common.{◌∙◌, sym}
use Rattle.plan_runs.proofs.MissingLemmas.{terms_missing}
use Rattle.plan_runs.proofs.looking_up.look_term_up.Goals as goal

pub returns-clause-none : goal.returns-clause-none
returns-clause-none c h = terms_missing c.args.doc.0 c.args.terms.now (sym c.look_up.ensures.says ∙ h)
