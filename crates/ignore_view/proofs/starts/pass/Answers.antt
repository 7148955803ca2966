-- What was found is one place longer, or as it was.
use Rattle.ignore_view.proofs.WalkLemmas.{one-passed}
use Rattle.ignore_view.proofs.starts.pass.Goals as goal

pub returns-clause-found : goal.returns-clause-found
returns-clause-found c = λ rest.
    one-passed c.args.walk.now.found c.push_new.new.found c.args.walk.now.number c.args.walk.now.passed c.args.number c.is_number.result rest
    c.is_number.ensures c.in_ok-push_new.ensures.found
