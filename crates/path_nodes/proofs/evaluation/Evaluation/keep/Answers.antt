-- What was known stays, and the truth that is kept is the condition's.
use Rattle.path_nodes.proofs.KnownLemmas.{kept-or-not}
use Rattle.path_nodes.proofs.evaluation.Evaluation.keep.Goals as goal

pub invariant_of-self-clause-right : goal.invariant_of-self-clause-right
invariant_of-self-clause-right g c =
    kept-or-not g.G.Ground.root g.G.Ground.meaning g.G.Ground.conditions c.args.number c.args.element c.args.truth c.args.self.now.truths.now c.insert.new.self c.insert.result
    c.insert.ensures.updates c.insert.ensures.err c.args.self.now.right c.requires
