-- What the path's conditions ask for may be asked, and holes be given where it asks for text without content.
use Rattle.std.proofs.Common.{subst, map}
use Rattle.path_grammar.specs.Form as form
use Rattle.path_grammar.specs.View as view
use Rattle.path_nodes.specs.steps.Known.{AreAsked, AreGiven}
use Rattle.path_nodes.proofs.AskingLemmas.{are-asked}
use Rattle.path_nodes.proofs.GivenLemmas.{are-given}
use Rattle.path_nodes.proofs.selected.selected_with.Goals as goal

pub invariant_of-evaluation-clause-asked : goal.invariant_of-evaluation-clause-asked
invariant_of-evaluation-clause-asked g c =
    subst (AreAsked g.G.Ground.root g.G.Ground.meaning) c.requires.conditions (are-asked g.G.Ground.root g.G.Ground.meaning (form.steps (map view.step c.args.steps.now)) c.requires.asked)

pub invariant_of-evaluation-clause-given : goal.invariant_of-evaluation-clause-given
invariant_of-evaluation-clause-given g c =
    subst (AreGiven g.T.HoleTest.takes_holes) c.requires.conditions (are-given g.T.HoleTest.takes_holes (form.steps (map view.step c.args.steps.now)) c.requires.given)
