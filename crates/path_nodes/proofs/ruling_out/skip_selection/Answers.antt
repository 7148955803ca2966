-- What is said of each node is said of each element.
use Rattle.path_nodes.proofs.RulingOutLemmas.{none-there}
use Rattle.path_nodes.proofs.ruling_out.skip_selection.Goals as goal

pub returns : goal.returns
returns g c =
    none-there c.args.tree.now.root (g.T.TextTest.meaning c.args.test.now) c.args.from c.skip_to.result c.root-root.ensures.apart c.args.selection c.requires c.skip_to.ensures
