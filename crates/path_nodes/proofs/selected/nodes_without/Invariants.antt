-- What the steps are evaluated over.
use Rattle.path_nodes.specs.steps.Leading.{in_path}
use Rattle.path_nodes.proofs.selected.nodes_without.Given as goal

abbrev pub ghosts-selected_with : goal.ghosts-selected_with
ghosts-selected_with g a = record { root = a.tree.now.root; meaning = g.T.TextTest.meaning a.test.now; conditions = in_path a.steps.now }
