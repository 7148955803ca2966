-- Both say how deep a document is.
use Rattle.std.proofs.Common.{◌∙◌}
use Rattle.ordered_tree.specs.Numbered.{plain}
use Rattle.ordered_tree.specs.RefView.{ref_node}
use Rattle.tree_edits.proofs.MeasureLemmas.{height_depth}
use Rattle.tree_edits.proofs.drafts.Draft.depth.Goals as goal

pub returns-clause-depth : goal.returns-clause-depth
returns-clause-depth c = c.args.self.now.sized.levels ∙ height_depth (plain (ref_node c.args.self.now.root))
