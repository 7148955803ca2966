-- No element has the mark of a text.
use Rattle.std.proofs.Common.{ap, ◌∙◌, get_or}
use Rattle.std.specs.Prelude.{nat_eq, not}
use Rattle.ordered_tree.proofs.HeadLemmas.{element-marked}
use Rattle.ordered_tree.proofs.doc_tree.DocTree.is_element.Goals as goal

pub returns : goal.returns
returns c = λ s among refers. ap (λ h. not (nat_eq (get_or h.mark 7 0) 0)) (c.head.ensures.stands s among refers) ∙ element-marked s.node
