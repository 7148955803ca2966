-- No child is before the first one.
use Rattle.std.proofs.Common.{◌≡◌, [], refl}
use Rattle.ordered_tree.specs.Numbered.{children, first_of}
use Rattle.path_nodes.proofs.ChildrenLemmas.{on_element, element_there}
use Rattle.element_lines.proofs.ChildLemmas.{parted-first}
use Rattle.element_lines.proofs.siblings.before_children.Goals as goal

pub first_child-link-requires : goal.first_child-link-requires
first_child-link-requires c = element_there c.args.tree.now.root c.args.parent c.requires.parent

pub returns-clause-counting : goal.returns-clause-counting
returns-clause-counting c =
    let root = c.args.tree.now.root in
    let x = c.requires.parent in
    let first = on_element root c.args.parent x (λ s. c.first_child-link.result ≡ first_of (children s.node)) c.first_child-link.ensures.first in
    record {
      there = x;
      prefix = [];
      parted = parted-first root c.args.parent x c.first_child-link.result first;
      counted = refl;
    }
