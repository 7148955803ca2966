-- Each link is that of the next child.
use Rattle.std.proofs.Common.{◌≡◌, [], sym, ◌∙◌, subst, arith}
use Rattle.ordered_tree.specs.Numbered.{children, first_of}
use Rattle.path_nodes.proofs.ChildrenLemmas.{start, on_element, element_there}
use Rattle.element_lines.proofs.ChildLemmas.{parted-first}
use Rattle.element_lines.proofs.NumberLemmas.{Numbering, all-numbered, child-there, child-smaller, count-few, past-a-text, past-an-element}
use Rattle.element_lines.proofs.numbers.number_children.Goals as goal
use Rattle.element_lines.proofs.numbers.number_children.Goals.{then-is_element+in_ok-number+in_ok-keep, else-is_element}

pub first_child-link-requires : goal.first_child-link-requires
first_child-link-requires c = element_there c.args.tree.now.root c.args.parent c.requires.parent

pub loop-link-init : goal.loop-link-init
loop-link-init c =
    let root = c.args.tree.now.root in
    let x = c.requires.parent in
    let first = on_element root c.args.parent x (λ s. c.first_child-link.result ≡ first_of (children s.node)) c.first_child-link.ensures.first in
    record {
      done = [];
      reading = start root c.args.parent x c.first_child-link.result first;
      prefix = [];
      parted = parted-first root c.args.parent x c.first_child-link.result first;
      counted = c.new-counts.ensures;
      are = c.requires.numbers;
      have = λ r k y at some within. absurd (omega (arith, some, within));
    }

pub is_element-requires : goal.is_element-requires
is_element-requires c =
    child-there c.args.tree.now.root c.args.parent c.requires.parent c.loop-link.link c.loop-link.counts c.loop-link.numbers.items c.loop-link.invariant c.in-Some.child c.in-Some.is

pub name-requires-clause-there : goal.name-requires-clause-there
name-requires-clause-there c =
    child-there c.args.tree.now.root c.args.parent c.requires.parent c.loop-link.link c.loop-link.counts c.loop-link.numbers.items c.loop-link.invariant c.in-Some.child c.in-Some.is

pub next-link-requires : goal.next-link-requires
next-link-requires c =
    child-there c.args.tree.now.root c.args.parent c.requires.parent c.loop-link.link c.loop-link.counts c.loop-link.numbers.items c.loop-link.invariant c.in-Some.child c.in-Some.is

pub count_name-requires : goal.count_name-requires
count_name-requires c =
    count-few c.args.tree.now.root c.args.parent c.requires.parent c.loop-link.link c.loop-link.counts c.loop-link.numbers.items c.loop-link.invariant c.in-Some.child c.in-Some.is
    (omega (arith, c.node_count-nodes.ensures.count, c.node_count-nodes.ensures.few)) c.name.result.now

pub loop-link-smaller : goal.loop-link-smaller
loop-link-smaller c =
    child-smaller c.args.tree.now.root c.args.parent c.requires.parent c.loop-link.link c.loop-link.counts c.loop-link.numbers.items c.loop-link.invariant c.in-Some.child c.in-Some.is
    c.next-link.result c.next-link.ensures.next

pub loop-link-preserved : goal.loop-link-preserved
loop-link-preserved c =
    let root = c.args.tree.now.root in
    let parent = c.args.parent in
    let link = c.next-link.result in
    elim c.if-is_element.branch [
      | then-is_element+in_ok-number+in_ok-keep w ↦
          subst (λ n. Numbering root parent link c.if-is_element.counts n.items) (sym w.numbers-is)
          (subst (λ m. Numbering root parent link m w.keep.new.numbers.items) (sym w.counts-is)
          (past-an-element root parent c.requires.parent c.loop-link.link c.loop-link.counts c.loop-link.numbers.items c.loop-link.invariant c.in-Some.child c.in-Some.is
          link c.next-link.ensures.next w.count_name.new.counts w.keep.new.numbers.items w.name.result.now w.in_ok-number.number
          (λ s among refers. sym w.if-is_element.true ∙ c.is_element.ensures s among refers) w.name.ensures w.in_ok-number.ensures.number w.in_ok-number.ensures.counted w.in_ok-keep.ensures))
      | else-is_element w ↦
          subst (λ n. Numbering root parent link c.if-is_element.counts n.items) (sym w.numbers-is)
          (subst (λ m. Numbering root parent link m c.loop-link.numbers.items) (sym w.counts-is)
          (past-a-text root parent c.requires.parent c.loop-link.link c.loop-link.counts c.loop-link.numbers.items c.loop-link.invariant c.in-Some.child c.in-Some.is
          link c.next-link.ensures.next (λ s among refers. sym w.if-is_element.false ∙ c.is_element.ensures s among refers)))
    ]

pub returns-clause-there : goal.returns-clause-there
returns-clause-there c =
    all-numbered c.args.tree.now.root c.args.parent c.requires.parent c.loop-link.link c.loop-link.counts c.loop-link.numbers.items c.loop-link.invariant c.in_default.is
