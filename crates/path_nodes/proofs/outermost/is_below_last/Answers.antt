-- The last one of the list has the last number.
use Rattle.std.proofs.Common.{◌-◌, length, map, get_or, sym, ap, ◌∙◌, arith}
use Rattle.path_nodes.specs.References.{element_of}
use Rattle.path_nodes.specs.steps.Within.{is_prefix, stands_below_last}
use Rattle.path_nodes.proofs.OutermostLemmas.{below-last}
use Rattle.path_nodes.proofs.SelectedLemmas.{not-empty}
use Rattle.path_nodes.proofs.outermost.is_below_last.Goals as goal

pub returns-then-is_empty : goal.returns-then-is_empty
returns-then-is_empty c =
    let root = c.args.tree.now.root in
    sym (ap (λ l. stands_below_last (map (element_of root) l) (element_of root c.args.node)) (c.is_empty.ensures.0 c.if-is_empty.true))

pub returns : goal.returns
returns c =
    let root = c.args.tree.now.root in
    let outer = c.args.outer.now in
    let some = not-empty outer c.is_empty.result c.is_empty.ensures.1 c.if-is_empty.false in
    c.is_at_or_below.ensures
    ∙ ap (λ r. is_prefix (element_of root r).place (element_of root c.args.node).place) (c.get.ensures ∙ ap (λ n. get_or outer (n - 1) c.get.result.now) c.len.ensures)
    ∙ below-last root outer (length outer - 1) c.get.result.now c.args.node (omega (arith, some))
