-- Each child is lighter; all of them are done.
use Rattle.std.proofs.Common.{◌∷◌, ◌++◌, ◌≤◌, flat_map, map, length, sym, ap, ◌∙◌, arith}
use Rattle.path_nodes.specs.References.{element_of}
use Rattle.path_nodes.specs.steps.Regions.{at_or_below}
use Rattle.path_nodes.proofs.RegionLemmas.{child-there, child-light, all-children, opened, below-children}
use Rattle.path_nodes.proofs.walks.+add_elements.Goals as goal

pub add_elements-requires : goal.add_elements-requires
add_elements-requires t c =
    let root = c.args.tree.now.root in
    let here = element_of root c.args.here in
    let items = c.as_slice-child-items.result.now in
    let children = c.in_ok-children.children in
    let i = c.loop-child.child-index in
    let less = child-light root here items children c.as_slice-child-items.ensures c.in_ok-children.ensures.are i c.loop-child-test.true in
    let x = child-there root here items children c.as_slice-child-items.ensures c.in_ok-children.ensures.are i c.loop-child-test.true c.in_ok-children.ensures.there in
    (omega (arith, c.decreases, less), (x, c.loop-child.invariant.there))

pub returns-clause-elements : goal.returns-clause-elements
returns-clause-elements t c =
    let root = c.args.tree.now.root in
    let here = element_of root c.args.here in
    let items = c.as_slice-child-items.result.now in
    let i = c.loop-child.child-index in
    let past : length items ≤ i = omega (arith, c.loop-child-test.false) in
    let kids = all-children root here items c.in_ok-children.children c.as_slice-child-items.ensures c.in_ok-children.ensures.are i past in
    c.loop-child.invariant.done
    ∙ ap (λ l. map (element_of root) c.args.found.now ++ (here ∷ flat_map at_or_below l)) kids
    ∙ ap (λ l. map (element_of root) c.args.found.now ++ (here ∷ l)) (below-children here)
    ∙ ap (λ l. map (element_of root) c.args.found.now ++ l) (sym (opened root c.args.here c.requires.here))
