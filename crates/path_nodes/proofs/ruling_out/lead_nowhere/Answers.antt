-- All words of the document stand before the end of the root's, which is a number of 32 bits.
use Rattle.std.proofs.Common.{◌≤◌, sym, ap, arith}
use Rattle.std.proofs.lemmas.Bool.Decides.{nat_tests}
use Rattle.ordered_tree.specs.Stands.{span}
use Rattle.path_nodes.proofs.RulingOutLemmas.{root-within}
use Rattle.path_nodes.proofs.SelectedLemmas.{root-spot, root-among}
use Rattle.path_nodes.proofs.SpotLemmas.{spot-stand}
use Rattle.path_nodes.proofs.ruling_out.lead_nowhere.Goals as goal

pub returns-then-place : goal.returns-then-place
returns-then-place g c = λ ruled.
    let root = c.args.tree.now.root in
    let s = (root-spot root).stand in
    let is = c.span_of-words.ensures.positions s (spot-stand root (root-spot root) (root-among root)) (sym c.root-root.ensures.root) in
    let to = ap (λ x. x.to) is in
    let prefix : (span s).to ≤ c.skip_steps-place.result = grind (arith, nat_tests, c.span_of-words.type_inv, c.if-place.true, to) in
    c.skip_steps-place.ensures.from_document (root-within root c.skip_steps-place.result c.root-root.ensures.element prefix)

pub returns : goal.returns
returns g c = λ ruled.
    let root = c.args.tree.now.root in
    let s = (root-spot root).stand in
    let is = c.span_of.ensures.positions s (spot-stand root (root-spot root) (root-among root)) (sym c.root-root.ensures.root) in
    let to = ap (λ x. x.to) is in
    let prefix : (span s).to ≤ c.skip_steps-place.result = grind (arith, nat_tests, ruled, to) in
    c.skip_steps-place.ensures.from_document (root-within root c.skip_steps-place.result c.root-root.ensures.element prefix)
