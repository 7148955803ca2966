-- Each child is lighter; the marked ones of it stand after those before.
use Rattle.std.proofs.Common.{◌≡◌, ◌≤◌, ◌∷◌, [], ◌++◌, filter, flat_map, map, take, length, get_or, sym, ap, ◌∙◌, arith, append_assoc, append-nil}
use Rattle.std.proofs.lemmas.List.Elements.{filter-append}
use Rattle.path_nodes.specs.steps.Marks.{is_marked}
use Rattle.path_nodes.specs.References.{IsElement, element_of}
use Rattle.path_nodes.specs.steps.Regions.{at_or_below, below}
use Rattle.path_nodes.proofs.ListLemmas.{flat-map-more, one-kept, kept-there}
use Rattle.path_nodes.proofs.RegionLemmas.{child-there, child-light, all-children, opened, below-children}
use Rattle.path_nodes.proofs.SpotLemmas.{of_number}
use Rattle.path_nodes.proofs.WayLemmas.{none-below}
use Rattle.path_nodes.proofs.walks.+add_marked.Goals as goal

pub add_marked-requires : goal.add_marked-requires
add_marked-requires t c =
    let root = c.args.tree.now.root in
    let here = element_of root c.args.here in
    let items = c.as_slice-child-items.result.now in
    let children = c.in_ok-children.children in
    let i = c.loop-child.child-index in
    let less = child-light root here items children c.as_slice-child-items.ensures c.in_ok-children.ensures.are i c.loop-child-test.true in
    let x = child-there root here items children c.as_slice-child-items.ensures c.in_ok-children.ensures.are i c.loop-child-test.true c.in_ok-children.ensures.there in
    (omega (arith, c.decreases, less), (x, kept-there (IsElement root) (is_marked c.args.marks.now) c.loop-child.found (get_or items i (of_number 0)) c.push_marked.new.found c.in_ok-push_marked.ensures x c.loop-child.invariant.there))

pub loop-child-preserved : goal.loop-child-preserved
loop-child-preserved t c =
    let root = c.args.tree.now.root in
    let here = element_of root c.args.here in
    let items = c.as_slice-child-items.result.now in
    let i = c.loop-child.child-index in
    let q = get_or items i (of_number 0) in
    let x = child-there root here items c.in_ok-children.children c.as_slice-child-items.ensures c.in_ok-children.ensures.are i c.loop-child-test.true c.in_ok-children.ensures.there in
    record {
      done = λ test agree lead.
          let old = map (element_of root) c.args.found.now in
          let before = flat_map at_or_below (map (element_of root) (take i items)) in
          let pushed : map (element_of root) c.push_marked.new.found ≡ map (element_of root) c.loop-child.found ++ filter test (element_of root q ∷ []) =
          one-kept (element_of root) (is_marked c.args.marks.now) test c.loop-child.found q c.push_marked.new.found c.in_ok-push_marked.ensures (agree q x) in
          let all-of : filter test (at_or_below (element_of root q)) ≡ filter test (element_of root q ∷ []) ++ filter test (below (element_of root q)) =
          ap (filter test) (opened root q x) ∙ filter-append test (element_of root q ∷ []) (below (element_of root q)) in
          c.in_ok-add_marked.ensures.elements test agree lead
          ∙ ap (λ l. l ++ filter test (below (element_of root q))) pushed
          ∙ append_assoc (map (element_of root) c.loop-child.found) (filter test (element_of root q ∷ [])) (filter test (below (element_of root q)))
          ∙ ap (λ l. map (element_of root) c.loop-child.found ++ l) (sym all-of)
          ∙ ap (λ l. l ++ filter test (at_or_below (element_of root q))) (c.loop-child.invariant.done test agree lead)
          ∙ append_assoc old (filter test before) (filter test (at_or_below (element_of root q)))
          ∙ ap (λ l. old ++ l) (sym (filter-append test before (at_or_below (element_of root q))))
          ∙ ap (λ l. old ++ filter test l) (sym (flat-map-more (element_of root) at_or_below items i (of_number 0) c.loop-child-test.true));
      there = c.in_ok-add_marked.ensures.there;
    }

pub returns-then-not-has_mark-clause-elements : goal.returns-then-not-has_mark-clause-elements
returns-then-not-has_mark-clause-elements t c = λ test agree lead.
    let root = c.args.tree.now.root in
    let old = map (element_of root) c.args.found.now in
    sym (ap (λ l. old ++ l) (none-below root c.args.here c.requires.here c.args.ways.now test lead (sym c.has_mark.ensures ∙ c.if-not-has_mark.true)) ∙ append-nil old)

pub returns-clause-elements : goal.returns-clause-elements
returns-clause-elements t c = λ test agree lead.
    let root = c.args.tree.now.root in
    let here = element_of root c.args.here in
    let items = c.as_slice-child-items.result.now in
    let i = c.loop-child.child-index in
    let past : length items ≤ i = omega (arith, c.loop-child-test.false) in
    let kids = all-children root here items c.in_ok-children.children c.as_slice-child-items.ensures c.in_ok-children.ensures.are i past in
    c.loop-child.invariant.done test agree lead
    ∙ ap (λ l. map (element_of root) c.args.found.now ++ filter test (flat_map at_or_below l)) kids
    ∙ ap (λ l. map (element_of root) c.args.found.now ++ filter test l) (below-children here)
