-- The element itself, where it is marked, and then those below it.
use Rattle.std.proofs.Common.{◌∷◌, [], ◌++◌, map, filter, sym, ap, ◌∙◌, subst}
use Rattle.std.specs.List.{All}
use Rattle.std.proofs.lemmas.List.Elements.{All-nil, filter-append}
use Rattle.path_nodes.specs.steps.Marks.{is_marked}
use Rattle.path_nodes.specs.References.{IsElement, element_of}
use Rattle.path_nodes.specs.steps.Regions.{below}
use Rattle.path_nodes.proofs.ListLemmas.{one-kept, kept-there}
use Rattle.path_nodes.proofs.RegionLemmas.{opened}
use Rattle.path_nodes.proofs.walks.marked_from.Goals as goal

pub add_marked-requires-clause-found : goal.add_marked-requires-clause-found
add_marked-requires-clause-found c =
    let P = IsElement c.args.tree.now.root in
    let none : All P c.new-found.result = subst (All P) (sym c.new-found.ensures) (All-nil P) in
    kept-there P (is_marked c.args.marks.now) c.new-found.result c.args.here c.push_marked.new.found c.in_ok-push_marked.ensures c.requires none

pub returns-clause-elements : goal.returns-clause-elements
returns-clause-elements c = λ test agree lead.
    let root = c.args.tree.now.root in
    let here = element_of root c.args.here in
    let pushed = one-kept (element_of root) (is_marked c.args.marks.now) test c.new-found.result c.args.here c.push_marked.new.found c.in_ok-push_marked.ensures (agree c.args.here c.requires) in
    c.in_ok-add_marked.ensures.elements test agree lead
    ∙ ap (λ l. l ++ filter test (below here)) (pushed ∙ ap (λ l. map (element_of root) l ++ filter test (here ∷ [])) c.new-found.ensures)
    ∙ sym (ap (filter test) (opened root c.args.here c.requires) ∙ filter-append test (here ∷ []) (below here))
