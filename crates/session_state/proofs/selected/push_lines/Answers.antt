-- The lines of these elements, as they are shown.
use Rattle.std.proofs.Common.{◌≡◌, ◌∙◌, sym, ap, refl, subst, ◌++◌, map, OnOk}
use Rattle.ordered_tree.specs.Numbered.{plain}
use Rattle.path_nodes.specs.References.{element_of}
use Rattle.element_lines.specs.Lines.{element_line, printed_line}
use Rattle.session_state.specs.Paths.{lines_of}
use Rattle.session_state.proofs.PathLemmas.{lines-of-names, lines-of-texts}
use Rattle.session_state.proofs.selected.push_lines.Goals as goal

pub returns-in-Names : goal.returns-in-Names
returns-in-Names c =
    let name = c.args.name.now in
    let root = c.tree.result.now.root in
    let found = c.args.found.now in
    let lines : map (λ r. element_line name (plain root) (element_of root r)) found ≡ lines_of c.args.shown name (plain root) (map (element_of root) found) =
    lines-of-names name root found (map (element_of root) found) refl ∙ ap (λ s. lines_of s name (plain root) (map (element_of root) found)) (sym c.in-Names.is) in
    subst (λ t. OnOk c.push_names.result (c.push_names.new.lines ≡ c.args.lines.now ++ lines_of c.args.shown name (plain t.root) (map (element_of t.root) found))) c.tree.ensures.tree
    (subst (λ ls. OnOk c.push_names.result (c.push_names.new.lines ≡ c.args.lines.now ++ ls)) lines c.push_names.ensures.ok)

pub returns-in-Texts : goal.returns-in-Texts
returns-in-Texts c =
    let name = c.args.name.now in
    let root = c.tree-in-Texts.result.now.root in
    let found = c.args.found.now in
    let lines : map (λ r. printed_line (element_of root r).node) found ≡ lines_of c.args.shown name (plain root) (map (element_of root) found) =
    lines-of-texts name root found (map (element_of root) found) refl ∙ ap (λ s. lines_of s name (plain root) (map (element_of root) found)) (sym c.in-Texts.is) in
    subst (λ t. OnOk c.push_printed.result (c.push_printed.new.lines ≡ c.args.lines.now ++ lines_of c.args.shown name (plain t.root) (map (element_of t.root) found))) c.tree-in-Texts.ensures.tree
    (subst (λ ls. OnOk c.push_printed.result (c.push_printed.new.lines ≡ c.args.lines.now ++ ls)) lines c.push_printed.ensures.ok)
