-- The lines of names and those of words, in turn, are the lines of the elements.
use Rattle.std.proofs.Common.{◌≡◌, ◌∙◌, ◌++◌, List, ℕ, ap, subst, length, map}
use Rattle.std.specs.Prelude.{OnOk, flat_map}
use Rattle.std.proofs.lemmas.List.{length-map}
use Rattle.element_lines.specs.Lines.{element_line}
use Rattle.ft_base.specs.declared.ids.NodeRef.{NodeRef}
use Rattle.ordered_tree.specs.Numbered.{Numbered, plain}
use Rattle.path_nodes.specs.References.{element_of}
use Rattle.session_state.specs.MarkedWords.{marked_lines}
use Rattle.session_state.specs.steps.MarkedPlans.{in_turn, words_line}
use Rattle.session_state.proofs.MarkedLemmas.{lines-in-turn}
use Rattle.session_state.proofs.marked_words.push_found.Goals as goal

-- the line that names an element
abbrev name_of : List ℕ → Numbered → NodeRef → List ℕ
name_of name root r = element_line name (plain root) (element_of root r)

pub push_each-requires-clause-names : goal.push_each-requires-clause-names
push_each-requires-clause-names g c =
    let line = name_of c.args.name.now c.tree-tree.result.now.root in
    ap length (c.in_ok-push_names.ensures.ok ∙ ap (λ ls. ls ++ map line c.args.found.now) c.new-names.ensures) ∙ length-map c.args.found.now line

pub returns-clause-lines : goal.returns-clause-lines
returns-clause-lines g c =
    let abbreviations = g.A.Abbreviated.abbreviations in
    let marks = c.args.marks.now in
    let name = c.args.name.now in
    let root = c.tree-tree.result.now.root in
    let found = c.args.found.now in
    let names : c.push_names.new.lines ≡ map (name_of name root) found =
    c.in_ok-push_names.ensures.ok ∙ ap (λ ls. ls ++ map (name_of name root) found) c.new-names.ensures in
    subst (λ t. OnOk c.push_each.result (c.push_each.new.lines ≡ c.args.lines.now
    ++ flat_map (marked_lines abbreviations marks.lists marks.form name (plain t.root)) (map (element_of t.root) found))) c.tree-tree.ensures.tree
    (subst (λ ls. OnOk c.push_each.result (c.push_each.new.lines ≡ c.args.lines.now ++ ls))
    (ap (λ first. in_turn first (map (words_line abbreviations marks.lists marks.form root) found)) names ∙ lines-in-turn abbreviations marks.lists marks.form name root found)
    c.push_each.ensures.lines)
