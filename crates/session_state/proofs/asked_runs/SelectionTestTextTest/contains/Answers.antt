-- The node is there, its span is that of its words in the document, and the judge is asked with its run.
use Rattle.std.proofs.Common.{◌≡◌, ◌∙◌, sym, ap, subst, ◌≤◌, ◌+◌, get_or}
use Rattle.ft_base.specs.declared.span.Span.{Span}
use Rattle.index_meaning.specs.Documents.{document_at, token_count}
use Rattle.index_phrases.specs.Phrases.{words_at}
use Rattle.index_phrases.specs.Tokens.{span_tokens}
use Rattle.path_nodes.specs.References.{element_of}
use Rattle.session_state.proofs.SelectionTestLemmas.{asked-run, asked-there, met-at, over-at, run-lent, spent-within}
use Rattle.session_state.proofs.asked_runs.SelectionTestTextTest.contains.Goals as goal

pub span_of-span-requires : goal.span_of-span-requires
span_of-span-requires g c =
    let root = c.args.self.now.tree.now.root in
    c.node_law.ensures.there root c.args.node (asked-there g.B.Loan.runs root c.args.selection c.args.node c.requires)

pub judge-requires-clause-there : goal.judge-requires-clause-there
judge-requires-clause-there g c =
    let root = c.args.self.now.tree.now.root in
    let abbreviations = g.B.Loan.abbreviations in
    let runs = g.B.Loan.runs in
    let k = c.args.selection in
    let run = get_or c.args.self.now.runs.now k c.index-runs-selection.result in
    let is : get_or runs k run ≡ run = run-lent runs c.args.self.now.runs.now k c.index-runs-selection.result c.args.self.now.same c.index-runs-selection.is in
    let follows = over-at abbreviations runs k run (c.args.self.now.doc.0, root) (asked-run runs root k c.args.node c.requires) is c.args.self.now.over in
    follows.there

pub judge-requires-clause-inside : goal.judge-requires-clause-inside
judge-requires-clause-inside g c =
    let root = c.args.self.now.tree.now.root in
    let abbreviations = g.B.Loan.abbreviations in
    let runs = g.B.Loan.runs in
    let k = c.args.selection in
    let run = get_or c.args.self.now.runs.now k c.index-runs-selection.result in
    let doc = c.args.self.now.doc.0 in
    let node = c.args.node in
    let there = asked-there runs root k node c.requires in
    let is : get_or runs k run ≡ run = run-lent runs c.args.self.now.runs.now k c.index-runs-selection.result c.args.self.now.same c.index-runs-selection.is in
    let follows = over-at abbreviations runs k run (doc, root) (asked-run runs root k node c.requires) is c.args.self.now.over in
    let inside = c.span_law.ensures.there abbreviations run.version doc root node follows there in
    subst (λ (s : Span). (1 ≤ s.from) × (s.from ≤ s.to) × (s.to ≤ token_count (document_at doc run.version) + 1))
    (sym (c.node_law.ensures.span root node c.span_of-span.result there c.span_of-span.ensures.positions)) (inside.first, inside.order, inside.last)

pub returns-clause-says : goal.returns-clause-says
returns-clause-says g c =
    let root = c.args.self.now.tree.now.root in
    let abbreviations = g.B.Loan.abbreviations in
    let runs = g.B.Loan.runs in
    let k = c.args.selection in
    let run = get_or c.args.self.now.runs.now k c.index-runs-selection.result in
    let doc = c.args.self.now.doc.0 in
    let node = c.args.node in
    let there = asked-there runs root k node c.requires in
    let less = asked-run runs root k node c.requires in
    let is : get_or runs k run ≡ run = run-lent runs c.args.self.now.runs.now k c.index-runs-selection.result c.args.self.now.same c.index-runs-selection.is in
    let follows = over-at abbreviations runs k run (doc, root) less is c.args.self.now.over in
    let same = ap (λ at. span_tokens at (document_at doc run.version)) (c.node_law.ensures.span root node c.span_of-span.result there c.span_of-span.ensures.positions)
    ∙ c.span_law.ensures.tokens abbreviations run.version doc root node follows there in
    c.judge.ensures.says
    ∙ (ap (g.J.Judge.says run.form run.lists) same
    ∙ sym (met-at g.J.Judge.says abbreviations runs k run (element_of root node) less is (c.left_law.ensures.nothing abbreviations (element_of root node))))

pub returns-clause-cost : goal.returns-clause-cost
returns-clause-cost g c =
    let root = c.args.self.now.tree.now.root in
    let abbreviations = g.B.Loan.abbreviations in
    let runs = g.B.Loan.runs in
    let k = c.args.selection in
    let run = get_or c.args.self.now.runs.now k c.index-runs-selection.result in
    let doc = c.args.self.now.doc.0 in
    let node = c.args.node in
    let there = asked-there runs root k node c.requires in
    let less = asked-run runs root k node c.requires in
    let is : get_or runs k run ≡ run = run-lent runs c.args.self.now.runs.now k c.index-runs-selection.result c.args.self.now.same c.index-runs-selection.is in
    let follows = over-at abbreviations runs k run (doc, root) less is c.args.self.now.over in
    let words = ap (λ at. words_at at (document_at doc run.version)) (c.node_law.ensures.span root node c.span_of-span.result there c.span_of-span.ensures.positions)
    ∙ c.span_law.ensures.words abbreviations run.version doc root node follows there in
    spent-within runs k run doc root node c.span_of-span.result c.args.self.now.moves.now c.judge.new.moves less is words c.judge.ensures.price
