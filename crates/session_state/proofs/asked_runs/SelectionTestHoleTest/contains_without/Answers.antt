-- The judge is asked of what is left of the node with a run of the same plan, where the node doesn't lack what it needs.
use Rattle.std.proofs.Common.{◌≡◌, ◌∙◌, sym, ap, subst, ◌≤◌, ◌+◌, IfOk, map, get_or}
use Rattle.ft_base.specs.declared.span.Span.{Span}
use Rattle.ignore_view.specs.Holes.{whole_document}
use Rattle.index_meaning.specs.Documents.{document_at, token_count}
use Rattle.index_phrases.specs.Phrases.{words_at}
use Rattle.index_phrases.specs.Tokens.{span_tokens}
use Rattle.path_nodes.specs.References.{element_of}
use Rattle.plan_runs.specs.Judgement.{HaveWordsOf}
use Rattle.plan_runs.specs.RunMeaning.{RunMeaning}
use Rattle.tokenizer.specs.Tokens.{tokens}
use Rattle.session_state.specs.IgnoredText.{ignored_places, tokens_left}
use Rattle.session_state.proofs.LeftLemmas.{holes-there}
use Rattle.session_state.proofs.SelectionTestLemmas.{asked-run, asked-there, met-left, over-at, run-lent, spent-within}
use Rattle.session_state.proofs.asked_runs.SelectionTestHoleTest.contains_without.Goals as goal

pub span_of-part-requires : goal.span_of-part-requires
span_of-part-requires g c =
    let root = c.args.self.now.tree.now.root in
    c.node_law.ensures.there root c.args.node (asked-there g.B.Loan.runs root c.args.selection c.args.node c.requires.node)

pub lacks-requires-clause-there : goal.lacks-requires-clause-there
lacks-requires-clause-there g c =
    let root = c.args.self.now.tree.now.root in
    let abbreviations = g.B.Loan.abbreviations in
    let runs = g.B.Loan.runs in
    let k = c.args.selection in
    let run = get_or c.args.self.now.runs.now k c.index-runs-selection.result in
    let doc = c.args.self.now.doc.0 in
    let less = asked-run runs root k c.args.node c.requires.node in
    let is : get_or runs k run ≡ run = run-lent runs c.args.self.now.runs.now k c.index-runs-selection.result c.args.self.now.same c.index-runs-selection.is in
    let follows = over-at abbreviations runs k run (doc, root) less is c.args.self.now.over in
    follows.there

pub lacks-requires-clause-inside : goal.lacks-requires-clause-inside
lacks-requires-clause-inside g c =
    let root = c.args.self.now.tree.now.root in
    let abbreviations = g.B.Loan.abbreviations in
    let runs = g.B.Loan.runs in
    let k = c.args.selection in
    let run = get_or c.args.self.now.runs.now k c.index-runs-selection.result in
    let doc = c.args.self.now.doc.0 in
    let less = asked-run runs root k c.args.node c.requires.node in
    let is : get_or runs k run ≡ run = run-lent runs c.args.self.now.runs.now k c.index-runs-selection.result c.args.self.now.same c.index-runs-selection.is in
    let follows = over-at abbreviations runs k run (doc, root) less is c.args.self.now.over in
    let there = asked-there runs root k c.args.node c.requires.node in
    let inside = c.span_law.ensures.there abbreviations run.version doc root c.args.node follows there in
    subst (λ (s : Span). (1 ≤ s.from) × (s.from ≤ s.to) × (s.to ≤ token_count (document_at doc run.version) + 1))
    (sym (c.node_law.ensures.span root c.args.node c.span_of-part.result there c.span_of-part.ensures.positions)) (inside.first, inside.order, inside.last)

pub returns-then-lacks-clause-says : goal.returns-then-lacks-clause-says
returns-then-lacks-clause-says g c =
    let root = c.args.self.now.tree.now.root in
    let abbreviations = g.B.Loan.abbreviations in
    let runs = g.B.Loan.runs in
    let k = c.args.selection in
    let run = get_or c.args.self.now.runs.now k c.index-runs-selection.result in
    let doc = c.args.self.now.doc.0 in
    let less = asked-run runs root k c.args.node c.requires.node in
    let is : get_or runs k run ≡ run = run-lent runs c.args.self.now.runs.now k c.index-runs-selection.result c.args.self.now.same c.index-runs-selection.is in
    let follows = over-at abbreviations runs k run (doc, root) less is c.args.self.now.over in
    let there = asked-there runs root k c.args.node c.requires.node in
    let says = g.J.Judge.says in
    let e = element_of root c.args.node in
    let ignored = map (element_of root) c.args.holes.now in
    let same = ap (λ at. span_tokens at (document_at doc run.version)) (c.node_law.ensures.span root c.args.node c.span_of-part.result there c.span_of-part.ensures.positions)
    ∙ c.span_law.ensures.tokens abbreviations run.version doc root c.args.node follows there in
    let words : HaveWordsOf (tokens_left abbreviations ignored e) (span_tokens c.span_of-part.result (document_at doc run.version)) =
    subst (HaveWordsOf (tokens_left abbreviations ignored e)) (sym same) (c.left_law.ensures.words (tokens abbreviations e.node) (map (ignored_places e) ignored)) in
    sym (met-left says abbreviations runs k run ignored e less is ∙ c.lacks.ensures.none c.if-lacks.true (tokens_left abbreviations ignored e) words)

pub left_without-requires-clause-holes : goal.left_without-requires-clause-holes
left_without-requires-clause-holes g c = holes-there g.B.Loan.runs c.args.self.now.tree.now.root c.args.selection c.args.holes.now c.requires.holes

pub returns-then-lacks-clause-cost : goal.returns-then-lacks-clause-cost
returns-then-lacks-clause-cost g c =
    let root = c.args.self.now.tree.now.root in
    let abbreviations = g.B.Loan.abbreviations in
    let runs = g.B.Loan.runs in
    let k = c.args.selection in
    let run = get_or c.args.self.now.runs.now k c.index-runs-selection.result in
    let doc = c.args.self.now.doc.0 in
    let less = asked-run runs root k c.args.node c.requires.node in
    let is : get_or runs k run ≡ run = run-lent runs c.args.self.now.runs.now k c.index-runs-selection.result c.args.self.now.same c.index-runs-selection.is in
    let follows = over-at abbreviations runs k run (doc, root) less is c.args.self.now.over in
    let there = asked-there runs root k c.args.node c.requires.node in
    let words = ap (λ at. words_at at (document_at doc run.version)) (c.node_law.ensures.span root c.args.node c.span_of-part.result there c.span_of-part.ensures.positions)
    ∙ c.span_law.ensures.words abbreviations run.version doc root c.args.node follows there in
    spent-within runs k run doc root c.args.node c.span_of-part.result c.args.self.now.moves.now c.lacks.new.moves less is words c.lacks.ensures.price

pub returns-in_err-left-clause-cost : goal.returns-in_err-left-clause-cost
returns-in_err-left-clause-cost g c =
    let root = c.args.self.now.tree.now.root in
    let abbreviations = g.B.Loan.abbreviations in
    let runs = g.B.Loan.runs in
    let k = c.args.selection in
    let run = get_or c.args.self.now.runs.now k c.index-runs-selection.result in
    let doc = c.args.self.now.doc.0 in
    let less = asked-run runs root k c.args.node c.requires.node in
    let is : get_or runs k run ≡ run = run-lent runs c.args.self.now.runs.now k c.index-runs-selection.result c.args.self.now.same c.index-runs-selection.is in
    let follows = over-at abbreviations runs k run (doc, root) less is c.args.self.now.over in
    let there = asked-there runs root k c.args.node c.requires.node in
    let words = ap (λ at. words_at at (document_at doc run.version)) (c.node_law.ensures.span root c.args.node c.span_of-part.result there c.span_of-part.ensures.positions)
    ∙ c.span_law.ensures.words abbreviations run.version doc root c.args.node follows there in
    spent-within runs k run doc root c.args.node c.span_of-part.result c.args.self.now.moves.now c.lacks.new.moves less is words c.lacks.ensures.price

pub returns-clause-cost : goal.returns-clause-cost
returns-clause-cost g c =
    let root = c.args.self.now.tree.now.root in
    let abbreviations = g.B.Loan.abbreviations in
    let runs = g.B.Loan.runs in
    let k = c.args.selection in
    let run = get_or c.args.self.now.runs.now k c.index-runs-selection.result in
    let doc = c.args.self.now.doc.0 in
    let less = asked-run runs root k c.args.node c.requires.node in
    let is : get_or runs k run ≡ run = run-lent runs c.args.self.now.runs.now k c.index-runs-selection.result c.args.self.now.same c.index-runs-selection.is in
    let follows = over-at abbreviations runs k run (doc, root) less is c.args.self.now.over in
    let there = asked-there runs root k c.args.node c.requires.node in
    let words = ap (λ at. words_at at (document_at doc run.version)) (c.node_law.ensures.span root c.args.node c.span_of-part.result there c.span_of-part.ensures.positions)
    ∙ c.span_law.ensures.words abbreviations run.version doc root c.args.node follows there in
    spent-within runs k run doc root c.args.node c.span_of-part.result c.args.self.now.moves.now c.lacks.new.moves less is words c.lacks.ensures.price

pub returns-clause-says : goal.returns-clause-says
returns-clause-says g c =
    let root = c.args.self.now.tree.now.root in
    let abbreviations = g.B.Loan.abbreviations in
    let runs = g.B.Loan.runs in
    let k = c.args.selection in
    let run = get_or c.args.self.now.runs.now k c.index-runs-selection.result in
    let doc = c.args.self.now.doc.0 in
    let less = asked-run runs root k c.args.node c.requires.node in
    let is : get_or runs k run ≡ run = run-lent runs c.args.self.now.runs.now k c.index-runs-selection.result c.args.self.now.same c.index-runs-selection.is in
    let follows = over-at abbreviations runs k run (doc, root) less is c.args.self.now.over in
    let says = g.J.Judge.says in
    let left = c.in_ok-left.left in
    let of = c.in_ok-left.ensures.of in
    let document = document_at doc left.view in
    subst (λ b. IfOk c.judge_left-judged.result (λ is. is ≡ b))
    (ap (λ (own : RunMeaning). says own.form own.lists (span_tokens (whole_document document) document)) c.lacks.ensures.same
    ∙ (ap (says run.form run.lists) (c.in_ok-left.ensures.left.1 ∙ (λ i. tokens_left abbreviations (map (element_of root) (of.1 i)) (element_of root (of.0 i))))
    ∙ sym (met-left says abbreviations runs k run (map (element_of root) c.args.holes.now) (element_of root c.args.node) less is)))
    c.judge_left-judged.ensures
