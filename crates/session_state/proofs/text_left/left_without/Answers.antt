-- What is left of the node's span is what is left of the node.
use Rattle.std.proofs.Common.{◌∙◌, ◌≤◌, ◌+◌, sym, ap, subst, map}
use Rattle.ft_base.specs.declared.span.Span.{Span}
use Rattle.ignore_view.specs.Holes.{tokens_without}
use Rattle.index_meaning.specs.Documents.{document_at, token_count}
use Rattle.path_nodes.specs.References.{element_of}
use Rattle.session_state.specs.IgnoredText.{tokens_left}
use Rattle.session_state.proofs.text_left.left_without.Goals as goal

pub returns-in-Some-clause-left : goal.returns-in-Some-clause-left
returns-in-Some-clause-left g c = c.requires.kept c.in-Some.left c.in-Some.ensures.kept

pub span_of-part-requires : goal.span_of-part-requires
span_of-part-requires g c = c.node_law.ensures.there c.args.tree.now.root c.args.node c.requires.node

pub left_of-requires-clause-inside : goal.left_of-requires-clause-inside
left_of-requires-clause-inside g c =
    let root = c.args.tree.now.root in
    let version = c.args.version.now in
    let doc = c.args.doc.0 in
    let node = c.args.node in
    let inside = c.span_law.ensures.there g.B.Loan.abbreviations version doc root node c.requires.follows c.requires.node in
    subst (λ (s : Span). (1 ≤ s.from) × (s.from ≤ s.to) × (s.to ≤ token_count (document_at doc version) + 1))
    (sym (c.node_law.ensures.span root node c.span_of-part.result c.requires.node c.span_of-part.ensures.positions)) (inside.first, inside.order, inside.last)

pub returns-clause-left : goal.returns-clause-left
returns-clause-left g c =
    let root = c.args.tree.now.root in
    let abbreviations = g.B.Loan.abbreviations in
    let node = c.args.node in
    let holes = c.args.holes.now in
    let doc = c.args.doc.0 in
    let version = c.args.version.now in
    let at = c.node_law.ensures.span root node c.span_of-part.result c.requires.node c.span_of-part.ensures.positions in
    let same = c.span_law.ensures.tokens abbreviations version doc root node c.requires.follows c.requires.node in
    let found = c.left_law.ensures.span abbreviations root node holes (document_at doc version) c.requires.node c.requires.holes same in
    let copied = ap (λ hs. tokens_left abbreviations (map (element_of root) hs) (element_of root node)) (sym (c.in_ok-holes.ensures ∙ c.as_slice.ensures)) in (
      c.in_ok-view.ensures.there,
      c.in_ok-view.ensures.tokens
          ∙ ((λ i. tokens_without (at i) (c.in_ok-spans.ensures i) (document_at doc version)) ∙ (found ∙ copied)),
    )
