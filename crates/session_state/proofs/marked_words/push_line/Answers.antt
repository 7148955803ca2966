-- The element is there, the words that are lent are its own, and the places that are found at its span are those of its best hits.
use Rattle.std.proofs.Common.{◌≡◌, ◌∙◌, ◌≤◌, ◌+◌, sym, ap, ap₂, subst, true, map, ◌++◌, ◌∷◌, [], List, Vec, Global, Bor, ℕ}
use Rattle.std.specs.Prelude.{OnOk, Option, option_map, unwrap_or}
use Rattle.element_lines.specs.Marked.{marked_line}
use Rattle.ft_base.specs.declared.span.Span.{Span}
use Rattle.index_meaning.specs.Documents.{Numbered, document_at, has_document, token_count}
use Rattle.index_phrases.specs.Phrases.{words_at}
use Rattle.index_phrases.specs.Tokens.{span_tokens}
use Rattle.path_nodes.specs.References.{element_of}
use Rattle.session_state.proofs.SelectionTestLemmas.{element-there}
use Rattle.session_state.proofs.MarkedTokens.{best-found, marks-follow}
use Rattle.session_state.proofs.marked_words.push_line.Goals as goal
use Rattle.tokenizer.specs.Tokens.{tokens}

-- the places that were found
abbrev spans_in : Option (Vec Span Global) → Option (List Span)
spans_in found = option_map (λ spans. spans.items) found

pub span_of-span-requires : goal.span_of-span-requires
span_of-span-requires g c = c.node_law.ensures.there c.args.tree.now.root c.args.node (element-there c.args.tree.now.root c.args.node c.requires.there)

pub lend_words-requires : goal.lend_words-requires
lend_words-requires g c =
    subst (λ (v : List Numbered). has_document c.args.doc.0 v ≡ true) (sym c.requires.version)
    (marks-follow g.A.Abbreviated.abbreviations c.args.marks.now c.args.doc.0 c.args.tree.now.root c.requires.marks).there

pub best-requires-clause-there : goal.best-requires-clause-there
best-requires-clause-there g c = (marks-follow g.A.Abbreviated.abbreviations c.args.marks.now c.args.doc.0 c.args.tree.now.root c.requires.marks).there

pub best-requires-clause-inside : goal.best-requires-clause-inside
best-requires-clause-inside g c =
    let root = c.args.tree.now.root in
    let node = c.args.node in
    let doc = c.args.doc.0 in
    let marks = c.args.marks.now in
    let there = element-there root node c.requires.there in
    let follows = marks-follow g.A.Abbreviated.abbreviations marks doc root c.requires.marks in
    let inside = c.span_law.ensures.there g.A.Abbreviated.abbreviations marks.version doc root node follows there in
    subst (λ (s : Span). (1 ≤ s.from) × (s.from ≤ s.to) × (s.to ≤ token_count (document_at doc marks.version) + 1))
    (sym (c.node_law.ensures.span root node c.span_of-span.result there c.span_of-span.ensures.positions)) (inside.first, inside.order, inside.last)

pub returns-in-Some-clause-lines : goal.returns-in-Some-clause-lines
returns-in-Some-clause-lines g c =
    let abbreviations = g.A.Abbreviated.abbreviations in
    let root = c.args.tree.now.root in
    let node = c.args.node in
    let doc = c.args.doc.0 in
    let marks = c.args.marks.now in
    let there = element-there root node c.requires.there in
    let follows = marks-follow abbreviations marks doc root c.requires.marks in
    let at = c.node_law.ensures.span root node c.span_of-span.result there c.span_of-span.ensures.positions in
    let told = ap (λ s. span_tokens s (document_at doc marks.version)) at ∙ c.span_law.ensures.tokens abbreviations marks.version doc root node follows there in
    let found = best-found marks (span_tokens c.span_of-span.result (document_at doc marks.version)) (tokens abbreviations (element_of root node).node) (spans_in c.in_ok-spans.field-0) told c.in_ok-spans.ensures.says
    ∙ ap (λ o. unwrap_or (spans_in o) []) c.in-Some.is in
    let none = ap (map (λ (word : Bor (List ℕ)). word.now)) c.clear.ensures.items in
    let words = c.in_ok-lend_words.ensures
    ∙ ((λ i. none i ++ words_at (at i) (document_at doc (c.requires.version i)))
    ∙ c.span_law.ensures.words abbreviations marks.version doc root node follows there) in
    subst (λ line. OnOk c.push_line.result (c.push_line.new.lines ≡ c.args.lines.now ++ line ∷ []))
    (ap₂ marked_line (c.as_slice-in-Some.ensures.value ∙ sym found) (ap (map (λ (word : Bor (List ℕ)). word.now)) c.as_slice.ensures.value ∙ words)) c.push_line.ensures.ok

pub returns-in-None-clause-lines : goal.returns-in-None-clause-lines
returns-in-None-clause-lines g c =
    let abbreviations = g.A.Abbreviated.abbreviations in
    let root = c.args.tree.now.root in
    let node = c.args.node in
    let doc = c.args.doc.0 in
    let marks = c.args.marks.now in
    let there = element-there root node c.requires.there in
    let follows = marks-follow abbreviations marks doc root c.requires.marks in
    let at = c.node_law.ensures.span root node c.span_of-span.result there c.span_of-span.ensures.positions in
    let told = ap (λ s. span_tokens s (document_at doc marks.version)) at ∙ c.span_law.ensures.tokens abbreviations marks.version doc root node follows there in
    let found = best-found marks (span_tokens c.span_of-span.result (document_at doc marks.version)) (tokens abbreviations (element_of root node).node) (spans_in c.in_ok-spans.field-0) told c.in_ok-spans.ensures.says
    ∙ ap (λ o. unwrap_or (spans_in o) []) c.in-None.is in
    let none = ap (map (λ (word : Bor (List ℕ)). word.now)) c.clear.ensures.items in
    let words = c.in_ok-lend_words.ensures
    ∙ ((λ i. none i ++ words_at (at i) (document_at doc (c.requires.version i)))
    ∙ c.span_law.ensures.words abbreviations marks.version doc root node follows there) in
    subst (λ line. OnOk c.push_line-in-None.result (c.push_line-in-None.new.lines ≡ c.args.lines.now ++ line ∷ []))
    (ap₂ marked_line (sym found) (ap (map (λ (word : Bor (List ℕ)). word.now)) c.as_slice-in-None.ensures.value ∙ words)) c.push_line-in-None.ensures.ok
