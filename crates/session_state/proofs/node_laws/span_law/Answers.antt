-- The document has the words of the tree and their tokens as its text, and the node's own at its span.
use Rattle.std.proofs.Common.{◌≡◌, ◌∙◌, ◌+◌, ◌≤◌, sym, ap, subst, arith}
use Rattle.std.proofs.lemmas.List.Elements.{All-contains}
use Rattle.ft_base.specs.declared.span.Span.{Span}
use Rattle.index_meaning.specs.Documents.{document_at, token_count}
use Rattle.index_phrases.specs.Phrases.{words_at}
use Rattle.index_phrases.specs.Tokens.{IsSpan, span_tokens}
use Rattle.index_updates.specs.Follows.{tree_document}
use Rattle.ordered_tree.specs.Counts.{word_count}
use Rattle.ordered_tree.specs.Numbered.{plain}
use Rattle.ordered_tree.specs.Part.{part}
use Rattle.ordered_tree.specs.Stands.{span, stands_in}
use Rattle.path_meaning.specs.Elements.{Element}
use Rattle.session_state.specs.PathPrices.{words_of}
use Rattle.session_state.specs.SelectionTests.{span_at}
use Rattle.session_state.proofs.SelectionTestLemmas.{node-there, words-of-part}
use Rattle.session_state.proofs.TextLemmas.{text-of-tree, tokens-of-span}
use Rattle.tokenizer.specs.Tokens.{tokens}
use Rattle.session_state.proofs.node_laws.span_law.Goals as goal

pub returns-clause-there : goal.returns-clause-there
returns-clause-there c = λ abbreviations version doc root r follows there.
    let n = node-there root r there in
    let among = c.spots_law.ensures.stands root n.spot n.among in
    let below = All-contains (λ s. s.around.before + word_count (plain s.node) ≤ word_count (plain root)) (stands_in root) n.spot.stand (c.words_inside_law.ensures root) among in
    let count : token_count (document_at doc version) ≡ word_count (plain root) = ap token_count follows.document ∙ c.words_law-2.ensures.count abbreviations root in
    subst (λ (at : Span). IsSpan at (document_at doc version)) (sym n.at) (record { first = omega arith; order = omega arith; last = omega (arith, below, count) })

pub returns-clause-tokens : goal.returns-clause-tokens
returns-clause-tokens c = λ abbreviations version doc root r follows there.
    let n = node-there root r there in
    let among = c.spots_law.ensures.stands root n.spot n.among in
    let all = tokens abbreviations (plain root) in
    let document = tree_document abbreviations root in
    let at = span_at root r in
    let here = All-contains (λ t. part all (span t) ≡ tokens abbreviations (plain t.node)) (stands_in root) n.spot.stand (c.shift_law.ensures abbreviations root) among in
    let inside = subst (IsSpan at) follows.document (returns-clause-there c abbreviations version doc root r follows there) in
    let text = text-of-tree abbreviations root (c.words_law.ensures abbreviations (plain root) ∙ sym (c.words_law-2.ensures.words abbreviations root)) in
    ap (span_tokens at) follows.document
    ∙ (tokens-of-span abbreviations root at (c.span_tokens_law.ensures document all at text inside) (c.span_numbers_law.ensures.sentences document all at text inside 0)
    (c.span_numbers_law.ensures.paragraphs document all at text inside 0)
    ∙ (ap (part all) n.at ∙ (here ∙ ap (λ (e : Element). tokens abbreviations e.node) (sym n.is))))

pub returns-clause-words : goal.returns-clause-words
returns-clause-words c = λ abbreviations version doc root r follows there.
    let n = node-there root r there in
    let among = c.spots_law.ensures.stands root n.spot n.among in
    let all = tokens abbreviations (plain root) in
    let own = tokens abbreviations (plain n.spot.stand.node) in
    let here = All-contains (λ t. part all (span t) ≡ tokens abbreviations (plain t.node)) (stands_in root) n.spot.stand (c.shift_law.ensures abbreviations root) among in
    let words = c.words_law.ensures abbreviations (plain root) ∙ sym (c.words_law-2.ensures.words abbreviations root) in
    ap (words_at (span_at root r)) follows.document
    ∙ (words-of-part (tree_document abbreviations root) all own (span_at root r) words (ap (part all) n.at ∙ here)
    ∙ (c.words_law.ensures abbreviations (plain n.spot.stand.node) ∙ ap words_of (sym n.is)))
