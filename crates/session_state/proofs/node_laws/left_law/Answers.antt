-- The same places of a node are left out in the numbers of its span and in its own.
use Rattle.std.proofs.Common.{◌≡◌, ◌∙◌, sym, ap, length, map, arith}
use Rattle.std.proofs.lemmas.List.{length-map}
use Rattle.ft_base.specs.declared.token.Token.{Token}
use Rattle.ignore_view.specs.Holes.{holes_in}
use Rattle.ignore_view.specs.Without.{without}
use Rattle.ordered_tree.specs.Counts.{word_count}
use Rattle.path_nodes.specs.References.{element_of}
use Rattle.session_state.specs.IgnoredText.{ignored_places}
use Rattle.session_state.specs.SelectionTests.{span_at}
use Rattle.session_state.proofs.LeftLemmas.{left-out-same, left-words}
use Rattle.session_state.proofs.TextLemmas.{tokens-counted}
use Rattle.tokenizer.specs.Tokens.{tokens}
use Rattle.session_state.proofs.node_laws.left_law.Goals as goal

pub returns-clause-nothing : goal.returns-clause-nothing
returns-clause-nothing c = λ abbreviations e. c.without_nothing.ensures (tokens abbreviations e.node) (tokens-counted abbreviations e.node)

pub returns-clause-span : goal.returns-clause-span
returns-clause-span c = λ abbreviations root r others document there all same.
    let e = element_of root r in
    let own = tokens abbreviations e.node in
    let at = span_at root r in
    let spans = map (span_at root) others in
    let many : length own ≡ word_count e.node =
    sym (length-map own (λ (token : Token). token.word)) ∙ (ap length (c.words_law.ensures abbreviations e.node) ∙ c.count_law.ensures e.node) in
    ap (λ ts. without ts (holes_in at spans)) same
    ∙ c.without_same_places.ensures own (holes_in at spans) (map (ignored_places e) (map (element_of root) others))
    (λ place least most. left-out-same root r others place there all (c.holes_in_spans.ensures at spans place) least (omega (arith, most, many)))

pub returns-clause-words : goal.returns-clause-words
returns-clause-words c = λ own holes. left-words own holes (c.without_is_counted.ensures.words own holes)
