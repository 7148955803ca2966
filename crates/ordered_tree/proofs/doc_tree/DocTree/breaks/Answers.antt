-- The starts that were seen after the root are all of the document.
use Rattle.std.proofs.Common.{[], ◌++◌, sym, ap, ◌∙◌, append-nil, arith}
use Rattle.tokenizer.specs.Parts.{parts}
use Rattle.tokenizer.specs.Tokens.{tokens, tokens_from, sentence_starts, paragraph_starts}
use Rattle.ordered_tree.specs.Numbered.{plain}
use Rattle.ordered_tree.specs.Slots.{root_of, root_ref}
use Rattle.ordered_tree.proofs.RowLemmas.{Step, root-row, fits, step}
use Rattle.ordered_tree.proofs.doc_tree.DocTree.breaks.Goals as goal

pub get-requires : goal.get-requires
get-requires c =
    let slots = c.self.inside.slots in
    let st : Step slots root_ref =
    step slots root_ref (root-row slots c.self.inside.free c.self.invariant.stored (fits slots c.self.inside.free (root_of slots) c.self.invariant.stored)) in
    omega (arith, st.here)

pub pass_node-requires-clause-row : goal.pass_node-requires-clause-row
pass_node-requires-clause-row c =
    let slots = c.self.inside.slots in
    root-row slots c.self.inside.free c.self.invariant.stored (fits slots c.self.inside.free (root_of slots) c.self.invariant.stored)

pub pass_node-requires-clause-few : goal.pass_node-requires-clause-few
unfolding root_of
pass_node-requires-clause-few c = omega (arith, c.new-starts.ensures.words, c.self.invariant.stored.few_words)

pub returns-clause-sentences : goal.returns-clause-sentences
unfolding root_of tokens
returns-clause-sentences c =
    let abbreviations = c.args.abbreviations.now in
    let all = parts abbreviations (plain (root_of c.self.inside.slots)) in
    c.into_breaks.ensures.sentences ∙ sym (c.in_ok-pass_node.ensures.passed.sentences []) ∙ c.new-starts.ensures.sentences (all ++ [])
    ∙ ap (λ ps. sentence_starts (tokens_from 1 1 ps)) (append-nil all) ∙ ap (λ v. sentence_starts (tokens abbreviations (plain v.root))) c.self.view_is

pub returns-clause-paragraphs : goal.returns-clause-paragraphs
unfolding root_of tokens
returns-clause-paragraphs c =
    let abbreviations = c.args.abbreviations.now in
    let all = parts abbreviations (plain (root_of c.self.inside.slots)) in
    c.into_breaks.ensures.paragraphs ∙ sym (c.in_ok-pass_node.ensures.passed.paragraphs []) ∙ c.new-starts.ensures.paragraphs (all ++ [])
    ∙ ap (λ ps. paragraph_starts (tokens_from 1 1 ps)) (append-nil all) ∙ ap (λ v. paragraph_starts (tokens abbreviations (plain v.root))) c.self.view_is
