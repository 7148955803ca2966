-- The law of spans, at the node.
use Rattle.std.proofs.Common.{◌≡◌, ◌+◌, ap, ◌∙◌}
use Rattle.std.proofs.lemmas.List.Elements.{All-contains}
use Rattle.tokenizer.specs.Tokens.{tokens}
use Rattle.ordered_tree.specs.Numbered.{plain}
use Rattle.ordered_tree.specs.Part.{part}
use Rattle.ordered_tree.specs.Stands.{stands_in, span}
use Rattle.ordered_tree.proofs.ShiftLemmas.{shift}
use Rattle.ordered_tree.proofs.doc_tree.DocTree.span_of.Goals as goal

pub returns-clause-tokens : goal.returns-clause-tokens
returns-clause-tokens c abbreviations s among refers =
    let root = c.args.self.now.root in
    ap (λ x. part (tokens abbreviations (plain root)) (record { from = x.before + 1; to = x.before + 1 + x.words })) (c.head-head.ensures.stands s among refers)
    ∙ All-contains (λ t. part (tokens abbreviations (plain root)) (span t) ≡ tokens abbreviations (plain t.node)) (stands_in root) s (shift abbreviations root) among
