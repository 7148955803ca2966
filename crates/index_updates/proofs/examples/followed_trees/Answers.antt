-- A version without a document of that number doesn't follow the tree, nor does one with another document there, be it in its breaks alone.
use Rattle.std.proofs.Common.{◌≡◌, sym, ap, length, arith}
use Rattle.std.proofs.lemmas.Bool.{true≢false}
use Rattle.index_meaning.specs.Documents.{Document}
use Rattle.ordered_tree.specs.Leaves.{leaves_after}
use Rattle.tokenizer.specs.Parts.{events, events_of}
use Rattle.tokenizer.specs.Tokens.{starts, tokens, tokens_from}
use Rattle.index_updates.specs.Follows.{tree_document}
use Rattle.index_updates.proofs.examples.followed_trees.Goals as goal

pub returns-clause-other_number : goal.returns-clause-other_number
returns-clause-other_number c = λ f. true≢false (sym f.there)

pub returns-clause-other_leaves : goal.returns-clause-other_leaves
unfolding tree_document leaves_after
returns-clause-other_leaves c = λ f.
    let one : 1 ≡ 0 = ap (λ (d : Document). length d.leaves) f.document in
    omega (arith, one)

pub returns-clause-other_breaks : goal.returns-clause-other_breaks
unfolding tree_document tokens tokens_from events events_of starts
returns-clause-other_breaks c = λ f.
    let one : 1 ≡ 0 = ap (λ (d : Document). length d.sentences) f.document in
    omega (arith, one)
