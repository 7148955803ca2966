-- The leaf is found at its place, and the others stay.
use Rattle.std.proofs.Common.{◌+◌, [], length, get_or, ap, sym, ◌∙◌, arith, true≢false}
use Rattle.index_document.specs.Terms as by_id
use Rattle.index_document.specs.Terms.{TermDocument}
use Rattle.index_versions.proofs.LeafLemmas.{taken, taken_words}
use Rattle.index_versions.proofs.leaves.index_without_leaf.Goals as goal

pub returns-in_err-rest-in-Some-clause-at_most : goal.returns-in_err-rest-in-Some-clause-at_most
returns-in_err-rest-in-Some-clause-at_most g c =
    let leaves = c.args.index.now.leaves in
    let found = c.in-Some.ensures.found in
    let words = taken_words c.args.leaf.0 leaves c.in-Some.at c.leaf_count-leaves.ensures.distinct found.0 found.1 in
    let copied = ap (λ (d : TermDocument). length (get_or (by_id.leaf_words d.leaves) c.in-Some.at [])) c.in_ok-copy-in-Some.ensures ∙ ap length words in
    omega (arith, c.in_err-rest-in-Some.ensures.at_most, copied)

pub returns-clause-index : goal.returns-clause-index
returns-clause-index g c =
    let leaves = c.args.index.now.leaves in
    let found = c.in-Some.ensures.found in
    c.in_ok-rest-in-Some.ensures.index
    ∙ ap (λ (d : TermDocument). by_id.without_leaf d c.in-Some.at) c.in_ok-copy-in-Some.ensures
    ∙ ap (by_id.document_of c.args.index.now.doc) (taken c.args.leaf.0 leaves c.in-Some.at c.leaf_count-leaves.ensures.distinct found.0 found.1)

pub returns-clause-counted : goal.returns-clause-counted
returns-clause-counted g c =
    let leaves = c.args.index.now.leaves in
    let found = c.in-Some.ensures.found in
    let words = taken_words c.args.leaf.0 leaves c.in-Some.at c.leaf_count-leaves.ensures.distinct found.0 found.1 in
    c.in_ok-rest-in-Some.ensures.counted
    ∙ ap (λ (d : TermDocument). c.args.rows.now + length (get_or (by_id.leaf_words d.leaves) c.in-Some.at [])) c.in_ok-copy-in-Some.ensures
    ∙ ap (λ ws. c.args.rows.now + length ws) words

pub returns-clause-at_most : goal.returns-clause-at_most
returns-clause-at_most g c =
    let leaves = c.args.index.now.leaves in
    let found = c.in-Some.ensures.found in
    let words = taken_words c.args.leaf.0 leaves c.in-Some.at c.leaf_count-leaves.ensures.distinct found.0 found.1 in
    let copied = ap (λ (d : TermDocument). length (get_or (by_id.leaf_words d.leaves) c.in-Some.at [])) c.in_ok-copy-in-Some.ensures ∙ ap length words in
    omega (arith, c.in_ok-rest-in-Some.ensures.at_most, copied)

pub unreachable-requires : goal.unreachable-requires
unreachable-requires g c = true≢false (sym c.requires ∙ c.in-None.ensures.none)
