-- The leaf is there, and the document without it means what it meant, without the leaf.
use Rattle.std.proofs.Common.{◌+◌, ap, sym, ◌∙◌, arith}
use Rattle.index_document.specs.Terms as by_id
use Rattle.index_document.specs.Terms.{TermDocument, has}
use Rattle.index_versions.specs.steps.Held.{Held, documents_under}
use Rattle.index_versions.proofs.UpdateLemmas.{has_leaf_under, taken_number, taken_ready, taken_means, taken_next, taken_size}
use Rattle.index_versions.proofs.leaves.take_leaf.Goals as goal

pub index_without_leaf-requires : goal.index_without_leaf-requires
index_without_leaf-requires g c =
    let parts = c.args.parts.now in
    let index = c.index.ensures ∙ ap (λ (h : Held). h.index) c.in_ok-held.ensures in
    ap (λ (d : TermDocument). has c.args.leaf.0 (by_id.leaf_ids d.leaves)) index ∙ sym (has_leaf_under parts.dictionary.given c.args.doc.0 c.args.leaf.0 parts.documents) ∙ c.requires.there

pub returns-in_err-index-clause-at_most : goal.returns-in_err-index-clause-at_most
returns-in_err-index-clause-at_most g c =
    let parts = c.args.parts.now in
    omega (arith, c.in_err-index.ensures.at_most, taken_size parts.dictionary.given c.args.doc.0 c.args.leaf.0 parts.documents c.in_ok-held.held c.index.result.now c.in_ok-held.ensures c.index.ensures)

pub returns-in_err-next-clause-at_most : goal.returns-in_err-next-clause-at_most
returns-in_err-next-clause-at_most g c =
    let parts = c.args.parts.now in
    omega (arith, c.in_ok-index.ensures.at_most, taken_size parts.dictionary.given c.args.doc.0 c.args.leaf.0 parts.documents c.in_ok-held.held c.index.result.now c.in_ok-held.ensures c.index.ensures)

pub change-requires-clause-number : goal.change-requires-clause-number
change-requires-clause-number g c =
    let parts = c.args.parts.now in
    taken_number parts c.args.doc.0 c.args.leaf.0 c.in_ok-next.next
    (record {
      sound = c.requires.sound;
      next_is = taken_next c.args.doc.0 parts.documents c.args.leaf.0 c.in_ok-held.held c.index.result.now c.in_ok-index.index c.in_ok-next.next
          c.in_ok-held.ensures c.index.ensures c.in_ok-index.ensures.index c.in_ok-next.ensures;
    })

pub change-requires-clause-sound : goal.change-requires-clause-sound
change-requires-clause-sound g c =
    let parts = c.args.parts.now in
    taken_ready parts c.args.doc.0 c.args.leaf.0 c.in_ok-next.next
    (record {
      sound = c.requires.sound;
      next_is = taken_next c.args.doc.0 parts.documents c.args.leaf.0 c.in_ok-held.held c.index.result.now c.in_ok-index.index c.in_ok-next.next
          c.in_ok-held.ensures c.index.ensures c.in_ok-index.ensures.index c.in_ok-next.ensures;
    })

pub returns-in_err-change-clause-at_most : goal.returns-in_err-change-clause-at_most
returns-in_err-change-clause-at_most g c =
    let parts = c.args.parts.now in
    omega (arith, c.in_ok-index.ensures.at_most, taken_size parts.dictionary.given c.args.doc.0 c.args.leaf.0 parts.documents c.in_ok-held.held c.index.result.now c.in_ok-held.ensures c.index.ensures)

pub returns-clause-meaning : goal.returns-clause-meaning
returns-clause-meaning g c =
    let parts = c.args.parts.now in
    (λ i. documents_under (c.in_ok-change.ensures.given i) (c.in_ok-change.ensures.documents i))
    ∙ taken_means parts c.args.doc.0 c.args.leaf.0 c.in_ok-next.next
    (record {
      sound = c.requires.sound;
      next_is = taken_next c.args.doc.0 parts.documents c.args.leaf.0 c.in_ok-held.held c.index.result.now c.in_ok-index.index c.in_ok-next.next
          c.in_ok-held.ensures c.index.ensures c.in_ok-index.ensures.index c.in_ok-next.ensures;
    })

pub returns-clause-counted : goal.returns-clause-counted
returns-clause-counted g c =
    let parts = c.args.parts.now in
    c.in_ok-index.ensures.counted
    ∙ ap (λ n. c.args.rows.now + n) (taken_size parts.dictionary.given c.args.doc.0 c.args.leaf.0 parts.documents c.in_ok-held.held c.index.result.now c.in_ok-held.ensures c.index.ensures)

pub returns-clause-at_most : goal.returns-clause-at_most
returns-clause-at_most g c =
    let parts = c.args.parts.now in
    omega (arith, c.in_ok-index.ensures.at_most, taken_size parts.dictionary.given c.args.doc.0 c.args.leaf.0 parts.documents c.in_ok-held.held c.index.result.now c.in_ok-held.ensures c.index.ensures)
