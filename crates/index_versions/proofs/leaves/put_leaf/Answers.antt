-- The leaf is a new one, and the document with it means what it meant, with the leaf.
use Rattle.std.proofs.Common.{◌+◌, ap, sym, ◌∙◌, arith}
use Rattle.index_document.specs.Terms as by_id
use Rattle.index_document.specs.Terms.{TermDocument, has}
use Rattle.index_versions.specs.steps.Held.{Held, documents_under}
use Rattle.index_versions.proofs.WordLemmas.{counted_there, named_size}
use Rattle.index_versions.proofs.UpdateLemmas.{has_leaf_under, leaf_after_under, put_number, put_ready, put_means, put_next}
use Rattle.index_versions.proofs.leaves.put_leaf.Goals as goal

pub name_words-requires : goal.name_words-requires
name_words-requires g c = counted_there c.args.parts.now c.requires.sound

pub index_with_leaf-requires-clause-new : goal.index_with_leaf-requires-clause-new
index_with_leaf-requires-clause-new g c =
    let parts = c.args.parts.now in
    let index = c.index.ensures ∙ ap (λ (h : Held). h.index) c.in_ok-held.ensures in
    ap (λ (d : TermDocument). has c.args.leaf.0 (by_id.leaf_ids d.leaves)) index ∙ sym (has_leaf_under parts.dictionary.given c.args.doc.0 c.args.leaf.0 parts.documents) ∙ c.requires.new

pub index_with_leaf-requires-clause-after : goal.index_with_leaf-requires-clause-after
index_with_leaf-requires-clause-after g c =
    let parts = c.args.parts.now in
    let index = c.index.ensures ∙ ap (λ (h : Held). h.index) c.in_ok-held.ensures in
    leaf_after_under parts.dictionary.given c.args.doc.0 parts.documents c.index.result.now c.args.after index c.requires.after

pub returns-in_err-next-clause-at_most : goal.returns-in_err-next-clause-at_most
returns-in_err-next-clause-at_most g c =
    omega (arith, c.in_ok-index.ensures.counted, named_size c.name_words.new.dictionary.given c.in_ok-ids.ids.items c.args.words.now c.in_ok-ids.ensures.words)

pub change-requires-clause-number : goal.change-requires-clause-number
change-requires-clause-number g c =
    let parts = c.args.parts.now in
    put_number parts c.args.doc.0 c.args.after c.args.leaf.0 c.args.words.now c.name_words.new.dictionary c.in_ok-ids.ids.items c.in_ok-next.next
    (record {
      sound = c.requires.sound;
      names = c.in_ok-ids.ensures;
      next_is = put_next c.args.doc.0 parts.documents c.args.after c.args.leaf.0 c.in_ok-ids.ids.items c.in_ok-held.held c.index.result.now c.in_ok-index.index c.in_ok-next.next
          c.in_ok-held.ensures c.index.ensures c.in_ok-index.ensures.index c.in_ok-next.ensures;
    })

pub change-requires-clause-sound : goal.change-requires-clause-sound
change-requires-clause-sound g c =
    let parts = c.args.parts.now in
    put_ready parts c.args.doc.0 c.args.after c.args.leaf.0 c.args.words.now c.name_words.new.dictionary c.in_ok-ids.ids.items c.in_ok-next.next
    (record {
      sound = c.requires.sound;
      names = c.in_ok-ids.ensures;
      next_is = put_next c.args.doc.0 parts.documents c.args.after c.args.leaf.0 c.in_ok-ids.ids.items c.in_ok-held.held c.index.result.now c.in_ok-index.index c.in_ok-next.next
          c.in_ok-held.ensures c.index.ensures c.in_ok-index.ensures.index c.in_ok-next.ensures;
    })

pub returns-in_err-change-clause-at_most : goal.returns-in_err-change-clause-at_most
returns-in_err-change-clause-at_most g c =
    omega (arith, c.in_ok-index.ensures.counted, named_size c.name_words.new.dictionary.given c.in_ok-ids.ids.items c.args.words.now c.in_ok-ids.ensures.words)

pub returns-clause-meaning : goal.returns-clause-meaning
returns-clause-meaning g c =
    let parts = c.args.parts.now in
    (λ i. documents_under (c.in_ok-change.ensures.given i) (c.in_ok-change.ensures.documents i))
    ∙ put_means parts c.args.doc.0 c.args.after c.args.leaf.0 c.args.words.now c.name_words.new.dictionary c.in_ok-ids.ids.items c.in_ok-next.next
    (record {
      sound = c.requires.sound;
      names = c.in_ok-ids.ensures;
      next_is = put_next c.args.doc.0 parts.documents c.args.after c.args.leaf.0 c.in_ok-ids.ids.items c.in_ok-held.held c.index.result.now c.in_ok-index.index c.in_ok-next.next
          c.in_ok-held.ensures c.index.ensures c.in_ok-index.ensures.index c.in_ok-next.ensures;
    })

pub returns-clause-counted : goal.returns-clause-counted
returns-clause-counted g c =
    c.in_ok-index.ensures.counted ∙ ap (λ n. c.args.rows.now + n) (named_size c.name_words.new.dictionary.given c.in_ok-ids.ids.items c.args.words.now c.in_ok-ids.ensures.words)

pub returns-clause-at_most : goal.returns-clause-at_most
returns-clause-at_most g c =
    omega (arith, c.in_ok-index.ensures.counted, named_size c.name_words.new.dictionary.given c.in_ok-ids.ids.items c.args.words.now c.in_ok-ids.ensures.words)
