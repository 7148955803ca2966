-- The leaves are different under their ids too, and the document means these leaves.
use Rattle.std.proofs.Common.{◌+◌, ap, sym, ◌∙◌, arith}
use Rattle.index_document.specs.Terms.{are_distinct}
use Rattle.index_meaning.specs.Documents.{leaf_ids}
use Rattle.index_versions.specs.steps.Held.{held_of, documents_under}
use Rattle.index_versions.proofs.LeafLemmas.{ids_under_leaves}
use Rattle.index_versions.proofs.UpdateLemmas.{comes_ready, comes_means, comes_size}
use Rattle.index_versions.proofs.WordLemmas.{counted_there}
use Rattle.index_versions.proofs.leaves.put_document.Goals as goal

pub name_leaves-requires : goal.name_leaves-requires
name_leaves-requires g c = counted_there c.args.parts.now c.requires.sound

pub from_leaves-requires : goal.from_leaves-requires
from_leaves-requires g c =
    ap are_distinct (sym (ids_under_leaves c.name_leaves.new.dictionary.given c.in_ok-made.made.items) ∙ ap leaf_ids c.in_ok-made.ensures.leaves) ∙ c.requires.distinct

pub change-requires-clause-sound : goal.change-requires-clause-sound
change-requires-clause-sound g c =
    comes_ready c.args.parts.now c.args.doc.0 c.args.leaves.now c.args.breaks c.name_leaves.new.dictionary c.in_ok-made.made.items c.in_ok-next.next
    (record {
      sound = c.requires.sound;
      names = c.in_ok-made.ensures.named;
      leaves_are = c.in_ok-made.ensures.leaves;
      next_is = c.in_ok-next.ensures ∙ (λ i. held_of (c.in_ok-index.ensures.ok i) c.args.breaks);
    })

pub returns-in_err-change-clause-at_most : goal.returns-in_err-change-clause-at_most
returns-in_err-change-clause-at_most g c =
    let size = comes_size c.args.parts.now c.args.doc.0 c.args.leaves.now c.args.breaks c.name_leaves.new.dictionary c.in_ok-made.made.items c.in_ok-next.next
    (record {
      sound = c.requires.sound;
      names = c.in_ok-made.ensures.named;
      leaves_are = c.in_ok-made.ensures.leaves;
      next_is = c.in_ok-next.ensures ∙ (λ i. held_of (c.in_ok-index.ensures.ok i) c.args.breaks);
    }) in
    omega (arith, c.in_ok-index.ensures.at_most, size)

pub returns-clause-meaning : goal.returns-clause-meaning
returns-clause-meaning g c =
    (λ i. documents_under (c.in_ok-change.ensures.given i) (c.in_ok-change.ensures.documents i))
    ∙ comes_means c.args.parts.now c.args.doc.0 c.args.leaves.now c.args.breaks c.name_leaves.new.dictionary c.in_ok-made.made.items c.in_ok-next.next
    (record {
      sound = c.requires.sound;
      names = c.in_ok-made.ensures.named;
      leaves_are = c.in_ok-made.ensures.leaves;
      next_is = c.in_ok-next.ensures ∙ (λ i. held_of (c.in_ok-index.ensures.ok i) c.args.breaks);
    })

pub returns-clause-counted : goal.returns-clause-counted
returns-clause-counted g c =
    let size = comes_size c.args.parts.now c.args.doc.0 c.args.leaves.now c.args.breaks c.name_leaves.new.dictionary c.in_ok-made.made.items c.in_ok-next.next
    (record {
      sound = c.requires.sound;
      names = c.in_ok-made.ensures.named;
      leaves_are = c.in_ok-made.ensures.leaves;
      next_is = c.in_ok-next.ensures ∙ (λ i. held_of (c.in_ok-index.ensures.ok i) c.args.breaks);
    }) in
    c.in_ok-index.ensures.counted ∙ ap (λ n. c.args.rows.now + n) size

pub returns-clause-at_most : goal.returns-clause-at_most
returns-clause-at_most g c =
    let size = comes_size c.args.parts.now c.args.doc.0 c.args.leaves.now c.args.breaks c.name_leaves.new.dictionary c.in_ok-made.made.items c.in_ok-next.next
    (record {
      sound = c.requires.sound;
      names = c.in_ok-made.ensures.named;
      leaves_are = c.in_ok-made.ensures.leaves;
      next_is = c.in_ok-next.ensures ∙ (λ i. held_of (c.in_ok-index.ensures.ok i) c.args.breaks);
    }) in
    omega (arith, c.in_ok-index.ensures.at_most, size)
