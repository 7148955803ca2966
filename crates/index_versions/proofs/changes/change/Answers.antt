-- The ids of the document that goes are counted, those that fall are there, and the parts are sound then.
use Rattle.std.proofs.Common.{not, sym, ◌∙◌, arith}
use Rattle.std.specs.Prelude.{nat_lt}
use Rattle.std.proofs.lemmas.Bool.{and_parts, or_right, lt-ltb}
use Rattle.index_document.specs.Terms.{has}
use Rattle.index_counts.specs.Counts.{count_of}
use Rattle.index_versions.specs.steps.Held.{documents_with, listed_ids}
use Rattle.index_versions.proofs.ChangeLemmas.{old_counted, sound_then}
use Rattle.index_versions.proofs.changes.change.Goals as goal

pub lower-requires : goal.lower-requires
lower-requires c = λ id there.
    let some = old_counted id c.args.doc.0 c.args.parts.now.documents c.in_ok-old.old c.requires.sound.ascending c.in_ok-old.ensures.old there in
    omega (arith, c.in_ok-raise.ensures id, c.requires.sound.counted id, some)

pub drop_terms-requires-clause-there : goal.drop_terms-requires-clause-there
drop_terms-requires-clause-there c = λ id there.
    let old = has id (listed_ids c.in_ok-old.old) in
    let parts = and_parts old (not (nat_lt 0 (count_of c.lower.new.counts id))) (sym (c.in_ok-fallen.ensures.fallen id) ∙ there) in
    let some = old_counted id c.args.doc.0 c.args.parts.now.documents c.in_ok-old.old c.requires.sound.ascending c.in_ok-old.ensures.old parts.0 in
    let count = documents_with id c.args.parts.now.documents in
    c.requires.sound.used id ∙ or_right (has id (listed_ids c.args.next)) (nat_lt 0 count) (lt-ltb 0 count some)

pub returns-clause-sound : goal.returns-clause-sound
returns-clause-sound c =
    sound_then c.args.doc.0 c.in_ok-old.old c.args.next c.args.parts.now (record { documents = c.exchange.new.documents; dictionary = c.drop_terms.new.dictionary; counts = c.lower.new.counts; groups = c.mark.new.groups })
    (λ id. count_of c.raise.new.counts id) c.in_ok-fallen.fallen.items c.requires.number c.requires.sound c.in_ok-old.ensures.old c.in_ok-old.ensures.documents
    c.in_ok-raise.ensures c.in_ok-fallen.ensures.counts c.in_ok-fallen.ensures.fallen c.in_ok-drop_terms.ensures.left c.in_ok-mark.ensures.others c.in_ok-mark.ensures.next c.in_ok-drop_terms.ensures.given
