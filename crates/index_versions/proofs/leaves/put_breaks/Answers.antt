-- Other breaks change no id that is used.
use Rattle.std.proofs.Common.{Some, refl, ap, ◌∙◌}
use Rattle.index_versions.specs.steps.Held.{Held, documents_under}
use Rattle.index_versions.specs.steps.Held.{held_of}
use Rattle.index_versions.proofs.UpdateLemmas.{held_number, same_sound, breaks_means, breaks_counted, breaks_grouped}
use Rattle.index_versions.proofs.leaves.put_breaks.Goals as goal

pub exchange-requires-clause-number : goal.exchange-requires-clause-number
exchange-requires-clause-number c =
    let is = c.in_ok-next.ensures ∙ ap (λ (h : Held). held_of h.index c.args.breaks) c.in_ok-held.ensures in
    ap (λ (h : Held). h.index.doc) is ∙ held_number c.args.doc.0 c.args.parts.now.documents

pub returns-clause-sound : goal.returns-clause-sound
returns-clause-sound c =
    let parts = c.args.parts.now in
    let is = c.in_ok-next.ensures ∙ ap (λ (h : Held). held_of h.index c.args.breaks) c.in_ok-held.ensures in
    same_sound parts (record { documents = c.exchange.new.documents; dictionary = parts.dictionary; counts = parts.counts; groups = parts.groups }) c.args.doc.0 (Some c.in_ok-next.next) c.requires
    (ap (λ (h : Held). h.index.doc) is ∙ held_number c.args.doc.0 parts.documents)
    (λ id. breaks_counted parts c.args.doc.0 id c.args.breaks c.in_ok-next.next is) (breaks_grouped parts c.args.doc.0 c.args.breaks c.in_ok-next.next c.requires is)
    c.in_ok-exchange.ensures.documents refl refl refl

pub returns-clause-ok : goal.returns-clause-ok
returns-clause-ok c =
    let parts = c.args.parts.now in
    let is = c.in_ok-next.ensures ∙ ap (λ (h : Held). held_of h.index c.args.breaks) c.in_ok-held.ensures in
    ap (documents_under parts.dictionary.given) c.in_ok-exchange.ensures.documents ∙ breaks_means parts c.args.doc.0 c.args.breaks c.in_ok-next.next c.requires is
