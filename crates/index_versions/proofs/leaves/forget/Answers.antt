-- A document without leaves uses no id, so that all is sound without it.
use Rattle.std.proofs.Common.{None, refl, ap, ◌∙◌}
use Rattle.std.proofs.lemmas.List.Elements.{All-nil}
use Rattle.index_versions.specs.steps.Held.{documents_under}
use Rattle.index_versions.specs.steps.Sound.{IsGrouped}
use Rattle.index_versions.proofs.ExchangeLemmas.{without_under}
use Rattle.index_versions.proofs.UpdateLemmas.{same_sound, bare_counted}
use Rattle.index_versions.proofs.leaves.forget.Goals as goal

pub returns-clause-sound : goal.returns-clause-sound
returns-clause-sound c =
    let parts = c.args.parts.now in
    same_sound parts (record { documents = c.exchange.new.documents; dictionary = parts.dictionary; counts = parts.counts; groups = parts.groups }) c.args.doc.0 None c.requires.sound tt
    (λ id. bare_counted parts c.args.doc.0 id c.requires.no_leaf) (All-nil (IsGrouped parts.groups)) c.in_ok-exchange.ensures.documents refl refl refl

pub returns-clause-ok : goal.returns-clause-ok
returns-clause-ok c =
    let parts = c.args.parts.now in
    ap (documents_under parts.dictionary.given) c.in_ok-exchange.ensures.documents ∙ without_under parts.dictionary.given c.args.doc.0 parts.documents c.requires.sound.ascending
