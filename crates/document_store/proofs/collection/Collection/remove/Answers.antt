-- A name that is there is found, and the others stay, in the version too.
use Rattle.std.proofs.Common.{◌∙◌, ◌-◌, sym, ap, subst, false, true, map, arith, refl}
use Rattle.std.specs.Prelude.{is_some}
use Rattle.std.specs.Option.{option_copied}
use Rattle.ft_base.specs.declared.ids.DocId.{DocId}
use Rattle.index_meaning.specs.Documents.{has_document, without_document}
use Rattle.index_updates.specs.Follows.{Follows}
use Rattle.ordered_tree.specs.Counts.{word_count}
use Rattle.ordered_tree.specs.Numbered.{plain}
use Rattle.ordered_tree.specs.Stored.{Stored}
use Rattle.document_store.specs.declared.fault.NotRemoved.{NotRemoved}
use Rattle.document_store.specs.Indexed.{Indexed}
use Rattle.document_store.specs.Loaded.{to_document}
use Rattle.document_store.specs.Documents.{without}
use Rattle.document_store.specs.steps.Numbering.{IsKept}
use Rattle.document_store.proofs.NumberingLemmas.{found-known, found-there, kept-enough, kept-less}
use Rattle.document_store.proofs.LoadingLemmas.{changed_to, dropped-test, name-taken, without-removed}
use Rattle.document_store.proofs.collection.Collection.remove.Goals as goal

pub returns-in_default-clause-answer : goal.returns-in_default-clause-answer
returns-in_default-clause-answer g c =
    let documents = c.args.self.now.documents in
    let none = sym c.get.ensures ∙ ap option_copied c.in_default.is in
    let absent = name-taken c.self.inside.documents documents c.args.name.now (ap (λ (i : Indexed). i.documents) c.self.view_is) ∙ ap is_some none in
    sym (dropped-test documents c.args.name.now false absent)

pub drop_doc-requires : goal.drop_doc-requires
drop_doc-requires g c =
    let found = sym c.get.ensures ∙ ap option_copied c.in-Some.is in
    ap (λ (d : DocId). has_document d.0 c.self.inside.version) c.doc-doc.ensures
    ∙ (ap (has_document c.in-Some.document.now.doc.0) c.self.invariant.numbered.follows ∙ found-there c.self.inside.abbreviations c.args.name.now c.in-Some.document.now c.self.inside.documents found)

pub returns-in_err-version-clause-rows : goal.returns-in_err-version-clause-rows
returns-in_err-version-clause-rows g c =
    let inside = c.self.inside in
    let document = c.in-Some.document.now in
    let known = found-known inside.abbreviations inside.documents inside.version inside.next c.args.self.now.documents c.args.name.now c.args.name.now document c.self.invariant.numbered
    (ap (λ (i : Indexed). i.documents) c.self.view_is) refl (sym c.get.ensures ∙ ap option_copied c.in-Some.is) in
    let most = c.in_err-version.ensures.words inside.abbreviations document.tree.root (subst (λ (d : DocId). Follows inside.abbreviations inside.version d.0 document.tree.root) (sym c.doc-doc.ensures) known.0) in
    omega (arith, known.1, most)

pub overflow_sub-self : goal.overflow_sub-self
overflow_sub-self g c =
    let inside = c.self.inside in
    let found = sym c.get.ensures ∙ ap option_copied c.in-Some.is in
    let enough = kept-enough inside.abbreviations inside.documents inside.version inside.next inside.tokens c.args.name.now c.in-Some.document.now c.self.invariant found in
    let count = c.token_count-tokens.ensures ∙ ap (λ (t : Stored). word_count (plain t.root)) c.tree.ensures.tree in
    omega (arith, enough, count)

pub invariant_of-self : goal.invariant_of-self
invariant_of-self g c =
    let inside = c.self.inside in
    let found = sym c.get.ensures ∙ ap option_copied c.in-Some.is in
    subst (λ es. IsKept inside.abbreviations es c.replace.new.dest inside.next (inside.tokens - c.token_count-tokens.result)) (sym c.in-Ok.ensures.ok)
    (kept-less inside.abbreviations inside.documents inside.version c.replace.new.dest inside.next inside.tokens (inside.tokens - c.token_count-tokens.result) c.args.name.now c.in-Some.document.now c.self.invariant found
    (c.replace.ensures.after ∙ (c.in_ok-version.ensures.documents ∙ ap (λ (d : DocId). without_document d.0 inside.version) c.doc-doc.ensures)) (ap (λ n. inside.tokens - n) (c.token_count-tokens.ensures ∙ ap (λ (t : Stored). word_count (plain t.root)) c.tree.ensures.tree)))

pub returns-in-Ok-clause-answer : goal.returns-in-Ok-clause-answer
returns-in-Ok-clause-answer g c =
    let old = c.self.inside.documents in
    let name = c.args.name.now in
    let there = ap (λ (i : Indexed). i.documents) c.self.view_is in
    let found = sym c.get.ensures ∙ ap option_copied c.in-Some.is in
    let has = name-taken old c.args.self.now.documents name there ∙ ap is_some found in
    ap (λ es. changed_to {E = NotRemoved} (map to_document es)) c.in-Ok.ensures.ok
    ∙ (ap (changed_to {E = NotRemoved}) (without-removed name old ∙ ap (without name) there)
    ∙ sym (dropped-test c.args.self.now.documents name true has))

pub returns-in-Ok-clause-rows : goal.returns-in-Ok-clause-rows
returns-in-Ok-clause-rows g c =
    let inside = c.self.inside in
    let document = c.in-Some.document.now in
    let known = found-known inside.abbreviations inside.documents inside.version inside.next c.args.self.now.documents c.args.name.now c.args.name.now document c.self.invariant.numbered
    (ap (λ (i : Indexed). i.documents) c.self.view_is) refl (sym c.get.ensures ∙ ap option_copied c.in-Some.is) in
    let most = c.in_ok-version.ensures.words inside.abbreviations document.tree.root (subst (λ (d : DocId). Follows inside.abbreviations inside.version d.0 document.tree.root) (sym c.doc-doc.ensures) known.0) in
    omega (arith, known.1, most)

pub returns-in-Err-clause-rows : goal.returns-in-Err-clause-rows
returns-in-Err-clause-rows g c =
    let inside = c.self.inside in
    let document = c.in-Some.document.now in
    let known = found-known inside.abbreviations inside.documents inside.version inside.next c.args.self.now.documents c.args.name.now c.args.name.now document c.self.invariant.numbered
    (ap (λ (i : Indexed). i.documents) c.self.view_is) refl (sym c.get.ensures ∙ ap option_copied c.in-Some.is) in
    let most = c.in_ok-version.ensures.words inside.abbreviations document.tree.root (subst (λ (d : DocId). Follows inside.abbreviations inside.version d.0 document.tree.root) (sym c.doc-doc.ensures) known.0) in
    omega (arith, known.1, most)
