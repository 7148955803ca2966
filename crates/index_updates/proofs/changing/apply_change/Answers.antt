-- The change leads from the document of the old tree to that of the new one.
use Rattle.std.proofs.Common.{◌∙◌, sym, ap, subst, arith, ◌+◌}
use Rattle.index_meaning.specs.Documents.{document_at}
use Rattle.index_meaning.specs.Index.{index}
use Rattle.text_forms.specs.Forms.{key_of}
use Rattle.index_updates.specs.Follows.{Follows, tree_document}
use Rattle.index_updates.proofs.ChangeLemmas.{change-new, change-there, change-version, change-words}
use Rattle.index_updates.proofs.VersionLemmas.{follows-with, others-with}
use Rattle.index_updates.proofs.changing.apply_change.Goals as goal

pub change_document-requires-clause-taken : goal.change_document-requires-clause-taken
change_document-requires-clause-taken g c =
    let e = c.requires.edited in
    let follows = subst (λ v. Follows c.args.abbreviations.now v c.args.doc.0 e.0) (sym c.in-Ok.ensures) e.1 in
    change-there c.args.abbreviations.now c.in-Ok.next c.args.doc.0 e.0 c.args.tree.now.root c.args.change.now follows e.2

pub change_document-requires-clause-put : goal.change_document-requires-clause-put
change_document-requires-clause-put g c =
    let e = c.requires.edited in
    let follows = subst (λ v. Follows c.args.abbreviations.now v c.args.doc.0 e.0) (sym c.in-Ok.ensures) e.1 in
    change-new c.args.abbreviations.now c.in-Ok.next c.args.doc.0 e.0 c.args.tree.now.root c.args.change.now follows e.2

pub returns-in-Ok-change_document-clause-documents : goal.returns-in-Ok-change_document-clause-documents
returns-in-Ok-change_document-clause-documents g c =
    let e = c.requires.edited in
    change-version c.args.abbreviations.now c.args.version.now c.args.doc.0 e.0 c.args.tree.now.root c.args.change.now e.1 e.2 c.in-Ok.next c.change_document.new.version c.in_ok-breaks.breaks
    c.in-Ok.ensures (λ i. record { sentences = c.in_ok-breaks.ensures.sentences i; paragraphs = c.in_ok-breaks.ensures.paragraphs i }) c.in-Ok-change_document.ensures.ok

pub returns-in-Ok-change_document-clause-index : goal.returns-in-Ok-change_document-clause-index
returns-in-Ok-change_document-clause-index g c = ap (index key_of) (returns-in-Ok-change_document-clause-documents g c)

pub returns-in-Ok-change_document-clause-follows : goal.returns-in-Ok-change_document-clause-follows
returns-in-Ok-change_document-clause-follows g c =
    follows-with c.args.abbreviations.now c.args.doc.0 c.args.tree.now.root c.args.version.now c.change_document.new.version (returns-in-Ok-change_document-clause-documents g c)

pub returns-in-Ok-change_document-clause-others : goal.returns-in-Ok-change_document-clause-others
returns-in-Ok-change_document-clause-others g c = λ other apart.
    ap (document_at other) (returns-in-Ok-change_document-clause-documents g c)
    ∙ others-with c.args.doc.0 (tree_document c.args.abbreviations.now c.args.tree.now.root) c.args.version.now other apart

pub returns-in-Ok-change_document-clause-counted : goal.returns-in-Ok-change_document-clause-counted
returns-in-Ok-change_document-clause-counted g c = λ old follows made.
    let here = subst (λ v. Follows c.args.abbreviations.now v c.args.doc.0 old) (sym c.in-Ok.ensures) follows in
    let words = change-words c.args.abbreviations.now c.in-Ok.next c.args.doc.0 old c.args.tree.now.root c.args.change.now here made in
    c.in-Ok-change_document.ensures.counted ∙ ap (λ n. c.args.rows.now + n) words

pub returns-in-Ok-change_document-clause-at_most : goal.returns-in-Ok-change_document-clause-at_most
returns-in-Ok-change_document-clause-at_most g c = λ old follows made.
    let counted = returns-in-Ok-change_document-clause-counted g c old follows made in
    omega (arith, counted)

pub returns-in-Err-change_document-clause-at_most : goal.returns-in-Err-change_document-clause-at_most
returns-in-Err-change_document-clause-at_most g c = λ old follows made.
    let here = subst (λ v. Follows c.args.abbreviations.now v c.args.doc.0 old) (sym c.in-Ok.ensures) follows in
    let words = change-words c.args.abbreviations.now c.in-Ok.next c.args.doc.0 old c.args.tree.now.root c.args.change.now here made in
    omega (arith, words, c.in-Err-change_document.ensures.at_most)
