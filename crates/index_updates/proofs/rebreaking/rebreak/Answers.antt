-- The document that the version has is that of the tree but for its breaks.
use Rattle.std.proofs.Common.{◌∙◌, ap}
use Rattle.index_meaning.specs.Documents.{document_at, numbered, with_breaks, with_document}
use Rattle.index_meaning.specs.Index.{index}
use Rattle.text_forms.specs.Forms.{key_of}
use Rattle.index_updates.specs.Follows.{tree_document}
use Rattle.index_updates.proofs.VersionLemmas.{follows-with, others-with, rebroken}
use Rattle.index_updates.proofs.rebreaking.rebreak.Goals as goal

pub returns-in-Ok-set_breaks-clause-documents : goal.returns-in-Ok-set_breaks-clause-documents
returns-in-Ok-set_breaks-clause-documents c =
    let doc = c.args.doc.0 in
    let root = c.args.tree.now.root in
    let breaks = c.in_ok-breaks.breaks in
    c.in-Ok-set_breaks.ensures.ok
    ∙ ap (λ v. with_document (numbered doc (with_breaks breaks (document_at doc v))) v) c.in-Ok.ensures
    ∙ ap (λ d. with_document (numbered doc d) c.args.version.now) (ap (with_breaks breaks) c.requires.1.document
    ∙ rebroken c.requires.0 c.args.abbreviations.now root breaks (λ i. record { sentences = c.in_ok-breaks.ensures.sentences i; paragraphs = c.in_ok-breaks.ensures.paragraphs i }))

pub returns-in-Ok-set_breaks-clause-index : goal.returns-in-Ok-set_breaks-clause-index
returns-in-Ok-set_breaks-clause-index c = ap (index key_of) (returns-in-Ok-set_breaks-clause-documents c)

pub returns-in-Ok-set_breaks-clause-follows : goal.returns-in-Ok-set_breaks-clause-follows
returns-in-Ok-set_breaks-clause-follows c =
    follows-with c.args.abbreviations.now c.args.doc.0 c.args.tree.now.root c.args.version.now c.set_breaks.new.self (returns-in-Ok-set_breaks-clause-documents c)

pub returns-in-Ok-set_breaks-clause-others : goal.returns-in-Ok-set_breaks-clause-others
returns-in-Ok-set_breaks-clause-others c = λ other apart.
    ap (document_at other) (returns-in-Ok-set_breaks-clause-documents c)
    ∙ others-with c.args.doc.0 (tree_document c.args.abbreviations.now c.args.tree.now.root) c.args.version.now other apart
