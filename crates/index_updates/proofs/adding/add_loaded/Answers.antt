-- What was found of the tree is its document.
use Rattle.std.proofs.Common.{◌≡◌, ◌∙◌, ap, subst, arith, ◌+◌, ◌≢◌, List, ℕ}
use Rattle.std.specs.Prelude.{IfOk, OnOk}
use Rattle.std.proofs.lemmas.Result.{IfOk-weaker}
use Rattle.index_meaning.specs.Documents.{Document, Numbered, document_at, leaf_ids, numbered, token_count, with_document}
use Rattle.index_meaning.specs.Index.{index}
use Rattle.text_forms.specs.Forms.{key_of}
use Rattle.index_document.specs.Terms.{are_distinct}
use Rattle.index_updates.specs.Follows.{Follows, tree_document, word_leaves}
use Rattle.index_updates.proofs.LeavesLemmas.{distinct-leaves}
use Rattle.index_updates.proofs.VersionLemmas.{follows-with, found-document, others-with}
use Rattle.index_updates.proofs.WordsLemmas.{count-tree}
use Rattle.index_updates.proofs.adding.add_loaded.Goals as goal

pub with_texts-added-requires-clause-distinct : goal.with_texts-added-requires-clause-distinct
with_texts-added-requires-clause-distinct g c =
    let root = c.args.tree.now.root in
    ap (λ texts. are_distinct (leaf_ids texts)) (c.in-Ok.ensures ∙ ap word_leaves c.requires.found.leaves) ∙ distinct-leaves root c.root-root.ensures.apart

pub returns-clause-documents : goal.returns-clause-documents
returns-clause-documents g c =
    let root = c.args.tree.now.root in
    let document = found-document c.args.abbreviations.now root c.args.found.leaves c.args.found.breaks c.in-Ok.made c.requires.found c.in-Ok.ensures in
    subst (λ (d : Document). IfOk c.with_texts-added.result (λ new. new ≡ with_document (numbered c.args.doc.0 d) c.args.version.now)) document c.with_texts-added.ensures.documents

pub returns-clause-index : goal.returns-clause-index
returns-clause-index g c =
    let wanted : List Numbered = with_document (numbered c.args.doc.0 (tree_document c.args.abbreviations.now c.args.tree.now.root)) c.args.version.now in
    IfOk-weaker c.with_texts-added.result (λ new. new ≡ wanted) (λ new. index key_of new ≡ index key_of wanted) (λ new is. ap (index key_of) is) (returns-clause-documents g c)

pub returns-clause-follows : goal.returns-clause-follows
returns-clause-follows g c =
    let abbreviations = c.args.abbreviations.now in
    let root = c.args.tree.now.root in
    let wanted : List Numbered = with_document (numbered c.args.doc.0 (tree_document abbreviations root)) c.args.version.now in
    IfOk-weaker c.with_texts-added.result (λ new. new ≡ wanted) (λ new. Follows abbreviations new c.args.doc.0 root) (λ new is. follows-with abbreviations c.args.doc.0 root c.args.version.now new is) (returns-clause-documents g c)

pub returns-clause-others : goal.returns-clause-others
returns-clause-others g c =
    let abbreviations = c.args.abbreviations.now in
    let root = c.args.tree.now.root in
    let wanted : List Numbered = with_document (numbered c.args.doc.0 (tree_document abbreviations root)) c.args.version.now in
    IfOk-weaker c.with_texts-added.result (λ new. new ≡ wanted)
    (λ new. (other : ℕ) → other ≢ c.args.doc.0 → document_at other new ≡ document_at other c.args.version.now)
    (λ new is other apart. ap (document_at other) is ∙ others-with c.args.doc.0 (tree_document abbreviations root) c.args.version.now other apart) (returns-clause-documents g c)

pub returns-clause-counted : goal.returns-clause-counted
returns-clause-counted g c =
    let root = c.args.tree.now.root in
    let document = found-document c.args.abbreviations.now root c.args.found.leaves c.args.found.breaks c.in-Ok.made c.requires.found c.in-Ok.ensures in
    subst (λ (n : ℕ). OnOk c.with_texts-added.result (c.with_texts-added.new.rows ≡ c.args.rows.now + n)) (ap token_count document ∙ count-tree c.args.abbreviations.now root) c.with_texts-added.ensures.counted

pub returns-clause-at_most : goal.returns-clause-at_most
returns-clause-at_most g c =
    let root = c.args.tree.now.root in
    let count = ap token_count (found-document c.args.abbreviations.now root c.args.found.leaves c.args.found.breaks c.in-Ok.made c.requires.found c.in-Ok.ensures) ∙ count-tree c.args.abbreviations.now root in
    omega (arith, count, c.with_texts-added.ensures.at_most)
