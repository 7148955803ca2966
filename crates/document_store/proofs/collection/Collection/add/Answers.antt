-- The document is the last one, and the version follows it too.
use Rattle.std.proofs.Common.{◌≡◌, ◌∙◌, sym, ap, rules, List, ◌∷◌, ◌++◌, [], ◌+◌, ℕ, subst, arith}
use Rattle.index_meaning.specs.Documents.{has_document, with_document}
use Rattle.index_updates.specs.Follows.{AreOf, under_tree}
use Rattle.ordered_tree.specs.Counts.{word_count}
use Rattle.ordered_tree.specs.Numbered.{plain}
use Rattle.ordered_tree.specs.Stored.{Stored}
use Rattle.document_store.specs.Indexed.{Indexed}
use Rattle.document_store.specs.Loaded.{LoadedTree}
use Rattle.document_store.specs.Documents.{has_name}
use Rattle.document_store.specs.steps.Numbering.{IsKept}
use Rattle.document_store.proofs.NumberingLemmas.{absent, kept-more}
use Rattle.document_store.proofs.LoadingLemmas.{lookup-absent}
use Rattle.document_store.proofs.collection.Collection.add.Goals as goal

pub index_document-made-requires-clause-absent : goal.index_document-made-requires-clause-absent
index_document-made-requires-clause-absent g c =
    let inside = c.self.inside in
    ap (has_document inside.next) c.self.invariant.numbered.follows ∙ absent inside.abbreviations 0 inside.documents inside.next inside.next c.self.invariant.numbered.ascend (omega arith)

pub index_document-made-requires-clause-found : goal.index_document-made-requires-clause-found
index_document-made-requires-clause-found g c =
    let read = c.args.document.read in
    subst (λ (keys : List (List ℕ)). AreOf keys read.tree.root read.leaves read.breaks)
    (sym (ap (λ (i : Indexed). i.abbreviations) c.self.view_is) ∙ sym c.as_set.ensures) c.requires.found

pub invariant_of-self : goal.invariant_of-self
invariant_of-self g c = c.self.invariant

pub push-requires : goal.push-requires
push-requires g c =
    lookup-absent c.args.name c.self.inside.documents (ap (λ (i : Indexed). has_name c.args.name i.documents) c.self.view_is ∙ c.requires.new)

pub invariant_of-self-in-Ok-push : goal.invariant_of-self-in-Ok-push
invariant_of-self-in-Ok-push g c =
    let entries = c.self.inside.documents in
    let abbreviations = c.self.inside.abbreviations in
    let loaded = c.in-Ok.loaded in
    let is : loaded ≡ record { doc = record { 0 = c.self.inside.next }; tree = c.args.document.read.tree } = c.in-Ok.ensures.loaded in
    let kept : c.replace.new.dest ≡ c.in-Ok.version = c.replace.ensures.after in
    let next : c.in-Some.next ≡ c.self.inside.next + 1 = search rules in
    let more : c.in-Some-checked_add.tokens ≡ c.self.inside.tokens + c.token_count.result = search rules in
    let count : c.token_count.result ≡ word_count (plain loaded.tree.root) =
    c.token_count.ensures ∙ ap (λ (t : Stored). word_count (plain t.root)) c.tree.ensures.tree in
    subst (λ es. IsKept abbreviations es c.replace.new.dest c.in-Some.next c.in-Some-checked_add.tokens) (sym c.in-Ok-push.ensures.ok)
    (subst (λ (n : ℕ). IsKept abbreviations (entries ++ (c.args.name, loaded) ∷ []) c.replace.new.dest n c.in-Some-checked_add.tokens) (sym next)
    (kept-more abbreviations entries c.self.inside.version c.replace.new.dest c.self.inside.next c.self.inside.tokens c.in-Some-checked_add.tokens c.args.name loaded c.self.invariant
    (ap (λ (l : LoadedTree). l.doc.0) is)
    (kept ∙ (c.in-Ok.ensures.version ∙ (ap (λ keys. with_document (under_tree keys (c.self.inside.next, c.args.document.read.tree.root)) c.self.inside.version) c.as_set.ensures ∙ ap (λ (l : LoadedTree). with_document (under_tree abbreviations (l.doc.0, l.tree.root)) c.self.inside.version) (sym is))))
    (more ∙ ap (λ n. c.self.inside.tokens + n) count)))
