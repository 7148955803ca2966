-- A name that is taken is found, and a new document is the last one.
use Rattle.std.proofs.Common.{◌∙◌, sym, ap, false, true, ◌∷◌, ◌++◌, [], length, refl, arith}
use Rattle.std.specs.Prelude.{nat_le}
use Rattle.std.proofs.lemmas.Bool.Decides.{nat_tests}
use Rattle.ft_base.specs.Limits.{max_documents}
use Rattle.ordered_tree.specs.Numbered.{plain}
use Rattle.document_store.specs.declared.fault.NotLoaded.{NotLoaded}
use Rattle.document_store.specs.Indexed.{Indexed}
use Rattle.document_store.specs.LoadView.{outcome}
use Rattle.document_store.specs.Documents.{has_name}
use Rattle.document_store.specs.Documents.{added, loadable, tokens_loaded}
use Rattle.document_store.proofs.LoadingLemmas.{changed_to, loaded-by, tokens-come}
use Rattle.document_store.proofs.collection.Collection.load.Goals as goal

pub returns-then-contains_key-clause-answer : goal.returns-then-contains_key-clause-answer
returns-then-contains_key-clause-answer g c =
    let entries = c.self.inside.documents in
    let there = ap (λ (i : Indexed). i.documents) c.self.view_is in
    let same = c.in_ok-name.ensures ∙ c.as_str.ensures in
    let taken = sym c.contains_key.ensures ∙ c.if-contains_key.true in
    sym (loaded-by entries c.args.self.now.documents c.in_ok-name.name c.args.name.now there same true (nat_le max_documents (length entries)) taken refl (loadable c.args.block.now))

pub returns-then-len-ge-MAX_DOCUMENTS-clause-answer : goal.returns-then-len-ge-MAX_DOCUMENTS-clause-answer
returns-then-len-ge-MAX_DOCUMENTS-clause-answer g c =
    let there = ap (λ (i : Indexed). i.documents) c.self.view_is in
    let same = c.in_ok-name.ensures ∙ c.as_str.ensures in
    let absent = sym c.contains_key.ensures ∙ c.if-contains_key.false in
    let full = ap (nat_le max_documents) (sym c.len.ensures.len) ∙ grind (arith, nat_tests) in
    sym (loaded-by c.self.inside.documents c.args.self.now.documents c.in_ok-name.name c.args.name.now there same false true absent full (loadable c.args.block.now))

pub returns-in-NotLoaded-clause-answer : goal.returns-in-NotLoaded-clause-answer
returns-in-NotLoaded-clause-answer g c =
    let documents = c.args.self.now.documents in
    let there = ap (λ (i : Indexed). i.documents) c.self.view_is in
    let same = c.in_ok-name.ensures ∙ c.as_str.ensures in
    let absent = sym c.contains_key.ensures ∙ c.if-contains_key.false in
    let room = ap (nat_le max_documents) (sym c.len.ensures.len) ∙ grind (arith, nat_tests) in
    let read = sym c.in_ok-why.ensures.outcome ∙ ap outcome c.in-NotLoaded.is in
    sym (loaded-by c.self.inside.documents documents c.in_ok-name.name c.args.name.now there same false false absent room (loadable c.args.block.now)
    ∙ ap (added documents c.args.name.now) read)

pub add-requires-clause-new : goal.add-requires-clause-new
add-requires-clause-new g c =
    ap (λ (i : Indexed). has_name c.in_ok-name.name i.documents) (sym c.self.view_is)
    ∙ (sym c.contains_key.ensures ∙ c.if-contains_key.false)

pub returns-in-Ok-clause-answer : goal.returns-in-Ok-clause-answer
returns-in-Ok-clause-answer g c =
    let documents = c.args.self.now.documents in
    let root = plain c.in-Document.document.read.tree.root in
    let there = ap (λ (i : Indexed). i.documents) c.self.view_is in
    let same = c.in_ok-name.ensures ∙ c.as_str.ensures in
    let absent = sym c.contains_key.ensures ∙ c.if-contains_key.false in
    let room = ap (nat_le max_documents) (sym c.len.ensures.len) ∙ grind (arith, nat_tests) in
    let read = sym c.in_ok-why.ensures.outcome ∙ ap outcome c.in-Document.is in
    ap (changed_to {E = NotLoaded}) c.in-Ok.ensures.documents
    ∙ (ap (λ n. changed_to {E = NotLoaded} (documents ++ record { name = n; root = root } ∷ [])) same
    ∙ sym (loaded-by c.self.inside.documents documents c.in_ok-name.name c.args.name.now there same false false absent room (loadable c.args.block.now)
    ∙ ap (added documents c.args.name.now) read))

pub returns-in-Ok-clause-rows : goal.returns-in-Ok-clause-rows
returns-in-Ok-clause-rows g c =
    let there = ap (λ (i : Indexed). i.documents) c.self.view_is in
    let absent = sym c.contains_key.ensures ∙ c.if-contains_key.false in
    let room = ap (nat_le max_documents) (sym c.len.ensures.len) ∙ grind (arith, nat_tests) in
    let most = ap (tokens_loaded c.args.self.now.documents c.args.name.now) (sym c.in_ok-why.ensures.outcome ∙ ap outcome c.in-Document.is)
    ∙ tokens-come c.self.inside.documents c.args.self.now.documents c.in_ok-name.name c.args.name.now there (c.in_ok-name.ensures ∙ c.as_str.ensures)
    false false absent room (plain c.in-Document.document.read.tree.root) in
    omega (arith, most, c.add.ensures.rows)

pub returns-in-Err-clause-rows : goal.returns-in-Err-clause-rows
returns-in-Err-clause-rows g c =
    let there = ap (λ (i : Indexed). i.documents) c.self.view_is in
    let absent = sym c.contains_key.ensures ∙ c.if-contains_key.false in
    let room = ap (nat_le max_documents) (sym c.len.ensures.len) ∙ grind (arith, nat_tests) in
    let most = ap (tokens_loaded c.args.self.now.documents c.args.name.now) (sym c.in_ok-why.ensures.outcome ∙ ap outcome c.in-Document.is)
    ∙ tokens-come c.self.inside.documents c.args.self.now.documents c.in_ok-name.name c.args.name.now there (c.in_ok-name.ensures ∙ c.as_str.ensures)
    false false absent room (plain c.in-Document.document.read.tree.root) in
    omega (arith, most, c.add.ensures.rows)
