-- The numbers of the documents, and what two indexes differ in.
use Rattle.std.proofs.Common.{◌≡◌, ap, sym, refl, ℕ, arith, List, [], ◌∷◌, length}
use Rattle.std.specs.Prelude.{codes}
use Rattle.index_meaning.specs.Documents.{numbered}
use Rattle.index_meaning.specs.Index.{Counted, Index, index}
use Rattle.index_updates.specs.Follows.{token_document}
use Rattle.path_meaning.specs.Collection.{Named}
use Rattle.plain_tree.specs.Document.{Node}
use Rattle.text_forms.specs.Forms.{key_of}
use Rattle.tokenizer.specs.Tokens.{sentence_starts, tokens}
use Rattle.document_store.specs.Examples.{first_named}
use Rattle.document_store.specs.Indexed.{under}
use Rattle.document_store.proofs.examples.indexes_of_documents.Goals as goal

pub returns-clause-nothing : goal.returns-clause-nothing
returns-clause-nothing c = λ abbreviations. record { ids = []; as_many = refl; ascending = refl; index = refl }

pub returns-clause-two : goal.returns-clause-two
returns-clause-two c = λ abbreviations. record { ids = 2 ∷ 5 ∷ []; as_many = refl; ascending = refl; index = refl }

-- an index with a document isn't one without
not-empty : (abbreviations : List (List ℕ)) (d : Named) (ids : List ℕ) → length ids ≡ 1 → index key_of [] ≡ index key_of (under abbreviations ids (d ∷ [])) → ⊥
not-empty abbreviations d [] as_many is = omega (arith, as_many)
not-empty abbreviations d (id ∷ ids) as_many is = let counts = ap (λ (i : Index). length i.documents) is in omega (arith, counts)

pub returns-clause-too_few : goal.returns-clause-too_few
returns-clause-too_few c = λ abbreviations held. not-empty abbreviations first_named held.ids held.as_many held.index

-- where the sentences of the first document start
abbrev first_sentences : List Counted → List ℕ
first_sentences [] = []
first_sentences (one ∷ rest) = one.sentences

same-sentences : (abbreviations others : List (List ℕ)) (root : Node) (ids : List ℕ) → length ids ≡ 1
    → index key_of (numbered 0 (token_document others root) ∷ []) ≡ index key_of (under abbreviations ids (record { name = codes "a"; root = root } ∷ []))
    → sentence_starts (tokens abbreviations root) ≡ sentence_starts (tokens others root)
unfolding token_document
same-sentences abbreviations others root [] as_many is = absurd (omega (arith, as_many))
same-sentences abbreviations others root (id ∷ ids) as_many is = sym (ap (λ (i : Index). first_sentences i.documents) is)

pub returns-clause-other_sentences : goal.returns-clause-other_sentences
returns-clause-other_sentences c = λ abbreviations others root differ held. differ (same-sentences abbreviations others root held.ids held.as_many held.index)
