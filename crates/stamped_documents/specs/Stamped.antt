-- Documents with their index and a stamp each.
use Rattle.std.specs.Prelude.{ℕ, List, [], refl}
use Rattle.std.specs.Coded.{Coded, code_by, coded×, coded_list, coded_ℕ}
use Rattle.document_store.specs.Indexed.{Indexed, nothing_indexed}
use Rattle.document_store.specs.StoredIndexed.{indexed_code}

-- documents with their index, their stamps in order, and a number that is greater than each stamp that there was
pub record StampedDocuments : Type 0 where
  pub indexed : Indexed
  pub stamps : List ℕ
  pub next : ℕ

-- no documents
abbrev pub nothing_stamped : StampedDocuments
nothing_stamped = record { indexed = nothing_indexed; stamps = []; next = 0 }

-- how they are stored, by which proofs tell them apart
abbrev pub stamped_code : Coded StampedDocuments
stamped_code =
    code_by (Indexed × (List ℕ × ℕ)) (coded× indexed_code (coded× (coded_list coded_ℕ) coded_ℕ))
    (λ s. (s.indexed, (s.stamps, s.next))) (λ p. record { indexed = p.0; stamps = p.1.0; next = p.1.1 }) (λ _. refl)
