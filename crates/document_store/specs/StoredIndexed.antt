-- How documents with their index are stored, by which proofs tell them apart.
use Rattle.std.specs.Prelude.{ℕ, List, refl}
use Rattle.std.specs.Coded.{Coded, code_by, coded×, coded_list, coded_ℕ}
use Rattle.index_meaning.specs.Documents.{Numbered}
use Rattle.index_versions.specs.contracts.version.Version as version
use Rattle.ordered_tree.specs.Numbered as tree
use Rattle.ordered_tree.specs.Stored.{Stored, numbered_code, stored_code}
use Rattle.path_meaning.specs.Collection.{Named}
use Rattle.plain_tree.specs.Document.{Node}
use Rattle.plain_tree.specs.View.{node_code}
use Rattle.document_store.specs.Indexed.{Indexed}
use Rattle.document_store.specs.Loaded.{LoadedTree}

abbrev pub loaded_code : Coded LoadedTree
loaded_code =
    code_by (ℕ × Stored) (coded× coded_ℕ stored_code) (λ l. (l.doc.0, l.tree)) (λ p. record { doc = record { 0 = p.0 }; tree = p.1 }) (λ _. refl)

-- documents with their names
abbrev pub entries_code : Coded (List (List ℕ × LoadedTree))
entries_code = coded_list (coded× (coded_list coded_ℕ) loaded_code)

abbrev pub document_code : Coded Named
document_code =
    code_by (List ℕ × Node) (coded× (coded_list coded_ℕ) node_code) (λ d. (d.name, d.root)) (λ p. record { name = p.0; root = p.1 }) (λ _. refl)

abbrev pub indexed_code : Coded Indexed
indexed_code =
    code_by (List Named × (List (List ℕ) × (List (ℕ × tree.Numbered) × List Numbered)))
    (coded× (coded_list document_code) (coded× (coded_list (coded_list coded_ℕ)) (coded× (coded_list (coded× coded_ℕ numbered_code)) version.the_row.coded)))
    (λ i. (i.documents, (i.abbreviations, (i.trees, i.version))))
    (λ p. record { documents = p.0; abbreviations = p.1.0; trees = p.1.1.0; version = p.1.1.1 }) (λ _. refl)
