-- How what runs are of is stored, by which proofs tell it apart.
use Rattle.std.specs.Prelude.{ℕ, List, refl}
use Rattle.std.specs.Coded.{Coded, code_by, coded×, coded_list, coded_ℕ}
use Rattle.ft_base.specs.Selection.{Form}
use Rattle.index_meaning.specs.Documents.{Document, Leaf, Numbered}
use Rattle.plan_compiler.specs.NamedLists.{NamedLists}
use Rattle.plan_compiler.specs.FormCode.{bytes_code, form_code, lists_code}
use Rattle.plan_runs.specs.RunMeaning.{RunMeaning}

abbrev leaf_code : Coded Leaf
leaf_code = code_by (ℕ × List (List ℕ)) (coded× coded_ℕ (coded_list bytes_code)) (λ l. (l.id, l.words)) (λ p. record { id = p.0; words = p.1 }) (λ _. refl)

abbrev document_code : Coded Document
document_code =
    code_by (List Leaf × (List ℕ × List ℕ)) (coded× (coded_list leaf_code) (coded× bytes_code bytes_code))
    (λ d. (d.leaves, (d.sentences, d.paragraphs))) (λ p. record { leaves = p.0; sentences = p.1.0; paragraphs = p.1.1 }) (λ _. refl)

abbrev pub numbered_code : Coded Numbered
numbered_code =
    code_by (ℕ × Document) (coded× coded_ℕ document_code) (λ d. (d.id, d.document)) (λ p. record { id = p.0; document = p.1 }) (λ _. refl)

abbrev pub run_code : Coded RunMeaning
run_code =
    code_by (Form × (NamedLists × List Numbered)) (coded× form_code (coded× lists_code (coded_list numbered_code)))
    (λ r. (r.form, (r.lists, r.version))) (λ p. record { form = p.0; lists = p.1.0; version = p.1.1 }) (λ _. refl)
