-- How states and versions are stored, by which proofs tell them apart.
use Rattle.std.specs.Prelude.{ℕ, List, refl}
use Rattle.std.specs.Coded.{Coded, code_by, coded×, coded_list, coded_ℕ}
use Rattle.document_store.specs.StoredIndexed.{document_code}
use Rattle.index_meaning.specs.Documents.{Numbered}
use Rattle.kept_plans.specs.Kept.{Kept}
use Rattle.kept_plans.specs.Codes.{kept_code}
use Rattle.path_meaning.specs.Collection.{Named}
use Rattle.plan_compiler.specs.NamedLists.{NamedLists}
use Rattle.plan_compiler.specs.FormCode.{bytes_code, lists_code}
use Rattle.plan_runs.specs.RunCode.{numbered_code}
use Rattle.standing_queries.specs.Answers.{Answers}
use Rattle.session_state.specs.Held.{Held}
use Rattle.session_state.specs.State.{Mark, State, Watch}

abbrev mark_code : Coded Mark
mark_code =
    code_by (List ℕ × (List Named × List (List ℕ))) (coded× bytes_code (coded× (coded_list document_code) (coded_list bytes_code)))
    (λ m. (m.name, (m.documents, m.abbreviations))) (λ p. record { name = p.0; documents = p.1.0; abbreviations = p.1.1 }) (λ _. refl)

abbrev watch_code : Coded Watch
watch_code =
    code_by (List ℕ × (List ℕ × List (List ℕ))) (coded× bytes_code (coded× bytes_code (coded_list bytes_code)))
    (λ w. (w.name, (w.path, w.lines))) (λ p. record { name = p.0; path = p.1.0; lines = p.1.1 }) (λ _. refl)

abbrev state_code : Coded State
state_code =
    code_by (List Named × (List (List ℕ) × (NamedLists × (List Mark × (List Watch × Kept)))))
    (coded× (coded_list document_code) (coded× (coded_list bytes_code) (coded× lists_code (coded× (coded_list mark_code) (coded× (coded_list watch_code) kept_code)))))
    (λ s. (s.documents, (s.abbreviations, (s.lists, (s.marks, (s.watches, s.kept))))))
    (λ p. record { documents = p.0; abbreviations = p.1.0; lists = p.1.1.0; marks = p.1.1.1.0; watches = p.1.1.1.1.0; kept = p.1.1.1.1.1 }) (λ _. refl)

abbrev pub answers_code : Coded Answers
answers_code = coded_list (coded× coded_ℕ (coded_list bytes_code))

abbrev pub held_code : Coded Held
held_code =
    code_by (State × (List Numbered × (List (List Numbered) × (List ℕ × List Answers))))
    (coded× state_code (coded× (coded_list numbered_code) (coded× (coded_list (coded_list numbered_code)) (coded× (coded_list coded_ℕ) (coded_list answers_code)))))
    (λ h. (h.state, (h.version, (h.mark_versions, (h.stamps, h.standings)))))
    (λ p. record { state = p.0; version = p.1.0; mark_versions = p.1.1.0; stamps = p.1.1.1.0; standings = p.1.1.1.1 }) (λ _. refl)
