-- How kept plans, and what is prepared, are stored, by which proofs tell them apart.
use Rattle.std.specs.Prelude.{ℕ, List, refl}
use Rattle.std.specs.Coded.{Coded, code_by, coded×, coded_list, coded_ℕ}
use Rattle.ft_base.specs.Selection.{Form}
use Rattle.plan_compiler.specs.NamedLists.{NamedLists}
use Rattle.plan_compiler.specs.FormCode.{bytes_code, form_code, lists_code}
use Rattle.kept_plans.specs.Kept.{Kept}
use Rattle.kept_plans.specs.PlanOf.{PlanOf}
use Rattle.kept_plans.specs.Preparation.{Preparation}

abbrev pub plan_code : Coded PlanOf
plan_code =
    code_by (List ℕ × (Form × NamedLists)) (coded× bytes_code (coded× form_code lists_code))
    (λ p. (p.text, (p.form, p.lists))) (λ p. record { text = p.0; form = p.1.0; lists = p.1.1 }) (λ _. refl)

abbrev pub kept_code : Coded Kept
kept_code =
    code_by (List (List ℕ) × ℕ) (coded× (coded_list bytes_code) coded_ℕ) (λ k. (k.texts, k.hits)) (λ p. record { texts = p.0; hits = p.1 }) (λ _. refl)

abbrev pub preparation_code : Coded Preparation
preparation_code =
    code_by (NamedLists × Kept) (coded× lists_code kept_code) (λ p. (p.lists, p.kept)) (λ p. record { lists = p.0; kept = p.1 }) (λ _. refl)
