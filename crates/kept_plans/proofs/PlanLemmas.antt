-- A plan of that text and of a selection with these numbers.
use Rattle.std.proofs.Common.{◌≡◌, ◌∙◌, ℕ, List, All}
use Rattle.std.specs.List.{Contains}
use Rattle.std.proofs.lemmas.List.Elements.{All-contains}
use Rattle.std.proofs.lemmas.Slice.Eq.{bytes_eq-Decides}
use Rattle.ft_base.specs.Selection.{Form}
use Rattle.ft_rewriter.specs.Code.{form_numbers}
use Rattle.ft_rewriter.proofs.SameForms.{equal_forms}
use Rattle.plan_compiler.specs.NamedLists.{NamedLists}
use Rattle.kept_plans.specs.PlanOf.{PlanOf, plan_of}

pub kept_plan : (plan : PlanOf) (text : List ℕ) (form : Form) (lists : NamedLists)
    → plan.text ≡ text → form_numbers plan.form ≡ form_numbers form → plan.lists ≡ lists → plan ≡ plan_of text form lists
kept_plan plan text form lists t n l =
    let f : plan.form ≡ form = equal_forms plan.form form ((bytes_eq-Decides (form_numbers plan.form) (form_numbers form)).1 n) in
    λ i. plan_of (t i) (f i) (l i)

-- it is among some plans that were all made under the lists
pub plan_among : (plans : List PlanOf) (plan : PlanOf) (text : List ℕ) (form : Form) (lists now : NamedLists)
    → All (λ p. p.lists ≡ lists) plans → lists ≡ now → Contains plans plan → plan.text ≡ text → form_numbers plan.form ≡ form_numbers form
    → plan ≡ plan_of text form now
plan_among plans plan text form lists now under same among t n =
    kept_plan plan text form now t n (All-contains (λ (p : PlanOf). p.lists ≡ lists) plans plan under among ∙ same)
