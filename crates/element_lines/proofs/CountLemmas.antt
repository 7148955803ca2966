-- What is counted of a name, where the count of the name that came last stands beside the others.
use Rattle.std.proofs.Common.{◌≡◌, ◌+◌, ℕ, Bool, true, false, cond, List, Option, Some, refl, sym, ap, ◌∙◌, add-zero}
use Rattle.std.specs.Prelude.{unwrap_or}
use Rattle.std.specs.Cmp.Lexicographic.{bytes_decides, nat_list_eq_equiv}
use Rattle.std.specs.Str.{bytes_eq}
use Rattle.element_lines.specs.steps.Counts.{is_last}
use denote.Ref.{Bor}

pub among-put : (b : Bool) (number : ℕ) (o : Option ℕ) → unwrap_or (cond b (Some number) o) 0 ≡ cond b number (unwrap_or o 0)
among-put true number o = refl
among-put false number o = refl

pub count-turned : (name other : List ℕ) (f : List ℕ → ℕ) (number : ℕ) → number ≡ f name → cond (bytes_eq name other) number (f other) ≡ f other
count-turned name other f number is = by (bytes_eq name other) refl
  where
    by : (b : Bool) → bytes_eq name other ≡ b → cond b number (f other) ≡ f other
    by true e = is ∙ ap f ((bytes_decides name other).0 e)
    by false e = refl

pub one-more : (last : Option (Bor (List ℕ))) (name other : List ℕ) (number among : ℕ) → is_last last other ≡ bytes_eq name other
    → cond (is_last last other) (number + 1) among ≡ cond (is_last last other) number among + cond (bytes_eq other name) 1 0
one-more last name other number among e =
    by (is_last last other) ∙ ap (λ b. cond (is_last last other) number among + cond b 1 0) (e ∙ nat_list_eq_equiv.symm name other)
  where
    by : (b : Bool) → cond b (number + 1) among ≡ cond b number among + cond b 1 0
    by true = refl
    by false = sym (add-zero among)
