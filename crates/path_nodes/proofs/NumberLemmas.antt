-- The item of a number.
use Rattle.std.proofs.Common.{◌≡◌, ◌+◌, ◌<◌, ◌≤◌, ◌==◌, ℕ, zero, suc, Bool, true, false, List, [], ◌∷◌, map, filter, length, get_or, cond, refl, ap, ◌∙◌, arith}
use Rattle.std.specs.List.{enumerate_from}
use Rattle.std.proofs.lemmas.Bool.{eq-eqb, ne_eqb}
use Rattle.path_meaning.specs.Elements.{Element}

abbrev pub numbered_from : ℕ → ℕ → List Element → List Element
numbered_from n k items = map (λ c. c.1) (filter (λ c. k == c.0) (enumerate_from n items))

taken : (x : Element) (n : ℕ) (rest : List (ℕ × Element)) (b : Bool) → map (λ (c : ℕ × Element). c.1) (cond b ((n, x) ∷ rest) rest)
    ≡ cond b (x ∷ map (λ (c : ℕ × Element). c.1) rest) (map (λ (c : ℕ × Element). c.1) rest)
taken x n rest true = refl
taken x n rest false = refl

step : (n k : ℕ) (x : Element) (items : List Element) (b : Bool) → (k == n) ≡ b → numbered_from n k (x ∷ items) ≡ cond b (x ∷ numbered_from (n + 1) k items) (numbered_from (n + 1) k items)
step n k x items b e =
    let rest = filter (λ (c : ℕ × Element). k == c.0) (enumerate_from (n + 1) items) in
    ap (λ d. map (λ (c : ℕ × Element). c.1) (cond d ((n, x) ∷ rest) rest)) e ∙ taken x n rest b

pub before : (n k : ℕ) (items : List Element) → k < n → numbered_from n k items ≡ []
before n k [] h = refl
before n k (x ∷ items) h = step n k x items false (ne_eqb k n (λ e. omega (arith, e, h))) ∙ before (n + 1) k items (omega (arith, h))

pub at : (n i : ℕ) (items : List Element) (d : Element) → i < length items → numbered_from n (n + i) items ≡ get_or items i d ∷ []
at n i [] d h = absurd (omega (arith, h))
at n zero (x ∷ items) d h =
    step n (n + 0) x items true (let e : n + 0 ≡ n = omega arith in eq-eqb (n + 0) n e) ∙ ap (λ l. x ∷ l) (before (n + 1) (n + 0) items (omega arith))
at n (suc i) (x ∷ items) d h =
    step n (n + suc i) x items false (ne_eqb (n + suc i) n (λ e. omega (arith, e)))
    ∙ (let e : n + suc i ≡ n + 1 + i = omega arith in ap (λ k. numbered_from (n + 1) k items) e)
    ∙ at (n + 1) i items d (omega (arith, h))

pub past : (n i : ℕ) (items : List Element) → length items ≤ i → numbered_from n (n + i) items ≡ []
past n i [] h = refl
past n zero (x ∷ items) h = absurd (omega (arith, h))
past n (suc i) (x ∷ items) h =
    step n (n + suc i) x items false (ne_eqb (n + suc i) n (λ e. omega (arith, e)))
    ∙ (let e : n + suc i ≡ n + 1 + i = omega arith in ap (λ k. numbered_from (n + 1) k items) e)
    ∙ past (n + 1) i items (omega (arith, h))
