-- Lines that begin with a front, and with each shorter one.
use Rattle.std.proofs.Common.{◌≡◌, refl, ap, sym, ◌∙◌, subst, ℕ, zero, suc, ◌+◌, ◌<◌, Bool, true, false, ◌&&◌, ◌||◌, List, [], ◌∷◌, ◌++◌, get_or, length, take}
use Rattle.std.specs.Prelude.{nat_eq, bytes_eq}
use Rattle.std.specs.Cmp.Lexicographic.{bytes_decides}
use Rattle.std.proofs.lemmas.Bool.{and_parts, eq-eqb}
use Rattle.std.proofs.lemmas.List.{take_more}
use Rattle.standing_queries.specs.Changes.{is_among}
use Rattle.standing_queries.specs.steps.Fronts.{begins_with}
use Rattle.standing_queries.proofs.AnswerLemmas.{among-append}

pub shorter_front : (front : List ℕ) (n : ℕ) (line : List ℕ) → begins_with front line ≡ true → begins_with (take n front) line ≡ true
shorter_front front zero line h = refl
shorter_front [] (suc n) line h = refl
shorter_front (x ∷ front) (suc n) [] h = cc
shorter_front (x ∷ front) (suc n) (y ∷ line) h = let parts = and_parts (nat_eq x y) (begins_with front line) h in λ i. parts.0 i && shorter_front front n line parts.1 i

pub own_front : (text : List ℕ) → begins_with text text ≡ true
own_front [] = refl
own_front (x ∷ text) = λ i. eq-eqb x x refl i && own_front text i

-- with one line more
pub next_front : (before now : List ℕ → Bool) (lines : List (List ℕ)) (number : ℕ) (text : List ℕ) → number < length lines → text ≡ get_or lines number text
    → ((line : List ℕ) → before line ≡ true → now line ≡ true) → now text ≡ true → ((line : List ℕ) → is_among (take number lines) line ≡ true → before line ≡ true)
    → (line : List ℕ) → is_among (take (number + 1) lines) line ≡ true → now line ≡ true
next_front before now lines number text less is kept there first line h =
    by_test (is_among (take number lines) line) refl
    (sym (ap (λ ls. is_among ls line) (take_more lines number text less ∙ ap (λ t. take number lines ++ t ∷ []) (sym is)) ∙ among-append (take number lines) (text ∷ []) line) ∙ h)
  where
    same : (b : Bool) → bytes_eq line text ≡ b → (b || false) ≡ true → now line ≡ true
    same true e k = subst (λ l. now l ≡ true) (sym ((bytes_decides line text).0 e)) there
    same false e k = cc

    by_test : (b : Bool) → is_among (take number lines) line ≡ b → (b || (bytes_eq line text || false)) ≡ true → now line ≡ true
    by_test true e k = kept line (first line e)
    by_test false e k = same (bytes_eq line text) refl k
