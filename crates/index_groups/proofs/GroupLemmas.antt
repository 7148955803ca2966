-- How groups change where a document is marked at its terms, one after the other.
use Rattle.std.proofs.Common.{◌≡◌, ℕ, ◌*◌, ◌≤◌, ◌%◌, ◌^◌, Bool, true, false, ◌&&◌, ◌||◌, ◌==◌, List, length, take, refl, ap, sym, ◌∙◌, arith, inl, inr, w64}
use Rattle.std.specs.Int.{bit_at}
use Rattle.std.specs.Int.Bits.{bit_or}
use Rattle.std.proofs.lemmas.Bool.{eqb-true, eqb-false, cases_Bool}
use Rattle.std.proofs.lemmas.Nat.Bits.{bit_at_set_same, bit_at_set_other}
use Rattle.std.proofs.lemmas.List.{take_all}
use Rattle.index_document.specs.Terms.{has, terms_of}
use Rattle.index_document.proofs.TermLemmas.{has-terms_of}
use Rattle.index_groups.specs.Groups.{in_group, may_be, same_group}

or_true : (b : Bool) → true ≡ (b || true)
or_true true = refl
or_true false = refl

or_false : (b : Bool) → b ≡ (b || false)
or_false true = refl
or_false false = refl

-- ---- one group more

pub group_more : (groups doc other : ℕ) → in_group (bit_or groups (1 * 2 ^ (doc % 64) % 2 ^ 64)) other ≡ (in_group groups other || same_group doc other)
group_more groups doc other =
    let at : ℕ = doc % 64 in
    elim (cases_Bool (same_group doc other)) [
      | inl same ↦
          ap (λ i. bit_at (bit_or groups (1 * 2 ^ at % 2 ^ 64)) i == 1) (sym (eqb-true at (other % 64) same))
          ∙ ap (λ n. n == 1) (bit_at_set_same w64 groups at (omega arith))
          ∙ or_true (in_group groups other)
          ∙ ap (λ b. in_group groups other || b) (sym same)
      | inr apart ↦
          ap (λ n. n == 1) (bit_at_set_other w64 groups at (omega arith) (other % 64) (λ same. eqb-false at (other % 64) apart (sym same)))
          ∙ or_false (in_group groups other)
          ∙ ap (λ b. in_group groups other || b) (sym apart)
    ]

-- ---- all terms of a document are marked

pub all_marked : (words : List ℕ) (k doc : ℕ) (old new : List ℕ) → length (terms_of words) ≤ k
    → ((t second : ℕ) → may_be new t second ≡ (may_be old t second || (has t (take k (terms_of words)) && same_group doc second)))
    → (t second : ℕ) → may_be new t second ≡ (may_be old t second || (has t words && same_group doc second))
all_marked words k doc old new end done t second =
    done t second ∙ ap (λ b. may_be old t second || (b && same_group doc second)) (ap (has t) (take_all k (terms_of words) end) ∙ has-terms_of t words)
