-- A word that is the decimal of a number is parsed as that number.
use Rattle.std.proofs.Common.{◌≡◌, ◌∙◌, sym, ap, refl, arith, ℕ, ◌≤◌, Bool, true, false, cond, ◌&&◌, List}
use Rattle.std.specs.Prelude.{Some, None, Result, Ok, nat_le}
use Rattle.std.specs.Fmt.{decimal}
use Rattle.std.specs.Str.{bytes_eq}
use Rattle.std.specs.Str.Parse.{digits_value, ParsesUnsigned}
use Rattle.std.proofs.lemmas.Bool.{leb-true}
use Rattle.std.proofs.lemmas.Fmt.{decimal_is_IsNumeral, parse-decimal}
use Rattle.std.proofs.lemmas.Slice.Eq.{bytes_eq-Decides}
use Rattle.ft_base.specs.Limits.{max_documents}
use Rattle.made_sessions.specs.Asked.{count_as, count_in, is_count}

both : (a b c : Bool) → (a && b && c) ≡ true → (a ≡ true) × (b ≡ true) × (c ≡ true)
both true true true h = (refl, refl, refl)
both false b c h = let no : ⊥ = cc in absurd no
both true false c h = let no : ⊥ = cc in absurd no
both true true false h = let no : ⊥ = cc in absurd no

-- what the test says
pub counted : (n : ℕ) (word : List ℕ) → is_count n word ≡ true → (1 ≤ n) × (n ≤ max_documents) × (decimal n ≡ word)
counted n word h =
    let p = both (nat_le 1 n) (nat_le n max_documents) (bytes_eq (decimal n) word) h in
    (leb-true 1 n p.0, leb-true n max_documents p.1, (bytes_eq-Decides (decimal n) word).0 p.2)

-- it is parsed so
pub parsed : {E : Type 0} (n : ℕ) (word : List ℕ) (r : Result ℕ E) → ParsesUnsigned 32 10 word r → is_count n word ≡ true → r ≡ Ok n
parsed n word r parses h =
    let p = counted n word h in
    let most = p.1 in
    parse-decimal 32 n word r (omega (arith, most)) (omega (arith, most)) (sym p.2) parses

-- and is found
pub found : (n : ℕ) (word : List ℕ) → is_count n word ≡ true → Some n ≡ count_in word
found n word h =
    let p = counted n word h in
    let most = p.1 in
    let value : digits_value 10 word ≡ n = ap (digits_value 10) (sym p.2) ∙ (decimal_is_IsNumeral n (omega (arith, most))).1 in
    sym (ap (λ m. count_as m word) value ∙ ap (λ b. cond b (Some n) None) h)

none_as : (b : Bool) (n : ℕ) → (b ≡ true → ⊥) → None ≡ cond b (Some n) None
none_as true n fails = absurd (fails refl)
none_as false n fails = refl

pub not_found : (word : List ℕ) → ((n : ℕ) → is_count n word ≡ true → ⊥) → None ≡ count_in word
not_found word fails = none_as (is_count (digits_value 10 word) word) (digits_value 10 word) (fails (digits_value 10 word))
