-- A word that is the decimal of a number is parsed as that number.
use Rattle.std.proofs.Common.{◌≡◌, ◌∙◌, sym, ap, refl, arith, ℕ, ◌≤◌, Bool, true, false, cond, List}
use Rattle.std.specs.Prelude.{Some, None, Result, Ok, nat_le}
use Rattle.std.specs.Fmt.{decimal}
use Rattle.std.specs.Str.{bytes_eq}
use Rattle.std.specs.Str.Parse.{digits_value, ParsesUnsigned}
use Rattle.std.proofs.lemmas.Bool.{and_parts, leb-true}
use Rattle.std.proofs.lemmas.Fmt.{decimal_is_IsNumeral, parse-decimal}
use Rattle.std.proofs.lemmas.Slice.Eq.{bytes_eq-Decides}
use Rattle.ft_base.specs.Limits.{max_session_bytes}
use Rattle.session_text.specs.SizedBlocks.{is_size, size_as, size_in}

-- what the test says
pub sized : (n : ℕ) (word : List ℕ) → is_size n word ≡ true → (n ≤ max_session_bytes) × (decimal n ≡ word)
sized n word h =
    let p = and_parts (nat_le n max_session_bytes) (bytes_eq (decimal n) word) h in
    (leb-true n max_session_bytes p.0, (bytes_eq-Decides (decimal n) word).0 p.1)

-- it is parsed so
pub parsed : {E : Type 0} (n : ℕ) (word : List ℕ) (r : Result ℕ E) → ParsesUnsigned 32 10 word r → is_size n word ≡ true → r ≡ Ok n
parsed n word r parses h =
    let p = sized n word h in
    let most = p.0 in
    parse-decimal 32 n word r (omega (arith, most)) (omega (arith, most)) (sym p.1) parses

-- and is found
pub found : (n : ℕ) (word : List ℕ) → is_size n word ≡ true → Some n ≡ size_in word
found n word h =
    let p = sized n word h in
    let most = p.0 in
    let value : digits_value 10 word ≡ n = ap (digits_value 10) (sym p.1) ∙ (decimal_is_IsNumeral n (omega (arith, most))).1 in
    sym (ap (λ m. size_as m word) value ∙ ap (λ b. cond b (Some n) None) h)

none_as : (b : Bool) (n : ℕ) → (b ≡ true → ⊥) → None ≡ cond b (Some n) None
none_as true n fails = absurd (fails refl)
none_as false n fails = refl

pub not_found : (word : List ℕ) → ((n : ℕ) → is_size n word ≡ true → ⊥) → None ≡ size_in word
not_found word fails = none_as (is_size (digits_value 10 word) word) (digits_value 10 word) (fails (digits_value 10 word))
