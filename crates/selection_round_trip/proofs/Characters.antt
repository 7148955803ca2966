-- The characters of bytes that encode some are those, whatever numbers they are.
use Prim.Native.Nat.{◌/◌, ◌%◌}
use Rattle.std.proofs.Common.{◌≡◌, ◌<◌, ◌+◌, ◌-◌, ◌*◌, ℕ, Bool, true, false, cond, List, [], ◌∷◌, ◌++◌, refl, ◌∙◌, ap, arith}
use Rattle.std.proofs.lemmas.Bool.{ltb-true, le-ltb, lt-ltb}
use Rattle.std.specs.Prelude.{nat_lt, encode_utf8, encode_utf8_all}
use Rattle.std.specs.Str.{chars, chars_after}

-- the number of a character from that of its bytes
value_two : (c : ℕ) → ((192 + c / 64) - 192) * 64 + ((128 + c % 64) - 128) ≡ c
value_two c = omega arith

value_three : (c : ℕ) → (((224 + c / 4096) - 224) * 64 + ((128 + (c / 64) % 64) - 128)) * 64 + ((128 + c % 64) - 128) ≡ c
value_three c = omega arith

value_four : (c : ℕ) → ((((240 + c / 262144) - 240) * 64 + ((128 + (c / 4096) % 64) - 128)) * 64 + ((128 + (c / 64) % 64) - 128)) * 64 + ((128 + c % 64) - 128) ≡ c
value_four c = omega arith

-- by the first byte
abbrev lengths : Bool → Bool → Bool → ℕ
lengths x y z = cond x 0 (cond y 1 (cond z 2 3))

abbrev bits : ℕ → Bool → Bool → Bool → ℕ
bits b x y z = cond x b (cond y (b - 192) (cond z (b - 224) (b - 240)))

from_first : (b : ℕ) (bs : List ℕ) (x y z : Bool) → nat_lt b 128 ≡ x → nat_lt b 224 ≡ y → nat_lt b 240 ≡ z → chars (b ∷ bs) ≡ chars_after (lengths x y z) (bits b x y z) bs
unfolding chars
from_first b bs x y z e f g = λ i. chars_after (lengths (e i) (f i) (g i)) (bits b (e i) (f i) (g i)) bs

ended : (c d : ℕ) (rest : List ℕ) → c ≡ d → chars_after 0 c rest ≡ d ∷ chars rest
unfolding chars
ended c d [] e = ap (λ n. n ∷ []) e
ended c d (b ∷ rest) e = ap (λ n. n ∷ chars (b ∷ rest)) e

one_byte : (c : ℕ) (rest : List ℕ) → c < 128 → chars (c ∷ rest) ≡ c ∷ chars rest
one_byte c rest h = from_first c rest true true true (lt-ltb c 128 h) (lt-ltb c 224 (omega (arith, h))) (lt-ltb c 240 (omega (arith, h))) ∙ ended c c rest refl

two_bytes : (c : ℕ) (rest : List ℕ) → c < 2048 → chars ((192 + c / 64) ∷ (128 + c % 64) ∷ rest) ≡ c ∷ chars rest
two_bytes c rest h =
    from_first (192 + c / 64) ((128 + c % 64) ∷ rest) false true true (le-ltb (192 + c / 64) 128 (omega arith)) (lt-ltb (192 + c / 64) 224 (omega (arith, h))) (lt-ltb (192 + c / 64) 240 (omega (arith, h)))
    ∙ ended _ c rest (value_two c)

three_bytes : (c : ℕ) (rest : List ℕ) → c < 65536 → chars ((224 + c / 4096) ∷ (128 + (c / 64) % 64) ∷ (128 + c % 64) ∷ rest) ≡ c ∷ chars rest
three_bytes c rest h =
    from_first (224 + c / 4096) ((128 + (c / 64) % 64) ∷ (128 + c % 64) ∷ rest) false false true (le-ltb (224 + c / 4096) 128 (omega arith)) (le-ltb (224 + c / 4096) 224 (omega arith)) (lt-ltb (224 + c / 4096) 240 (omega (arith, h)))
    ∙ ended _ c rest (value_three c)

four_bytes : (c : ℕ) (rest : List ℕ) → chars ((240 + c / 262144) ∷ (128 + (c / 4096) % 64) ∷ (128 + (c / 64) % 64) ∷ (128 + c % 64) ∷ rest) ≡ c ∷ chars rest
four_bytes c rest =
    from_first (240 + c / 262144) ((128 + (c / 4096) % 64) ∷ (128 + (c / 64) % 64) ∷ (128 + c % 64) ∷ rest) false false false (le-ltb (240 + c / 262144) 128 (omega arith)) (le-ltb (240 + c / 262144) 224 (omega arith)) (le-ltb (240 + c / 262144) 240 (omega arith))
    ∙ ended _ c rest (value_four c)

-- by how many bytes it has
abbrev bytes : ℕ → Bool → Bool → Bool → List ℕ
bytes c x y z = cond x (c ∷ []) (cond y ((192 + c / 64) ∷ (128 + c % 64) ∷ []) (cond z ((224 + c / 4096) ∷ (128 + (c / 64) % 64) ∷ (128 + c % 64) ∷ []) ((240 + c / 262144) ∷ (128 + (c / 4096) % 64) ∷ (128 + (c / 64) % 64) ∷ (128 + c % 64) ∷ [])))

by_size : (c : ℕ) (rest : List ℕ) (x y z : Bool) → nat_lt c 128 ≡ x → nat_lt c 2048 ≡ y → nat_lt c 65536 ≡ z → chars (bytes c x y z ++ rest) ≡ c ∷ chars rest
by_size c rest true y z e f g = one_byte c rest (ltb-true c 128 e)
by_size c rest false true z e f g = two_bytes c rest (ltb-true c 2048 f)
by_size c rest false false true e f g = three_bytes c rest (ltb-true c 65536 g)
by_size c rest false false false e f g = four_bytes c rest

one_character : (c : ℕ) (rest : List ℕ) → chars (encode_utf8 c ++ rest) ≡ c ∷ chars rest
unfolding lib.Utf8.encode
one_character c rest = by_size c rest (nat_lt c 128) (nat_lt c 2048) (nat_lt c 65536) refl refl refl

pub chars_encoded : (cs : List ℕ) → chars (encode_utf8_all cs) ≡ cs
unfolding chars
chars_encoded [] = refl
chars_encoded (c ∷ cs) = one_character c (encode_utf8_all cs) ∙ ap (λ w. c ∷ w) (chars_encoded cs)
