-- A number as it is printed is read as itself.
use Rattle.std.proofs.Common.{◌≡◌, ◌≤◌, ◌<◌, ◌+◌, ◌*◌, ◌-◌, ◌^◌, ℕ, suc, min, Bool, true, false, ◌&&◌, cond, eqb, List, [], ◌∷◌, ◌++◌, length, take, drop, Some, None, refl, sym, ◌∙◌, ap, arith}
use Rattle.std.proofs.lemmas.Bool.{eqb-true, le-leb, leb-true, lt-leb, ltb-true, and_from, and_parts, or_from, or_right, or_left}
use Rattle.std.proofs.lemmas.Fmt.{decimal_is_IsNumeral, IsAscii-decimal}
use Rattle.std.proofs.lemmas.Str.{encodes-IsAscii, digit_value_digit}
use Rattle.std.proofs.lemmas.Str.Parse.{digit_from_value}
use Rattle.std.proofs.Math.Seq.{drop-append_seam}
use Rattle.std.specs.Char.{digit_value}
use Rattle.std.specs.Fmt.{decimal}
use Rattle.std.specs.List.{list_all, prefix_len}
use Rattle.std.specs.Prelude.{encode_utf8_all, fold, nat_le, nat_lt}
use Rattle.std.specs.Str.Parse.{AllDigits, IsNumeral, digits_value, digits_value_after}
use Rattle.ft_base.specs.Characters.{is_within, is_in, is_ascii_name_start, is_name_start, is_name_char, is_only_inside, is_blank}
use Rattle.ft_base.specs.Letters.{is_digit, number_of}
use Rattle.ft_base.specs.Limits.{max_number}
use Rattle.selection_grammar.specs.declared.symbol.Symbol.TheVariants.{Number}
use Rattle.selection_grammar.specs.declared.symbol.Symbols.{Symbols}
use Rattle.query_lexer.specs.Symbols.{first_lexeme, first_number, first_string, name_at, number_at, goes_on_as_name, run_of, with_further, symbols_within}
use Rattle.selection_round_trip.specs.Strings.{with_symbol}
use Rattle.selection_round_trip.proofs.PrintedNames.{run_all}
use Rattle.selection_round_trip.proofs.PrintedStrings.{take_prefix}

-- digits
all_digits : (ds : List ℕ) → AllDigits 10 ds → list_all is_digit ds ≡ true
all_digits [] h = refl
all_digits (d ∷ ds) h = let range = digit_from_value d h.0 in and_from (is_digit d) (list_all is_digit ds) (and_from (nat_le 48 d) (nat_le d 57) (le-leb 48 d range.0) (le-leb d 57 range.1)) (all_digits ds h.1)

digit_not_above : (c : ℕ) (ranges : List (ℕ × ℕ)) → c ≤ 57 → list_all (λ (r : ℕ × ℕ). nat_lt 57 r.0) ranges ≡ true → is_in ranges c ≡ false
digit_not_above c [] h k = refl
digit_not_above c (r ∷ ranges) h k =
    let parts = and_parts (nat_lt 57 r.0) (list_all (λ (s : ℕ × ℕ). nat_lt 57 s.0) ranges) k in
    or_from (is_within c r) (is_in ranges c) (ap (λ b. b && nat_le c r.1) (lt-leb r.0 c (omega (arith, h, ltb-true 57 r.0 parts.0)))) (digit_not_above c ranges h parts.1)

abbrev further_starts : List (ℕ × ℕ)
further_starts = (0xC0, 0xD6) ∷ (0xD8, 0xF6) ∷ (0xF8, 0x2FF) ∷ (0x370, 0x37D) ∷ (0x37F, 0x1FFF) ∷ (0x200C, 0x200D) ∷ (0x2070, 0x218F) ∷ (0x2C00, 0x2FEF) ∷ (0x3001, 0xD7FF) ∷ (0xF900, 0xFDCF) ∷ (0xFDF0, 0xFFFD) ∷ (0x1_0000, 0xE_FFFF) ∷ []

no_name_start : (c : ℕ) → c ≤ 57 → is_name_start c ≡ false
unfolding is_name_start
no_name_start c h = or_from (is_ascii_name_start c) (is_in further_starts c) (digit_not_above c ((0x61, 0x7A) ∷ (0x41, 0x5A) ∷ (0x3A, 0x3A) ∷ (0x5F, 0x5F) ∷ []) h refl) (digit_not_above c further_starts h refl)

no_blank : (c : ℕ) → 48 ≤ c → (a b : Bool) → eqb c 32 ≡ a → eqb c 9 ≡ b → is_blank c ≡ false
no_blank c h true b e f = absurd (omega (arith, h, eqb-true c 32 e))
no_blank c h false true e f = absurd (omega (arith, h, eqb-true c 9 f))
no_blank c h false false e f = or_from (eqb c 32) (eqb c 9) e f

-- where no character of a name stands, no digit does
digit_inside : (c : ℕ) → is_digit c ≡ true → is_name_char c ≡ true
unfolding is_name_char
digit_inside c h = or_right (is_name_start c) (is_only_inside c) (or_right (is_within c (0x2D, 0x2E)) _ (or_left (is_digit c) _ h))

run_ends : (rest : List ℕ) → goes_on_as_name rest ≡ false → prefix_len is_digit rest ≡ 0
run_ends [] h = refl
run_ends (d ∷ rest) h = go (is_digit d) refl
  where
    go : (b : Bool) → is_digit d ≡ b → cond (is_digit d) (1 + prefix_len is_digit rest) 0 ≡ 0
    go true e = let two : true ≡ false = sym (digit_inside d e) ∙ h in cc
    go false e = ap (λ b. cond b (1 + prefix_len is_digit rest) 0) e

-- the value
least : (a b : ℕ) → a ≤ b → min a b ≡ a
least a b h = grind (arith, h)

one_digit : (n d : ℕ) → digit_value d < 10 → n * 10 + digit_value d ≤ max_number → min (n * 10 + (d - 48)) (max_number + 1) ≡ n * 10 + digit_value d
one_digit n d h k =
    let same : digit_value d ≡ d - 48 = omega (arith, digit_value_digit d (digit_from_value d h)) in
    ap (λ v. min (n * 10 + v) (max_number + 1)) (sym same) ∙ least (n * 10 + digit_value d) (max_number + 1) (omega (arith, k))

not_less : (n : ℕ) (ds : List ℕ) → n ≤ digits_value_after 10 n ds
not_less n [] = omega arith
not_less n (d ∷ ds) = omega (arith, not_less (n * 10 + digit_value d) ds)

value_same : (ds : List ℕ) (n : ℕ) → AllDigits 10 ds → digits_value_after 10 n ds ≤ max_number → fold (λ n d. min (n * 10 + (d - 48)) (max_number + 1)) n ds ≡ digits_value_after 10 n ds
value_same [] n h k = refl
value_same (d ∷ ds) n h k =
    let next : n * 10 + digit_value d ≤ max_number = omega (arith, k, not_less (n * 10 + digit_value d) ds) in
    ap (λ m. fold (λ n d. min (n * 10 + (d - 48)) (max_number + 1)) m ds) (one_digit n d h.0 next) ∙ value_same ds (n * 10 + digit_value d) h.1 k

-- the number
abbrev numbered : ℕ → ℕ → ℕ → List ℕ → List ℕ → Symbols
numbered bound place n taken left = with_symbol bound place (Number n) (encode_utf8_all taken) left

digits_read : (bound place n c : ℕ) (ds rest : List ℕ) → list_all is_digit (c ∷ ds) ≡ true → number_of (c ∷ ds) ≡ n → encode_utf8_all (c ∷ ds) ≡ c ∷ ds → goes_on_as_name rest ≡ false
    → symbols_within (suc bound) place (c ∷ ds ++ rest) ≡ with_symbol bound place (Number n) (c ∷ ds) rest
unfolding symbols_within first_lexeme
digits_read bound place n c ds rest h v ascii r =
    let word : List ℕ = c ∷ ds in
    let first = and_parts (is_digit c) (list_all is_digit ds) h in
    let bounds = and_parts (nat_le 48 c) (nat_le c 57) first.0 in
    let size : run_of is_digit (word ++ rest) ≡ length word = run_all is_digit word rest h (run_ends rest r) in
    ap (λ b. cond b (symbols_within bound (place + 1) (ds ++ rest)) (with_further place (word ++ rest) (symbols_within bound) (first_lexeme (word ++ rest)))) (no_blank c (leb-true 48 c bounds.0) (eqb c 32) (eqb c 9) refl refl)
    ∙ ap (λ b. with_further place (word ++ rest) (symbols_within bound) (cond b (name_at (word ++ rest)) (first_number c (ds ++ rest)))) (no_name_start c (leb-true c 57 bounds.1))
    ∙ ap (λ b. with_further place (word ++ rest) (symbols_within bound) (cond b (number_at (word ++ rest)) (first_string c (ds ++ rest)))) first.0
    ∙ ap (λ m. with_further place (word ++ rest) (symbols_within bound) (cond (goes_on_as_name (drop m (word ++ rest))) None (Some record { symbol = Number (number_of (take m (word ++ rest))); size = m }))) size
    ∙ ap (λ w. with_further place (word ++ rest) (symbols_within bound) (cond (goes_on_as_name w) None (Some record { symbol = Number (number_of (take (length word) (word ++ rest))); size = length word }))) (drop-append_seam word rest)
    ∙ ap (λ b. with_further place (word ++ rest) (symbols_within bound) (cond b None (Some record { symbol = Number (number_of (take (length word) (word ++ rest))); size = length word }))) r
    ∙ ap (λ t. numbered bound place (number_of t) t (drop (length word) (word ++ rest))) (take_prefix word rest)
    ∙ ap (λ w. numbered bound place (number_of word) word w) (drop-append_seam word rest)
    ∙ ap (λ m. numbered bound place m word rest) v
    ∙ ap (λ w. with_symbol bound place (Number n) w rest) ascii

pub number_read : (bound place n : ℕ) (rest : List ℕ) → n ≤ max_number → goes_on_as_name rest ≡ false → symbols_within (suc bound) place (decimal n ++ rest) ≡ with_symbol bound place (Number n) (decimal n) rest
number_read bound place n rest h r =
    let small : n < 2 ^ 64 = omega (arith, h) in
    let is = decimal_is_IsNumeral n small in
    go (decimal n) is.0 is.1 (encodes-IsAscii (decimal n) (IsAscii-decimal n small))
  where
    go : (ds : List ℕ) → IsNumeral 10 ds → digits_value 10 ds ≡ n → encode_utf8_all ds ≡ ds → symbols_within (suc bound) place (ds ++ rest) ≡ with_symbol bound place (Number n) ds rest
    go [] i v a = absurd (omega (arith, i.0))
    go (d ∷ ds) i v a = digits_read bound place n d ds rest (all_digits (d ∷ ds) i.1) (value_same (d ∷ ds) 0 i.1 (omega (arith, v, h)) ∙ v) a r
