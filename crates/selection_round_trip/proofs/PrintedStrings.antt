-- A string as it is printed is read as itself.
use Rattle.std.proofs.Common.{◌≡◌, ◌+◌, ℕ, suc, Bool, true, false, cond, eqb, List, [], ◌∷◌, ◌++◌, length, take, drop, Some, None, refl, sym, ◌∙◌, ap, arith, append_assoc, append-nil}
use Rattle.std.proofs.lemmas.Bool.{eqb-true, eqb-false}
use Rattle.std.proofs.lemmas.List.{length-append}
use Rattle.std.proofs.lemmas.List.Concat.{flat_map-append}
use Rattle.std.proofs.lemmas.Str.{encodes-append}
use Rattle.std.proofs.Math.Seq.{drop-append_seam}
use Rattle.std.specs.Prelude.{flat_map, option_map, encode_utf8, encode_utf8_all}
use Rattle.ft_base.specs.Characters.{is_name_start}
use Rattle.ft_base.specs.Letters.{begins_with}
use Rattle.selection_grammar.specs.declared.symbol.Symbol.TheVariants as S
use Rattle.selection_grammar.specs.declared.symbol.Symbols.{Symbols}
use Rattle.query_lexer.specs.Symbols.{with_letter, quoted_at, first_lexeme, before, with_further, symbols_within}
use Rattle.ft_syntax.specs.OptionSymbols.{in_quotes, string_symbol}
use Rattle.ft_syntax.proofs.Quotes.{in_quotes_letter}
use Rattle.selection_round_trip.specs.Strings.{with_string}

-- a letter that isn't a quotation mark, and the closing one
one_letter : (c : ℕ) (rest : List ℕ) → eqb c 34 ≡ false → quoted_at 34 (c ∷ rest) ≡ with_letter c 1 (quoted_at 34 rest)
one_letter c [] h = ap (λ b. cond b (Some record { text = []; size = 1 }) None) h
one_letter c (d ∷ rest) h = ap (λ b. cond b (cond (eqb d 34) (with_letter c 2 (quoted_at 34 rest)) (Some record { text = []; size = 1 })) (with_letter c 1 (quoted_at 34 (d ∷ rest)))) h

closing : (rest : List ℕ) → begins_with 34 rest ≡ false → quoted_at 34 (34 ∷ rest) ≡ Some record { text = []; size = 1 }
closing [] h = refl
closing (d ∷ rest) h = ap (λ b. cond b (with_letter 34 2 (quoted_at 34 rest)) (Some record { text = []; size = 1 })) h

quoted_more : (c : ℕ) (letters rest : List ℕ) (b : Bool) → eqb c 34 ≡ b → quoted_at 34 (flat_map in_quotes letters ++ 34 ∷ rest) ≡ Some record { text = encode_utf8_all letters; size = length (flat_map in_quotes letters) + 1 }
    → quoted_at 34 (flat_map in_quotes (c ∷ letters) ++ 34 ∷ rest) ≡ Some record { text = encode_utf8_all (c ∷ letters); size = length (flat_map in_quotes (c ∷ letters)) + 1 }
quoted_more c letters rest true e more =
    let same : 34 ≡ c = sym (eqb-true c 34 e) in
    let two : 2 + (length (flat_map in_quotes letters) + 1) ≡ length (34 ∷ 34 ∷ flat_map in_quotes letters) + 1 = omega arith in
    let sizes : 2 + (length (flat_map in_quotes letters) + 1) ≡ length (flat_map in_quotes (c ∷ letters)) + 1 = two ∙ ap (λ b. length (cond b (34 ∷ 34 ∷ []) (c ∷ []) ++ flat_map in_quotes letters) + 1) (sym e) in
    let first : quoted_at 34 (flat_map in_quotes (c ∷ letters) ++ 34 ∷ rest) ≡ with_letter 34 2 (quoted_at 34 (flat_map in_quotes letters ++ 34 ∷ rest)) = ap (λ b. quoted_at 34 ((cond b (34 ∷ 34 ∷ []) (c ∷ []) ++ flat_map in_quotes letters) ++ 34 ∷ rest)) e in
    let last : with_letter 34 2 (Some record { text = encode_utf8_all letters; size = length (flat_map in_quotes letters) + 1 }) ≡ Some record { text = encode_utf8_all (c ∷ letters); size = length (flat_map in_quotes (c ∷ letters)) + 1 }
    = λ i. Some record { text = encode_utf8 (same i) ++ encode_utf8_all letters; size = sizes i } in
    first ∙ ap (with_letter 34 2) more ∙ last
quoted_more c letters rest false e more =
    let one : 1 + (length (flat_map in_quotes letters) + 1) ≡ length (c ∷ flat_map in_quotes letters) + 1 = omega arith in
    let sizes : 1 + (length (flat_map in_quotes letters) + 1) ≡ length (flat_map in_quotes (c ∷ letters)) + 1 = one ∙ ap (λ b. length (cond b (34 ∷ 34 ∷ []) (c ∷ []) ++ flat_map in_quotes letters) + 1) (sym e) in
    let first : quoted_at 34 (flat_map in_quotes (c ∷ letters) ++ 34 ∷ rest) ≡ quoted_at 34 (c ∷ (flat_map in_quotes letters ++ 34 ∷ rest)) = ap (λ b. quoted_at 34 ((cond b (34 ∷ 34 ∷ []) (c ∷ []) ++ flat_map in_quotes letters) ++ 34 ∷ rest)) e in
    let last : with_letter c 1 (Some record { text = encode_utf8_all letters; size = length (flat_map in_quotes letters) + 1 }) ≡ Some record { text = encode_utf8_all (c ∷ letters); size = length (flat_map in_quotes (c ∷ letters)) + 1 }
    = λ i. Some record { text = encode_utf8 c ++ encode_utf8_all letters; size = sizes i } in
    first ∙ one_letter c (flat_map in_quotes letters ++ 34 ∷ rest) e ∙ ap (with_letter c 1) more ∙ last

quoted_letters : (letters rest : List ℕ) → begins_with 34 rest ≡ false → quoted_at 34 (flat_map in_quotes letters ++ 34 ∷ rest) ≡ Some record { text = encode_utf8_all letters; size = length (flat_map in_quotes letters) + 1 }
quoted_letters [] rest h = closing rest h
quoted_letters (c ∷ letters) rest h = quoted_more c letters rest (eqb c 34) refl (quoted_letters letters rest h)

-- in bytes
bytes_letter : (c : ℕ) (b : Bool) → eqb c 34 ≡ b → flat_map in_quotes (encode_utf8 c) ≡ encode_utf8_all (in_quotes c)
unfolding lib.Utf8.encode
bytes_letter c true e = ap (λ n. flat_map in_quotes (encode_utf8 n)) (eqb-true c 34 e) ∙ ap (λ n. encode_utf8_all (in_quotes n)) (sym (eqb-true c 34 e))
bytes_letter c false e = in_quotes_letter c (eqb-false c 34 e) ∙ sym (append-nil (encode_utf8 c)) ∙ ap (λ b. encode_utf8_all (cond b (34 ∷ 34 ∷ []) (c ∷ []))) (sym e)

bytes_doubled : (letters : List ℕ) → flat_map in_quotes (encode_utf8_all letters) ≡ encode_utf8_all (flat_map in_quotes letters)
bytes_doubled [] = refl
bytes_doubled (c ∷ letters) =
    flat_map-append in_quotes (encode_utf8 c) (encode_utf8_all letters)
    ∙ ap (λ w. w ++ flat_map in_quotes (encode_utf8_all letters)) (bytes_letter c (eqb c 34) refl)
    ∙ ap (λ w. encode_utf8_all (in_quotes c) ++ w) (bytes_doubled letters)
    ∙ sym (encodes-append (in_quotes c) (flat_map in_quotes letters))

pub string_written : (letters : List ℕ) → encode_utf8_all (34 ∷ flat_map in_quotes letters ++ 34 ∷ []) ≡ string_symbol (encode_utf8_all letters)
unfolding lib.Utf8.encode
string_written letters = ap (λ w. 34 ∷ w) (encodes-append (flat_map in_quotes letters) (34 ∷ []) ∙ ap (λ w. w ++ 34 ∷ []) (sym (bytes_doubled letters)))

-- the first symbol, and what is left
pub take_prefix : (xs ys : List ℕ) → take (length xs) (xs ++ ys) ≡ xs
take_prefix [] ys = refl
take_prefix (x ∷ xs) ys = ap (λ w. x ∷ w) (take_prefix xs ys)

abbrev suffix : ℕ → ℕ → List ℕ → List ℕ → List ℕ → Symbols
suffix bound place letters taken left = before (record { symbol = S.Text (encode_utf8_all letters); from = place; to = place + length (encode_utf8_all taken) }) (symbols_within bound (place + length (encode_utf8_all taken)) left)

pub string_read : (bound place : ℕ) (letters rest : List ℕ) → begins_with 34 rest ≡ false → symbols_within (suc bound) place (34 ∷ flat_map in_quotes letters ++ 34 ∷ rest) ≡ with_string bound place (encode_utf8_all letters) rest
unfolding symbols_within first_lexeme is_name_start
string_read bound place letters rest h =
    let word : List ℕ = 34 ∷ flat_map in_quotes letters ++ 34 ∷ [] in
    let split : 34 ∷ flat_map in_quotes letters ++ 34 ∷ rest ≡ word ++ rest = sym (append_assoc (34 ∷ flat_map in_quotes letters) (34 ∷ []) rest) in
    let size : (length (flat_map in_quotes letters) + 1) + 1 ≡ length word = omega (arith, length-append (34 ∷ flat_map in_quotes letters) (34 ∷ [])) in
    ap (λ q. with_further place (34 ∷ flat_map in_quotes letters ++ 34 ∷ rest) (symbols_within bound) (option_map (λ z. record { symbol = S.Text z.text; size = z.size + 1 }) q)) (quoted_letters letters rest h)
    ∙ ap (λ n. suffix bound place letters (take n (34 ∷ flat_map in_quotes letters ++ 34 ∷ rest)) (drop n (34 ∷ flat_map in_quotes letters ++ 34 ∷ rest))) size
    ∙ ap (λ w. suffix bound place letters (take (length word) w) (drop (length word) w)) split
    ∙ ap (λ w. suffix bound place letters w (drop (length word) (word ++ rest))) (take_prefix word rest)
    ∙ ap (λ w. suffix bound place letters word w) (drop-append_seam word rest)
    ∙ ap (λ w. before (record { symbol = S.Text (encode_utf8_all letters); from = place; to = place + length w }) (symbols_within bound (place + length w) rest)) (string_written letters)
