-- Each symbol of a printed form is read as itself.
use Rattle.std.proofs.Common.{◌≡◌, ◌≤◌, ◌<◌, ◌^◌, ℕ, suc, Bool, true, false, ◌||◌, ◌&&◌, eqb, List, [], ◌∷◌, ◌++◌, refl, sym, ◌∙◌, ap, arith, append_assoc}
use Rattle.std.proofs.lemmas.Bool.{and_from, and_parts, leb-true, ne_eqb, or_from, or_left}
use Rattle.std.proofs.lemmas.Fmt.{decimal_is_IsNumeral, IsAscii-decimal}
use Rattle.std.proofs.lemmas.Str.{encodes-IsAscii}
use Rattle.std.proofs.lemmas.Str.Ascii.{IsAscii-cons, IsAscii-nil}
use Rattle.std.proofs.lemmas.Str.Parse.{digit_from_value}
use Rattle.std.specs.Fmt.{decimal}
use Rattle.std.specs.List.{list_all}
use Rattle.std.specs.Prelude.{flat_map, encode_utf8_all, nat_le}
use Rattle.std.specs.Str.{IsAscii, bytes_eq}
use Rattle.std.specs.Str.Parse.{IsNumeral}
use Rattle.ft_base.specs.Characters.{is_name_start, is_name_char, is_within, is_in}
use Rattle.ft_base.specs.Letters.{begins_with}
use Rattle.ft_base.specs.Limits.{max_number}
use Rattle.ft_syntax.specs.OptionSymbols.{in_quotes, string_symbol}
use Rattle.ft_syntax.specs.Spacing.{opens, closes}
use Rattle.selection_grammar.specs.declared.symbol.Symbol.{Symbol}
use Rattle.selection_grammar.specs.declared.symbol.Symbol.TheVariants as S
use Rattle.query_lexer.specs.Symbols.{first_lexeme, goes_on_as_name, symbols_within}
use Rattle.selection_round_trip.specs.Printable.{IsEncoded, is_small_letter, is_keyword, Printable}
use Rattle.selection_round_trip.specs.Printed.{spelling}
use Rattle.selection_round_trip.specs.Strings.{with_symbol, with_string}
use Rattle.selection_round_trip.proofs.PrintedNames.{name_read}
use Rattle.selection_round_trip.proofs.PrintedNumbers.{number_read}
use Rattle.selection_round_trip.proofs.PrintedStrings.{string_written, string_read}

-- what may stand directly after names, numbers and strings
abbrev pub Apart : List ℕ → Type 0
Apart rest = (goes_on_as_name rest ≡ false) × (begins_with 34 rest ≡ false)

pub record Readable (s : Symbol) : Type 0 where
  pub first : ℕ
  pub more : List ℕ
  pub written : encode_utf8_all (first ∷ more) ≡ spelling s
  pub reads : (bound place : ℕ) (rest : List ℕ) → (opens (spelling s) ≡ false → Apart rest) → symbols_within (suc bound) place (first ∷ more ++ rest) ≡ with_symbol bound place s (spelling s) rest
  pub follows : closes (spelling s) ≡ true → (is_name_char first ≡ false) × (eqb first 34 ≡ false)

-- a first character that no mark has
record NoMark (c : ℕ) : Type 0 where
  opening : c ≡ 40 → ⊥
  closing : c ≡ 41 → ⊥
  comma : c ≡ 44 → ⊥
  brace : c ≡ 123 → ⊥
  closing_brace : c ≡ 125 → ⊥

other : (c m : ℕ) (rest : List ℕ) → (c ≡ m → ⊥) → bytes_eq (c ∷ rest) (m ∷ []) ≡ false
other c m rest k = ap (λ t. t && bytes_eq rest []) (ne_eqb c m k)

not_opening : (c : ℕ) (rest : List ℕ) → NoMark c → opens (c ∷ rest) ≡ false
not_opening c rest h = or_from (bytes_eq (c ∷ rest) (40 ∷ [])) (bytes_eq (c ∷ rest) (123 ∷ [])) (other c 40 rest h.opening) (other c 123 rest h.brace)

not_closing : (c : ℕ) (rest : List ℕ) → NoMark c → closes (c ∷ rest) ≡ false
not_closing c rest h =
    or_from (bytes_eq (c ∷ rest) (41 ∷ []) || bytes_eq (c ∷ rest) (125 ∷ [])) (bytes_eq (c ∷ rest) (44 ∷ []))
    (or_from (bytes_eq (c ∷ rest) (41 ∷ [])) (bytes_eq (c ∷ rest) (125 ∷ [])) (other c 41 rest h.closing) (other c 125 rest h.closing_brace)) (other c 44 rest h.comma)

never : {b : Bool} {P : Type 0} → b ≡ false → b ≡ true → P
never e f = let two : false ≡ true = sym e ∙ f in cc

-- keywords
small_bounds : (c : ℕ) → is_small_letter c ≡ true → (97 ≤ c) × (c ≤ 122)
small_bounds c h = let parts = and_parts (nat_le 97 c) (nat_le c 122) h in (leb-true 97 c parts.0, leb-true c 122 parts.1)

small_mark : (c : ℕ) → 97 ≤ c → c ≤ 122 → NoMark c
small_mark c h k = record {
  opening = λ e. omega (arith, h, e);
  closing = λ e. omega (arith, h, e);
  comma = λ e. omega (arith, h, e);
  brace = λ e. omega (arith, k, e);
  closing_brace = λ e. omega (arith, k, e);
}

small_starts : (c : ℕ) → is_small_letter c ≡ true → is_name_start c ≡ true
unfolding is_name_start
small_starts c h = or_left (is_in ((0x61, 0x7A) ∷ (0x41, 0x5A) ∷ (0x3A, 0x3A) ∷ (0x5F, 0x5F) ∷ []) c) _ (or_left (is_within c (0x61, 0x7A)) _ h)

small_inside : (c : ℕ) → is_small_letter c ≡ true → is_name_char c ≡ true
unfolding is_name_char
small_inside c h = or_left (is_name_start c) _ (small_starts c h)

all_inside : (name : List ℕ) → list_all is_small_letter name ≡ true → list_all is_name_char name ≡ true
all_inside [] h = refl
all_inside (c ∷ rest) h = let parts = and_parts (is_small_letter c) (list_all is_small_letter rest) h in and_from (is_name_char c) (list_all is_name_char rest) (small_inside c parts.0) (all_inside rest parts.1)

all_ascii : (name : List ℕ) → list_all is_small_letter name ≡ true → IsAscii name
all_ascii [] h = IsAscii-nil
all_ascii (c ∷ rest) h = let parts = and_parts (is_small_letter c) (list_all is_small_letter rest) h in IsAscii-cons c rest (omega (arith, (small_bounds c parts.0).1)) (all_ascii rest parts.1)

readable_name : (name : List ℕ) → is_keyword name ≡ true → Readable (S.Name name)
readable_name [] h = cc
readable_name (c ∷ rest) h =
    let parts = and_parts (is_small_letter c) (list_all is_small_letter rest) h in
    let bounds = small_bounds c parts.0 in
    let ascii = all_ascii (c ∷ rest) h in
    let same : encode_utf8_all (c ∷ rest) ≡ c ∷ rest = encodes-IsAscii (c ∷ rest) ascii in
    let mark = small_mark c bounds.0 bounds.1 in
    record {
      first = c;
      more = rest;
      written = same;
      reads = λ bound place left apart. name_read bound place c rest left (small_starts c parts.0) (all_inside rest parts.1) (apart (not_opening c rest mark)).0 ∙ ap (λ w. with_symbol bound place (S.Name w) w left) same;
      follows = λ e. never (not_closing c rest mark) e;
    }

-- numbers
digit_mark : (c : ℕ) → 48 ≤ c → c ≤ 57 → NoMark c
digit_mark c h k = record {
  opening = λ e. omega (arith, h, e);
  closing = λ e. omega (arith, h, e);
  comma = λ e. omega (arith, h, e);
  brace = λ e. omega (arith, k, e);
  closing_brace = λ e. omega (arith, k, e);
}

readable_number : (n : ℕ) → n ≤ max_number → Readable (S.Number n)
readable_number n h = let small : n < 2 ^ 64 = omega (arith, h) in go (decimal n) refl (decimal_is_IsNumeral n small).0 (IsAscii-decimal n small)
  where
    go : (ds : List ℕ) → decimal n ≡ ds → IsNumeral 10 ds → IsAscii ds → Readable (S.Number n)
    go [] e i a = absurd (omega (arith, i.0))
    go (c ∷ ds) e i a =
        let range = digit_from_value c i.1.0 in
        let mark = digit_mark c range.0 range.1 in
        record {
          first = c;
          more = ds;
          written = encodes-IsAscii (c ∷ ds) a ∙ sym e;
          reads = λ bound place left apart. ap (λ w. symbols_within (suc bound) place (w ++ left)) (sym e) ∙ number_read bound place n left h (apart (ap opens e ∙ not_opening c ds mark)).0;
          follows = λ k. never (ap closes e ∙ not_closing c ds mark) k;
        }

-- texts
readable_text : (text : List ℕ) → IsEncoded text → Readable (S.Text text)
readable_text text h =
    let cs = h.0 in
    let inside = flat_map in_quotes cs in
    record {
      first = 34;
      more = inside ++ 34 ∷ [];
      written = string_written cs ∙ ap string_symbol h.1;
      reads = λ bound place left apart.
          ap (λ w. symbols_within (suc bound) place (34 ∷ w)) (append_assoc inside (34 ∷ []) left)
          ∙ string_read bound place cs left (apart refl).1
          ∙ ap (λ w. with_string bound place w left) h.1;
      follows = λ e. cc;
    }

-- marks
opening_mark : (s : Symbol) (c : ℕ) → encode_utf8_all (c ∷ []) ≡ spelling s → closes (spelling s) ≡ false → ((bound place : ℕ) (rest : List ℕ) → symbols_within (suc bound) place (c ∷ rest) ≡ with_symbol bound place s (spelling s) rest) → Readable s
opening_mark s c w e r = record { first = c; more = []; written = w; reads = λ bound place rest apart. r bound place rest; follows = λ f. never e f }

closing_mark : (s : Symbol) (c : ℕ) → encode_utf8_all (c ∷ []) ≡ spelling s → is_name_char c ≡ false → eqb c 34 ≡ false → ((bound place : ℕ) (rest : List ℕ) → symbols_within (suc bound) place (c ∷ rest) ≡ with_symbol bound place s (spelling s) rest) → Readable s
closing_mark s c w e f r = record { first = c; more = []; written = w; reads = λ bound place rest apart. r bound place rest; follows = λ k. (e, f) }

pub readable : (s : Symbol) → Printable s → Readable s
unfolding symbols_within first_lexeme is_name_start is_name_char lib.Utf8.encode
readable (S.Name name) h = readable_name name h
readable (S.Number n) h = readable_number n h
readable (S.Text text) h = readable_text text h
readable S.OpenParenthesis h = opening_mark S.OpenParenthesis 40 refl refl (λ bound place rest. refl)
readable S.CloseParenthesis h = closing_mark S.CloseParenthesis 41 refl refl refl (λ bound place rest. refl)
readable S.OpenBrace h = opening_mark S.OpenBrace 123 refl refl (λ bound place rest. refl)
readable S.CloseBrace h = closing_mark S.CloseBrace 125 refl refl refl (λ bound place rest. refl)
readable S.Comma h = closing_mark S.Comma 44 refl refl refl (λ bound place rest. refl)
readable S.Slash h = absurd h
readable S.DoubleSlash h = absurd h
readable S.OpenBracket h = absurd h
readable S.CloseBracket h = absurd h
readable S.At h = absurd h
readable S.Equals h = absurd h
readable S.Period h = absurd h
readable S.Star h = absurd h
readable S.VerticalBar h = absurd h
