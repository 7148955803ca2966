-- Symbols that are set out as those of a printed form are read as themselves.
use Rattle.std.proofs.Common.{◌≡◌, ◌≤◌, ◌+◌, ℕ, zero, suc, Bool, true, false, ◌||◌, cond, eqb, subst, append_assoc, List, [], ◌∷◌, ◌++◌, length, None, refl, sym, ◌∙◌, ap, arith, append-nil}
use Rattle.std.proofs.lemmas.List.{length-append}
use Rattle.std.proofs.lemmas.Str.{encodes-append}
use Rattle.std.specs.Prelude.{chars, encode_utf8_all}
use Rattle.ft_base.specs.Characters.{is_name_char, is_name_start}
use Rattle.ft_syntax.specs.Spacing.{opens, closes, set_out}
use Rattle.selection_grammar.specs.declared.symbol.Placed.{Placed}
use Rattle.query_lexer.specs.Symbols.{before, symbols_of, symbols_within}
use Rattle.selection_round_trip.specs.Places.{symbols_in}
use Rattle.selection_round_trip.specs.Printable.{AllPrintable, HasSymbols}
use Rattle.selection_round_trip.specs.Printed.{spelling, spellings}
use Rattle.selection_round_trip.proofs.Characters.{chars_encoded}
use Rattle.selection_round_trip.proofs.Readable.{Apart, Readable, readable}

-- what is read there
record ReadThere (bound place : ℕ) (letters : List ℕ) (u : List Placed) : Type 0 where
  placed : List Placed
  all : symbols_within bound place letters ≡ record { placed = placed; bad = None }
  are : symbols_in placed ≡ symbols_in u

abbrev AllRead : List ℕ → List Placed → Type 0
AllRead letters u = (bound place : ℕ) → length letters ≤ bound → ReadThere bound place letters u

abbrev ClosesFirst : List Placed → Type 0
ClosesFirst [] = ⊥
ClosesFirst (q ∷ rest) = closes (spelling q.symbol) ≡ true

-- what stands first may stand directly after others
abbrev FirstApart : List ℕ → Type 0
FirstApart [] = ⊥
FirstApart (c ∷ rest) = (is_name_char c ≡ false) × (eqb c 34 ≡ false)

first_apart : (letters : List ℕ) → FirstApart letters → Apart letters
first_apart [] h = absurd h
first_apart (c ∷ rest) h = h

record Laid (u : List Placed) : Type 0 where
  letters : List ℕ
  written : encode_utf8_all letters ≡ set_out (spellings u)
  reads : AllRead letters u
  follows : ClosesFirst u → FirstApart letters

nothing_read : AllRead [] []
unfolding symbols_within
nothing_read bound place h = record { placed = []; all = refl; are = refl }

-- one symbol before others, and a space
read_on : (p : Placed) (x : Readable p.symbol) (letters : List ℕ) (u : List Placed) → (opens (spelling p.symbol) ≡ false → Apart letters) → AllRead letters u → AllRead (x.first ∷ x.more ++ letters) (p ∷ u)
read_on p x letters u apart further zero place h = absurd (omega (arith, h))
read_on p x letters u apart further (suc bound) place h =
    let y = further bound (place + length (spelling p.symbol)) (omega (arith, h, length-append x.more letters)) in
    let q : Placed = record { symbol = p.symbol; from = place; to = place + length (spelling p.symbol) } in
    record { placed = q ∷ y.placed; all = x.reads bound place letters apart ∙ ap (before q) y.all; are = ap (λ w. p.symbol ∷ w) y.are }

read_blank : (letters : List ℕ) (u : List Placed) → AllRead letters u → AllRead (32 ∷ letters) u
unfolding symbols_within
read_blank letters u further zero place h = absurd (omega (arith, h))
read_blank letters u further (suc bound) place h = let y = further bound (place + 1) (omega (arith, h)) in record { placed = y.placed; all = y.all; are = y.are }

-- a symbol, and others close after it or after a space
laid_close : (p q : Placed) (rest : List Placed) → Readable p.symbol → Laid (q ∷ rest) → (opens (spelling p.symbol) || closes (spelling q.symbol)) ≡ true → (opens (spelling p.symbol) ≡ false → closes (spelling q.symbol) ≡ true) → Laid (p ∷ q ∷ rest)
unfolding set_out
laid_close p q rest x y e f =
    let s = spelling p.symbol in
    record {
      letters = (x.first ∷ x.more) ++ y.letters;
      written =
          encodes-append (x.first ∷ x.more) y.letters
          ∙ (λ i. x.written i ++ y.written i)
          ∙ ap (λ w. w ++ set_out (spellings (q ∷ rest))) (sym (ap (λ b. s ++ cond b [] (32 ∷ [])) e ∙ append-nil s));
      reads = read_on p x y.letters (q ∷ rest) (λ k. first_apart y.letters (y.follows (f k))) y.reads;
      follows = x.follows;
    }

laid_apart : (p q : Placed) (rest : List Placed) → Readable p.symbol → Laid (q ∷ rest) → (opens (spelling p.symbol) || closes (spelling q.symbol)) ≡ false → Laid (p ∷ q ∷ rest)
unfolding set_out lib.Utf8.encode is_name_char is_name_start
laid_apart p q rest x y e =
    let s = spelling p.symbol in
    record {
      letters = (x.first ∷ x.more) ++ 32 ∷ y.letters;
      written =
          encodes-append (x.first ∷ x.more) (32 ∷ y.letters)
          ∙ (λ i. x.written i ++ 32 ∷ y.written i)
          ∙ sym (append_assoc s (32 ∷ []) (set_out (spellings (q ∷ rest))))
          ∙ ap (λ b. (s ++ cond b [] (32 ∷ [])) ++ set_out (spellings (q ∷ rest))) (sym e);
      reads = read_on p x (32 ∷ y.letters) (q ∷ rest) (λ k. (refl, refl)) (read_blank y.letters (q ∷ rest) y.reads);
      follows = x.follows;
    }

laid_on : (p q : Placed) (rest : List Placed) → Readable p.symbol → Laid (q ∷ rest) → (a b : Bool) → opens (spelling p.symbol) ≡ a → closes (spelling q.symbol) ≡ b → Laid (p ∷ q ∷ rest)
laid_on p q rest x y true b e f = laid_close p q rest x y (ap (λ c. c || closes (spelling q.symbol)) e) (λ k. let two : true ≡ false = sym e ∙ k in cc)
laid_on p q rest x y false true e f = laid_close p q rest x y (ap (λ c. c || closes (spelling q.symbol)) e ∙ f) (λ k. f)
laid_on p q rest x y false false e f = laid_apart p q rest x y (ap (λ c. c || closes (spelling q.symbol)) e ∙ f)

laid_last : (p : Placed) → Readable p.symbol → Laid (p ∷ [])
unfolding set_out symbols_within
laid_last p x = record {
  letters = x.first ∷ x.more;
  written = x.written;
  reads = λ bound place h. subst (λ w. ReadThere bound place w (p ∷ [])) (append-nil (x.first ∷ x.more)) (read_on p x [] [] (λ k. (refl, refl)) nothing_read bound place (omega (arith, h, length-append (x.first ∷ x.more) [])));
  follows = x.follows;
}

laid : (u : List Placed) → AllPrintable u → Laid u
unfolding set_out symbols_within
laid [] h = record { letters = []; written = refl; reads = nothing_read; follows = λ e. absurd e }
laid (p ∷ []) h = laid_last p (readable p.symbol h.0)
laid (p ∷ q ∷ rest) h = laid_on p q rest (readable p.symbol h.0) (laid (q ∷ rest) h.1) (opens (spelling p.symbol)) (closes (spelling q.symbol)) refl refl

pub symbols_laid : (u : List Placed) → AllPrintable u → HasSymbols (set_out (spellings u)) (symbols_in u)
unfolding symbols_of
symbols_laid u h =
    let x = laid u h in
    let same : chars (set_out (spellings u)) ≡ x.letters = ap chars (sym x.written) ∙ chars_encoded x.letters in
    let y = x.reads (length x.letters) 0 (omega arith) in
    record { placed = y.placed; all = ap (λ w. symbols_within (length w) 0 w) same ∙ y.all; are = y.are }
