-- A name is read as itself.
use Rattle.std.proofs.Common.{◌≡◌, ◌+◌, ℕ, suc, Bool, true, false, ◌||◌, ◌&&◌, cond, eqb, List, [], ◌∷◌, ◌++◌, length, take, drop, refl, sym, ◌∙◌, ap, arith}
use Rattle.std.proofs.lemmas.Bool.{eqb-true}
use Rattle.std.proofs.Math.Seq.{drop-append_seam}
use Rattle.std.specs.Prelude.{encode_utf8_all}
use Rattle.std.specs.List.{list_all, prefix_len}
use Rattle.ft_base.specs.Characters.{is_name_start, is_name_char, is_blank}
use Rattle.ft_base.proofs.CharacterLemmas.{start_is_inside}
use Rattle.selection_grammar.specs.declared.symbol.Symbol.TheVariants.{Name}
use Rattle.selection_grammar.specs.declared.symbol.Symbols.{Symbols}
use Rattle.query_lexer.specs.Symbols.{first_lexeme, first_number, name_at, goes_on_as_name, with_further, symbols_within}
use Rattle.selection_round_trip.specs.Strings.{with_symbol}
use Rattle.selection_round_trip.proofs.PrintedStrings.{take_prefix}

pub run_all : (test : ℕ → Bool) (xs rest : List ℕ) → list_all test xs ≡ true → prefix_len test rest ≡ 0 → prefix_len test (xs ++ rest) ≡ length xs
run_all test [] rest h k = k
run_all test (x ∷ xs) rest h k = go (test x) refl h (λ i. run_all test xs rest i k)
  where
    next : {m n : ℕ} → m ≡ n → 1 + m ≡ suc n
    next e = omega (arith, e)

    go : (b : Bool) → test x ≡ b → (b && list_all test xs) ≡ true → (list_all test xs ≡ true → prefix_len test (xs ++ rest) ≡ length xs) → cond (test x) (1 + prefix_len test (xs ++ rest)) 0 ≡ suc (length xs)
    go true e i more = ap (λ b. cond b (1 + prefix_len test (xs ++ rest)) 0) e ∙ next (more i)
    go false e i more = cc

run_ends : (rest : List ℕ) → goes_on_as_name rest ≡ false → prefix_len is_name_char rest ≡ 0
run_ends [] h = refl
run_ends (d ∷ rest) h = ap (λ b. cond b (1 + prefix_len is_name_char rest) 0) h

not_blank : (c : ℕ) → is_name_start c ≡ true → (a b : Bool) → eqb c 32 ≡ a → eqb c 9 ≡ b → is_blank c ≡ false
unfolding is_name_start
not_blank c h true b e f = let two : is_name_start 32 ≡ true = ap is_name_start (sym (eqb-true c 32 e)) ∙ h in cc
not_blank c h false true e f = let two : is_name_start 9 ≡ true = ap is_name_start (sym (eqb-true c 9 f)) ∙ h in cc
not_blank c h false false e f = ap (λ a. a || eqb c 9) e ∙ f

-- a name with these letters, and what is left after it
abbrev named : ℕ → ℕ → List ℕ → List ℕ → Symbols
named bound place taken left = with_symbol bound place (Name (encode_utf8_all taken)) (encode_utf8_all taken) left

pub name_read : (bound place c : ℕ) (letters rest : List ℕ) → is_name_start c ≡ true → list_all is_name_char letters ≡ true → goes_on_as_name rest ≡ false
    → symbols_within (suc bound) place (c ∷ letters ++ rest) ≡ with_symbol bound place (Name (encode_utf8_all (c ∷ letters))) (encode_utf8_all (c ∷ letters)) rest
unfolding symbols_within first_lexeme
name_read bound place c letters rest h k r =
    let all : list_all is_name_char (c ∷ letters) ≡ true = ap (λ b. b && list_all is_name_char letters) (start_is_inside c h) ∙ k in
    ap (λ b. cond b (symbols_within bound (place + 1) (letters ++ rest)) (with_further place (c ∷ letters ++ rest) (symbols_within bound) (first_lexeme (c ∷ letters ++ rest)))) (not_blank c h (eqb c 32) (eqb c 9) refl refl)
    ∙ ap (λ b. with_further place (c ∷ letters ++ rest) (symbols_within bound) (cond b (name_at (c ∷ letters ++ rest)) (first_number c (letters ++ rest)))) h
    ∙ ap (λ n. named bound place (take n (c ∷ letters ++ rest)) (drop n (c ∷ letters ++ rest))) (run_all is_name_char (c ∷ letters) rest all (run_ends rest r))
    ∙ ap (λ t. named bound place t (drop (length (c ∷ letters)) (c ∷ letters ++ rest))) (take_prefix (c ∷ letters) rest)
    ∙ ap (λ d. named bound place (c ∷ letters) d) (drop-append_seam (c ∷ letters) rest)
