-- A text in quotation marks that is read from one quotation mark to the next.
use Rattle.std.proofs.Common.{◌≡◌, ◌∙◌, sym, ap, refl, ℕ, suc, ◌+◌, ◌<◌, Bool, true, false, not, cond, List, [], ◌∷◌, ◌++◌, length, take, drop, arith, append_assoc, eqb-true}
use Rattle.std.specs.Prelude.{Option, Some, None, nat_eq, ◌&&◌}
use Rattle.std.specs.List.{position_or_len, before_first, after_first}
use Rattle.std.proofs.lemmas.Bool.Decides.{nat_tests}
use Rattle.session_text.specs.Quoted.{is_quote, is_quoted, prefixed, unquoted_on}

place_next : (n : ℕ) → 1 + n ≡ suc n
place_next n = omega arith

-- a text without a quotation mark isn't closed
pub never_closed : (text : List ℕ) → position_or_len is_quote text ≡ length text → unquoted_on false text ≡ None
never_closed [] none = refl
never_closed (byte ∷ text) none = by (never_closed text) (is_quote byte) refl
  where
    by : (position_or_len is_quote text ≡ length text → unquoted_on false text ≡ None) → (t : Bool) → is_quote byte ≡ t → cond t (unquoted_on true text) (prefixed (byte ∷ []) (unquoted_on false text)) ≡ None
    by suffix true is = absurd (omega (arith, sym (ap (λ t. cond (not t) (1 + position_or_len is_quote text) 0) is) ∙ none))
    by suffix false is = ap (prefixed (byte ∷ [])) (suffix (omega (arith, sym (ap (λ t. cond (not t) (1 + position_or_len is_quote text) 0) is) ∙ none)))

prefixed-twice : (byte : ℕ) (bytes : List ℕ) (read : Option (List ℕ × List ℕ)) → prefixed (byte ∷ []) (prefixed bytes read) ≡ prefixed (byte ∷ bytes) read
prefixed-twice byte bytes None = refl
prefixed-twice byte bytes (Some q) = refl

prefixed-nothing : (read : Option (List ℕ × List ℕ)) → prefixed [] read ≡ read
prefixed-nothing None = refl
prefixed-nothing (Some q) = refl

-- up to the first quotation mark a text says what it is
pub first_quote : (text : List ℕ) → position_or_len is_quote text < length text → unquoted_on false text ≡ prefixed (before_first is_quote text) (unquoted_on true (after_first is_quote text))
first_quote [] inside = absurd (omega (arith, inside))
first_quote (byte ∷ text) inside = by (first_quote text) (is_quote byte) refl
  where
    by : (position_or_len is_quote text < length text → unquoted_on false text ≡ prefixed (before_first is_quote text) (unquoted_on true (after_first is_quote text)))
        → (t : Bool) → is_quote byte ≡ t → cond t (unquoted_on true text) (prefixed (byte ∷ []) (unquoted_on false text))
        ≡ prefixed (take (cond (not t) (1 + position_or_len is_quote text) 0) (byte ∷ text)) (unquoted_on true (drop (cond (not t) (1 + position_or_len is_quote text) 0 + 1) (byte ∷ text)))
    by suffix true is = sym (prefixed-nothing (unquoted_on true text))
    by suffix false is =
        let n = position_or_len is_quote text in
        let more : n < length text = omega (arith, inside, ap (λ t. cond (not t) (1 + position_or_len is_quote text) 0) is) in
        let next : suc n ≡ 1 + n = sym (place_next n) in
        let behind : suc (n + 1) ≡ 1 + n + 1 = omega arith in
        ap (prefixed (byte ∷ [])) (suffix more)
        ∙ (prefixed-twice byte (take n text) (unquoted_on true (drop (n + 1) text))
        ∙ (λ i. prefixed (take (next i) (byte ∷ text)) (unquoted_on true (drop (behind i) (byte ∷ text)))))

quote_first : (byte : ℕ) → (nat_eq 34 byte && true) ≡ is_quote byte
quote_first byte = grind (arith, nat_tests)

-- a quotation mark that another one follows says one
pub second_quote : (bytes : List ℕ) → is_quoted bytes ≡ true → unquoted_on true bytes ≡ prefixed (34 ∷ []) (unquoted_on false (drop 1 bytes))
second_quote [] other = absurd (let no : ⊥ = cc in no)
second_quote (byte ∷ bytes) is =
    let quote : is_quote byte ≡ true = sym (quote_first byte) ∙ is in
    ap (λ t. cond t (prefixed (byte ∷ []) (unquoted_on false bytes)) (Some ([], byte ∷ bytes))) quote ∙ ap (λ b. prefixed (b ∷ []) (unquoted_on false bytes)) (eqb-true _ _ quote)

-- and otherwise it closes the text
pub last_quote : (bytes : List ℕ) → is_quoted bytes ≡ false → unquoted_on true bytes ≡ Some ([], bytes)
last_quote [] other = refl
last_quote (byte ∷ bytes) other = ap (λ t. cond t (prefixed (byte ∷ []) (unquoted_on false bytes)) (Some ([], byte ∷ bytes))) (sym (quote_first byte) ∙ other)

pub prefixed-append : (xs ys : List ℕ) (read : Option (List ℕ × List ℕ)) → prefixed xs (prefixed ys read) ≡ prefixed (xs ++ ys) read
prefixed-append xs ys None = refl
prefixed-append xs ys (Some q) = ap (λ w. Some (w, q.1)) (sym (append_assoc xs ys q.0))

-- what was read, after a quotation mark that says one
pub read_on : (text said before after next new rest : List ℕ)
    → unquoted_on false text ≡ prefixed said (unquoted_on false rest) → unquoted_on false rest ≡ prefixed before (unquoted_on true after) → is_quoted after ≡ true → next ≡ drop 1 after → new ≡ (said ++ before) ++ 34 ∷ []
    → unquoted_on false text ≡ prefixed new (unquoted_on false next)
read_on text said before after next new rest so_far first quote behind all =
    let read = unquoted_on false (drop 1 after) in
    so_far
    ∙ (ap (prefixed said) (first ∙ ap (prefixed before) (second_quote after quote))
    ∙ (ap (prefixed said) (prefixed-append before (34 ∷ []) read)
    ∙ (prefixed-append said (before ++ 34 ∷ []) read
    ∙ (ap (λ w. prefixed w read) (sym (append_assoc said before (34 ∷ [])) ∙ sym all)
    ∙ ap (λ w. prefixed new (unquoted_on false w)) (sym behind)))))
