-- The characters of a line: those of names begin as names do, and no number is too great.
use Rattle.std.proofs.Common.{◌≡◌, ◌∙◌, sym, ap, ap₂, refl, ℕ, ◌<◌, ◌≤◌, ◌^◌, true, ◌&&◌, List, [], ◌∷◌, ◌++◌, flat_map, arith, append_assoc, append-nil}
use Rattle.std.specs.Prelude.{encode_utf8, encode_utf8_all}
use Rattle.std.specs.Fmt.{decimal}
use Rattle.std.specs.List.{AllByRecursion, list_all}
use Rattle.std.proofs.lemmas.Fmt.{IsAscii-decimal}
use Rattle.std.proofs.lemmas.List.Folds.{list_all-append}
use Rattle.std.proofs.lemmas.Str.{encodes-append, encodes-IsAscii}
use Rattle.ft_base.specs.Characters.{is_name_char, is_name_start}
use Rattle.ft_base.specs.Limits.{max_number}
use Rattle.ft_syntax.specs.OptionSymbols.{in_quotes, string_symbol}
use Rattle.doc_grammar.specs.Grammar.{Name, first, further}
use Rattle.element_lines.specs.LocationSteps.{Step}
use Rattle.element_lines.specs.Lines.{place_line, step_text}

-- the characters of a name: one that begins it, and those that go on with it
pub record Letters (bytes : List ℕ) : Type 0 where
  pub start : ℕ
  pub rest : List ℕ
  pub are : encode_utf8_all (start ∷ rest) ≡ bytes
  pub starts : is_name_start start ≡ true
  pub inside : list_all is_name_char rest ≡ true

pub letters-of : {u bytes : List ℕ} → Name u bytes → Letters bytes
letters-of (first c h) = record { start = c; rest = []; are = append-nil (encode_utf8 c); starts = h; inside = refl }
letters-of (further {bytes = bytes} name c h) =
    let w = letters-of name in
    record {
      start = w.start;
      rest = w.rest ++ c ∷ [];
      are = encodes-append (w.start ∷ w.rest) (c ∷ []) ∙ ap₂ (λ a b. a ++ b) w.are (append-nil (encode_utf8 c));
      starts = w.starts;
      inside = list_all-append is_name_char w.rest (c ∷ []) ∙ ap₂ (λ a b. a && (b && true)) w.inside h;
    }

-- a step of which the name has such characters, and the number isn't too great
abbrev pub IsReadable : Step → Type 0
IsReadable s = Letters s.name × (s.number ≤ max_number)

abbrev pub AreReadable : List Step → Type 0
AreReadable steps = AllByRecursion IsReadable steps

abbrev pub step_letters : (s : Step) → IsReadable s → List ℕ → List ℕ
step_letters s h rest = 47 ∷ h.0.start ∷ h.0.rest ++ (91 ∷ decimal s.number ++ (93 ∷ rest))

abbrev pub steps_letters : (steps : List Step) → AreReadable steps → List ℕ
steps_letters [] h = []
steps_letters (s ∷ steps) h = step_letters s h.0 (steps_letters steps h.1)

-- all characters of a line, where these are those of the document's name
abbrev pub line_letters : List ℕ → (steps : List Step) → AreReadable steps → List ℕ
line_letters name steps h = 100 ∷ 111 ∷ 99 ∷ 40 ∷ 34 ∷ flat_map in_quotes name ++ (34 ∷ 41 ∷ steps_letters steps h)

decimal-bytes : (n : ℕ) → n ≤ max_number → encode_utf8_all (decimal n) ≡ decimal n
decimal-bytes n h = let small : n < 2 ^ 64 = omega (arith, h) in encodes-IsAscii (decimal n) (IsAscii-decimal n small)

step-written : (s : Step) (h : IsReadable s) (rest bytes : List ℕ) → encode_utf8_all rest ≡ bytes → encode_utf8_all (step_letters s h rest) ≡ step_text s ++ bytes
unfolding lib.Utf8.encode
step-written s h rest bytes is =
    let number = decimal s.number in
    let last : encode_utf8_all (number ++ (93 ∷ rest)) ≡ number ++ (93 ∷ bytes) =
    encodes-append number (93 ∷ rest) ∙ ap₂ (λ a b. a ++ (93 ∷ b)) (decimal-bytes s.number h.1) is in
    ap (λ w. 47 ∷ w) (encodes-append (h.0.start ∷ h.0.rest) (91 ∷ number ++ (93 ∷ rest)) ∙ ap₂ (λ a b. a ++ (91 ∷ b)) h.0.are last)
    ∙ sym (ap (λ w. 47 ∷ w) (append_assoc ((s.name ++ 91 ∷ []) ++ number) (93 ∷ []) bytes
    ∙ append_assoc (s.name ++ 91 ∷ []) number (93 ∷ bytes)
    ∙ append_assoc s.name (91 ∷ []) (number ++ (93 ∷ bytes))))

steps-written : (steps : List Step) (h : AreReadable steps) → encode_utf8_all (steps_letters steps h) ≡ flat_map step_text steps
steps-written [] h = refl
steps-written (s ∷ steps) h = step-written s h.0 (steps_letters steps h.1) (flat_map step_text steps) (steps-written steps h.1)

module _ (strings : (letters : List ℕ) → encode_utf8_all (34 ∷ flat_map in_quotes letters ++ 34 ∷ []) ≡ string_symbol (encode_utf8_all letters)) where
  pub line-written : (name document : List ℕ) → encode_utf8_all name ≡ document → (steps : List Step) (h : AreReadable steps)
      → encode_utf8_all (line_letters name steps h) ≡ place_line document steps
  unfolding lib.Utf8.encode
  line-written name document is steps h =
      let quoted = 34 ∷ flat_map in_quotes name ++ 34 ∷ [] in
      let after = steps_letters steps h in
      let cut : 34 ∷ flat_map in_quotes name ++ (34 ∷ 41 ∷ after) ≡ quoted ++ (41 ∷ after) = ap (λ w. 34 ∷ w) (sym (append_assoc (flat_map in_quotes name) (34 ∷ []) (41 ∷ after))) in
      let read : encode_utf8_all (quoted ++ (41 ∷ after)) ≡ string_symbol document ++ (41 ∷ flat_map step_text steps) =
      encodes-append quoted (41 ∷ after) ∙ ap₂ (λ a b. a ++ (41 ∷ b)) (strings name ∙ ap string_symbol is) (steps-written steps h) in
      ap (λ w. 100 ∷ 111 ∷ 99 ∷ 40 ∷ w) (ap encode_utf8_all cut ∙ read
      ∙ ap (λ w. 34 ∷ w) (append_assoc (flat_map in_quotes document) (34 ∷ []) (41 ∷ flat_map step_text steps)
      ∙ sym (append_assoc (flat_map in_quotes document) (34 ∷ 41 ∷ []) (flat_map step_text steps))))
