-- The words of a text begin and end where it may be cut.
use Rattle.std.proofs.Common.{◌≡◌, sym, subst, refl, ℕ, ◌<◌, ◌≤◌, Bool, true, false, not, cond, List, [], ◌∷◌, length, drop, get_or, arith, leb, le-leb}
use Rattle.std.specs.List.{prefix_len}
use Rattle.std.specs.Str.{IsUtf8, is_utf8, IsCharBoundary}
use Rattle.std.proofs.lemmas.Str.{IsUtf8-from_is_utf8, is_utf8-from_IsUtf8, IsUtf8-drop, IsCharBoundary-after_ascii, IsCharBoundary-from_drop}
use Rattle.std.proofs.lemmas.Bool.Decides.{nat_tests}
use Rattle.std.proofs.lemmas.List.Sums.{prefix_len_stops}
use Rattle.std.proofs.lemmas.Bool.{not-false, and_from, and_right}
use Rattle.ft_base.specs.Characters.{is_blank}
use Rattle.ft_base.specs.Limits.{max_line_bytes}
use Rattle.text_lines.specs.Lines.{trimmed_start, trimmed_line, without_return}
use Rattle.session_text.specs.Words.{is_command_line}

-- a blank is ASCII
blank_ascii : (byte : ℕ) → is_blank byte ≡ true → byte < 128
blank_ascii byte h = grind (arith, nat_tests)

-- at a word's end a blank stands or the text ends
pub word_boundary : (text : List ℕ) (at : ℕ) → at ≤ length text → at ≡ prefix_len (λ byte. not (is_blank byte)) text → IsCharBoundary text at
word_boundary text at within is = (
  within,
  λ inside high.
      let stops : not (is_blank (get_or text at 0)) ≡ false = subst (λ n. n < length text → not (is_blank (get_or text n 0)) ≡ false) (sym is) (prefix_len_stops (λ byte. not (is_blank byte)) text 0) inside in
      let low : get_or text at 0 < 128 = blank_ascii (get_or text at 0) (not-false _ stops) in
      absurd (omega arith),
)

-- text after blanks is text
pub trimmed_start-IsUtf8 : (text : List ℕ) → IsUtf8 text → IsUtf8 (trimmed_start text)
trimmed_start-IsUtf8 [] utf8 = utf8
trimmed_start-IsUtf8 (byte ∷ text) utf8 = by (trimmed_start-IsUtf8 text) (is_blank byte) refl
  where
    by : (IsUtf8 text → IsUtf8 (trimmed_start text)) → (b : Bool) → is_blank byte ≡ b → IsUtf8 (cond b (trimmed_start text) (byte ∷ text))
    by suffix true blank = suffix (IsUtf8-drop (byte ∷ text) 1 utf8 (IsCharBoundary-after_ascii (byte ∷ text) 0 utf8 (omega arith) (blank_ascii byte blank)))
    by suffix false other = utf8

pub rest_boundary : (text : List ℕ) (at : ℕ) → IsUtf8 text → at ≤ length text → drop at text ≡ trimmed_start text → IsCharBoundary text at
rest_boundary text at utf8 within is = IsCharBoundary-from_drop text at within (subst IsUtf8 (sym is) (trimmed_start-IsUtf8 text utf8))

not_utf8 : (text : List ℕ) (b : Bool) → is_utf8 text ≡ b → (IsUtf8 text → ⊥) → is_utf8 text ≡ false
not_utf8 text true e refused = absurd (refused (IsUtf8-from_is_utf8 text e))
not_utf8 text false e refused = e

-- a command line is short enough, and UTF-8
pub command_line_read : (line text : List ℕ) → text ≡ trimmed_line line → length (without_return line) ≤ max_line_bytes → IsUtf8 text → is_command_line line ≡ true
command_line_read line text is short utf8 =
    and_from (leb (length (without_return line)) max_line_bytes) (is_utf8 (trimmed_line line)) (le-leb _ _ short) (is_utf8-from_IsUtf8 (trimmed_line line) (subst IsUtf8 is utf8))

pub command_line_refused : (line text : List ℕ) → text ≡ trimmed_line line → (IsUtf8 text → ⊥) → is_command_line line ≡ false
command_line_refused line text is refused =
    and_right (leb (length (without_return line)) max_line_bytes) (is_utf8 (trimmed_line line)) (not_utf8 (trimmed_line line) _ refl (λ utf8. refused (subst IsUtf8 (sym is) utf8)))
