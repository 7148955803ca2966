-- The lines that aren't skipped, from the first line on.
use Rattle.std.proofs.Common.{◌≡◌, ◌∙◌, sym, ap, ℕ, ◌+◌, ◌<◌, Bool, true, false, cond, List, [], ◌∷◌, length, take, drop, refl, arith}
use Rattle.std.specs.List.{position_or_len}
use Rattle.ft_base.specs.Characters.{is_line_feed}
use Rattle.text_lines.specs.Lines.{is_skipped, lines, content_lines, trimmed_line}
use Rattle.text_lines.proofs.LineLemmas.{lines_first}

by_first : (number : ℕ) (line : List ℕ) (others : List (List ℕ)) → content_lines number (line ∷ others) ≡ cond (is_skipped line) (content_lines (number + 1) others) (record { number = number; text = trimmed_line line } ∷ content_lines (number + 1) others)
unfolding content_lines
by_first number line others = refl

-- the first line, and those after it
module _ (number : ℕ) (bytes suffix : List ℕ) (end : ℕ) (some : 0 < length bytes) (is : end ≡ position_or_len is_line_feed bytes) (rest : suffix ≡ drop (end + 1) bytes) where
  split : lines bytes ≡ take end bytes ∷ lines suffix
  split =
      lines_first bytes some
      ∙ sym (ap (λ n. take n bytes ∷ lines (drop (n + 1) bytes)) is)
      ∙ sym (ap (λ b. take end bytes ∷ lines b) rest)

  by_test : (t : Bool) → is_skipped (take end bytes) ≡ t
      → content_lines number (lines bytes) ≡ cond t (content_lines (number + 1) (lines suffix)) (record { number = number; text = trimmed_line (take end bytes) } ∷ content_lines (number + 1) (lines suffix))
  by_test t skips =
      ap (content_lines number) split
      ∙ by_first number (take end bytes) (lines suffix)
      ∙ ap (λ b. cond b (content_lines (number + 1) (lines suffix)) (record { number = number; text = trimmed_line (take end bytes) } ∷ content_lines (number + 1) (lines suffix))) skips

  pub skipped_next : is_skipped (take end bytes) ≡ true → content_lines number (lines bytes) ≡ content_lines (number + 1) (lines suffix)
  skipped_next = by_test true

  pub content_next : is_skipped (take end bytes) ≡ false → content_lines number (lines bytes) ≡ record { number = number; text = trimmed_line (take end bytes) } ∷ content_lines (number + 1) (lines suffix)
  content_next = by_test false

-- no line is left
pub none_left : (number : ℕ) (bytes : List ℕ) → length bytes ≡ 0 → content_lines number (lines bytes) ≡ []
unfolding content_lines
none_left number [] h = refl
none_left number (b ∷ bs) h = absurd (omega arith)
