-- The commands of bytes whose first line says what blocks end at.
use Rattle.std.proofs.Common.{◌≡◌, ◌∙◌, sym, ap, refl, ℕ, ◌+◌, ◌<◌, Bool, true, false, cond, List, [], ◌∷◌, ◌++◌, length, take, drop, arith, append_assoc, length-take}
use Rattle.std.proofs.lemmas.List.{append-nil, drop_at}
use Rattle.session_text.specs.Commands.{commands_in, commands_of, says_second}
use Rattle.session_text.specs.Lines.{lines_of, without_mark}
use Rattle.session_text.specs.PeriodBlocks.{commands_of_lines}
use Rattle.session_text.specs.SizedBlocks.{after_first_line, first_line, sized_commands}
use Rattle.session_text.specs.steps.PeriodReading.{at_start, commands_from, is_unended}
use Rattle.session_text.proofs.PlaceLemmas.{at_feed, feed_at, unended_prefix}
use Rattle.session_text.proofs.ReadingLemmas.{ended_lines-unended, mark_in_line, unended_after, unended_append}
use Rattle.session_text.proofs.SizedLemmas.{after_first-is, after_first-none, first_line-all, first_line-is, no_commands}

-- the commands where the first line is known
chosen : (at_end said : Bool) (bytes line : List ℕ) → first_line bytes ≡ line → says_second line ≡ said
    → commands_in at_end bytes ≡ cond said (sized_commands at_end 2 0 (after_first_line bytes)) (commands_of_lines at_end 1 false (lines_of at_end bytes))
chosen at_end said bytes line is says =
    ap (λ t. cond t (sized_commands at_end 2 0 (after_first_line bytes)) (commands_of_lines at_end 1 false (lines_of at_end bytes))) (ap says_second is ∙ says)

first_of : (line more : List ℕ) → is_unended line ≡ true → first_line (without_mark (line ++ 10 ∷ more)) ≡ without_mark line
first_of line more h = ap first_line (mark_in_line line more) ∙ first_line-is (without_mark line) more (unended_after 0 line h)

second_follows : (at_end : Bool) (line more : List ℕ) → is_unended line ≡ true → says_second (without_mark line) ≡ true
    → commands_of at_end (line ++ 10 ∷ more) ≡ sized_commands at_end 2 0 more
second_follows at_end line more h says =
    chosen at_end true (without_mark (line ++ 10 ∷ more)) (without_mark line) (first_of line more h) says
    ∙ ap (sized_commands at_end 2 0) (ap after_first_line (mark_in_line line more) ∙ after_first-is (without_mark line) more (unended_after 0 line h))

periods_follow : (at_end : Bool) (line more : List ℕ) → is_unended line ≡ true → says_second (without_mark line) ≡ false
    → commands_of at_end (line ++ 10 ∷ more) ≡ commands_from at_end (record at_start { rest = line }) (10 ∷ more)
periods_follow at_end line more h says = chosen at_end false (without_mark (line ++ 10 ∷ more)) (without_mark line) (first_of line more h) says

-- where nothing follows the first line
pub second_ends : (at_end : Bool) (line : List ℕ) → is_unended line ≡ true → says_second (without_mark line) ≡ true → commands_of at_end (line ++ []) ≡ []
second_ends at_end line h says =
    let open_still = unended_after 0 line h in
    ap (commands_of at_end) (append-nil line)
    ∙ (chosen at_end true (without_mark line) (without_mark line) (first_line-all (without_mark line) open_still) says
    ∙ (ap (sized_commands at_end 2 0) (after_first-none (without_mark line) open_still) ∙ no_commands at_end 2))

periods_none : (line : List ℕ) → is_unended line ≡ true → says_second (without_mark line) ≡ false → commands_of false (line ++ []) ≡ []
periods_none line h says =
    let open_still = unended_after 0 line h in
    ap (commands_of false) (append-nil line)
    ∙ (chosen false false (without_mark line) (without_mark line) (first_line-all (without_mark line) open_still) says
    ∙ ap (commands_of_lines false 1 false) (ended_lines-unended (without_mark line) open_still))

pub first_none : (line : List ℕ) → is_unended line ≡ true → commands_of false (line ++ []) ≡ []
first_none line h = by (says_second (without_mark line)) refl
  where
    by : (said : Bool) → says_second (without_mark line) ≡ said → commands_of false (line ++ []) ≡ []
    by true says = second_ends false line h says
    by false says = periods_none line h says

pub periods_end : (line : List ℕ) → is_unended line ≡ true → says_second (without_mark line) ≡ false
    → commands_of true (line ++ []) ≡ commands_from true (record at_start { rest = line }) []
periods_end line h says =
    let open_still = unended_after 0 line h in
    ap (commands_of true) (append-nil line)
    ∙ (chosen true false (without_mark line) (without_mark line) (first_line-all (without_mark line) open_still) says
    ∙ ap (λ w. commands_of_lines true 1 false (lines_of true (without_mark w))) (sym (append-nil line)))

-- a line that says so isn't empty
pub says_some : (line : List ℕ) → says_second (without_mark line) ≡ true → 0 < length line
says_some [] says = absurd (let no : ⊥ = cc in no)
says_some (byte ∷ line) says = omega arith

module _ (rest piece : List ℕ) (within : feed_at piece < length piece) where
  -- the bytes of a piece in which the first line ends
  divided : (more : List ℕ) → rest ++ (piece ++ more) ≡ (rest ++ take (feed_at piece) piece) ++ 10 ∷ (drop (feed_at piece + 1) piece ++ more)
  divided more =
      ap (λ w. rest ++ (w ++ more)) (at_feed piece within)
      ∙ (ap (λ w. rest ++ w) (append_assoc (take (feed_at piece) piece) (10 ∷ drop (feed_at piece + 1) piece) more)
      ∙ sym (append_assoc rest (take (feed_at piece) piece) (10 ∷ (drop (feed_at piece + 1) piece ++ more))))

  feed_next : drop (feed_at piece) piece ≡ 10 ∷ drop (feed_at piece + 1) piece
  feed_next =
      ap (drop (feed_at piece)) (at_feed piece within)
      ∙ drop_at (take (feed_at piece) piece) (10 ∷ drop (feed_at piece + 1) piece) (feed_at piece) (omega (arith, within, length-take (feed_at piece) piece))

  pub second_piece : (at_end : Bool) (more : List ℕ) → is_unended rest ≡ true → says_second (without_mark (rest ++ take (feed_at piece) piece)) ≡ true
      → commands_of at_end (rest ++ (piece ++ more)) ≡ sized_commands at_end 2 0 (drop (feed_at piece + 1) piece ++ more)
  second_piece at_end more h says =
      ap (commands_of at_end) (divided more)
      ∙ second_follows at_end (rest ++ take (feed_at piece) piece) (drop (feed_at piece + 1) piece ++ more) (unended_append rest (take (feed_at piece) piece) h (unended_prefix piece)) says

  pub period_piece : (at_end : Bool) (more : List ℕ) → is_unended rest ≡ true → says_second (without_mark (rest ++ take (feed_at piece) piece)) ≡ false
      → commands_of at_end (rest ++ (piece ++ more)) ≡ commands_from at_end (record at_start { rest = rest ++ take (feed_at piece) piece }) (drop (feed_at piece) piece ++ more)
  period_piece at_end more h says =
      ap (commands_of at_end) (divided more)
      ∙ (periods_follow at_end (rest ++ take (feed_at piece) piece) (drop (feed_at piece + 1) piece ++ more) (unended_append rest (take (feed_at piece) piece) h (unended_prefix piece)) says
      ∙ ap (λ w. commands_from at_end (record at_start { rest = rest ++ take (feed_at piece) piece }) (w ++ more)) (sym feed_next))
