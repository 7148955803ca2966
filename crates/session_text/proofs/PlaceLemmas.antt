-- A piece that is read line by line: the commands so far and those of what is left are all.
use Rattle.std.proofs.Common.{◌≡◌, ◌∙◌, sym, ap, refl, ℕ, suc, ◌+◌, ◌<◌, ◌≤◌, Bool, true, false, not, cond, get_or, eqb-true, List, [], ◌∷◌, ◌++◌, length, take, drop, arith, append_assoc}
use Rattle.std.specs.Option.{option_to_list}
use Rattle.std.specs.Prelude.{Option}
use Rattle.std.specs.List.{position_or_len}
use Rattle.std.proofs.lemmas.List.{take_all}
use Rattle.std.proofs.lemmas.List.Sums.{split_at_first, passes_at_first}
use Rattle.std.proofs.lemmas.Bool.{and_from}
use Rattle.ft_base.specs.Characters.{is_line_feed}
use Rattle.reply_lines.specs.declared.command.Command.{Command}
use Rattle.session_text.specs.steps.PeriodReading.{Place, commands_from, ended_at, place_after, is_unended}
use Rattle.session_text.proofs.ReadingLemmas.{commands_from-line, unended_append}

-- bytes up to the first line feed
abbrev pub feed_at : List ℕ → ℕ
feed_at bytes = position_or_len is_line_feed bytes

-- the bytes before the first line feed hold none
pub unended_prefix : (bytes : List ℕ) → is_unended (take (feed_at bytes) bytes) ≡ true
unended_prefix [] = refl
unended_prefix (byte ∷ bytes) = by (is_line_feed byte) refl (unended_prefix bytes)
  where
    by : (t : Bool) → is_line_feed byte ≡ t → is_unended (take (feed_at bytes) bytes) ≡ true → is_unended (take (cond (not t) (1 + feed_at bytes) 0) (byte ∷ bytes)) ≡ true
    by true e h = refl
    by false e h =
        let next : 1 + feed_at bytes ≡ suc (feed_at bytes) = omega arith in
        ap (λ n. is_unended (take n (byte ∷ bytes))) next ∙ and_from (not (is_line_feed byte)) _ (ap not e) h

-- and the line feed stands after them
pub at_feed : (bytes : List ℕ) → feed_at bytes < length bytes → bytes ≡ take (feed_at bytes) bytes ++ 10 ∷ drop (feed_at bytes + 1) bytes
at_feed bytes within =
    let feed : get_or bytes (feed_at bytes) 0 ≡ 10 = eqb-true _ _ (passes_at_first is_line_feed bytes 0 within) in
    split_at_first is_line_feed bytes 0 within ∙ ap (λ b. take (feed_at bytes) bytes ++ b ∷ drop (feed_at bytes + 1) bytes) feed

-- the commands of a first line and of those after it
first_line : (at_end : Bool) (place : Place) (bytes more : List ℕ) → is_unended place.rest ≡ true → feed_at bytes < length bytes
    → commands_from at_end place (bytes ++ more) ≡ option_to_list (ended_at place (take (feed_at bytes) bytes)).0 ++ commands_from at_end (place_after place (take (feed_at bytes) bytes)) (drop (feed_at bytes + 1) bytes ++ more)
first_line at_end place bytes more rest_open within =
    ap (λ w. commands_from at_end place (w ++ more)) (at_feed bytes within)
    ∙ (ap (commands_from at_end place) (append_assoc (take (feed_at bytes) bytes) (10 ∷ drop (feed_at bytes + 1) bytes) more)
    ∙ commands_from-line at_end place (take (feed_at bytes) bytes) (drop (feed_at bytes + 1) bytes ++ more) rest_open (unended_prefix bytes))

-- the commands so far and those of what is left, after one more line
pub line_added : (at_end : Bool) (place new : Place) (bytes suffix more : List ℕ) (end : ℕ) (found after : List Command) (command : Option Command)
    → is_unended place.rest ≡ true → end ≡ feed_at bytes → end < length bytes
    → command ≡ (ended_at place (take end bytes)).0 → new ≡ place_after place (take end bytes) → suffix ≡ drop (end + 1) bytes → after ≡ found ++ option_to_list command
    → found ++ commands_from at_end place (bytes ++ more) ≡ after ++ commands_from at_end new (suffix ++ more)
line_added at_end place new bytes suffix more end found after command rest_open feed within says moved left added =
    let first : feed_at bytes < length bytes = omega arith in
    let line : commands_from at_end place (bytes ++ more) ≡ option_to_list (ended_at place (take end bytes)).0 ++ commands_from at_end (place_after place (take end bytes)) (drop (end + 1) bytes ++ more) =
    first_line at_end place bytes more rest_open first
    ∙ ap (λ n. option_to_list (ended_at place (take n bytes)).0 ++ commands_from at_end (place_after place (take n bytes)) (drop (n + 1) bytes ++ more)) (sym feed) in
    ap (λ w. found ++ w) (line
    ∙ (ap (λ o. option_to_list o ++ commands_from at_end (place_after place (take end bytes)) (drop (end + 1) bytes ++ more)) (sym says)
    ∙ (ap (λ p. option_to_list command ++ commands_from at_end p (drop (end + 1) bytes ++ more)) (sym moved)
    ∙ ap (λ b. option_to_list command ++ commands_from at_end new (b ++ more)) (sym left))))
    ∙ (sym (append_assoc found (option_to_list command) (commands_from at_end new (suffix ++ more)))
    ∙ ap (λ commands. commands ++ commands_from at_end new (suffix ++ more)) (sym added))

pub unended_rest : (rest suffix : List ℕ) → is_unended rest ≡ true → length suffix ≤ position_or_len is_line_feed suffix → is_unended (rest ++ suffix) ≡ true
unended_rest rest suffix rest_open past = unended_append rest suffix rest_open (ap is_unended (sym (take_all (feed_at suffix) suffix past)) ∙ unended_prefix suffix)
