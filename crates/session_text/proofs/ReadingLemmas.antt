-- What one line that ended changes, for the commands of all that follows.
use Rattle.std.proofs.Common.{◌≡◌, ◌∙◌, sym, ap, refl, ℕ, zero, suc, ◌+◌, Bool, true, false, not, cond, ◌&&◌, List, [], ◌∷◌, ◌++◌, drop, arith, append_assoc}
use Rattle.std.specs.Prelude.{Option, Some, None, ◌==◌, nat_eq}
use Rattle.std.specs.Option.{option_to_list}
use Rattle.std.specs.List.{starts_with, onto_first}
use Rattle.std.proofs.lemmas.List.{append-nil}
use Rattle.std.proofs.lemmas.Bool.Decides.{nat_tests}
use Rattle.std.proofs.lemmas.Bool.{and_parts, and_from, not-true}
use Rattle.ft_base.specs.Characters.{is_line_feed}
use Rattle.reply_lines.specs.declared.command.Command.{Command}
use Rattle.session_text.specs.steps.Blocks.{block_after, without_last}
use Rattle.session_text.specs.PeriodBlocks.{commands_of_lines, opened, closes_block, unquoted, block_of}
use Rattle.session_text.specs.LineCommands.{opens_block, command_of_line, command_of_block}
use Rattle.text_lines.specs.Lines.{is_skipped, lines}
use Rattle.session_text.specs.Lines.{ended_lines, lines_of, without_mark, onto_ended}
use Rattle.session_text.specs.steps.PeriodReading.{Opened, Place, after_lines, commands_on, commands_from, line_ended, ended_at, place_after, is_unended}
use Rattle.session_text.proofs.BlockLemmas.{block_of-lines}

-- the commands of what a line says, and of the lines after it
abbrev commands_after : Bool → ℕ → List (List ℕ) → Option Command × Option Opened → List Command
commands_after at_end number suffix ended = option_to_list ended.0 ++ commands_on at_end (number + 1) ended.1 suffix

-- a line outside a block
command_line : (at_end : Bool) (number : ℕ) (line : List ℕ) (suffix : List (List ℕ))
    → commands_on at_end number None (line ∷ suffix) ≡ commands_after at_end number suffix (line_ended number None line)
command_line at_end number line suffix = by (is_skipped line) (opens_block line)
  where
    by : (skipped opens : Bool)
        → cond skipped (commands_of_lines at_end (number + 1) false suffix) (cond opens (opened at_end number line (block_of suffix) ++ commands_of_lines at_end (number + 1) true suffix) (command_of_line false number line ∷ commands_of_lines at_end (number + 1) false suffix))
        ≡ commands_after at_end number suffix (cond skipped (None, None) (cond opens (None, Some (record { line = line; number = number; block = [] })) (Some (command_of_line false number line), None)))
    by true opens = refl
    by false true = ap (λ block. opened at_end number line block ++ commands_of_lines at_end (number + 1) true suffix) (block_of-lines suffix)
    by false false = refl

-- a line in an open block
block_line : (at_end : Bool) (number : ℕ) (o : Opened) (line : List ℕ) (suffix : List (List ℕ))
    → commands_on at_end number (Some o) (line ∷ suffix) ≡ commands_after at_end number suffix (line_ended number (Some o) line)
block_line at_end number o line suffix = by (closes_block line)
  where
    by : (closes : Bool)
        → opened at_end o.number o.line (cond closes (Some (without_last o.block)) (block_after (o.block ++ unquoted line ++ 10 ∷ []) suffix)) ++ commands_of_lines at_end (number + 1) (not closes) suffix
        ≡ commands_after at_end number suffix (cond closes (Some (command_of_block o.number o.line (without_last o.block)), None) (None, Some (record o { block = o.block ++ unquoted line ++ 10 ∷ [] })))
    by true = refl
    by false = refl

pub commands_on-line : (at_end : Bool) (number : ℕ) (before : Option Opened) (line : List ℕ) (suffix : List (List ℕ))
    → commands_on at_end number before (line ∷ suffix) ≡ commands_after at_end number suffix (line_ended number before line)
commands_on-line at_end number None line suffix = command_line at_end number line suffix
commands_on-line at_end number (Some o) line suffix = block_line at_end number o line suffix

-- a line up to its line feed is the first of the lines
pub lines_of-line : (at_end : Bool) (line more : List ℕ) → is_unended line ≡ true → lines_of at_end (line ++ 10 ∷ more) ≡ line ∷ lines_of at_end more
lines_of-line true [] more h = refl
lines_of-line false [] more h = refl
lines_of-line true (byte ∷ line) more h =
    ap (λ t. cond t ([] ∷ lines (line ++ 10 ∷ more)) (onto_first byte (lines (line ++ 10 ∷ more)))) (not-true _ (and_parts _ _ h).0)
    ∙ ap (onto_first byte) (lines_of-line true line more (and_parts _ _ h).1)
lines_of-line false (byte ∷ line) more h =
    ap (λ t. cond t ([] ∷ ended_lines (line ++ 10 ∷ more)) (onto_ended byte (ended_lines (line ++ 10 ∷ more)))) (not-true _ (and_parts _ _ h).0)
    ∙ ap (onto_ended byte) (lines_of-line false line more (and_parts _ _ h).1)

unmarked : (t u : Bool) (xs ys : List ℕ) → cond (t && (u && false)) ys xs ≡ xs
unmarked true true xs ys = refl
unmarked true false xs ys = refl
unmarked false u xs ys = refl

marked : (t : Bool) (xs ys zs : List ℕ) → cond t (xs ++ zs) (ys ++ zs) ≡ cond t xs ys ++ zs
marked true xs ys zs = refl
marked false xs ys zs = refl

-- a byte order mark stands in the first line
pub mark_in_line : (line more : List ℕ) → without_mark (line ++ 10 ∷ more) ≡ without_mark line ++ 10 ∷ more
mark_in_line [] more = refl
mark_in_line (a ∷ []) more =
    unmarked (nat_eq 239 a) false (a ∷ 10 ∷ more) (drop 3 (a ∷ 10 ∷ more)) ∙ sym (ap (λ w. w ++ 10 ∷ more) (unmarked (nat_eq 239 a) false (a ∷ []) []))
mark_in_line (a ∷ b ∷ []) more =
    unmarked (nat_eq 239 a) (nat_eq 187 b) (a ∷ b ∷ 10 ∷ more) (drop 3 (a ∷ b ∷ 10 ∷ more)) ∙ sym (ap (λ w. w ++ 10 ∷ more) (unmarked (nat_eq 239 a) (nat_eq 187 b) (a ∷ b ∷ []) []))
mark_in_line (a ∷ b ∷ c ∷ line) more =
    marked (nat_eq 239 a && (nat_eq 187 b && (nat_eq 191 c && true))) line (a ∷ b ∷ c ∷ line) (10 ∷ more)

after_lines-line : (n : ℕ) (line more : List ℕ) → after_lines n (line ++ 10 ∷ more) ≡ after_lines n line ++ 10 ∷ more
after_lines-line n line more = by (n == 0)
  where
    by : (b : Bool) → cond b (without_mark (line ++ 10 ∷ more)) (line ++ 10 ∷ more) ≡ cond b (without_mark line) line ++ 10 ∷ more
    by true = mark_in_line line more
    by false = refl

unended_drop : (n : ℕ) (bytes : List ℕ) → is_unended bytes ≡ true → is_unended (drop n bytes) ≡ true
unended_drop zero bytes h = h
unended_drop (suc n) [] h = h
unended_drop (suc n) (byte ∷ bytes) h = unended_drop n bytes (and_parts _ _ h).1

pub unended_after : (n : ℕ) (bytes : List ℕ) → is_unended bytes ≡ true → is_unended (after_lines n bytes) ≡ true
unended_after n bytes h = by (n == 0) (starts_with nat_eq bytes (239 ∷ 187 ∷ 191 ∷ []))
  where
    by : (b marked : Bool) → is_unended (cond b (cond marked (drop 3 bytes) bytes) bytes) ≡ true
    by true true = unended_drop 3 bytes h
    by true false = h
    by false marked = h

pub unended_append : (xs ys : List ℕ) → is_unended xs ≡ true → is_unended ys ≡ true → is_unended (xs ++ ys) ≡ true
unended_append [] ys h k = k
unended_append (byte ∷ xs) ys h k = and_from (not (is_line_feed byte)) (is_unended (xs ++ ys)) (and_parts _ _ h).0 (unended_append xs ys (and_parts _ _ h).1 k)

later_line : (n : ℕ) (bytes : List ℕ) → after_lines (n + 1) bytes ≡ bytes
later_line n bytes = ap (λ t. cond t (without_mark bytes) bytes) (let later : (n + 1 == 0) ≡ false = grind (arith, nat_tests) in later)

-- a line that ends
pub commands_from-line : (at_end : Bool) (place : Place) (part more : List ℕ) → is_unended place.rest ≡ true → is_unended part ≡ true
    → commands_from at_end place (part ++ 10 ∷ more) ≡ option_to_list (ended_at place part).0 ++ commands_from at_end (place_after place part) more
commands_from-line at_end place part more rest_open part_open =
    let line = after_lines place.lines (place.rest ++ part) in
    let line_open : is_unended line ≡ true = unended_after place.lines (place.rest ++ part) (unended_append place.rest part rest_open part_open) in
    ap (λ w. commands_on at_end (place.lines + 1) place.opened (lines_of at_end (after_lines place.lines w))) (sym (append_assoc place.rest part (10 ∷ more)))
    ∙ (ap (λ w. commands_on at_end (place.lines + 1) place.opened (lines_of at_end w)) (after_lines-line place.lines (place.rest ++ part) more)
    ∙ (ap (commands_on at_end (place.lines + 1) place.opened) (lines_of-line at_end line more line_open)
    ∙ (commands_on-line at_end (place.lines + 1) place.opened line (lines_of at_end more)
    ∙ ap (λ w. commands_after at_end (place.lines + 1) (lines_of at_end w) (ended_at place part)) (sym (later_line place.lines more)))))

-- bytes of a line that hasn't ended, as the last of a piece
pub piece_rest : (at_end : Bool) (place : Place) (bytes more : List ℕ) → commands_from at_end (record place { rest = place.rest ++ bytes }) more ≡ commands_from at_end place (bytes ++ more)
piece_rest at_end place bytes more = ap (λ w. commands_on at_end (place.lines + 1) place.opened (lines_of at_end (after_lines place.lines w))) (append_assoc place.rest bytes more)

-- none of these ends a line
pub ended_lines-unended : (bytes : List ℕ) → is_unended bytes ≡ true → ended_lines bytes ≡ []
ended_lines-unended [] h = refl
ended_lines-unended (byte ∷ bytes) h =
    ap (λ t. cond t ([] ∷ ended_lines bytes) (onto_ended byte (ended_lines bytes))) (not-true _ (and_parts _ _ h).0)
    ∙ ap (onto_ended byte) (ended_lines-unended bytes (and_parts _ _ h).1)

none_whole : (number : ℕ) (before : Option Opened) → commands_on false number before [] ≡ []
none_whole number None = refl
none_whole number (Some o) = refl

-- nothing is whole that wasn't before
pub commands_from-unended : (place : Place) → is_unended place.rest ≡ true → commands_from false place [] ≡ []
commands_from-unended place rest_open =
    ap (λ w. commands_on false (place.lines + 1) place.opened (ended_lines (after_lines place.lines w))) (append-nil place.rest)
    ∙ (ap (commands_on false (place.lines + 1) place.opened) (ended_lines-unended (after_lines place.lines place.rest) (unended_after place.lines place.rest rest_open))
    ∙ none_whole (place.lines + 1) place.opened)
