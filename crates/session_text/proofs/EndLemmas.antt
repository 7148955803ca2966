-- What a session's end leaves of a line and of a block.
use Rattle.std.proofs.Common.{◌≡◌, ◌∙◌, sym, ap, refl, ℕ, ◌+◌, Bool, true, false, cond, List, [], ◌∷◌, ◌++◌, length, eqb-true}
use Rattle.std.specs.Prelude.{Option, Some, None, ◌==◌}
use Rattle.std.specs.Option.{option_to_list}
use Rattle.std.proofs.lemmas.List.{append-nil, nil_from_length}
use Rattle.reply_lines.specs.declared.command.Command.{Command}
use Rattle.session_text.specs.LineCommands.{opens_block, command_of_line, command_of_block}
use Rattle.session_text.specs.PeriodBlocks.{closes_block, unquoted}
use Rattle.session_text.specs.steps.Blocks.{without_last}
use Rattle.text_lines.specs.Lines.{is_skipped, lines}
use Rattle.std.specs.List.{onto_first}
use Rattle.std.proofs.lemmas.Bool.{and_parts, not-true}
use Rattle.session_text.specs.steps.PeriodReading.{Opened, Place, after_lines, commands_on, commands_from, ended_at, line_ended, open_at_end, place_after, is_unended}
use Rattle.session_text.proofs.ReadingLemmas.{commands_on-line, unended_after}

-- an open block is all that is left after the last line
nothing_left : (number : ℕ) (before : Option Opened) → commands_on true number before [] ≡ open_at_end before
nothing_left number None = refl
nothing_left number (Some o) = refl

-- where a command is whole with a line, no block is open after it
nothing_open : (number : ℕ) (before : Option Opened) (line : List ℕ) (command : Command) → Some command ≡ (line_ended number before line).0 → (line_ended number before line).1 ≡ None
nothing_open number None line command is = by (is_skipped line) (opens_block line) is
  where
    by : (skipped opens : Bool)
        → Some command ≡ (let ended : Option Command × Option Opened = cond skipped (None, None) (cond opens (None, Some (record { line = line; number = number; block = [] })) (Some (command_of_line false number line), None)) in ended.0)
        → (let ended : Option Command × Option Opened = cond skipped (None, None) (cond opens (None, Some (record { line = line; number = number; block = [] })) (Some (command_of_line false number line), None)) in ended.1) ≡ None
    by true opens e = refl
    by false true e = absurd (let impossible : ⊥ = cc in impossible)
    by false false e = refl
nothing_open number (Some o) line command is = by (closes_block line) is
  where
    by : (closes : Bool)
        → Some command ≡ (let ended : Option Command × Option Opened = cond closes (Some (command_of_block o.number o.line (without_last o.block)), None) (None, Some (record o { block = o.block ++ unquoted line ++ 10 ∷ [] })) in ended.0)
        → (let ended : Option Command × Option Opened = cond closes (Some (command_of_block o.number o.line (without_last o.block)), None) (None, Some (record o { block = o.block ++ unquoted line ++ 10 ∷ [] })) in ended.1) ≡ None
    by true e = refl
    by false e = absurd (let impossible : ⊥ = cc in impossible)

-- bytes without a line feed are one line
one_line : (byte : ℕ) (bytes : List ℕ) → is_unended (byte ∷ bytes) ≡ true → lines (byte ∷ bytes) ≡ (byte ∷ bytes) ∷ []
one_line byte [] h = ap (λ t. cond t ([] ∷ []) ((byte ∷ []) ∷ [])) (not-true _ (and_parts _ _ h).0)
one_line byte (next ∷ bytes) h =
    ap (λ t. cond t ([] ∷ lines (next ∷ bytes)) (onto_first byte (lines (next ∷ bytes)))) (not-true _ (and_parts _ _ h).0)
    ∙ ap (onto_first byte) (one_line next bytes (and_parts _ _ h).1)

-- the last line, where it isn't empty
last_line : (bytes : List ℕ) → is_unended bytes ≡ true → (length bytes == 0) ≡ false → lines bytes ≡ bytes ∷ []
last_line [] h some = cc
last_line (byte ∷ bytes) h some = one_line byte bytes h

-- where nothing stands after the last line feed, an open block is all that is left
pub ends_empty : (place : Place) (line : List ℕ) → line ≡ after_lines place.lines place.rest → (length line == 0) ≡ true → commands_from true place [] ≡ open_at_end place.opened
ends_empty place line is empty =
    let nothing : line ≡ [] = nil_from_length line (eqb-true _ _ empty) in
    ap (λ w. commands_on true (place.lines + 1) place.opened (lines (after_lines place.lines w))) (append-nil place.rest)
    ∙ (ap (λ w. commands_on true (place.lines + 1) place.opened (lines w)) (sym is ∙ nothing)
    ∙ nothing_left (place.lines + 1) place.opened)

-- else that is a line
last : (place : Place) (line : List ℕ) → is_unended place.rest ≡ true → line ≡ after_lines place.lines place.rest → (length line == 0) ≡ false
    → commands_from true place [] ≡ option_to_list (ended_at place []).0 ++ open_at_end (ended_at place []).1
last place line rest_open is some =
    let bytes = after_lines place.lines (place.rest ++ []) in
    let same : line ≡ bytes = is ∙ ap (after_lines place.lines) (sym (append-nil place.rest)) in
    let line_open : is_unended bytes ≡ true = unended_after place.lines (place.rest ++ []) (ap is_unended (append-nil place.rest) ∙ rest_open) in
    ap (commands_on true (place.lines + 1) place.opened) (last_line bytes line_open (ap (λ w. length w == 0) (sym same) ∙ some))
    ∙ (commands_on-line true (place.lines + 1) place.opened bytes []
    ∙ ap (λ w. option_to_list (ended_at place []).0 ++ w) (nothing_left (place.lines + 1 + 1) (ended_at place []).1))

pub ends_whole : (place : Place) (line : List ℕ) (command : Command) → is_unended place.rest ≡ true → line ≡ after_lines place.lines place.rest → (length line == 0) ≡ false → Some command ≡ (ended_at place []).0
    → commands_from true place [] ≡ command ∷ []
ends_whole place line command rest_open is some whole =
    last place line rest_open is some
    ∙ (ap (λ o. option_to_list o ++ open_at_end (ended_at place []).1) (sym whole)
    ∙ ap (λ o. command ∷ open_at_end o) (nothing_open (place.lines + 1) place.opened (after_lines place.lines (place.rest ++ [])) command whole))

pub ends_open : (place : Place) (line : List ℕ) → is_unended place.rest ≡ true → line ≡ after_lines place.lines place.rest → (length line == 0) ≡ false → None ≡ (ended_at place []).0
    → commands_from true place [] ≡ open_at_end (place_after place []).opened
ends_open place line rest_open is some still =
    last place line rest_open is some ∙ ap (λ o. option_to_list o ++ open_at_end (ended_at place []).1) (sym still)
