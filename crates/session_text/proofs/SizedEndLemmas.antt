-- What a session's end leaves of a place where blocks have lengths.
use Rattle.std.proofs.Common.{◌≡◌, ◌∙◌, sym, ap, refl, ℕ, zero, suc, ◌+◌, ◌<◌, ◌≤◌, Bool, true, false, cond, List, [], ◌∷◌, ◌++◌, length, take, drop, arith}
use Rattle.std.specs.Prelude.{Option, Some, None, nat_le, nat_lt, ◌&&◌}
use Rattle.std.specs.Option.{is_some, option_to_list}
use Rattle.std.specs.List.{list_all}
use Rattle.std.proofs.lemmas.List.{append-nil}
use Rattle.std.proofs.lemmas.Bool.{and_from}
use Rattle.std.proofs.lemmas.Bool.Decides.{nat_tests}
use Rattle.ft_base.specs.Lists.{is_empty}
use Rattle.reply_lines.specs.declared.command.Command.{Command}
use Rattle.reply_lines.specs.declared.command.Command.TheVariants as command
use Rattle.reply_lines.specs.Given.{block_lengths, is_readable}
use Rattle.text_lines.specs.Lines.{after_first_word, first_word, is_skipped, trimmed_line, without_return}
use Rattle.session_text.specs.LineCommands.{command_of_line, command_of_sized_block, opens_sized_block}
use Rattle.session_text.specs.SizedBlocks.{block_size, first_line, said, size_in, sized_commands}
use Rattle.session_text.specs.Words.{is_command_line}
use Rattle.session_text.specs.steps.PeriodReading.{is_unended}
use Rattle.session_text.specs.steps.SizedReading.{IsBlockOf, IsSizedPlace, SizedOpened, SizedPlace, bytes_held, closed_command, last_of, last_sized, left_of, opened_bytes, sized_commands_from, sized_ended, sized_ended_at, sized_held_length, sized_length, sized_line_ended}
use Rattle.session_text.proofs.SizedGivenLemmas.{closed_readable, closed_within, sized-blocks, sized-readable}
use Rattle.session_text.proofs.SizedLemmas.{no_commands}
use Rattle.session_text.proofs.SizedPlaceLemmas.{ends_block, ends_line, ends_tail}

-- in a block
pub end_in_block : (place : SizedPlace) → IsSizedPlace place → 0 < left_of place.opened → sized_commands_from true place [] ≡ command.BadCommand place.number ∷ []
end_in_block place is some = by place.opened is.block some
  where
    by : (opened : Option SizedOpened) → IsBlockOf place.rest opened → 0 < left_of opened
        → sized_commands true place.number 0 ((opened_bytes opened ++ place.rest) ++ []) ≡ command.BadCommand place.number ∷ []
    by None b some = absurd (omega (arith, some))
    by (Some o) b some = ap (sized_commands true place.number 0) (append-nil ((o.line ++ 10 ∷ o.block) ++ place.rest)) ∙ ends_block place.number o place.rest is.unended b some

-- in a line
line_end : (number : ℕ) (line : List ℕ) (block : Option ℕ)
    → said number line block [] ≡ option_to_list (sized_line_ended number line block).0 ++ option_to_list (last_sized (sized_line_ended number line block).1)
line_end number line None = by (is_skipped line)
  where
    by : (skipped : Bool) → cond skipped [] (command_of_line true number line ∷ []) ≡ option_to_list (cond skipped None (Some (command_of_line true number line))) ++ []
    by true = refl
    by false = refl
line_end number line (Some zero) = refl
line_end number line (Some (suc size)) =
    let missing : nat_le (suc size) 0 ≡ false = grind (arith, nat_tests) in
    let left : nat_lt 0 (suc size) ≡ true = grind (arith, nat_tests) in
    (λ i. cond (missing i && is_empty (without_return (first_line (drop (suc size) [])))) (command_of_sized_block number line (take (suc size) [])) (command.BadCommand number) ∷ [])
    ∙ sym (λ i. cond (left i) (command.BadCommand number) (closed_command number line [] []) ∷ [])

no_block : block_size [] ≡ None
no_block = by (is_command_line [])
  where
    by : (t : Bool) → cond (t && opens_sized_block []) (size_in (first_word (after_first_word (trimmed_line [])))) None ≡ None
    by true = refl
    by false = refl

rest_end : (number : ℕ) (opened : Option SizedOpened) (rest : List ℕ) → is_unended rest ≡ true → IsBlockOf rest opened → left_of opened ≡ 0
    → sized_commands true number 0 (opened_bytes opened ++ rest) ≡ option_to_list (sized_ended number opened rest).0 ++ option_to_list (last_sized (sized_ended number opened rest).1)
rest_end number None [] h is none =
    no_commands true number ∙ ap (λ b. option_to_list (sized_line_ended number [] b).0 ++ option_to_list (last_sized (sized_line_ended number [] b).1)) (sym no_block)
rest_end number None (byte ∷ rest) h is none = ends_line number (byte ∷ rest) (omega arith) h ∙ line_end number (byte ∷ rest) (block_size (byte ∷ rest))
rest_end number (Some o) rest h is none = ends_tail number o rest h is none

place_end : (place : SizedPlace) → IsSizedPlace place → left_of place.opened ≡ 0
    → sized_commands_from true place [] ≡ option_to_list (sized_ended_at place []).0 ++ option_to_list (last_sized (sized_ended_at place []).1)
place_end place is none =
    ap (sized_commands true place.number 0) (append-nil (bytes_held place))
    ∙ (rest_end place.number place.opened place.rest is.unended is.block none
    ∙ ap (λ w. option_to_list (sized_ended place.number place.opened w).0 ++ option_to_list (last_sized (sized_ended place.number place.opened w).1)) (sym (append-nil place.rest)))

-- where a command is whole, nothing is left after it
nothing_after : (number : ℕ) (opened : Option SizedOpened) (line : List ℕ) (command : Command) → Some command ≡ (sized_ended number opened line).0 → last_sized (sized_ended number opened line).1 ≡ None
nothing_after number None line command is = by (block_size line) is
  where
    by : (block : Option ℕ) → Some command ≡ (sized_line_ended number line block).0 → last_sized (sized_line_ended number line block).1 ≡ None
    by None e = refl
    by (Some size) e = absurd (let impossible : ⊥ = cc in impossible)
nothing_after number (Some o) line command is = refl

pub end_whole : (place : SizedPlace) (command : Command) → IsSizedPlace place → left_of place.opened ≡ 0 → Some command ≡ (sized_ended_at place []).0 → sized_commands_from true place [] ≡ command ∷ []
end_whole place command is none whole =
    place_end place is none
    ∙ (ap (λ o. option_to_list o ++ option_to_list (last_sized (sized_ended_at place []).1)) (sym whole)
    ∙ ap (λ o. command ∷ option_to_list o) (nothing_after place.number place.opened (place.rest ++ []) command whole))

pub end_last : (place new : SizedPlace) (last : Option Command) → IsSizedPlace place → left_of place.opened ≡ 0 → None ≡ (sized_ended_at place []).0 → new ≡ (sized_ended_at place []).1 → last ≡ last_sized new
    → sized_commands_from true place [] ≡ option_to_list last
end_last place new last is none still moved says =
    place_end place is none
    ∙ (ap (λ o. option_to_list o ++ option_to_list (last_sized (sized_ended_at place []).1)) (sym still)
    ∙ ap option_to_list (sym (says ∙ ap last_sized moved)))

-- what is left is readable, and its block was held
pub last_sized-readable : (place : SizedPlace) → list_all is_readable (option_to_list (last_sized place)) ≡ true
last_sized-readable place = by place.opened
  where
    by : (opened : Option SizedOpened) → list_all is_readable (option_to_list (last_of place.number place.rest opened)) ≡ true
    by None = refl
    by (Some o) = within (nat_lt 0 o.left)
      where
        within : (left : Bool) → list_all is_readable (cond left (command.BadCommand place.number) (closed_command place.number o.line o.block place.rest) ∷ []) ≡ true
        within true = refl
        within false = and_from _ _ (closed_readable place.number o.line o.block place.rest) refl

pub last_sized-blocks : (place : SizedPlace) → block_lengths (option_to_list (last_sized place)) ≤ sized_held_length place
last_sized-blocks place = by place.opened
  where
    by : (opened : Option SizedOpened) → block_lengths (option_to_list (last_of place.number place.rest opened)) ≤ length place.rest + sized_length opened
    by None = omega arith
    by (Some o) = within (nat_lt 0 o.left)
      where
        within : (left : Bool) → block_lengths (cond left (command.BadCommand place.number) (closed_command place.number o.line o.block place.rest) ∷ []) ≤ length place.rest + length o.block
        within true = omega arith
        within false = omega (arith, closed_within place.number o.line o.block place.rest)

pub last_readable_as : (place : SizedPlace) (last : Option Command) → last ≡ last_sized place → list_all is_readable (option_to_list last) ≡ true
last_readable_as place last says = ap (λ o. list_all is_readable (option_to_list o)) says ∙ last_sized-readable place

pub last_blocks_held : (place new : SizedPlace) (last : Option Command) → new ≡ (sized_ended_at place []).1 → last ≡ last_sized new → block_lengths (option_to_list last) ≤ sized_held_length place
last_blocks_held place new last moved says =
    omega (
      arith,
      ap (λ o. block_lengths (option_to_list o)) says,
      last_sized-blocks new,
      ap sized_held_length moved,
      sized-blocks place.number place.opened (place.rest ++ []),
    )

-- a command that is whole with the last line
pub end_readable : (place : SizedPlace) (command : Command) → Some command ≡ (sized_ended_at place []).0 → list_all is_readable (option_to_list (Some command)) ≡ true
end_readable place command whole = ap (λ o. list_all is_readable (option_to_list o)) whole ∙ sized-readable place.number place.opened (place.rest ++ [])

pub end_blocks : (place : SizedPlace) (command : Command) → Some command ≡ (sized_ended_at place []).0 → block_lengths (option_to_list (Some command)) ≤ sized_held_length place
end_blocks place command whole =
    omega (arith, ap (λ o. block_lengths (option_to_list o)) whole, sized-blocks place.number place.opened (place.rest ++ []))

-- no line and no block
pub end_nothing : (number : ℕ) (rest : List ℕ) (opened : Option SizedOpened) (place : SizedPlace)
    → (λ (p : SizedPlace). p) (record { number = number; rest = rest; opened = opened }) ≡ place → length rest ≡ 0 → is_some opened ≡ false → sized_commands_from true place [] ≡ []
end_nothing number rest (Some o) place view empty none = absurd (let no : ⊥ = cc in no)
end_nothing number (byte ∷ rest) None place view empty none = absurd (omega (arith, empty))
end_nothing number [] None place view empty none = ap (λ p. sized_commands_from true p []) (sym view) ∙ no_commands true number
