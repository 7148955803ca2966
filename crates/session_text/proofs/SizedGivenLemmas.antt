-- Each command with a block that has a length is readable, and the block has no more bytes than were held and read.
use Rattle.std.proofs.Common.{◌≡◌, ◌∙◌, ap, refl, ℕ, ◌+◌, ◌≤◌, Bool, true, false, cond, List, ◌++◌, length, arith}
use Rattle.std.specs.Prelude.{Option, Some, None}
use Rattle.std.specs.Option.{option_to_list}
use Rattle.std.specs.List.{list_all}
use Rattle.std.proofs.lemmas.List.Folds.{list_all-append}
use Rattle.std.proofs.lemmas.List.Sums.{sum_by-append}
use Rattle.std.proofs.lemmas.Bool.{and_from}
use Rattle.ft_base.specs.Lists.{is_empty}
use Rattle.reply_lines.specs.declared.command.Command.{Command}
use Rattle.reply_lines.specs.declared.command.Command.TheVariants as command
use Rattle.reply_lines.specs.Given.{block_length, block_lengths, is_readable}
use Rattle.text_lines.specs.Lines.{is_skipped, without_return}
use Rattle.session_text.specs.LineCommands.{command_of_line, command_of_sized_block}
use Rattle.session_text.specs.SizedBlocks.{block_size}
use Rattle.session_text.specs.steps.SizedReading.{SizedOpened, SizedPlace, closed_command, sized_ended, sized_held_length, sized_length, sized_line_ended}
use Rattle.session_text.proofs.GivenLemmas.{line_blockless, line_readable, sized_block_readable, sized_block_within}

pub closed_readable : (number : ℕ) (line block tail : List ℕ) → is_readable (closed_command number line block tail) ≡ true
closed_readable number line block tail = by (is_empty (without_return tail))
  where
    by : (ends : Bool) → is_readable (cond ends (command_of_sized_block number line block) (command.BadCommand number)) ≡ true
    by true = sized_block_readable block number line
    by false = refl

pub closed_within : (number : ℕ) (line block tail : List ℕ) → block_length (closed_command number line block tail) ≤ length block
closed_within number line block tail = by (is_empty (without_return tail))
  where
    by : (ends : Bool) → block_length (cond ends (command_of_sized_block number line block) (command.BadCommand number)) ≤ length block
    by true = sized_block_within block number line
    by false = omega arith

plain_readable : (number : ℕ) (line : List ℕ) → list_all is_readable (option_to_list (sized_line_ended number line None).0) ≡ true
plain_readable number line = by (is_skipped line)
  where
    by : (skipped : Bool) → list_all is_readable (option_to_list (cond skipped None (Some (command_of_line true number line)))) ≡ true
    by true = refl
    by false = and_from _ _ (line_readable true number line) refl

plain_blockless : (number : ℕ) (line : List ℕ) → block_lengths (option_to_list (sized_line_ended number line None).0) ≡ 0
plain_blockless number line = by (is_skipped line)
  where
    by : (skipped : Bool) → block_lengths (option_to_list (cond skipped None (Some (command_of_line true number line)))) ≡ 0
    by true = refl
    by false = omega (arith, line_blockless true number line)

-- what a line makes whole is readable
pub sized-readable : (number : ℕ) (opened : Option SizedOpened) (line : List ℕ) → list_all is_readable (option_to_list (sized_ended number opened line).0) ≡ true
sized-readable number None line = by (block_size line)
  where
    by : (block : Option ℕ) → list_all is_readable (option_to_list (sized_line_ended number line block).0) ≡ true
    by None = plain_readable number line
    by (Some size) = refl
sized-readable number (Some o) line = and_from _ _ (closed_readable number o.line o.block line) refl

-- and its block was held
pub sized-blocks : (number : ℕ) (opened : Option SizedOpened) (line : List ℕ) → block_lengths (option_to_list (sized_ended number opened line).0) + sized_held_length (sized_ended number opened line).1 ≤ sized_length opened
sized-blocks number None line = by (block_size line)
  where
    by : (block : Option ℕ) → block_lengths (option_to_list (sized_line_ended number line block).0) + sized_held_length (sized_line_ended number line block).1 ≤ 0
    by None = omega (arith, plain_blockless number line)
    by (Some size) = omega arith
sized-blocks number (Some o) line = omega (arith, closed_within number o.line o.block line)

pub sized-added_readable : (number : ℕ) (opened : Option SizedOpened) (line : List ℕ) (found after : List Command) (command : Option Command)
    → command ≡ (sized_ended number opened line).0 → after ≡ found ++ option_to_list command → list_all is_readable found ≡ true → list_all is_readable after ≡ true
sized-added_readable number opened line found after command says added readable =
    ap (list_all is_readable) (added ∙ ap (λ o. found ++ option_to_list o) says)
    ∙ (list_all-append is_readable found (option_to_list (sized_ended number opened line).0) ∙ and_from _ _ readable (sized-readable number opened line))

pub sized-added_blocks : (number : ℕ) (opened : Option SizedOpened) (line : List ℕ) (found after : List Command) (command : Option Command) (new : SizedPlace)
    → command ≡ (sized_ended number opened line).0 → after ≡ found ++ option_to_list command → new ≡ (sized_ended number opened line).1
    → block_lengths after + sized_held_length new ≤ block_lengths found + sized_length opened
sized-added_blocks number opened line found after command new says added moved =
    let lengths : block_lengths after ≡ block_lengths found + block_lengths (option_to_list (sized_ended number opened line).0) =
    ap block_lengths (added ∙ ap (λ o. found ++ option_to_list o) says) ∙ sum_by-append block_length found (option_to_list (sized_ended number opened line).0) in
    omega (arith, lengths, ap sized_held_length moved, sized-blocks number opened line)
