-- Each command that a line makes whole is readable, and its block has no more bytes than were held and read.
use Rattle.std.proofs.Common.{◌≡◌, ◌∙◌, ap, refl, ℕ, ◌+◌, ◌-◌, ◌≤◌, Bool, true, false, not, cond, List, [], ◌∷◌, ◌++◌, length, drop, arith, length-append, length-drop, length-take}
use Rattle.std.specs.Prelude.{Option, Some, None, nat_eq, codes, ◌==◌}
use Rattle.std.specs.Option.{option_to_list}
use Rattle.std.specs.List.{list_all, starts_with}
use Rattle.std.proofs.lemmas.List.Folds.{list_all-append}
use Rattle.std.proofs.lemmas.List.Sums.{sum_by-append}
use Rattle.std.proofs.lemmas.Bool.{and_from}
use Rattle.reply_lines.specs.declared.command.Command.{Command}
use Rattle.session_text.specs.steps.Blocks.{without_last}
use Rattle.session_text.specs.LineCommands.{opens_block, command_of_block, command_of_line, command_of_sized_block}
use Rattle.session_text.specs.PeriodBlocks.{closes_block, unquoted}
use Rattle.text_lines.specs.Lines.{is_skipped}
use Rattle.reply_lines.specs.Given.{block_length, block_lengths, is_readable}
use Rattle.session_text.specs.steps.PeriodReading.{Opened, Place, after_lines, ended_at, held_length, line_ended, opened_length, place_after}
use Rattle.session_text.proofs.CommandLemmas.{HoldsOfBlocks, holds_of_block, holds_of_line, holds_of_sized_block}

pub line_readable : (quotes : Bool) (number : ℕ) (line : List ℕ) → is_readable (command_of_line quotes number line) ≡ true
line_readable = holds_of_line (λ c. is_readable c ≡ true) (record {
  bad = λ n. refl;
  bad_name = λ n. refl;
  drop = λ n h. h;
  mark = λ n h. h;
  unmark = λ n h. h;
  stats = refl;
  delete = λ p h. ap not h;
  print = λ p h. ap not h;
  show = λ p h. ap not h;
  explain = λ p h. ap not h;
  query = λ p h. ap not h;
  watch = λ n p h k. and_from _ _ h (ap not k);
  changes = λ n h. h;
  unwatch = λ n h. h;
  query_at = λ n p h k. and_from _ _ h (ap not k);
})

readable_block : (block : List ℕ) → HoldsOfBlocks (λ c. is_readable c ≡ true) block
readable_block block = record {
  bad = λ n. refl;
  bad_name = λ n. refl;
  load = λ n h. h;
  insert = λ w p h. ap not h;
  replace = λ p h. ap not h;
  stop = λ n h. h;
  stems = refl;
  abbreviations = refl;
  thesaurus = λ n h. h;
}

block_readable : (block : List ℕ) (number : ℕ) (line : List ℕ) → is_readable (command_of_block number line block) ≡ true
block_readable block = holds_of_block (λ c. is_readable c ≡ true) block (readable_block block)

pub sized_block_readable : (block : List ℕ) (number : ℕ) (line : List ℕ) → is_readable (command_of_sized_block number line block) ≡ true
sized_block_readable block = holds_of_sized_block (λ c. is_readable c ≡ true) block (readable_block block)

pub line_blockless : (quotes : Bool) (number : ℕ) (line : List ℕ) → block_length (command_of_line quotes number line) ≡ 0
line_blockless = holds_of_line (λ c. block_length c ≡ 0) (record {
  bad = λ n. refl;
  bad_name = λ n. refl;
  drop = λ n h. refl;
  mark = λ n h. refl;
  unmark = λ n h. refl;
  stats = refl;
  delete = λ p h. refl;
  print = λ p h. refl;
  show = λ p h. refl;
  explain = λ p h. refl;
  query = λ p h. refl;
  watch = λ n p h k. refl;
  changes = λ n h. refl;
  unwatch = λ n h. refl;
  query_at = λ n p h k. refl;
})

within_block : (block : List ℕ) → HoldsOfBlocks (λ c. block_length c ≤ length block) block
within_block block = record {
  bad = λ n. omega arith;
  bad_name = λ n. omega arith;
  load = λ n h. omega arith;
  insert = λ w p h. omega arith;
  replace = λ p h. omega arith;
  stop = λ n h. omega arith;
  stems = omega arith;
  abbreviations = omega arith;
  thesaurus = λ n h. omega arith;
}

block_within : (block : List ℕ) (number : ℕ) (line : List ℕ) → block_length (command_of_block number line block) ≤ length block
block_within block = holds_of_block (λ c. block_length c ≤ length block) block (within_block block)

pub sized_block_within : (block : List ℕ) (number : ℕ) (line : List ℕ) → block_length (command_of_sized_block number line block) ≤ length block
sized_block_within block = holds_of_sized_block (λ c. block_length c ≤ length block) block (within_block block)

-- what a line makes whole is readable
pub readable_ended : (number : ℕ) (before : Option Opened) (line : List ℕ) → list_all is_readable (option_to_list (line_ended number before line).0) ≡ true
readable_ended number None line = by (is_skipped line) (opens_block line)
  where
    by : (skipped opens : Bool) → list_all is_readable (option_to_list (let ended : Option Command × Option Opened = cond skipped (None, None) (cond opens (None, Some (record { line = line; number = number; block = [] })) (Some (command_of_line false number line), None)) in ended.0)) ≡ true
    by true opens = refl
    by false true = refl
    by false false = and_from _ _ (line_readable false number line) refl
readable_ended number (Some o) line = by (closes_block line)
  where
    by : (closes : Bool) → list_all is_readable (option_to_list (let ended : Option Command × Option Opened = cond closes (Some (command_of_block o.number o.line (without_last o.block)), None) (None, Some (record o { block = o.block ++ unquoted line ++ 10 ∷ [] })) in ended.0)) ≡ true
    by true = and_from _ _ (block_readable (without_last o.block) o.number o.line) refl
    by false = refl

length-unquoted : (line : List ℕ) → length (unquoted line) ≤ length line
length-unquoted line = by (starts_with nat_eq line (codes "."))
  where
    by : (t : Bool) → length (cond t (drop 1 line) line) ≤ length line
    by true = omega (arith, length-drop 1 line)
    by false = omega arith

length-after_lines : (n : ℕ) (bytes : List ℕ) → length (after_lines n bytes) ≤ length bytes
length-after_lines n bytes = by (n == 0) (starts_with nat_eq bytes (239 ∷ 187 ∷ 191 ∷ []))
  where
    by : (b marked : Bool) → length (cond b (cond marked (drop 3 bytes) bytes) bytes) ≤ length bytes
    by true true = omega (arith, length-drop 3 bytes)
    by true false = omega arith
    by false marked = omega arith

-- what a line makes whole was held or read
pub blocks_ended : (number : ℕ) (before : Option Opened) (line : List ℕ) → block_lengths (option_to_list (line_ended number before line).0) + opened_length (line_ended number before line).1 ≤ opened_length before + length line + 1
blocks_ended number None line = by (is_skipped line) (opens_block line)
  where
    by : (skipped opens : Bool) → let ended : Option Command × Option Opened = cond skipped (None, None) (cond opens (None, Some (record { line = line; number = number; block = [] })) (Some (command_of_line false number line), None)) in block_lengths (option_to_list ended.0) + opened_length ended.1 ≤ 0 + length line + 1
    by true opens = omega arith
    by false true = omega arith
    by false false = omega (arith, line_blockless false number line)
blocks_ended number (Some o) line = by (closes_block line)
  where
    by : (closes : Bool) → let ended : Option Command × Option Opened = cond closes (Some (command_of_block o.number o.line (without_last o.block)), None) (None, Some (record o { block = o.block ++ unquoted line ++ 10 ∷ [] })) in block_lengths (option_to_list ended.0) + opened_length ended.1 ≤ length o.block + length line + 1
    by true = omega (arith, block_within (without_last o.block) o.number o.line, length-take (length o.block - 1) o.block)
    by false = omega (arith, length-append (o.block ++ unquoted line) (10 ∷ []), length-append o.block (unquoted line), length-unquoted line)

pub blocks_after : (place : Place) (part : List ℕ) → block_lengths (option_to_list (ended_at place part).0) + held_length (place_after place part) ≤ held_length place + length part + 1
blocks_after place part =
    omega (arith, blocks_ended (place.lines + 1) place.opened (after_lines place.lines (place.rest ++ part)), length-after_lines place.lines (place.rest ++ part), length-append place.rest part)

-- the commands so far, and the one that a line makes whole
pub added_readable : (place : Place) (part : List ℕ) (found after : List Command) (command : Option Command)
    → command ≡ (ended_at place part).0 → after ≡ found ++ option_to_list command → list_all is_readable found ≡ true → list_all is_readable after ≡ true
added_readable place part found after command says added readable =
    ap (list_all is_readable) (added ∙ ap (λ o. found ++ option_to_list o) says)
    ∙ (list_all-append is_readable found (option_to_list (ended_at place part).0)
    ∙ and_from _ _ readable (readable_ended (place.lines + 1) place.opened (after_lines place.lines (place.rest ++ part))))

pub added_blocks : (place new : Place) (part : List ℕ) (found after : List Command) (command : Option Command)
    → command ≡ (ended_at place part).0 → new ≡ place_after place part → after ≡ found ++ option_to_list command
    → block_lengths after + held_length new ≤ block_lengths found + held_length place + length part + 1
added_blocks place new part found after command says moved added =
    let lengths : block_lengths after ≡ block_lengths found + block_lengths (option_to_list (ended_at place part).0) =
    ap block_lengths (added ∙ ap (λ o. found ++ option_to_list o) says) ∙ sum_by-append block_length found (option_to_list (ended_at place part).0) in
    omega (arith, lengths, ap held_length moved, blocks_after place part)

-- a block that a line closes was held
pub whole_blocks : (number : ℕ) (before : Option Opened) (line : List ℕ) → block_lengths (option_to_list (line_ended number before line).0) ≤ opened_length before
whole_blocks number None line = by (is_skipped line) (opens_block line)
  where
    by : (skipped opens : Bool) → let ended : Option Command × Option Opened = cond skipped (None, None) (cond opens (None, Some (record { line = line; number = number; block = [] })) (Some (command_of_line false number line), None)) in block_lengths (option_to_list ended.0) ≤ 0
    by true opens = omega arith
    by false true = omega arith
    by false false = omega (arith, line_blockless false number line)
whole_blocks number (Some o) line = by (closes_block line)
  where
    by : (closes : Bool) → let ended : Option Command × Option Opened = cond closes (Some (command_of_block o.number o.line (without_last o.block)), None) (None, Some (record o { block = o.block ++ unquoted line ++ 10 ∷ [] })) in block_lengths (option_to_list ended.0) ≤ length o.block
    by true = omega (arith, block_within (without_last o.block) o.number o.line, length-take (length o.block - 1) o.block)
    by false = omega arith

-- the command that is whole with the last line
pub last_readable : (place : Place) (command : Command) → Some command ≡ (ended_at place []).0 → list_all is_readable (option_to_list (Some command)) ≡ true
last_readable place command whole =
    ap (λ o. list_all is_readable (option_to_list o)) whole ∙ readable_ended (place.lines + 1) place.opened (after_lines place.lines (place.rest ++ []))

pub last_blocks : (place : Place) (command : Command) → Some command ≡ (ended_at place []).0 → block_lengths (option_to_list (Some command)) ≤ held_length place
last_blocks place command whole =
    omega (arith, ap (λ o. block_lengths (option_to_list o)) whole, whole_blocks (place.lines + 1) place.opened (after_lines place.lines (place.rest ++ [])))
