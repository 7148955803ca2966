-- What is left after bytes of a line or of a block that has a length, and after the line feed that ends them.
use Rattle.std.proofs.Common.{◌≡◌, ◌∙◌, sym, ap, refl, ℕ, zero, suc, ◌+◌, ◌<◌, Bool, true, false, cond, ◌&&◌, le-leb, List, [], ◌∷◌, ◌++◌, length, take, drop, arith, append_assoc, length-append}
use Rattle.std.specs.Prelude.{Option, Some, None, nat_le}
use Rattle.std.specs.Option.{option_to_list}
use Rattle.std.proofs.lemmas.List.{append-nil, take_at, drop_at}
use Rattle.std.proofs.lemmas.Bool.Decides.{nat_tests}
use Rattle.ft_base.specs.Lists.{is_empty}
use Rattle.reply_lines.specs.declared.command.Command.TheVariants as command
use Rattle.text_lines.specs.Lines.{is_skipped, without_return}
use Rattle.session_text.specs.LineCommands.{command_of_line, command_of_sized_block}
use Rattle.session_text.specs.SizedBlocks.{block_size, first_line, said, size_behind, sized_command, sized_commands}
use Rattle.session_text.specs.steps.PeriodReading.{is_unended}
use Rattle.session_text.specs.steps.SizedReading.{IsBlockOf, SizedOpened, SizedPlace, block_grown, bytes_held, closed_command, left_of, number_past, opened_bytes, sized_commands_from, sized_ended, sized_line_ended}
use Rattle.session_text.proofs.SizedLemmas.{Fronts, after_first-is, after_first-none, first_line-all, first_line-is, no_commands, not_whole, number_past-append, number_past-line, spoken, spoken_at_end}

-- ---- bytes of a line or a block that hasn't ended

pub rest_held : (at_end : Bool) (place : SizedPlace) (bytes more : List ℕ)
    → sized_commands_from at_end (record place { rest = place.rest ++ bytes }) more ≡ sized_commands_from at_end place (bytes ++ more)
rest_held at_end place bytes more =
    ap (sized_commands at_end place.number 0) (ap (λ w. w ++ more) (sym (append_assoc (opened_bytes place.opened) place.rest bytes)) ∙ append_assoc (bytes_held place) bytes more)

block_regroup : (line block rest bytes more : List ℕ) → rest ≡ [] → ((line ++ 10 ∷ (block ++ bytes)) ++ rest) ++ more ≡ ((line ++ 10 ∷ block) ++ rest) ++ (bytes ++ more)
block_regroup line block rest bytes more none =
    ap (λ r. ((line ++ 10 ∷ (block ++ bytes)) ++ r) ++ more) none
    ∙ (ap (λ w. w ++ more) (append-nil (line ++ 10 ∷ (block ++ bytes)) ∙ sym (append_assoc line (10 ∷ block) bytes))
    ∙ (append_assoc (line ++ 10 ∷ block) bytes more
    ∙ (ap (λ w. w ++ (bytes ++ more)) (sym (append-nil (line ++ 10 ∷ block))) ∙ ap (λ r. ((line ++ 10 ∷ block) ++ r) ++ (bytes ++ more)) (sym none))))

pub block_held : (at_end : Bool) (number : ℕ) (rest : List ℕ) (opened : Option SizedOpened) (bytes more : List ℕ) → IsBlockOf rest opened → 0 < left_of opened
    → sized_commands_from at_end (block_grown (record { number = number; rest = rest; opened = opened }) bytes) more ≡ sized_commands_from at_end (record { number = number; rest = rest; opened = opened }) (bytes ++ more)
block_held at_end number rest None bytes more is some = absurd (omega (arith, some))
block_held at_end number rest (Some o) bytes more is some = ap (sized_commands at_end number 0) (block_regroup o.line o.block rest bytes more (is.2 some))

-- ---- a line that ends

line_fronts : (line rest : List ℕ) (block : Option ℕ) (size : ℕ) → is_unended line ≡ true → block_size line ≡ block → length line + 1 + size_behind block rest ≡ size → Fronts (line ++ 10 ∷ rest) line rest block size
line_fronts line rest block size h sized all = record {
  some = omega (arith, length-append line (10 ∷ rest));
  first = first_line-is line rest h;
  after = after_first-is line rest h;
  sized = sized;
  all = all;
}

plain_said : (number : ℕ) (line more : List ℕ) → said number line None more ≡ option_to_list (sized_line_ended number line None).0
plain_said number line more = by (is_skipped line)
  where
    by : (skipped : Bool) → cond skipped [] (command_of_line true number line ∷ []) ≡ option_to_list (cond skipped None (Some (command_of_line true number line)))
    by true = refl
    by false = refl

plain_ended : (at_end : Bool) (number : ℕ) (line more : List ℕ) → is_unended line ≡ true → block_size line ≡ None
    → sized_commands at_end number 0 (line ++ 10 ∷ more) ≡ option_to_list (sized_line_ended number line None).0 ++ sized_commands at_end (number + 1) 0 more
plain_ended at_end number line more h none =
    let size = length line + 1 + 0 in
    let front = line ++ 10 ∷ [] in
    let all : line ++ 10 ∷ more ≡ front ++ more = sym (append_assoc line (10 ∷ []) more) in
    let long : length front ≡ size = omega (arith, length-append line (10 ∷ [])) in
    spoken number (line ++ 10 ∷ more) line more None size (line_fronts line more None size h none refl) at_end (number + 1) more
    (omega (arith, length-append line (10 ∷ more)))
    (ap (number_past number) (ap (take size) all ∙ take_at front more size long) ∙ number_past-line number line [] h)
    (ap (drop size) all ∙ drop_at front more size long)
    ∙ ap (λ w. w ++ sized_commands at_end (number + 1) 0 more) (plain_said number line more)

-- a block and what stands behind it
closed : (number : ℕ) (line block suffix tail : List ℕ) → first_line suffix ≡ tail → sized_command number line (length block) (block ++ suffix) ≡ closed_command number line block tail
closed number line block suffix tail ends =
    let fits : nat_le (length block) (length (block ++ suffix)) ≡ true = le-leb _ _ (omega (arith, length-append block suffix)) in
    let behind : first_line (drop (length block) (block ++ suffix)) ≡ tail = ap first_line (drop_at block suffix (length block) refl) ∙ ends in
    (λ i. cond (fits i && is_empty (without_return (behind i))) (command_of_sized_block number line (take_at block suffix (length block) refl i)) (command.BadCommand number))

size_closed : (line block suffix tail : List ℕ) → first_line suffix ≡ tail → length line + 1 + size_behind (Some (length block)) (block ++ suffix) ≡ length line + 1 + (length block + (length tail + 1))
size_closed line block suffix tail ends =
    ap (λ w. length line + 1 + (length block + (length w + 1))) (ap first_line (drop_at block suffix (length block) refl) ∙ ends)

block_ended : (at_end : Bool) (number : ℕ) (line block tail more : List ℕ) → is_unended line ≡ true → is_unended tail ≡ true → block_size line ≡ Some (length block)
    → sized_commands at_end number 0 (line ++ 10 ∷ (block ++ (tail ++ 10 ∷ more))) ≡ closed_command number line block tail ∷ sized_commands at_end (number_past (number + 1) block + 1) 0 more
block_ended at_end number line block tail more h k sized =
    let rest = block ++ (tail ++ 10 ∷ more) in
    let size = length line + 1 + (length block + (length tail + 1)) in
    let front = line ++ 10 ∷ (block ++ (tail ++ 10 ∷ [])) in
    let ends : first_line (tail ++ 10 ∷ more) ≡ tail = first_line-is tail more k in
    let all : line ++ 10 ∷ rest ≡ front ++ more =
    ap (λ w. line ++ 10 ∷ w) (ap (λ w. block ++ w) (sym (append_assoc tail (10 ∷ []) more)) ∙ sym (append_assoc block (tail ++ 10 ∷ []) more))
    ∙ sym (append_assoc line (10 ∷ (block ++ (tail ++ 10 ∷ []))) more) in
    let long : length front ≡ size = omega (arith, length-append line (10 ∷ (block ++ (tail ++ 10 ∷ []))), length-append block (tail ++ 10 ∷ []), length-append tail (10 ∷ [])) in
    spoken number (line ++ 10 ∷ rest) line rest (Some (length block)) size (line_fronts line rest (Some (length block)) size h sized (size_closed line block (tail ++ 10 ∷ more) tail ends))
    at_end (number_past (number + 1) block + 1) more
    (omega (arith, ap length all, length-append front more, long))
    (ap (number_past number) (ap (take size) all ∙ take_at front more size long)
    ∙ (number_past-line number line (block ++ (tail ++ 10 ∷ [])) h
    ∙ (number_past-append (number + 1) block (tail ++ 10 ∷ []) ∙ number_past-line (number_past (number + 1) block) tail [] k)))
    (ap (drop size) all ∙ drop_at front more size long)
    ∙ ap (λ c. c ∷ sized_commands at_end (number_past (number + 1) block + 1) 0 more) (closed number line block (tail ++ 10 ∷ more) tail ends)

-- what a line that ended says, and what is left after it
pub line_ended : (at_end : Bool) (number : ℕ) (opened : Option SizedOpened) (line more : List ℕ) → is_unended line ≡ true → IsBlockOf [] opened → left_of opened ≡ 0
    → sized_commands at_end number 0 (opened_bytes opened ++ (line ++ 10 ∷ more)) ≡ option_to_list (sized_ended number opened line).0 ++ sized_commands_from at_end (sized_ended number opened line).1 more
line_ended at_end number None line more h is left = by (block_size line) refl
  where
    by : (block : Option ℕ) → block_size line ≡ block → sized_commands at_end number 0 (line ++ 10 ∷ more) ≡ option_to_list (sized_line_ended number line block).0 ++ sized_commands_from at_end (sized_line_ended number line block).1 more
    by None none = plain_ended at_end number line more h none
    by (Some size) sized = ap (sized_commands at_end number 0) (sym (ap (λ w. w ++ more) (append-nil (line ++ 10 ∷ [])) ∙ append_assoc line (10 ∷ []) more))
line_ended at_end number (Some o) line more h is left =
    ap (sized_commands at_end number 0) (append_assoc o.line (10 ∷ o.block) (line ++ 10 ∷ more))
    ∙ block_ended at_end number o.line o.block line more is.0 h (is.1 ∙ ap Some (omega (arith, left)))

-- ---- the session's end

end_fronts : (line : List ℕ) → 0 < length line → is_unended line ≡ true → Fronts line line [] (block_size line) (length line + 1 + size_behind (block_size line) [])
end_fronts line some h = record { some = some; first = first_line-all line h; after = after_first-none line h; sized = refl; all = refl }

pub ends_line : (number : ℕ) (line : List ℕ) → 0 < length line → is_unended line ≡ true → sized_commands true number 0 line ≡ said number line (block_size line) []
ends_line number line some h = spoken_at_end number line line [] (block_size line) (length line + 1 + size_behind (block_size line) []) (end_fronts line some h) (omega arith)

module _ (number : ℕ) (o : SizedOpened) (rest : List ℕ) (h : is_unended rest ≡ true) (is : IsBlockOf rest (Some o)) where
  -- behind a block
  tail_fronts : o.left ≡ 0 → Fronts (o.line ++ 10 ∷ (o.block ++ rest)) o.line (o.block ++ rest) (Some (length o.block)) (length o.line + 1 + (length o.block + (length rest + 1)))
  tail_fronts none = line_fronts o.line (o.block ++ rest) (Some (length o.block)) _ is.0 (is.1 ∙ ap Some (omega (arith, none))) (size_closed o.line o.block rest rest (first_line-all rest h))

  pub ends_tail : o.left ≡ 0 → sized_commands true number 0 ((o.line ++ 10 ∷ o.block) ++ rest) ≡ closed_command number o.line o.block rest ∷ []
  ends_tail none =
      ap (sized_commands true number 0) (append_assoc o.line (10 ∷ o.block) rest)
      ∙ (spoken_at_end number (o.line ++ 10 ∷ (o.block ++ rest)) o.line (o.block ++ rest) (Some (length o.block)) _ (tail_fronts none) (omega (arith, length-append o.line (10 ∷ (o.block ++ rest)), length-append o.block rest))
      ∙ ap (λ c. c ∷ []) (closed number o.line o.block rest rest (first_line-all rest h)))

  -- in a block
  block_fronts : Fronts (o.line ++ 10 ∷ o.block) o.line o.block (Some (length o.block + o.left)) (length o.line + 1 + size_behind (Some (length o.block + o.left)) o.block)
  block_fronts = line_fronts o.line o.block (Some (length o.block + o.left)) _ is.0 is.1 refl

  pub ends_block : 0 < o.left → sized_commands true number 0 ((o.line ++ 10 ∷ o.block) ++ rest) ≡ command.BadCommand number ∷ []
  ends_block some =
      let short : nat_le (length o.block + o.left) (length o.block) ≡ false = grind (arith, nat_tests, some) in
      ap (sized_commands true number 0) (ap (λ r. (o.line ++ 10 ∷ o.block) ++ r) (is.2 some) ∙ append-nil (o.line ++ 10 ∷ o.block))
      ∙ (spoken_at_end number (o.line ++ 10 ∷ o.block) o.line o.block (Some (length o.block + o.left)) _ block_fronts (omega (arith, length-append o.line (10 ∷ o.block)))
      ∙ ap (λ t. cond (t && is_empty (without_return (first_line (drop (length o.block + o.left) o.block)))) (command_of_sized_block number o.line (take (length o.block + o.left) o.block)) (command.BadCommand number) ∷ []) short)

  -- nothing is whole before the line feed behind the block
  open_whole : sized_commands false number 0 ((o.line ++ 10 ∷ o.block) ++ rest) ≡ []
  open_whole = by o.left refl
    where
      by : (left : ℕ) → o.left ≡ left → sized_commands false number 0 ((o.line ++ 10 ∷ o.block) ++ rest) ≡ []
      by zero none =
          ap (sized_commands false number 0) (append_assoc o.line (10 ∷ o.block) rest)
          ∙ not_whole number (o.line ++ 10 ∷ (o.block ++ rest)) o.line (o.block ++ rest) (Some (length o.block)) _ (tail_fronts none) (omega (arith, length-append o.line (10 ∷ (o.block ++ rest)), length-append o.block rest))
      by (suc k) some =
          ap (sized_commands false number 0) (ap (λ r. (o.line ++ 10 ∷ o.block) ++ r) (is.2 (omega (arith, some))) ∙ append-nil (o.line ++ 10 ∷ o.block))
          ∙ not_whole number (o.line ++ 10 ∷ o.block) o.line o.block (Some (length o.block + o.left)) _ block_fronts (omega (arith, length-append o.line (10 ∷ o.block)))

-- nothing is whole that wasn't before
pub sized-none_whole : (number : ℕ) (rest : List ℕ) (opened : Option SizedOpened) → is_unended rest ≡ true → IsBlockOf rest opened
    → sized_commands false number 0 ((opened_bytes opened ++ rest) ++ []) ≡ []
sized-none_whole number [] None h is = no_commands false number
sized-none_whole number (byte ∷ rest) None h is =
    ap (sized_commands false number 0) (append-nil (byte ∷ rest))
    ∙ not_whole number (byte ∷ rest) (byte ∷ rest) [] (block_size (byte ∷ rest)) _ (end_fronts (byte ∷ rest) (omega arith) h) (omega arith)
sized-none_whole number rest (Some o) h is = ap (sized_commands false number 0) (append-nil ((o.line ++ 10 ∷ o.block) ++ rest)) ∙ open_whole number o rest h is
