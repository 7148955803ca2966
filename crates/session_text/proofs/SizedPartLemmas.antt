-- A place after a part of the bytes: of a block, of a line, or up to a line feed.
use Rattle.std.proofs.Common.{◌≡◌, ◌∙◌, sym, ap, subst, refl, ℕ, suc, ◌+◌, ◌-◌, ◌<◌, ◌≤◌, Bool, true, false, cond, List, [], ◌∷◌, ◌++◌, length, take, drop, arith, append_assoc, length-append}
use Rattle.std.specs.Prelude.{Option, Some, None, option_map}
use Rattle.std.specs.Option.{option_to_list}
use Rattle.std.proofs.lemmas.List.{append-nil, take-append-drop, take_all}
use Rattle.ft_base.specs.Characters.{is_line_feed}
use Rattle.reply_lines.specs.declared.command.Command.{Command}
use Rattle.session_text.specs.SizedBlocks.{block_size, sized_commands}
use Rattle.session_text.specs.steps.PeriodReading.{is_unended}
use Rattle.session_text.specs.steps.SizedReading.{IsBlockOf, IsSizedPlace, SizedOpened, SizedPlace, block_grown, bytes_held, grown, left_of, number_past, opened_bytes, sized_commands_from, sized_ended, sized_ended_at, sized_held_length, sized_length, sized_line_ended}
use Rattle.session_text.proofs.PlaceLemmas.{at_feed, feed_at, unended_prefix}
use Rattle.session_text.proofs.ReadingLemmas.{unended_append}
use Rattle.session_text.proofs.SizedPlaceLemmas.{block_held, line_ended}

-- ---- bytes of a block

pub grown_place : (place : SizedPlace) (bytes : List ℕ) → IsSizedPlace place → 0 < left_of place.opened → length bytes ≤ left_of place.opened → IsSizedPlace (block_grown place bytes)
grown_place place bytes is some fits = record { unended = is.unended; block = by place.opened is.block some fits }
  where
    by : (opened : Option SizedOpened) → IsBlockOf place.rest opened → 0 < left_of opened → length bytes ≤ left_of opened → IsBlockOf place.rest (option_map (grown bytes) opened)
    by None b some fits = tt
    by (Some o) b some fits =
        let same : length o.block + o.left ≡ length (o.block ++ bytes) + (o.left - length bytes) = omega (arith, length-append o.block bytes, fits) in
        (b.0, b.1 ∙ ap Some same, λ more. b.2 some)

-- how much longer the bytes are that are held
held_more : (rest : List ℕ) (opened : Option SizedOpened) (bytes : List ℕ) → 0 < left_of opened
    → length (opened_bytes (option_map (grown bytes) opened) ++ rest) ≡ length (opened_bytes opened ++ rest) + length bytes
held_more rest None bytes some = absurd (omega (arith, some))
held_more rest (Some o) bytes some =
    omega (
      arith,
      length-append (o.line ++ 10 ∷ (o.block ++ bytes)) rest,
      length-append o.line (10 ∷ (o.block ++ bytes)),
      length-append o.block bytes,
      length-append (o.line ++ 10 ∷ o.block) rest,
      length-append o.line (10 ∷ o.block),
    )

block_more : (opened : Option SizedOpened) (bytes : List ℕ) → 0 < left_of opened → sized_length (option_map (grown bytes) opened) ≡ sized_length opened + length bytes
block_more None bytes some = absurd (omega (arith, some))
block_more (Some o) bytes some = length-append o.block bytes

pub grown_held : (place : SizedPlace) (bytes : List ℕ) → 0 < left_of place.opened → length (bytes_held (block_grown place bytes)) ≡ length (bytes_held place) + length bytes
grown_held place bytes some = held_more place.rest place.opened bytes some

pub grown_length : (place : SizedPlace) (bytes : List ℕ) → 0 < left_of place.opened → sized_held_length (block_grown place bytes) ≡ sized_held_length place + length bytes
grown_length place bytes some = omega (arith, block_more place.opened bytes some)

pub grown_commands : (at_end : Bool) (place : SizedPlace) (bytes more : List ℕ) (count : ℕ) → IsSizedPlace place → 0 < left_of place.opened
    → sized_commands_from at_end place (bytes ++ more) ≡ sized_commands_from at_end (block_grown place (take count bytes)) (drop count bytes ++ more)
grown_commands at_end place bytes more count is some =
    ap (sized_commands_from at_end place) (ap (λ w. w ++ more) (sym (take-append-drop count bytes)) ∙ append_assoc (take count bytes) (drop count bytes) more)
    ∙ sym (block_held at_end place.number place.rest place.opened (take count bytes) (drop count bytes ++ more) is.block some)

pub block_part : (at_end : Bool) (place new : SizedPlace) (bytes suffix more : List ℕ) (count : ℕ) (found : List Command)
    → IsSizedPlace place → 0 < left_of place.opened → new ≡ block_grown place (take count bytes) → suffix ≡ drop count bytes
    → found ++ sized_commands_from at_end place (bytes ++ more) ≡ found ++ sized_commands_from at_end new (suffix ++ more)
block_part at_end place new bytes suffix more count found is some moved left =
    ap (λ w. found ++ w) (grown_commands at_end place bytes more count is some ∙ (λ i. sized_commands_from at_end (sym moved i) (sym left i ++ more)))

-- ---- bytes of a line

pub unended_all : (bytes : List ℕ) → length bytes ≤ feed_at bytes → is_unended bytes ≡ true
unended_all bytes past = ap is_unended (sym (take_all (feed_at bytes) bytes past)) ∙ unended_prefix bytes

-- where no byte of a block is left, more may stand behind it
behind_block : (rest bytes : List ℕ) (opened : Option SizedOpened) → IsBlockOf rest opened → left_of opened ≡ 0 → IsBlockOf bytes opened
behind_block rest bytes None is none = tt
behind_block rest bytes (Some o) is none = (is.0, is.1, λ more. absurd (omega (arith, more, none)))

pub held_place : (place : SizedPlace) (bytes : List ℕ) → IsSizedPlace place → left_of place.opened ≡ 0 → is_unended bytes ≡ true → IsSizedPlace (record place { rest = place.rest ++ bytes })
held_place place bytes is none h = record {
  unended = unended_append place.rest bytes is.unended h;
  block = behind_block place.rest (place.rest ++ bytes) place.opened is.block none;
}

pub held_place_as : (viewed place : SizedPlace) (bytes rest : List ℕ) → viewed ≡ place → rest ≡ viewed.rest ++ bytes → IsSizedPlace place → left_of place.opened ≡ 0 → is_unended bytes ≡ true → IsSizedPlace (record viewed { rest = rest })
held_place_as viewed place bytes rest view all is none h =
    let moved : (λ (q : SizedPlace). q) (record viewed { rest = rest }) ≡ (λ (q : SizedPlace). q) (record place { rest = place.rest ++ bytes }) =
    ap (λ r. (λ (q : SizedPlace). q) (record viewed { rest = r })) all ∙ ap (λ (p : SizedPlace). (λ (q : SizedPlace). q) (record p { rest = p.rest ++ bytes })) view in
    subst IsSizedPlace (sym moved) (held_place place bytes is none h)

pub rest_more : (place : SizedPlace) (bytes : List ℕ) → length (bytes_held (record place { rest = place.rest ++ bytes })) ≡ length (bytes_held place) + length bytes
rest_more place bytes =
    omega (arith, length-append (opened_bytes place.opened) (place.rest ++ bytes), length-append (opened_bytes place.opened) place.rest, length-append place.rest bytes)

-- ---- a line that ends

pub number_past-bound : (number : ℕ) (bytes : List ℕ) → number_past number bytes ≤ number + length bytes
number_past-bound number [] = omega arith
number_past-bound number (byte ∷ bytes) = by (is_line_feed byte) (number_past-bound (number + 1) bytes) (number_past-bound number bytes)
  where
    by : (t : Bool) → number_past (number + 1) bytes ≤ number + 1 + length bytes → number_past number bytes ≤ number + length bytes → number_past (cond t (number + 1) number) bytes ≤ number + suc (length bytes)
    by true next same = omega (arith, next)
    by false next same = omega (arith, same)

-- the place after it is one
pub ended_place : (number : ℕ) (opened : Option SizedOpened) (line : List ℕ) → is_unended line ≡ true → IsSizedPlace (sized_ended number opened line).1
ended_place number None line h = by (block_size line) refl
  where
    by : (block : Option ℕ) → block_size line ≡ block → IsSizedPlace (sized_line_ended number line block).1
    by None none = record { unended = refl; block = tt }
    by (Some size) sized = let whole : size ≡ 0 + size = omega arith in record { unended = refl; block = (h, sized ∙ ap Some whole, λ more. refl) }
ended_place number (Some o) line h = record { unended = refl; block = tt }

-- and nothing is counted twice
pub ended_counted : (number : ℕ) (opened : Option SizedOpened) (line : List ℕ)
    → (sized_ended number opened line).1.number + length (bytes_held (sized_ended number opened line).1) ≤ number + length (opened_bytes opened ++ line) + 1
ended_counted number None line = by (block_size line)
  where
    by : (block : Option ℕ) → (sized_line_ended number line block).1.number + length (bytes_held (sized_line_ended number line block).1) ≤ number + length line + 1
    by None = omega arith
    by (Some size) = omega (arith, ap length (append-nil (line ++ 10 ∷ [])), length-append line (10 ∷ []))
ended_counted number (Some o) line = omega (arith, number_past-bound (number + 1) o.block, length-append (o.line ++ 10 ∷ o.block) line, length-append o.line (10 ∷ o.block))

pub ended_part : (place new : SizedPlace) (bytes : List ℕ) (end : ℕ) → IsSizedPlace place → end ≡ feed_at bytes → new ≡ (sized_ended_at place (take end bytes)).1 → IsSizedPlace new
ended_part place new bytes end is feed moved =
    let h : is_unended (take end bytes) ≡ true = ap (λ n. is_unended (take n bytes)) feed ∙ unended_prefix bytes in
    subst IsSizedPlace (sym moved) (ended_place place.number place.opened (place.rest ++ take end bytes) (unended_append place.rest (take end bytes) is.unended h))

pub ended_counted_part : (place new : SizedPlace) (bytes : List ℕ) (end : ℕ) → new ≡ (sized_ended_at place (take end bytes)).1
    → new.number + length (bytes_held new) ≤ place.number + length (bytes_held place) + length (take end bytes) + 1
ended_counted_part place new bytes end moved =
    omega (
      arith,
      ap (λ (p : SizedPlace). p.number + length (bytes_held p)) moved,
      ended_counted place.number place.opened (place.rest ++ take end bytes),
      length-append (opened_bytes place.opened) (place.rest ++ take end bytes),
      length-append (opened_bytes place.opened) place.rest,
      length-append place.rest (take end bytes),
    )

-- the commands of a line that ends in these bytes, and of those after it
line_first : (at_end : Bool) (place : SizedPlace) (bytes more : List ℕ) → IsSizedPlace place → left_of place.opened ≡ 0 → feed_at bytes < length bytes
    → sized_commands_from at_end place (bytes ++ more)
    ≡ option_to_list (sized_ended_at place (take (feed_at bytes) bytes)).0 ++ sized_commands_from at_end (sized_ended_at place (take (feed_at bytes) bytes)).1 (drop (feed_at bytes + 1) bytes ++ more)
line_first at_end place bytes more is none within =
    let part = take (feed_at bytes) bytes in
    let suffix = drop (feed_at bytes + 1) bytes ++ more in
    let divided : bytes ++ more ≡ part ++ 10 ∷ suffix = ap (λ w. w ++ more) (at_feed bytes within) ∙ append_assoc part (10 ∷ drop (feed_at bytes + 1) bytes) more in
    let regrouped : (opened_bytes place.opened ++ place.rest) ++ (part ++ 10 ∷ suffix) ≡ opened_bytes place.opened ++ ((place.rest ++ part) ++ 10 ∷ suffix) =
    append_assoc (opened_bytes place.opened) place.rest (part ++ 10 ∷ suffix) ∙ ap (λ w. opened_bytes place.opened ++ w) (sym (append_assoc place.rest part (10 ∷ suffix))) in
    ap (sized_commands_from at_end place) divided
    ∙ (ap (sized_commands at_end place.number 0) regrouped
    ∙ line_ended at_end place.number place.opened (place.rest ++ part) suffix (unended_append place.rest part is.unended (unended_prefix bytes)) (behind_block place.rest [] place.opened is.block none) none)

-- the commands so far and those of what is left, after one more line
pub part_added : (at_end : Bool) (place new : SizedPlace) (bytes suffix more : List ℕ) (end : ℕ) (found after : List Command) (command : Option Command)
    → IsSizedPlace place → left_of place.opened ≡ 0 → end ≡ feed_at bytes → end < length bytes
    → command ≡ (sized_ended_at place (take end bytes)).0 → new ≡ (sized_ended_at place (take end bytes)).1 → suffix ≡ drop (end + 1) bytes → after ≡ found ++ option_to_list command
    → found ++ sized_commands_from at_end place (bytes ++ more) ≡ after ++ sized_commands_from at_end new (suffix ++ more)
part_added at_end place new bytes suffix more end found after command is none feed within says moved left added =
    let first : feed_at bytes < length bytes = omega (arith, feed, within) in
    let line : sized_commands_from at_end place (bytes ++ more) ≡ option_to_list (sized_ended_at place (take end bytes)).0 ++ sized_commands_from at_end (sized_ended_at place (take end bytes)).1 (drop (end + 1) bytes ++ more) =
    line_first at_end place bytes more is none first
    ∙ ap (λ n. option_to_list (sized_ended_at place (take n bytes)).0 ++ sized_commands_from at_end (sized_ended_at place (take n bytes)).1 (drop (n + 1) bytes ++ more)) (sym feed) in
    ap (λ w. found ++ w) (line
    ∙ (ap (λ o. option_to_list o ++ sized_commands_from at_end (sized_ended_at place (take end bytes)).1 (drop (end + 1) bytes ++ more)) (sym says)
    ∙ (ap (λ p. option_to_list command ++ sized_commands_from at_end p (drop (end + 1) bytes ++ more)) (sym moved)
    ∙ ap (λ b. option_to_list command ++ sized_commands_from at_end new (b ++ more)) (sym left))))
    ∙ (sym (append_assoc found (option_to_list command) (sized_commands_from at_end new (suffix ++ more)))
    ∙ ap (λ commands. commands ++ sized_commands_from at_end new (suffix ++ more)) (sym added))

-- the session's end, which ends a line too
pub end_counted : (place new : SizedPlace) → new ≡ (sized_ended_at place []).1 → new.number + length (bytes_held new) ≤ place.number + length (bytes_held place) + 1
end_counted place new moved = omega (arith, ended_counted_part place new [] 0 moved)
