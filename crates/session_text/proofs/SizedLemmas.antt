-- What belongs to a first line, and the commands of the bytes after it.
use Rattle.std.proofs.Common.{◌≡◌, ◌∙◌, ap, refl, ℕ, zero, suc, ◌+◌, ◌-◌, ◌<◌, ◌≤◌, Bool, true, false, not, cond, le-leb, List, [], ◌∷◌, ◌++◌, length, take, drop, arith}
use Rattle.std.specs.Prelude.{Option, nat_le}
use Rattle.std.specs.List.{position_or_len}
use Rattle.std.proofs.Math.Seq.{drop-append-add}
use Rattle.std.proofs.lemmas.List.{append-nil, take_at, take_all, drop_all}
use Rattle.std.proofs.lemmas.Bool.Decides.{nat_tests}
use Rattle.std.proofs.lemmas.Bool.{and_parts, not-true}
use Rattle.ft_base.specs.Characters.{is_line_feed}
use Rattle.session_text.specs.SizedBlocks.{after_first_line, block_size, first_line, number_after, said, said_first, said_size, size_behind, sized_commands}
use Rattle.session_text.specs.steps.PeriodReading.{is_unended}
use Rattle.session_text.specs.steps.SizedReading.{number_past}

-- ---- where a first line ends

feed_behind : (line rest : List ℕ) → is_unended line ≡ true → position_or_len is_line_feed (line ++ 10 ∷ rest) ≡ length line
feed_behind [] rest h = refl
feed_behind (byte ∷ line) rest h =
    ap (λ t. cond (not t) (1 + position_or_len is_line_feed (line ++ 10 ∷ rest)) 0) (not-true _ (and_parts _ _ h).0)
    ∙ (ap (λ n. 1 + n) (feed_behind line rest (and_parts _ _ h).1) ∙ (let next : 1 + length line ≡ suc (length line) = omega arith in next))

no_feed : (line : List ℕ) → is_unended line ≡ true → position_or_len is_line_feed line ≡ length line
no_feed [] h = refl
no_feed (byte ∷ line) h =
    ap (λ t. cond (not t) (1 + position_or_len is_line_feed line) 0) (not-true _ (and_parts _ _ h).0)
    ∙ (ap (λ n. 1 + n) (no_feed line (and_parts _ _ h).1) ∙ (let next : 1 + length line ≡ suc (length line) = omega arith in next))

pub first_line-is : (line rest : List ℕ) → is_unended line ≡ true → first_line (line ++ 10 ∷ rest) ≡ line
first_line-is line rest h = ap (λ n. take n (line ++ 10 ∷ rest)) (feed_behind line rest h) ∙ take_at line (10 ∷ rest) (length line) refl

pub after_first-is : (line rest : List ℕ) → is_unended line ≡ true → after_first_line (line ++ 10 ∷ rest) ≡ rest
after_first-is line rest h = ap (λ n. drop (n + 1) (line ++ 10 ∷ rest)) (feed_behind line rest h) ∙ drop-append-add line (10 ∷ rest) 1

pub first_line-all : (line : List ℕ) → is_unended line ≡ true → first_line line ≡ line
first_line-all line h = take_all (position_or_len is_line_feed line) line (omega (arith, no_feed line h))

pub after_first-none : (line : List ℕ) → is_unended line ≡ true → after_first_line line ≡ []
after_first-none line h = drop_all (position_or_len is_line_feed line + 1) line (omega (arith, no_feed line h))

-- ---- the numbers of lines

pub number_past-append : (number : ℕ) (xs ys : List ℕ) → number_past number (xs ++ ys) ≡ number_past (number_past number xs) ys
number_past-append number [] ys = refl
number_past-append number (x ∷ xs) ys = number_past-append (number_after number x) xs ys

number_past-unended : (number : ℕ) (line : List ℕ) → is_unended line ≡ true → number_past number line ≡ number
number_past-unended number [] h = refl
number_past-unended number (byte ∷ line) h =
    ap (λ t. number_past (cond t (number + 1) number) line) (not-true _ (and_parts _ _ h).0) ∙ number_past-unended number line (and_parts _ _ h).1

pub number_past-line : (number : ℕ) (line rest : List ℕ) → is_unended line ≡ true → number_past number (line ++ 10 ∷ rest) ≡ number_past (number + 1) rest
number_past-line number line rest h =
    number_past-append number line (10 ∷ rest) ∙ ap (λ n. number_past n (10 ∷ rest)) (number_past-unended number line h)

-- ---- what the first line says, and the commands after it

skipped : (at_end : Bool) (number passed : ℕ) (bytes : List ℕ) → sized_commands at_end number passed bytes ≡ sized_commands at_end (number_past number (take passed bytes)) 0 (drop passed bytes)
unfolding sized_commands
skipped at_end number zero bytes = refl
skipped at_end number (suc passed) [] = refl
skipped at_end number (suc passed) (byte ∷ bytes) = skipped at_end (number_after number byte) passed bytes

first_said : (at_end : Bool) (number size : ℕ) (bytes : List ℕ) → 0 < length bytes → said_size bytes ≡ size
    → sized_commands at_end number 0 bytes ≡ said_first at_end number bytes ++ sized_commands at_end (number_past number (take size bytes)) 0 (drop size bytes)
unfolding sized_commands
first_said at_end number size [] some is = absurd (omega (arith, some))
first_said at_end number size (byte ∷ bytes) some is =
    let rest : suc (said_size (byte ∷ bytes) - 1) ≡ size = omega (arith, is) in
    ap (λ w. said_first at_end number (byte ∷ bytes) ++ w)
    (skipped at_end (number_after number byte) (said_size (byte ∷ bytes) - 1) bytes
    ∙ ap (λ k. sized_commands at_end (number_past number (take k (byte ∷ bytes))) 0 (drop k (byte ∷ bytes))) rest)

-- bytes whose first line is known, and how many of them belong to what it says
pub record Fronts (bytes line rest : List ℕ) (block : Option ℕ) (size : ℕ) : Type 0 where
  pub some : 0 < length bytes
  pub first : first_line bytes ≡ line
  pub after : after_first_line bytes ≡ rest
  pub sized : block_size line ≡ block
  pub all : length line + 1 + size_behind block rest ≡ size

module _ (number : ℕ) (bytes line rest : List ℕ) (block : Option ℕ) (size : ℕ) (f : Fronts bytes line rest block size) where
  size_is : said_size bytes ≡ size
  size_is = (λ i. length (f.first i) + 1 + size_behind ((ap block_size f.first ∙ f.sized) i) (f.after i)) ∙ f.all

  said_is : said number (first_line bytes) (block_size (first_line bytes)) (after_first_line bytes) ≡ said number line block rest
  said_is = (λ i. said number (f.first i) ((ap block_size f.first ∙ f.sized) i) (f.after i))

  whole_said : (at_end : Bool) → size ≤ length bytes → said_first at_end number bytes ≡ said number line block rest
  whole_said at_end fits =
      let here : nat_le (said_size bytes) (length bytes) ≡ true = le-leb _ _ (omega (arith, size_is, fits)) in
      by at_end here ∙ said_is
    where
      by : (e : Bool) → nat_le (said_size bytes) (length bytes) ≡ true → said_first e number bytes ≡ said number (first_line bytes) (block_size (first_line bytes)) (after_first_line bytes)
      by true here = refl
      by false here = ap (λ t. cond t (said number (first_line bytes) (block_size (first_line bytes)) (after_first_line bytes)) []) here

  -- all that belongs to the first line is there
  pub spoken : (at_end : Bool) (past : ℕ) (suffix : List ℕ) → size ≤ length bytes → number_past number (take size bytes) ≡ past → drop size bytes ≡ suffix
      → sized_commands at_end number 0 bytes ≡ said number line block rest ++ sized_commands at_end past 0 suffix
  spoken at_end past suffix fits number_is left =
      first_said at_end number size bytes f.some size_is
      ∙ ((λ i. whole_said at_end fits i ++ sized_commands at_end (number_is i) 0 (left i)))

  -- the session ends in the first line, or in what belongs to it
  pub spoken_at_end : length bytes ≤ size → sized_commands true number 0 bytes ≡ said number line block rest
  unfolding sized_commands
  spoken_at_end ends =
      first_said true number size bytes f.some size_is
      ∙ (ap (λ w. said_first true number bytes ++ sized_commands true (number_past number (take size bytes)) 0 w) (drop_all size bytes ends)
      ∙ (append-nil (said_first true number bytes) ∙ said_is))

  -- nothing is whole where something is missing of what belongs to the first line
  pub not_whole : length bytes < size → sized_commands false number 0 bytes ≡ []
  unfolding sized_commands
  not_whole short =
      let missing : nat_le (said_size bytes) (length bytes) ≡ false = grind (arith, nat_tests, size_is, short) in
      first_said false number size bytes f.some size_is
      ∙ (λ i. cond (missing i) (said number (first_line bytes) (block_size (first_line bytes)) (after_first_line bytes)) [] ++ sized_commands false (number_past number (take size bytes)) 0 (drop_all size bytes (omega (arith, short)) i))

pub no_commands : (at_end : Bool) (number : ℕ) → sized_commands at_end number 0 [] ≡ []
unfolding sized_commands
no_commands at_end number = refl
