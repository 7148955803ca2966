-- Places: the bytes of the first characters.
use Rattle.std.proofs.Common.{◌≡◌, ℕ, ◌+◌, ◌-◌, ◌<◌, ◌≤◌, List, length, get_or, take, drop, ap, sym, ◌∙◌, arith, length-append, length-take, length-drop, drop-drop}
use Rattle.std.specs.Prelude.{encode_utf8, encode_utf8_all}
use Rattle.std.proofs.lemmas.List.{take-append-drop}
use Rattle.std.proofs.lemmas.Str.{encodes-append, length-encode, length-le-encodes}
use Rattle.std.specs.Char.{len_utf8}
use Rattle.ft_base.proofs.LetterLemmas.{encodes_more}
use Rattle.query_lexer.specs.Symbols.{bytes_of_first}

-- the bytes of the first characters and of the others
pub bytes_split : (m : ℕ) (letters : List ℕ) → bytes_of_first m letters + length (encode_utf8_all (drop m letters)) ≡ length (encode_utf8_all letters)
bytes_split m letters =
    sym (length-append (encode_utf8_all (take m letters)) (encode_utf8_all (drop m letters)))
    ∙ ap length (sym (encodes-append (take m letters) (drop m letters)))
    ∙ ap (λ xs. length (encode_utf8_all xs)) (take-append-drop m letters)

pub bytes_of_first-le : (m : ℕ) (letters : List ℕ) → bytes_of_first m letters ≤ length (encode_utf8_all letters)
bytes_of_first-le m letters = let all = bytes_split m letters in omega arith

-- the bytes of characters from a number on, and of those after them
pub left_after : (next size : ℕ) (letters : List ℕ) → bytes_of_first size (drop next letters) + length (encode_utf8_all (drop (next + size) letters)) ≡ length (encode_utf8_all (drop next letters))
left_after next size letters = ap (λ xs. bytes_of_first size (drop next letters) + length (encode_utf8_all xs)) (sym (drop-drop size next letters)) ∙ bytes_split size (drop next letters)

-- a character has a byte
pub one_left : (next : ℕ) (letters : List ℕ) → next < length letters → length (encode_utf8_all (drop (next + 1) letters)) + 1 ≤ length (encode_utf8_all (drop next letters))
one_left next letters h =
    let split = left_after next 1 letters in
    let some : length (take 1 (drop next letters)) ≤ bytes_of_first 1 (drop next letters) = length-le-encodes (take 1 (drop next letters)) in
    let one : 1 ≤ length (take 1 (drop next letters)) = simp (length-take, length-drop) (omega arith) in
    omega arith

-- the bytes of a slice
pub slice_bytes : (next size : ℕ) (letters : List ℕ) → length (encode_utf8_all (take ((next + size) - next) (drop next letters))) ≡ bytes_of_first size (drop next letters)
slice_bytes next size letters =
    let same : (next + size) - next ≡ size = omega arith in
    ap (λ n. bytes_of_first n (drop next letters)) same

-- the place after one more character
pub one_more : (letters : List ℕ) (i c : ℕ) → i < length letters → c ≡ get_or letters i c → bytes_of_first (i + 1) letters ≡ bytes_of_first i letters + len_utf8 c
one_more letters i c h is =
    ap length (encodes_more letters i c h is) ∙ length-append (encode_utf8_all (take i letters)) (encode_utf8 c) ∙ ap (λ n. bytes_of_first i letters + n) (length-encode c)
