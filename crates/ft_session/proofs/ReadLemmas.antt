-- A file that is read in pieces.
use Rattle.std.proofs.Common.{◌≡◌, ◌∙◌, sym, ap, ℕ, ◌+◌, ◌≤◌, List, ◌++◌, length, take, drop, length-append}
use Rattle.std.specs.Prelude.{Option, Some, None, IfSome}
use Rattle.std.proofs.Math.Seq.{take-add}
use Rattle.std.proofs.lemmas.List.{take-append-le, take-take, length-take-le}
use Rattle.ft_io.specs.Shelf.{Reads}
use Rattle.ft_session.specs.Run.{BeginsWith}

-- a piece that was read after the prefix of a file makes a longer prefix
pub prefix_grows : (bytes old buffer new : List ℕ) (at count : ℕ) → at ≡ length old → count ≤ length buffer
    → old ≡ take (length old) bytes → Reads bytes at count buffer → new ≡ old ++ take count buffer → new ≡ take (length new) bytes
prefix_grows bytes old buffer new at count place within prefix reads made =
    let long : length new ≡ length old + count =
    ap length made ∙ (length-append old (take count buffer) ∙ ap (λ n. length old + n) (length-take-le count buffer within)) in
    made ∙ (ap (λ p. old ++ p) (reads.read ∙ ap (λ n. take count (drop n bytes)) place)
    ∙ (ap (λ o. o ++ take count (drop (length old) bytes)) prefix
    ∙ (sym (take-add (length old) count bytes) ∙ ap (λ n. take n bytes) (sym long))))

-- the same, where the file may not be known
pub known_prefix_grows : (known : Option (List ℕ)) (old buffer new : List ℕ) (at count : ℕ) → at ≡ length old → count ≤ length buffer
    → IfSome known (λ bytes. Reads bytes at count buffer) → new ≡ old ++ take count buffer → BeginsWith known old → BeginsWith known new
known_prefix_grows None old buffer new at count place within reads made prefix = prefix
known_prefix_grows (Some bytes) old buffer new at count place within reads made prefix =
    prefix_grows bytes old buffer new at count place within prefix reads made

-- the prefix of a buffer that was put back into its vector
pub take_prefix : (count long : ℕ) (buffer rest : List ℕ) → count ≤ length buffer → count ≤ long → take count (take long (buffer ++ rest)) ≡ take count buffer
take_prefix count long buffer rest within fits = take-take count long (buffer ++ rest) fits ∙ take-append-le count buffer rest within
