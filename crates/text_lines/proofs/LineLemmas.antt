-- Lines and blanks, a byte at a time: what the loops that look for a line's end and for blanks have found so far.
use Rattle.std.proofs.Common.{◌≡◌, ◌∙◌, sym, ap, refl, ℕ, ◌+◌, ◌<◌, suc, true, false, not, cond, List, [], ◌∷◌, ◌++◌, length, take, drop, arith}
use Rattle.std.specs.List.{before_first, after_first, position_or_len, onto_first}
use Rattle.ft_base.specs.Characters.{is_blank, is_line_feed}
use Rattle.text_lines.specs.Lines.{lines, trimmed_end, before_trimmed}

-- a byte before what stands before and after a place
split_later : (b : ℕ) (bytes : List ℕ) (n : ℕ) → take (1 + n) (b ∷ bytes) ∷ lines (drop (1 + n + 1) (b ∷ bytes)) ≡ onto_first b (take n bytes ∷ lines (drop (n + 1) bytes))
split_later b bytes n =
    let e : 1 + n ≡ suc n = omega arith in
    let f : 1 + n + 1 ≡ suc (n + 1) = omega arith in
    ap (λ k. take k (b ∷ bytes) ∷ lines (drop (1 + n + 1) (b ∷ bytes))) e ∙ ap (λ k. take (suc n) (b ∷ bytes) ∷ lines (drop k (b ∷ bytes))) f

-- the first line ends at the first line feed
pub lines_first : (bytes : List ℕ) → 0 < length bytes → lines bytes ≡ before_first is_line_feed bytes ∷ lines (after_first is_line_feed bytes)
lines_first [] h = absurd (omega arith)
lines_first (b ∷ []) h = elim (is_line_feed b) as (λ t. cond t ([] ∷ []) (onto_first b []) ≡ take (cond (not t) 1 0) (b ∷ []) ∷ lines (drop (cond (not t) 1 0 + 1) (b ∷ []))) [ true ↦ refl | false ↦ refl ]
lines_first (b ∷ c ∷ cs) h =
    let first : lines (c ∷ cs) ≡ before_first is_line_feed (c ∷ cs) ∷ lines (after_first is_line_feed (c ∷ cs)) = lines_first (c ∷ cs) (omega arith) in
    let n = position_or_len is_line_feed (c ∷ cs) in
    elim (is_line_feed b) as (λ t. cond t ([] ∷ lines (c ∷ cs)) (onto_first b (lines (c ∷ cs))) ≡ take (cond (not t) (1 + n) 0) (b ∷ c ∷ cs) ∷ lines (drop (cond (not t) (1 + n) 0 + 1) (b ∷ c ∷ cs)))
    [ true ↦ refl | false ↦ ap (onto_first b) first ∙ sym (split_later b (c ∷ cs) n) ]

-- a blank at the end goes, and anything else there stays
pub trimmed_end_blank : (bytes : List ℕ) (b : ℕ) → is_blank b ≡ true → trimmed_end (bytes ++ b ∷ []) ≡ trimmed_end bytes
trimmed_end_blank [] b h = ap (λ t. cond t [] (b ∷ [])) h
trimmed_end_blank (x ∷ xs) b h = ap (before_trimmed x) (trimmed_end_blank xs b h)

pub trimmed_end_other : (bytes : List ℕ) (b : ℕ) → is_blank b ≡ false → trimmed_end (bytes ++ b ∷ []) ≡ bytes ++ b ∷ []
trimmed_end_other [] b h = ap (λ t. cond t [] (b ∷ [])) h
trimmed_end_other (x ∷ []) b h = ap (before_trimmed x) (trimmed_end_other [] b h)
trimmed_end_other (x ∷ y ∷ ys) b h = ap (before_trimmed x) (trimmed_end_other (y ∷ ys) b h)
