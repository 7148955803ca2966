-- The parts of a line, and their ends.
use Rattle.std.proofs.Common.{◌≡◌, ◌∙◌, sym, ap, refl, ℕ, ◌<◌, ◌-◌, true, false, cond, List, [], ◌∷◌, ◌++◌, length, take, drop, Option, Some, None, Bor, arith, true≢false}
use Rattle.std.specs.Prelude.{MatchOption, is_some, nat_eq}
use Rattle.std.specs.List.{position_or_len, before_first, after_first, slice_split, ends_with}
use Rattle.std.specs.Cmp.Lexicographic.{bytes_decides}
use Rattle.std.proofs.lemmas.List.{take-append-drop}
use Rattle.std.proofs.lemmas.List.Sums.{fails_before_first}
use Rattle.std.proofs.lemmas.List.Splits.{slice_split_first, slice_split_none, length-slice_split}
use Rattle.ft_base.specs.Characters.{is_blank}
use Rattle.text_lines.specs.Lines.{trimmed_start, trimmed_end, trimmed_line}
use Rattle.text_lines.proofs.LineLemmas.{trimmed_end_other}
use Rattle.thesaurus_file.specs.Lines.{is_bar, three, trimmed}

-- ---- parts

pub parts_at_bar : (text : List ℕ) (parts : Option (Bor (List ℕ) × Bor (List ℕ)))
    → MatchOption parts (position_or_len is_bar text ≡ length text) (λ x. (position_or_len is_bar text < length text) × (x.0.now ≡ before_first is_bar text) × (x.1.now ≡ after_first is_bar text))
    → MatchOption parts (slice_split is_bar text ≡ text ∷ []) (λ x. slice_split is_bar text ≡ x.0.now ∷ slice_split is_bar x.1.now)
parts_at_bar text None h = slice_split_none is_bar text (λ k d below. fails_before_first is_bar text k d (omega arith))
parts_at_bar text (Some x) h = slice_split_first is_bar text 0 h.0 ∙ sym (λ i. h.1 i ∷ slice_split is_bar (h.2 i))

more_parts : (first second third : List ℕ) (rest : List (List ℕ)) → 0 < length rest → three (first ∷ second ∷ third ∷ rest) ≡ None
more_parts first second third [] h = absurd (omega arith)
more_parts first second third (next ∷ rest) h = refl

-- a bar in the third part makes a fourth
pub four_parts : (first second third : List ℕ) (parts : Option (Bor (List ℕ) × Bor (List ℕ)))
    → MatchOption parts (slice_split is_bar third ≡ third ∷ []) (λ x. slice_split is_bar third ≡ x.0.now ∷ slice_split is_bar x.1.now) → is_some parts ≡ true
    → three (first ∷ second ∷ slice_split is_bar third) ≡ None
four_parts first second third None h some = absurd (true≢false (sym some))
four_parts first second third (Some x) h some =
    ap (λ l. three (first ∷ second ∷ l)) h ∙ more_parts first second x.0.now (slice_split is_bar x.1.now) (omega (arith, length-slice_split is_bar x.1.now))

-- ---- ends

-- without blanks at its start a text has none there
pub start_trimmed : (text : List ℕ) → trimmed_start (trimmed_start text) ≡ trimmed_start text
start_trimmed [] = refl
start_trimmed (b ∷ bs) = elim (is_blank b) as (λ t. is_blank b ≡ t → trimmed_start (cond t (trimmed_start bs) (b ∷ bs)) ≡ cond t (trimmed_start bs) (b ∷ bs))
    [ true ↦ λ e. start_trimmed bs | false ↦ λ e. ap (λ t. cond t (trimmed_start bs) (b ∷ bs)) e ] refl

-- a carriage return is no blank
pub returned_end : (text : List ℕ) → ends_with nat_eq text (13 ∷ []) ≡ true → trimmed_end text ≡ text
returned_end text ends =
    let prefix = take (length text - 1) text in
    let cut : text ≡ prefix ++ 13 ∷ [] = sym (take-append-drop (length text - 1) text) ∙ ap (λ l. prefix ++ l) (sym ((bytes_decides (13 ∷ []) (drop (length text - 1) text)).0 ends)) in
    ap trimmed_end cut ∙ trimmed_end_other prefix 13 refl ∙ sym cut

-- without one a line says what is left without the blanks
pub other_end : (text rest : List ℕ) → rest ≡ trimmed_start text → ends_with nat_eq rest (13 ∷ []) ≡ false → trimmed_line rest ≡ trimmed text
other_end text rest is ends =
    ap (λ b. trimmed_end (trimmed_start (cond b (take (length rest - 1) rest) rest))) ends
    ∙ ap (λ l. trimmed_end (trimmed_start l)) is
    ∙ ap trimmed_end (start_trimmed text)
