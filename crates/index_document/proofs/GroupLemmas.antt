-- Rows that are put into a list and taken out of it one by one, as the parts of the list.
use Rattle.std.proofs.Common.{◌≡◌, ℕ, ◌+◌, ◌-◌, ◌<◌, ◌≤◌, suc, zero, true, false, List, [], ◌∷◌, ◌++◌, length, map, get_or, refl, ap, sym, ◌∙◌, arith, append_assoc, length-append, true≢false, inl, inr}
use Rattle.std.specs.Prelude.{insert, remove}
use Rattle.postings.specs.declared.row.Row.{Row}
use Rattle.std.proofs.lemmas.List.{length-map}
use Rattle.std.proofs.lemmas.List.Folds.{list_any_at, list_all_at}
use Rattle.std.proofs.lemmas.Bool.{true_from_ne_false, false_from_ne_true, cases_lt}
use Rattle.index_document.specs.declared.entry.Entry.{Entry}
use Rattle.index_document.specs.Rows.{row_of}
use Rattle.index_document.specs.steps.Groups.{with_rows, without_rows}
use Rattle.index_document.specs.steps.Directory.{IsAround, is_before}

-- an item put between two lists
pub insert-between : {T : Type 0} (a b : List T) (x : T) → insert (a ++ b) (length a) x ≡ a ++ (x ∷ b)
insert-between [] b x = refl
insert-between (y ∷ a) b x = ap (λ ys. y ∷ ys) (insert-between a b x)

-- an item taken from between two lists
pub remove-between : {T : Type 0} (a b : List T) (x : T) → remove (a ++ (x ∷ b)) (length a) ≡ a ++ b
remove-between [] b x = refl
remove-between (y ∷ a) b x = ap (λ ys. y ∷ ys) (remove-between a b x)

pub with_rows-between : (a b new : List Row) → with_rows (a ++ b) (length a) new ≡ a ++ (new ++ b)
with_rows-between a b [] = refl
with_rows-between a b (row ∷ rest) =
    let n : length a + 1 ≡ length (a ++ row ∷ []) = omega (arith, length-append a (row ∷ [])) in
    ap (λ rows. with_rows rows (length a + 1) rest) (insert-between a b row ∙ sym (append_assoc a (row ∷ []) b))
    ∙ ap (λ at. with_rows ((a ++ row ∷ []) ++ b) at rest) n
    ∙ with_rows-between (a ++ row ∷ []) b rest
    ∙ append_assoc a (row ∷ []) (rest ++ b)

pub without_rows-between : (a old b : List Row) → without_rows (a ++ (old ++ b)) (length a) (length old) ≡ a ++ b
without_rows-between a [] b = refl
without_rows-between a (row ∷ rest) b =
    ap (λ rows. without_rows rows (length a) (length rest)) (remove-between a (rest ++ b) row) ∙ without_rows-between a rest b

-- an item of the prefix, of the middle and of the back of three lists
pub read-prefix : {T : Type 0} (a b : List T) (k : ℕ) (d : T) → k < length a → get_or (a ++ b) k d ≡ get_or a k d
read-prefix [] b k d there = absurd (omega arith)
read-prefix (x ∷ a) b zero d there = refl
read-prefix (x ∷ a) b (suc k) d there = read-prefix a b k d (omega arith)

pub read-back : {T : Type 0} (a b : List T) (k : ℕ) (d : T) → get_or (a ++ b) (length a + k) d ≡ get_or b k d
read-back [] b k d = let n : 0 + k ≡ k = omega arith in ap (λ i. get_or b i d) n
read-back (x ∷ a) b k d = let n : suc (length a) + k ≡ suc (length a + k) = omega arith in ap (λ i. get_or (x ∷ (a ++ b)) i d) n ∙ read-back a b k d

module _ (ids : List ℕ) (at first end : ℕ) (rows before prefix back suffix : List Row) where
  -- the rows of a run before the place, and the others
  pub around-prefix : IsAround ids at first end rows before prefix back suffix → (k : ℕ) (d : Row) → length before ≤ k → k < length before + length prefix →
      is_before ids at (get_or rows k d) ≡ true
  around-prefix around k d from to =
      let n : length before + (k - length before) ≡ k = omega arith in
      let read : get_or rows k d ≡ get_or prefix (k - length before) d =
      ap (λ rs. get_or rs k d) around.rows_are ∙ ap (λ i. get_or (before ++ (prefix ++ (back ++ suffix))) i d) (sym n)
      ∙ read-back before (prefix ++ (back ++ suffix)) (k - length before) d ∙ read-prefix prefix (back ++ suffix) (k - length before) d (omega arith) in
      true_from_ne_false (is_before ids at (get_or rows k d)) (λ fails. true≢false (sym around.rows_before
      ∙ list_all_at (is_before ids at) prefix (k - length before) d (omega arith) (ap (is_before ids at) (sym read) ∙ fails)))

  pub around-back : IsAround ids at first end rows before prefix back suffix → (k : ℕ) (d : Row) → length before + length prefix ≤ k → k < length before + length prefix + length back →
      is_before ids at (get_or rows k d) ≡ false
  around-back around k d from to =
      let j = k - (length before + length prefix) in
      let n : length (before ++ prefix) + (k - (length before + length prefix)) ≡ k = omega (arith, length-append before prefix) in
      let read : get_or rows k d ≡ get_or back (k - (length before + length prefix)) d =
      ap (λ rs. get_or rs k d) (around.rows_are ∙ sym (append_assoc before prefix (back ++ suffix))) ∙ ap (λ i. get_or ((before ++ prefix) ++ (back ++ suffix)) i d) (sym n)
      ∙ read-back (before ++ prefix) (back ++ suffix) (k - (length before + length prefix)) d ∙ read-prefix back suffix (k - (length before + length prefix)) d (omega arith) in
      false_from_ne_true (is_before ids at (get_or rows k d)) (λ holds. true≢false (
      sym (list_any_at (is_before ids at) back (k - (length before + length prefix)) d (omega arith) (ap (is_before ids at) (sym read) ∙ holds)) ∙ around.not_before))

  -- which part of a run a row is in, by whether it is before the place
  pub prefix-there : IsAround ids at first end rows before prefix back suffix → (k : ℕ) (x : Row) → x ≡ get_or rows k x → is_before ids at x ≡ true →
      k < length before + length prefix + length back → k < length before + length prefix
  prefix-there around k x read holds to = elim (cases_lt k (length before + length prefix)) [
    | inl there ↦ there
    | inr further ↦ absurd (true≢false (sym holds ∙ ap (is_before ids at) read ∙ around-back around k x further to))
  ]

  pub back-there : IsAround ids at first end rows before prefix back suffix → (k : ℕ) (x : Row) → x ≡ get_or rows k x → is_before ids at x ≡ false →
      length before ≤ k → length before + length prefix ≤ k
  back-there around k x read fails from = elim (cases_lt k (length before + length prefix)) [
    | inl there ↦ absurd (true≢false (sym (around-prefix around k x from there) ∙ ap (is_before ids at) (sym read) ∙ fails))
    | inr further ↦ further
  ]

  pub put-around : (place : ℕ) (new : List Row) → IsAround ids at first end rows before prefix back suffix → place ≡ length before + length prefix →
      with_rows rows place new ≡ before ++ (prefix ++ (new ++ (back ++ suffix)))
  put-around place new around is =
      let n : place ≡ length (before ++ prefix) = omega (arith, length-append before prefix) in
      ap (λ rs. with_rows rs place new) (around.rows_are ∙ sym (append_assoc before prefix (back ++ suffix)))
      ∙ ap (λ i. with_rows ((before ++ prefix) ++ (back ++ suffix)) i new) n
      ∙ with_rows-between (before ++ prefix) (back ++ suffix) new
      ∙ append_assoc before prefix (new ++ (back ++ suffix))

pub take-around : (ids : List ℕ) (at first end : ℕ) (rows before prefix back suffix : List Row) (place : ℕ) (old : List Entry) →
    IsAround ids at first end rows before prefix (map row_of old ++ back) suffix → place ≡ length before + length prefix →
    without_rows rows place (length old) ≡ before ++ (prefix ++ (back ++ suffix))
take-around ids at first end rows before prefix back suffix place old around is =
    let n : place ≡ length (before ++ prefix) = omega (arith, length-append before prefix) in
    ap (λ rs. without_rows rs place (length old)) (around.rows_are ∙ sym (append_assoc before prefix ((map row_of old ++ back) ++ suffix)))
    ∙ ap (λ rs. without_rows ((before ++ prefix) ++ rs) place (length old)) (append_assoc (map row_of old) back suffix)
    ∙ ap (λ i. without_rows ((before ++ prefix) ++ (map row_of old ++ (back ++ suffix))) i (length old)) n
    ∙ ap (λ i. without_rows ((before ++ prefix) ++ (map row_of old ++ (back ++ suffix))) (length (before ++ prefix)) i) (sym (length-map old row_of))
    ∙ without_rows-between (before ++ prefix) (map row_of old) (back ++ suffix)
    ∙ append_assoc before prefix (back ++ suffix)
