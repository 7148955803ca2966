-- The places of a term's rows in their document.
use Rattle.std.proofs.Common.{◌≡◌, ℕ, ◌+◌, ◌-◌, ◌<◌, ◌≤◌, suc, zero, true, false, ◌==◌, List, [], ◌∷◌, ◌++◌, length, get_or, take, drop, map, refl, ap, sym, ◌∙◌, arith, append-nil, append_assoc, length-append, length-drop, ◌^◌, inl, inr, true≢false}
use Rattle.std.proofs.lemmas.Bool.{or_right, cases_eq, cases_lt, eq-eqb, ne_eqb, cond-true, cond-false}
use Rattle.std.proofs.lemmas.List.{length-map, map-append, get_or-map, length-take-le, take-append-drop}
use Rattle.std.proofs.lemmas.List.Concat.{flat_map-append}
use Rattle.shared_list.specs.Blocks.{joined, start_of}
use Rattle.index_document.proofs.GroupLemmas.{read-prefix, read-back}
use Rattle.index_document.proofs.RunLemmas.{next-run, start-is}
use Rattle.index_document.proofs.PutLemmas.{all_rows}
use Rattle.index_document.proofs.StepLemmas.{run-end}
use Rattle.ft_base.specs.Places.{is_ascending}
use Rattle.postings.specs.declared.row.Row.{Row}
use Rattle.index_document.specs.Terms.{Leaf, TermDocument, has, are_distinct, leaf_ids, places_from, places_of, words_of}
use Rattle.index_document.specs.Rows.{HasTerms, IsIndexed, IsRunOf, runs_of, entries, entries_from, entries_of, leaf_entries, row_at, entry_at, row_of, rows_of}
use Rattle.index_document.specs.steps.Directory.{place_of, words_before}
use Rattle.index_document.proofs.TermLemmas.{has-head, has-other, ascending-cons, has-at}
use Rattle.index_document.proofs.EntryLemmas.{drop-prefix, no-rows, of_term-here, of_term-other, rows_of-append}
use Rattle.index_document.proofs.PrefixLemmas.{apart-from}

places-here : (t place w : ℕ) (ws : List ℕ) → w ≡ t → places_from t place (w ∷ ws) ≡ place ∷ places_from t (place + 1) ws
places-here t place w ws same = cond-true (w == t) (place ∷ places_from t (place + 1) ws) (places_from t (place + 1) ws) (eq-eqb w t same)

places-other : (t place w : ℕ) (ws : List ℕ) → (w ≡ t → ⊥) → places_from t place (w ∷ ws) ≡ places_from t (place + 1) ws
places-other t place w ws other = cond-false (w == t) (place ∷ places_from t (place + 1) ws) (places_from t (place + 1) ws) (ne_eqb w t other)

places-append : (t place : ℕ) (a b : List ℕ) → places_from t place (a ++ b) ≡ places_from t place a ++ places_from t (place + length a) b
places-append t place [] b = let n : place ≡ place + 0 = omega arith in ap (λ p. places_from t p b) n
places-append t place (w ∷ a) b =
    let n : place + 1 + length a ≡ place + length (w ∷ a) = omega arith in
    let rest : places_from t (place + 1) (a ++ b) ≡ places_from t (place + 1) a ++ places_from t (place + length (w ∷ a)) b =
    places-append t (place + 1) a b ∙ ap (λ p. places_from t (place + 1) a ++ places_from t p b) n in
    elim (cases_eq w t) [
      | inl same ↦ places-here t place w (a ++ b) same ∙ ap (λ ps. place ∷ ps) rest ∙ ap (λ ps. ps ++ places_from t (place + length (w ∷ a)) b) (sym (places-here t place w a same))
      | inr other ↦ places-other t place w (a ++ b) other ∙ rest ∙ ap (λ ps. ps ++ places_from t (place + length (w ∷ a)) b) (sym (places-other t place w a other))
    ]

-- the rows of one leaf, after so many words
leaf-places : (leaves : List Leaf) (id t before offset : ℕ) (ws : List ℕ) → words_before leaves id ≡ before →
    map (place_of leaves) (rows_of t (entries_from id offset ws)) ≡ places_from t (before + offset + 1) ws
leaf-places leaves id t before offset [] is = refl
leaf-places leaves id t before offset (w ∷ ws) is =
    let n : before + (offset + 1) + 1 ≡ before + offset + 1 + 1 = omega arith in
    let rest = leaf-places leaves id t before (offset + 1) ws is ∙ ap (λ p. places_from t p ws) n in
    elim (cases_eq w t) [
      | inl same ↦ ap (λ es. map (place_of leaves) (map row_of es)) (of_term-here t (entry_at id offset w) (entries_from id (offset + 1) ws) same)
          ∙ ap (λ p. (p + offset + 1) ∷ map (place_of leaves) (rows_of t (entries_from id (offset + 1) ws))) is
          ∙ ap (λ ps. (before + offset + 1) ∷ ps) rest ∙ sym (places-here t (before + offset + 1) w ws same)
      | inr other ↦ ap (λ es. map (place_of leaves) (map row_of es)) (of_term-other t (entry_at id offset w) (entries_from id (offset + 1) ws) other)
          ∙ rest ∙ sym (places-other t (before + offset + 1) w ws other)
    ]

before-suffix : (a : List Leaf) (l : Leaf) (b : List Leaf) → has l.id (leaf_ids a) ≡ false → words_before (a ++ l ∷ b) l.id ≡ length (words_of a)
before-suffix [] l b none = cond-true (l.id == l.id) 0 (length l.words + words_before b l.id) (eq-eqb l.id l.id refl)
before-suffix (x ∷ a) l b none =
    let other : (x.id ≡ l.id) → ⊥ = λ same. true≢false (sym (has-head x.id l.id (leaf_ids a) same) ∙ none) in
    cond-false (x.id == l.id) 0 (length x.words + words_before (a ++ l ∷ b) l.id) (ne_eqb x.id l.id other)
    ∙ ap (λ n. length x.words + n) (before-suffix a l b (sym (has-other x.id l.id (leaf_ids a) other) ∙ none)) ∙ sym (length-append x.words (words_of a))

words-append : (a b : List Leaf) → words_of (a ++ b) ≡ words_of a ++ words_of b
words-append [] b = refl
words-append (x ∷ a) b = ap (λ ws. x.words ++ ws) (words-append a b) ∙ sym (append_assoc x.words (words_of a) (words_of b))

-- the rows of the leaves after others
rest-places : (t : ℕ) (a b : List Leaf) → are_distinct (leaf_ids (a ++ b)) ≡ true → map (place_of (a ++ b)) (rows_of t (entries b)) ≡ places_from t (length (words_of a) + 1) (words_of b)
rest-places t a [] apart = refl
rest-places t a (l ∷ b) apart =
    let all = a ++ l ∷ b in
    let none : has l.id (leaf_ids a) ≡ false = apart-from (leaf_ids a) (l.id ∷ leaf_ids b) l.id (ap are_distinct (sym (map-append (λ (x : Leaf). x.id) a (l ∷ b))) ∙ apart) (has-head l.id l.id (leaf_ids b) refl) in
    let more : (a ++ l ∷ []) ++ b ≡ all = append_assoc a (l ∷ []) b in
    let n : length (words_of a) + 0 + 1 ≡ length (words_of a) + 1 = omega arith in
    let m : length (words_of (a ++ l ∷ [])) + 1 ≡ length (words_of a) + 1 + length l.words = omega (arith, ap length (words-append a (l ∷ [])), length-append (words_of a) (l.words ++ []), ap length (append-nil l.words)) in
    ap (map (place_of all)) (rows_of-append t (leaf_entries l) (entries b))
    ∙ map-append (place_of all) (rows_of t (leaf_entries l)) (rows_of t (entries b))
    ∙ ap (λ ps. ps ++ map (place_of all) (rows_of t (entries b))) (leaf-places all l.id t (length (words_of a)) 0 l.words (before-suffix a l b none) ∙ ap (λ p. places_from t p l.words) n)
    ∙ ap (λ ps. places_from t (length (words_of a) + 1) l.words ++ ps) (
    ap (λ ls. map (place_of ls) (rows_of t (entries b))) (sym more)
    ∙ rest-places t (a ++ l ∷ []) b (ap (λ ls. are_distinct (leaf_ids ls)) more ∙ apart) ∙ ap (λ p. places_from t p (words_of b)) m)
    ∙ sym (places-append t (length (words_of a) + 1) l.words (words_of b))

-- the places of a term's rows are those at which it stands
pub places-are : (document : TermDocument) (t : ℕ) → are_distinct (leaf_ids document.leaves) ≡ true → map (place_of document.leaves) (rows_of t (entries_of document)) ≡ places_of t document.leaves
places-are document t apart = rest-places t [] document.leaves apart

-- places ascend from the first on, and none is after the last word
above : (t place : ℕ) (ws : List ℕ) (p : ℕ) → has p (places_from t place ws) ≡ true → (place ≤ p) × (p < place + length ws)
above t place [] p there = absurd (true≢false (sym there))
above t place (w ∷ ws) p there = elim (cases_eq w t) [
  | inl same ↦ elim (cases_eq place p) [
    | inl is ↦ (omega (arith, is), omega (arith, is))
    | inr other ↦ let rest = above t (place + 1) ws p (sym (has-other place p (places_from t (place + 1) ws) other) ∙ ap (has p) (sym (places-here t place w ws same)) ∙ there) in
        (omega (arith, rest.0), omega (arith, rest.1))
  ]
  | inr apart ↦ let rest = above t (place + 1) ws p (ap (has p) (sym (places-other t place w ws apart)) ∙ there) in (omega (arith, rest.0), omega (arith, rest.1))
]

pub places-ascending : (t place : ℕ) (ws : List ℕ) → is_ascending (places_from t place ws) ≡ true
places-ascending t place [] = refl
places-ascending t place (w ∷ ws) = elim (cases_eq w t) [
  | inl same ↦ ap is_ascending (places-here t place w ws same)
      ∙ ascending-cons place (places_from t (place + 1) ws) (λ p there. omega (arith, (above t (place + 1) ws p there).0)) (places-ascending t (place + 1) ws)
  | inr other ↦ ap is_ascending (places-other t place w ws other) ∙ places-ascending t (place + 1) ws
]

pub place-within : (t : ℕ) (leaves : List Leaf) (k : ℕ) → k < length (places_of t leaves) → get_or (places_of t leaves) k 0 ≤ length (words_of leaves)
place-within t leaves k there = omega (arith, (above t 1 (words_of leaves) (get_or (places_of t leaves) k 0) (has-at (places_of t leaves) k there)).1)

first-row : (id offset : ℕ) (rest : List Row) (k : ℕ) (d : Row) → ((j : ℕ) → j < length rest → (get_or rest j d).leaf.0 ≡ id) → (rows : List Row) → rows ≡ row_at id offset ∷ rest →
    k < length rows → (get_or rows k d).leaf.0 ≡ id
first-row id offset rest zero d known rows is there = ap (λ rs. (get_or rs 0 d).leaf.0) is
first-row id offset rest (suc k) d known rows is there = ap (λ rs. (get_or rs (suc k) d).leaf.0) is ∙ known k (omega (arith, there, ap length is))

get-take : {T : Type 0} (n : ℕ) (xs : List T) (k : ℕ) (d : T) → k < n → get_or (take n xs) k d ≡ get_or xs k d
get-take zero xs k d below = absurd (omega arith)
get-take (suc n) [] k d below = refl
get-take (suc n) (x ∷ xs) zero d below = refl
get-take (suc n) (x ∷ xs) (suc k) d below = get-take n xs k d (omega (arith, below))

get-drop : {T : Type 0} (n : ℕ) (xs : List T) (k : ℕ) (d : T) → get_or (drop n xs) k d ≡ get_or xs (n + k) d
get-drop zero xs k d = let n : k ≡ 0 + k = omega arith in ap (λ i. get_or xs i d) n
get-drop (suc n) [] k d = refl
get-drop (suc n) (x ∷ xs) k d = let m : suc (n + k) ≡ suc n + k = omega arith in get-drop n xs k d ∙ ap (λ i. get_or (x ∷ xs) i d) m

take-prefix : {T : Type 0} (a b : List T) → take (length a) (a ++ b) ≡ a
take-prefix [] b = refl
take-prefix (x ∷ a) b = ap (λ xs. x ∷ xs) (take-prefix a b)

-- every row of a leaf is of it
row-leaf : (id t offset : ℕ) (ws : List ℕ) (k : ℕ) (d : Row) → k < length (rows_of t (entries_from id offset ws)) → (get_or (rows_of t (entries_from id offset ws)) k d).leaf.0 ≡ id
row-leaf id t offset [] k d there = absurd (omega arith)
row-leaf id t offset (w ∷ ws) k d there = elim (cases_eq w t) [
  | inl same ↦ first-row id offset (rows_of t (entries_from id (offset + 1) ws)) k d (λ j inside. row-leaf id t (offset + 1) ws j d inside)
      (rows_of t (entries_from id offset (w ∷ ws))) (ap (λ es. map row_of es) (of_term-here t (entry_at id offset w) (entries_from id (offset + 1) ws) same)) there
  | inr other ↦ let is = ap (λ es. map row_of es) (of_term-other t (entry_at id offset w) (entries_from id (offset + 1) ws) other) in
      ap (λ rs. (get_or rs k d).leaf.0) is ∙ row-leaf id t (offset + 1) ws k d (omega (arith, there, ap length is))
]

-- every row of leaves is of one of them
pub row-there : (t : ℕ) (leaves : List Leaf) (k : ℕ) (d : Row) → k < length (rows_of t (entries leaves)) → has ((get_or (rows_of t (entries leaves)) k d).leaf.0) (leaf_ids leaves) ≡ true
row-there t [] k d there = absurd (omega arith)
row-there t (l ∷ leaves) k d there =
    let prefix = rows_of t (leaf_entries l) in
    let back = rows_of t (entries leaves) in
    let is = rows_of-append t (leaf_entries l) (entries leaves) in
    elim (cases_lt k (length prefix)) [
      | inl inside ↦ ap (λ rs. has ((get_or rs k d).leaf.0) (leaf_ids (l ∷ leaves))) is
          ∙ ap (λ (r : Row). has (r.leaf.0) (leaf_ids (l ∷ leaves))) (read-prefix prefix back k d inside)
          ∙ ap (λ i. has i (leaf_ids (l ∷ leaves))) (row-leaf l.id t 0 l.words k d inside) ∙ has-head l.id l.id (leaf_ids leaves) refl
      | inr suffix ↦
          let n : length prefix + (k - length prefix) ≡ k = omega (arith, suffix) in
          let more : k - length prefix < length back = omega (arith, there, suffix, ap length is, length-append prefix back) in
          ap (λ rs. has ((get_or rs k d).leaf.0) (leaf_ids (l ∷ leaves))) is ∙ ap (λ i. has ((get_or (prefix ++ back) i d).leaf.0) (leaf_ids (l ∷ leaves))) (sym n)
          ∙ ap (λ (r : Row). has (r.leaf.0) (leaf_ids (l ∷ leaves))) (read-back prefix back (k - length prefix) d)
          ∙ or_right (l.id == (get_or back (k - length prefix) d).leaf.0) (has ((get_or back (k - length prefix) d).leaf.0) (leaf_ids leaves)) (row-there t leaves (k - length prefix) d more)
    ]

-- a run of rows, and what is read of it
module _ (document : TermDocument) (rows : List Row) (term first end : ℕ) (is : IsRunOf document rows term first end) where
  run-rows : end - first ≡ length (rows_of term (entries_of document))
  run-rows = omega (arith, is.order, is.within, length-drop first rows, length-take-le (end - first) (drop first rows) (omega (arith, is.order, is.within, length-drop first rows)), ap length is.run)

  pub run-length : end - first ≡ length (places_of term document.leaves)
  run-length = omega (arith, run-rows, ap length (places-are document term is.distinct), length-map (rows_of term (entries_of document)) (place_of document.leaves))

  module _ (number : ℕ) (row : Row) (there : number < length (places_of term document.leaves)) (read : row ≡ get_or rows (first + number) row) where
    run-row : row ≡ get_or (rows_of term (entries_of document)) number row
    run-row = read ∙ sym (get-drop first rows number row) ∙ sym (get-take (end - first) (drop first rows) number row (omega (arith, there, run-length))) ∙ ap (λ rs. get_or rs number row) is.run

    pub row-known : has (row.leaf.0) (leaf_ids document.leaves) ≡ true
    row-known = ap (λ (r : Row). has (r.leaf.0) (leaf_ids document.leaves)) run-row ∙ row-there term document.leaves number row (omega (arith, there, run-length, run-rows))

    pub row-place : place_of document.leaves row ≡ get_or (places_of term document.leaves) number 0
    row-place =
        ap (place_of document.leaves) run-row
        ∙ sym (get_or-map (place_of document.leaves) (rows_of term (entries_of document)) number row 0 (omega (arith, there, run-length, run-rows)))
        ∙ ap (λ ps. get_or ps number 0) (places-are document term is.distinct)

-- the run of a term that is there
pub run-found : (document : TermDocument) (rows : List Row) (ids starts : List ℕ) (term number first end : ℕ) → IsIndexed (entries_of document) ids starts rows →
    are_distinct (leaf_ids document.leaves) ≡ true → number < length ids → get_or ids number 0 ≡ term → first ≡ start_of (runs_of (entries_of document) ids) number →
    end ≡ start_of (runs_of (entries_of document) ids) (number + 1) → end < 2 ^ 64 → IsRunOf document rows term first end
run-found document rows ids starts term number first end indexed apart there term_is first_is end_is fits =
    let old = all_rows (entries_of document) in
    let before = joined (map old (take number ids)) in
    let suffix = joined (map old (drop (number + 1) ids)) in
    let run = rows_of term (entries_of document) in
    let at_first : first ≡ length before = first_is ∙ start-is old ids number in
    let at_end : end ≡ length before + length run = run-end (entries_of document) ids number end there end_is ∙ ap (λ t. length before + length (old t)) term_is in
    let parts : rows ≡ before ++ (run ++ suffix) =
    indexed.rows_are ∙ ap (λ ts. joined (map old ts)) (sym (take-append-drop number ids)) ∙ ap joined (map-append old (take number ids) (drop number ids))
    ∙ flat_map-append (λ (b : List Row). b) (map old (take number ids)) (map old (drop number ids)) ∙ next-run old old ids number there ∙ ap (λ t. before ++ (old t ++ suffix)) term_is in
    let count : end - first ≡ length run = omega (arith, at_first, at_end) in
    record {
      order = omega (arith, at_first, at_end);
      within = omega (arith, at_end, ap length parts, length-append before (run ++ suffix), length-append run suffix);
      fits = fits;
      run = ap (λ n. take n (drop first rows)) count ∙ ap (λ rs. take (length run) (drop first rs)) parts ∙ ap (λ n. take (length run) (drop n (before ++ (run ++ suffix)))) at_first
          ∙ ap (take (length run)) (drop-prefix before (run ++ suffix)) ∙ take-prefix run suffix;
      distinct = apart;
    }

pub run-none : (document : TermDocument) (rows : List Row) (ids : List ℕ) (term : ℕ) → HasTerms (entries_of document) ids → are_distinct (leaf_ids document.leaves) ≡ true → has term ids ≡ false →
    IsRunOf document rows term 0 0
run-none document rows ids term terms apart none = record {
  order = omega arith;
  within = omega arith;
  fits = omega arith;
  run = sym (ap (λ es. map row_of es) (no-rows term (entries_of document) (sym (terms.members term) ∙ none)));
  distinct = apart;
}
