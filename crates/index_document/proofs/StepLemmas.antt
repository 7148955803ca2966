-- The loops over the terms: how far the rows of entries are put among the others, and how far those of a leaf are taken out.
use Rattle.std.proofs.Common.{◌≡◌, ℕ, ◌+◌, ◌-◌, ◌<◌, ◌≤◌, true, List, [], ◌∷◌, ◌++◌, length, get_or, take, drop, map, refl, ap, sym, subst, ◌∙◌, arith, append-nil, length-append, length-drop}
use Rattle.std.proofs.lemmas.List.{length-map, take_all, drop_all}
use Rattle.ft_base.specs.Places.{is_ascending}
use Rattle.postings.specs.declared.row.Row.{Row}
use Rattle.shared_list.specs.Blocks.{joined, start_of, starts_from}
use Rattle.shared_list.proofs.StartLemmas.{same-length}
use Rattle.index_document.specs.declared.entry.Entry.{Entry}
use Rattle.index_document.specs.Terms.{TermDocument, are_distinct, leaf_ids}
use Rattle.index_document.specs.Rows.{IsIndexed, entries_of, of_term, row_of, rows_of, runs_of}
use Rattle.index_document.specs.steps.Groups.{group, grouped, prefix_entries, back_entries, entries_at, entries_with, entries_without}
use Rattle.index_document.specs.steps.Directory.{IsAround}
use Rattle.index_document.proofs.RunLemmas.{half_done, done-run, starts-more, start-is}
use Rattle.index_document.proofs.PutLemmas.{rest_entries, all_rows, group-is, left-more, group-within, old-rows, new-rows, put-run, put-done, all-split, rest-split, take-run, take-done}

pub starts-length : (all : List Entry) (ids starts : List ℕ) (rows : List Row) → IsIndexed all ids starts rows → length starts ≡ length ids
starts-length all ids starts rows indexed = omega (arith, same-length (runs_of all ids) starts indexed.starts_are, length-map ids (all_rows all))

-- a run of the terms that were there, from its start up to the next one
pub run-first : (all : List Entry) (ids : List ℕ) (k first : ℕ) → first ≡ start_of (runs_of all ids) k → first ≡ length (joined (map (all_rows all) (take k ids)))
run-first all ids k first is = is ∙ start-is (all_rows all) ids k

pub run-end : (all : List Entry) (ids : List ℕ) (k end : ℕ) → k < length ids → end ≡ start_of (runs_of all ids) (k + 1) →
    end ≡ length (joined (map (all_rows all) (take k ids))) + length (rows_of (get_or ids k 0) all)
run-end all ids k end there is =
    is ∙ start-is (all_rows all) ids (k + 1) ∙ ap length (done-run (all_rows all) (all_rows all) ids k there)
    ∙ length-append (joined (map (all_rows all) (take k ids))) (rows_of (get_or ids k 0) all)

-- So many terms are done, and so many entries: the rows of the terms that are done are as the second function gives them, and those of
-- the others as the first does; each entry makes the rows of its term one longer, or one shorter.
pub record IsHalfDone (old new longer shorter : ℕ → List Row) (all : List Entry) (ids : List ℕ) (k next : ℕ) (rows : List Row) (starts : List ℕ) : Type 0 where
  pub rows_are : rows ≡ half_done new old ids k
  pub starts_are : starts ≡ starts_from 0 (map new (take k ids))
  pub lengths : length (joined (map longer (take k ids))) ≡ length (joined (map shorter (take k ids))) + next
  pub left : drop next all ≡ grouped (drop k ids) all
  pub within : next ≤ length all

module _ {old new longer shorter : ℕ → List Row} {all : List Entry} {ids : List ℕ} where
  pub half-start : (rows : List Row) → rows ≡ joined (map old ids) → all ≡ grouped ids all → IsHalfDone old new longer shorter all ids 0 0 rows []
  half-start rows are groups = record {
    rows_are = are;
    starts_are = refl;
    lengths = refl;
    left = groups;
    within = omega arith;
  }

  module _ {k next : ℕ} {rows : List Row} {starts : List ℕ} (state : IsHalfDone old new longer shorter all ids k next rows starts) where
    pub half-all : length ids ≤ k → next ≡ length all
    half-all end = omega (arith, length-drop next all, ap length state.left, ap (λ ts. length (grouped ts all)) (drop_all k ids end), state.within)

    pub half-rows : length ids ≤ k → rows ≡ joined (map new ids)
    half-rows end = state.rows_are ∙ ap (λ ts. joined (map new ts) ++ joined (map old (drop k ids))) (take_all k ids end)
        ∙ ap (λ ts. joined (map new ids) ++ joined (map old ts)) (drop_all k ids end) ∙ append-nil (joined (map new ids))

    pub half-starts : length ids ≤ k → starts ≡ starts_from 0 (map new ids)
    half-starts end = state.starts_are ∙ ap (λ ts. starts_from 0 (map new ts)) (take_all k ids end)

    pub half-more : k < length ids → is_ascending ids ≡ true → (term first next_new : ℕ) (rows_new : List Row) → term ≡ get_or ids k 0 →
        first ≡ length (joined (map new (take k ids))) → next_new ≡ next + length (group term (drop next all)) →
        length (longer (get_or ids k 0)) ≡ length (shorter (get_or ids k 0)) + length (of_term (get_or ids k 0) all) → rows_new ≡ half_done new old ids (k + 1) →
        IsHalfDone old new longer shorter all ids (k + 1) next_new rows_new (starts ++ first ∷ [])
    half-more there up term first next_new rows_new term_is first_is next_is sum done =
        let t = get_or ids k 0 in
        let step : next_new ≡ next + length (group t (drop next all)) = next_is ∙ ap (λ u. next + length (group u (drop next all))) term_is in
        record {
          rows_are = done;
          starts_are = starts-more new old ids k there starts first state.starts_are first_is;
          lengths = omega (
            arith,
            ap length (done-run longer longer ids k there),
            length-append (joined (map longer (take k ids))) (longer t),
            ap length (done-run shorter shorter ids k there),
            length-append (joined (map shorter (take k ids))) (shorter t),
            ap length (group-is ids k next all there up state.left),
            sum,
            step,
            state.lengths,
          );
          left = ap (λ n. drop n all) step ∙ left-more ids k next all there up state.left;
          within = omega (arith, step, group-within ids k next all there up state.left state.within);
        }

-- the rows of entries come among the others
abbrev pub IsPutting : TermDocument → ℕ → List Entry → List ℕ → ℕ → ℕ → List Row → List ℕ → Type 0
IsPutting document at new ids k next rows starts =
    IsHalfDone (all_rows (entries_of document)) (all_rows (entries_with document at new)) (all_rows (entries_with document at new)) (all_rows (entries_of document)) new ids k next rows starts

module _ (document : TermDocument) (at : ℕ) (new : List Entry) (ids : List ℕ) (k next : ℕ) (rows : List Row) (starts : List ℕ)
    (state : IsPutting document at new ids k next rows starts) (there : k < length ids) (first end : ℕ)
    (first_is : first ≡ length (joined (map (all_rows (entries_of document)) (take k ids))) + next)
    (end_is : end ≡ length (joined (map (all_rows (entries_of document)) (take k ids))) + length (rows_of (get_or ids k 0) (entries_of document)) + next) where
  pub putting-more : is_ascending ids ≡ true → at ≤ length document.leaves → are_distinct (leaf_ids document.leaves) ≡ true →
      (seen : TermDocument) → seen ≡ document → (term : ℕ) → term ≡ get_or ids k 0 → (rows_new : List Row) (next_new : ℕ) →
      ((before prefix back suffix : List Row) → IsAround (leaf_ids seen.leaves) at first end rows before prefix back suffix →
      rows_new ≡ before ++ (prefix ++ (map row_of (group term (drop next new)) ++ (back ++ suffix)))) →
      next_new ≡ next + length (group term (drop next new)) →
      IsPutting document at new ids (k + 1) next_new rows_new (starts ++ first ∷ [])
  putting-more up place apart seen seen_is term term_is rows_new next_new call next_is =
      let t = get_or ids k 0 in
      let all = all_rows (entries_with document at new) in
      let old = all_rows (entries_of document) in
      let before = joined (map all (take k ids)) in
      let suffix = joined (map old (drop (k + 1) ids)) in
      let prefix = rows_of t (prefix_entries document at) in
      let back = rows_of t (back_entries document at) in
      let is_first : first ≡ length before = omega (arith, first_is, state.lengths) in
      let is_end : end ≡ length before + length (old t) = omega (arith, end_is, state.lengths) in
      let around = put-run document at new ids k there rows state.rows_are first end place apart is_first is_end in
      let groups : group term (drop next new) ≡ of_term t new = ap (λ u. group u (drop next new)) term_is ∙ group-is ids k next new there up state.left in
      let sum : length (all t) ≡ length (old t) + length (of_term t new) =
      omega (
        arith,
        ap length (new-rows document at new t),
        length-append prefix (rows_of t new ++ back),
        length-append (rows_of t new) back,
        ap length (old-rows document at new t),
        length-append prefix back,
        length-map (of_term t new) row_of,
      ) in
      half-more state there up term first next_new rows_new term_is is_first next_is sum
      (put-done document at new ids k there rows state.rows_are rows_new
      (call before prefix back suffix (subst (λ (d : TermDocument). IsAround (leaf_ids d.leaves) at first end rows before prefix back suffix) (sym seen_is) around)
      ∙ ap (λ es. before ++ (prefix ++ (map row_of es ++ (back ++ suffix)))) groups))

-- the rows of a leaf go from among the others
abbrev pub IsTaking : TermDocument → ℕ → List Entry → List ℕ → ℕ → ℕ → List Row → List ℕ → Type 0
IsTaking document at old ids k next rows starts =
    IsHalfDone (all_rows (entries_of document)) (all_rows (entries_without document at)) (all_rows (entries_of document)) (all_rows (entries_without document at)) old ids k next rows starts

module _ (document : TermDocument) (at : ℕ) (old : List Entry) (ids : List ℕ) (k next : ℕ) (rows : List Row) (starts : List ℕ)
    (state : IsTaking document at old ids k next rows starts) (there : k < length ids) (first end : ℕ)
    (first_is : first ≡ length (joined (map (all_rows (entries_of document)) (take k ids))) - next)
    (end_is : end ≡ length (joined (map (all_rows (entries_of document)) (take k ids))) + length (rows_of (get_or ids k 0) (entries_of document)) - next) where
  -- the rows of the next term, of which those of the leaf stand after those of leaves before it
  pub taking-around : is_ascending ids ≡ true → at < length document.leaves → are_distinct (leaf_ids document.leaves) ≡ true →
      (same : (t : ℕ) → of_term t old ≡ of_term t (entries_at document at)) →
      (seen : TermDocument) → seen ≡ document → (term : ℕ) → term ≡ get_or ids k 0 →
      IsAround (leaf_ids seen.leaves) at first end rows (joined (map (all_rows (entries_without document at)) (take k ids)))
      (rows_of (get_or ids k 0) (prefix_entries document at))
      (map row_of (group term (drop next old)) ++ rows_of (get_or ids k 0) (rest_entries document at old same))
      (joined (map (all_rows (entries_of document)) (drop (k + 1) ids)))
  taking-around up place apart same seen seen_is term term_is =
      let t = get_or ids k 0 in
      let all = all_rows (entries_of document) in
      let before = joined (map (all_rows (entries_without document at)) (take k ids)) in
      let suffix = joined (map all (drop (k + 1) ids)) in
      let prefix = rows_of t (prefix_entries document at) in
      let back = rows_of t (rest_entries document at old same) in
      let is_first : first ≡ length before = omega (arith, first_is, state.lengths) in
      let is_end : end ≡ length before + length (all t) = omega (arith, end_is, state.lengths) in
      let around = take-run document at old same ids k there rows state.rows_are first end (omega (arith, place)) apart is_first is_end in
      let groups : group term (drop next old) ≡ of_term t old = ap (λ u. group u (drop next old)) term_is ∙ group-is ids k next old there up state.left in
      let seen_around = subst (λ (d : TermDocument). IsAround (leaf_ids d.leaves) at first end rows before prefix (rows_of t old ++ back) suffix) (sym seen_is) around in
      subst (λ (es : List Entry). IsAround (leaf_ids seen.leaves) at first end rows before prefix (map row_of es ++ back) suffix) (sym groups) seen_around

  pub taking-more : is_ascending ids ≡ true → at < length document.leaves → are_distinct (leaf_ids document.leaves) ≡ true →
      ((t : ℕ) → of_term t old ≡ of_term t (entries_at document at)) →
      (seen : TermDocument) → seen ≡ document → (term : ℕ) → term ≡ get_or ids k 0 → (rows_new : List Row) (next_new : ℕ) →
      ((before prefix back suffix : List Row) → IsAround (leaf_ids seen.leaves) at first end rows before prefix (map row_of (group term (drop next old)) ++ back) suffix →
      rows_new ≡ before ++ (prefix ++ (back ++ suffix))) →
      next_new ≡ next + length (group term (drop next old)) →
      IsTaking document at old ids (k + 1) next_new rows_new (starts ++ first ∷ [])
  taking-more up place apart same seen seen_is term term_is rows_new next_new call next_is =
      let t = get_or ids k 0 in
      let rest = all_rows (entries_without document at) in
      let all = all_rows (entries_of document) in
      let before = joined (map rest (take k ids)) in
      let suffix = joined (map all (drop (k + 1) ids)) in
      let prefix = rows_of t (prefix_entries document at) in
      let back = rows_of t (rest_entries document at old same) in
      let is_first : first ≡ length before = omega (arith, first_is, state.lengths) in
      let sum : length (all t) ≡ length (rest t) + length (of_term t old) =
      omega (
        arith,
        ap length (all-split document at old same t),
        length-append prefix (rows_of t old ++ back),
        length-append (rows_of t old) back,
        ap length (rest-split document at old same t),
        length-append prefix back,
        length-map (of_term t old) row_of,
      ) in
      half-more state there up term first next_new rows_new term_is is_first next_is sum
      (take-done document at old same ids k there rows state.rows_are rows_new
      (call before prefix back suffix (taking-around up place apart same seen seen_is term term_is)))
