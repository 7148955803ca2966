-- The rows of a term where those of leaves that come to a place are put among them, and where those of a leaf are taken out.
use Rattle.std.proofs.Common.{◌≡◌, ℕ, ◌+◌, ◌<◌, ◌≤◌, suc, true, List, [], ◌++◌, length, get_or, take, drop, map, ap, sym, ◌∙◌, arith, append_assoc, length-append, length-drop}
use Rattle.std.specs.List.{list_any}
use Rattle.std.proofs.lemmas.List.{drop-drop}
use Rattle.ft_base.specs.Places.{is_ascending}
use Rattle.postings.specs.declared.row.Row.{Row}
use Rattle.shared_list.specs.Blocks.{joined}
use Rattle.index_document.specs.declared.entry.Entry.{Entry}
use Rattle.index_document.specs.Terms.{TermDocument, are_distinct, leaf_ids}
use Rattle.index_document.specs.Rows.{entries, entries_of, of_term, row_of, rows_of}
use Rattle.index_document.specs.steps.Groups.{group, grouped, prefix_entries, back_entries, entries_at, entries_with, entries_without}
use Rattle.index_document.specs.steps.Directory.{IsAround, is_before}
use Rattle.ft_base.proofs.PlacesLemmas.{ascending-drop}
use Rattle.index_document.proofs.EntryLemmas.{rows_of-append, split-entries, group-first, drop-prefix}
use Rattle.index_document.proofs.RunLemmas.{half_done, rest-is, next-run, run-done}
use Rattle.index_document.proofs.PrefixLemmas.{prefix-rows, back-rows}

abbrev pub all_rows : List Entry → ℕ → List Row
all_rows all term = rows_of term all

-- the next group of the entries, where those of the terms from a place on are left
module _ (ids : List ℕ) (k next : ℕ) (all : List Entry) (there : k < length ids) (up : is_ascending ids ≡ true) (left : drop next all ≡ grouped (drop k ids) all) where
  pub left-is : drop next all ≡ of_term (get_or ids k 0) all ++ grouped (drop (k + 1) ids) all
  left-is = left ∙ ap (λ ts. grouped ts all) (rest-is (λ t. []) (λ t. []) ids k there)

  pub group-is : group (get_or ids k 0) (drop next all) ≡ of_term (get_or ids k 0) all
  group-is =
      let rest = rest-is (λ t. []) (λ t. []) ids k there in
      ap (group (get_or ids k 0)) left-is ∙ group-first (get_or ids k 0) (drop (k + 1) ids) all (ap is_ascending (sym rest) ∙ ascending-drop k ids up)

  pub left-more : drop (next + length (group (get_or ids k 0) (drop next all))) all ≡ grouped (drop (k + 1) ids) all
  left-more =
      let count = length (group (get_or ids k 0) (drop next all)) in
      sym (drop-drop count next all)
      ∙ ap (λ n. drop n (drop next all)) (ap length group-is)
      ∙ ap (λ es. drop (length (of_term (get_or ids k 0) all)) es) left-is
      ∙ drop-prefix (of_term (get_or ids k 0) all) (grouped (drop (k + 1) ids) all)

  pub group-within : next ≤ length all → next + length (group (get_or ids k 0) (drop next all)) ≤ length all
  group-within within = omega (arith, length-drop next all, ap length left-is, length-append (of_term (get_or ids k 0) all) (grouped (drop (k + 1) ids) all), ap length group-is)

-- the rows of entries that are put between those of the leaves before a place and of the others
module _ (document : TermDocument) (at : ℕ) (new : List Entry) where
  pub old-rows : (t : ℕ) → rows_of t (entries_of document) ≡ rows_of t (prefix_entries document at) ++ rows_of t (back_entries document at)
  old-rows t = ap (rows_of t) (split-entries document.leaves at) ∙ rows_of-append t (prefix_entries document at) (back_entries document at)

  pub new-rows : (t : ℕ) → rows_of t (entries_with document at new) ≡ rows_of t (prefix_entries document at) ++ (rows_of t new ++ rows_of t (back_entries document at))
  new-rows t = rows_of-append t (prefix_entries document at) (new ++ back_entries document at)
      ∙ ap (λ rows. rows_of t (prefix_entries document at) ++ rows) (rows_of-append t new (back_entries document at))

  module _ (ids : List ℕ) (k : ℕ) (there : k < length ids) (rows : List Row)
      (are : rows ≡ half_done (all_rows (entries_with document at new)) (all_rows (entries_of document)) ids k) where
    abbrev before : List Row
    before = joined (map (all_rows (entries_with document at new)) (take k ids))

    abbrev suffix : List Row
    suffix = joined (map (all_rows (entries_of document)) (drop (k + 1) ids))

    abbrev prefix : List Row
    prefix = rows_of (get_or ids k 0) (prefix_entries document at)

    abbrev back : List Row
    back = rows_of (get_or ids k 0) (back_entries document at)

    pub put-run : (first end : ℕ) → at ≤ length document.leaves → are_distinct (leaf_ids document.leaves) ≡ true → first ≡ length before →
        end ≡ length before + length (rows_of (get_or ids k 0) (entries_of document)) →
        IsAround (leaf_ids document.leaves) at first end rows before prefix back suffix
    put-run first end within apart first_is end_is = record {
      rows_are = are ∙ next-run (all_rows (entries_with document at new)) (all_rows (entries_of document)) ids k there
          ∙ ap (λ rs. before ++ (rs ++ suffix)) (old-rows (get_or ids k 0)) ∙ ap (λ rs. before ++ rs) (append_assoc prefix back suffix);
      first_is = first_is;
      end_is = omega (arith, end_is, ap length (old-rows (get_or ids k 0)), length-append prefix back);
      rows_before = prefix-rows (get_or ids k 0) document.leaves at within;
      not_before = back-rows (get_or ids k 0) document.leaves at within apart;
    }

    pub put-done : (rows_new : List Row) → rows_new ≡ before ++ (prefix ++ (rows_of (get_or ids k 0) new ++ (back ++ suffix))) →
        rows_new ≡ half_done (all_rows (entries_with document at new)) (all_rows (entries_of document)) ids (k + 1)
    put-done rows_new is =
        let t = get_or ids k 0 in
        is ∙ ap (λ rs. before ++ (prefix ++ rs)) (sym (append_assoc (rows_of t new) back suffix))
        ∙ ap (λ rs. before ++ rs) (sym (append_assoc prefix (rows_of t new ++ back) suffix))
        ∙ ap (λ rs. before ++ (rs ++ suffix)) (sym (new-rows t))
        ∙ run-done (all_rows (entries_with document at new)) (all_rows (entries_of document)) ids k there

-- the rows of a leaf that are taken from between those of the others
module _ (document : TermDocument) (at : ℕ) (old : List Entry) (same : (t : ℕ) → of_term t old ≡ of_term t (entries_at document at)) where
  abbrev pub rest_entries : List Entry
  rest_entries = entries (drop (suc at) document.leaves)

  pub back-split : (t : ℕ) → rows_of t (back_entries document at) ≡ rows_of t old ++ rows_of t rest_entries
  back-split t =
      let n : at + 1 ≡ suc at = omega arith in
      ap (rows_of t) (split-entries (drop at document.leaves) 1 ∙ ap (λ ls. entries_at document at ++ entries ls) (drop-drop 1 at document.leaves ∙ ap (λ i. drop i document.leaves) n))
      ∙ rows_of-append t (entries_at document at) rest_entries
      ∙ ap (λ es. map row_of es ++ rows_of t rest_entries) (sym (same t))

  pub all-split : (t : ℕ) → rows_of t (entries_of document) ≡ rows_of t (prefix_entries document at) ++ (rows_of t old ++ rows_of t rest_entries)
  all-split t = old-rows document at [] t ∙ ap (λ rows. rows_of t (prefix_entries document at) ++ rows) (back-split t)

  pub rest-split : (t : ℕ) → rows_of t (entries_without document at) ≡ rows_of t (prefix_entries document at) ++ rows_of t rest_entries
  rest-split t = rows_of-append t (prefix_entries document at) rest_entries

  module _ (ids : List ℕ) (k : ℕ) (there : k < length ids) (rows : List Row)
      (are : rows ≡ half_done (all_rows (entries_without document at)) (all_rows (entries_of document)) ids k) where
    abbrev done : List Row
    done = joined (map (all_rows (entries_without document at)) (take k ids))

    abbrev left : List Row
    left = joined (map (all_rows (entries_of document)) (drop (k + 1) ids))

    abbrev prefix_run : List Row
    prefix_run = rows_of (get_or ids k 0) (prefix_entries document at)

    abbrev back_run : List Row
    back_run = rows_of (get_or ids k 0) rest_entries

    pub take-run : (first end : ℕ) → at ≤ length document.leaves → are_distinct (leaf_ids document.leaves) ≡ true → first ≡ length done →
        end ≡ length done + length (rows_of (get_or ids k 0) (entries_of document)) →
        IsAround (leaf_ids document.leaves) at first end rows done prefix_run (rows_of (get_or ids k 0) old ++ back_run) left
    take-run first end within apart first_is end_is =
        let t = get_or ids k 0 in
        record {
          rows_are = are ∙ next-run (all_rows (entries_without document at)) (all_rows (entries_of document)) ids k there
              ∙ ap (λ rs. done ++ (rs ++ left)) (all-split t) ∙ ap (λ rs. done ++ rs) (append_assoc prefix_run (rows_of t old ++ back_run) left);
          first_is = first_is;
          end_is = omega (arith, end_is, ap length (all-split t), length-append prefix_run (rows_of t old ++ back_run));
          rows_before = prefix-rows t document.leaves at within;
          not_before = ap (λ rs. list_any (is_before (leaf_ids document.leaves) at) rs) (sym (back-split t)) ∙ back-rows t document.leaves at within apart;
        }

    pub take-done : (rows_new : List Row) → rows_new ≡ done ++ (prefix_run ++ (back_run ++ left)) →
        rows_new ≡ half_done (all_rows (entries_without document at)) (all_rows (entries_of document)) ids (k + 1)
    take-done rows_new is =
        let t = get_or ids k 0 in
        is ∙ ap (λ rs. done ++ rs) (sym (append_assoc prefix_run back_run left))
        ∙ ap (λ rs. done ++ (rs ++ left)) (sym (rest-split t))
        ∙ run-done (all_rows (entries_without document at)) (all_rows (entries_of document)) ids k there
