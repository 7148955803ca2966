-- Which rows are of leaves before a place.
use Rattle.std.proofs.Common.{◌≡◌, ℕ, ◌+◌, ◌<◌, ◌≤◌, suc, zero, Bool, true, false, not, nat_le, ◌==◌, List, [], ◌∷◌, ◌++◌, length, take, drop, map, refl, ap, sym, ◌∙◌, arith, inl, inr, true≢false}
use Rattle.std.specs.List.{list_all, list_any}
use Rattle.std.proofs.lemmas.Bool.{and_parts, and_from, or_from, or_right, eq-eqb, cases_eq, le-leb, lt-leb, not-true, or_parts}
use Rattle.std.proofs.lemmas.List.{take-append-drop, take-map, drop-map, length-map, length-take-le}
use Rattle.std.proofs.lemmas.List.Folds.{list_all-append, list_any-append}
use Rattle.postings.specs.declared.row.Row.{Row}
use Rattle.index_document.specs.declared.entry.Entry.{Entry}
use Rattle.index_document.specs.Terms.{Leaf, has, are_distinct, leaf_ids}
use Rattle.index_document.specs.Rows.{entries, entries_from, leaf_entries, row_of, rows_of}
use Rattle.index_document.specs.steps.Directory.{slot_of, next_slot, is_before}
use Rattle.index_document.proofs.TermLemmas.{has-append, has-head, has-other}
use Rattle.index_document.proofs.EntryLemmas.{of_term-here, of_term-other}
use Rattle.index_document.proofs.DirectoryLemmas.{slot-head, slot-other, slot-some, next-some}

-- a test of every row of entries is one of every row of a term
all-rows : (p : Row → Bool) (t : ℕ) (es : List Entry) → list_all (λ (e : Entry). p e.row) es ≡ true → list_all p (rows_of t es) ≡ true
all-rows p t [] all = refl
all-rows p t (e ∷ es) all =
    let parts = and_parts (p e.row) (list_all (λ (e : Entry). p e.row) es) all in
    elim (cases_eq e.term t) [
      | inl same ↦ ap (λ xs. list_all p (map row_of xs)) (of_term-here t e es same) ∙ and_from (p e.row) (list_all p (rows_of t es)) parts.0 (all-rows p t es parts.1)
      | inr other ↦ ap (λ xs. list_all p (map row_of xs)) (of_term-other t e es other) ∙ all-rows p t es parts.1
    ]

any-rows : (p : Row → Bool) (t : ℕ) (es : List Entry) → list_any (λ (e : Entry). p e.row) es ≡ false → list_any p (rows_of t es) ≡ false
any-rows p t [] none = refl
any-rows p t (e ∷ es) none =
    let parts = or_parts (p e.row) (list_any (λ (e : Entry). p e.row) es) none in
    elim (cases_eq e.term t) [
      | inl same ↦ ap (λ xs. list_any p (map row_of xs)) (of_term-here t e es same) ∙ or_from (p e.row) (list_any p (rows_of t es)) parts.0 (any-rows p t es parts.1)
      | inr other ↦ ap (λ xs. list_any p (map row_of xs)) (of_term-other t e es other) ∙ any-rows p t es parts.1
    ]

-- a test of leaves' numbers is one of their rows
all-words : (q : ℕ → Bool) (id offset : ℕ) (words : List ℕ) → q id ≡ true → list_all (λ (e : Entry). q e.row.leaf.0) (entries_from id offset words) ≡ true
all-words q id offset [] holds = refl
all-words q id offset (w ∷ words) holds = and_from (q id) (list_all (λ (e : Entry). q e.row.leaf.0) (entries_from id (offset + 1) words)) holds (all-words q id (offset + 1) words holds)

any-words : (q : ℕ → Bool) (id offset : ℕ) (words : List ℕ) → q id ≡ false → list_any (λ (e : Entry). q e.row.leaf.0) (entries_from id offset words) ≡ false
any-words q id offset [] fails = refl
any-words q id offset (w ∷ words) fails = or_from (q id) (list_any (λ (e : Entry). q e.row.leaf.0) (entries_from id (offset + 1) words)) fails (any-words q id (offset + 1) words fails)

all-entries : (q : ℕ → Bool) (leaves : List Leaf) → ((id : ℕ) → has id (leaf_ids leaves) ≡ true → q id ≡ true) → list_all (λ (e : Entry). q e.row.leaf.0) (entries leaves) ≡ true
all-entries q [] holds = refl
all-entries q (l ∷ leaves) holds =
    list_all-append (λ (e : Entry). q e.row.leaf.0) (leaf_entries l) (entries leaves)
    ∙ and_from (list_all (λ (e : Entry). q e.row.leaf.0) (leaf_entries l)) (list_all (λ (e : Entry). q e.row.leaf.0) (entries leaves))
    (all-words q l.id 0 l.words (holds l.id (has-head l.id l.id (leaf_ids leaves) refl)))
    (all-entries q leaves (λ id there. holds id (or_right (l.id == id) (has id (leaf_ids leaves)) there)))

any-entries : (q : ℕ → Bool) (leaves : List Leaf) → ((id : ℕ) → has id (leaf_ids leaves) ≡ true → q id ≡ false) → list_any (λ (e : Entry). q e.row.leaf.0) (entries leaves) ≡ false
any-entries q [] fails = refl
any-entries q (l ∷ leaves) fails =
    list_any-append (λ (e : Entry). q e.row.leaf.0) (leaf_entries l) (entries leaves)
    ∙ or_from (list_any (λ (e : Entry). q e.row.leaf.0) (leaf_entries l)) (list_any (λ (e : Entry). q e.row.leaf.0) (entries leaves))
    (any-words q l.id 0 l.words (fails l.id (has-head l.id l.id (leaf_ids leaves) refl)))
    (any-entries q leaves (λ id there. fails id (or_right (l.id == id) (has id (leaf_ids leaves)) there)))

next-most : (slot : ℕ) → next_slot slot ≤ slot + 1
next-most zero = omega arith
next-most (suc slot) = omega arith

-- at most so far stands a number of the prefix, and further one of the back that isn't in the prefix
slot-prefix : (a b : List ℕ) (id : ℕ) → has id a ≡ true → slot_of (a ++ b) id ≤ length a
slot-prefix [] b id there = absurd (true≢false (sym there))
slot-prefix (x ∷ a) b id there = elim (cases_eq x id) [
  | inl same ↦ omega (arith, slot-head x id (a ++ b) same)
  | inr other ↦ omega (arith, slot-other x id (a ++ b) other, next-most (slot_of (a ++ b) id), slot-prefix a b id (sym (has-other x id a other) ∙ there))
]

slot-back : (a b : List ℕ) (id : ℕ) → has id a ≡ false → has id b ≡ true → length a < slot_of (a ++ b) id
slot-back [] b id apart there = slot-some b id there
slot-back (x ∷ a) b id apart there =
    let parts = or_parts (x == id) (has id a) apart in
    let other : (x ≡ id) → ⊥ = λ same. true≢false (sym (eq-eqb x id same) ∙ parts.0) in
    let far = slot-back a b id parts.1 there in
    omega (arith, slot-other x id (a ++ b) other, next-some (slot_of (a ++ b) id) (omega (arith, far)), far)

pub apart-from : (a b : List ℕ) (id : ℕ) → are_distinct (a ++ b) ≡ true → has id b ≡ true → has id a ≡ false
apart-from [] b id apart there = refl
apart-from (x ∷ a) b id apart there =
    let parts = and_parts (not (has x (a ++ b))) (are_distinct (a ++ b)) apart in
    elim (cases_eq x id) [
      | inl same ↦ absurd (true≢false (sym (has-append x a b ∙ or_right (has x a) (has x b) (ap (λ z. has z b) same ∙ there)) ∙ not-true (has x (a ++ b)) parts.0))
      | inr other ↦ has-other x id a other ∙ apart-from a b id parts.1 there
    ]

pub ids-split : (leaves : List Leaf) (at : ℕ) → leaf_ids leaves ≡ leaf_ids (take at leaves) ++ leaf_ids (drop at leaves)
ids-split leaves at =
    sym (take-append-drop at (leaf_ids leaves))
    ∙ ap (λ xs. xs ++ drop at (leaf_ids leaves)) (take-map (λ (l : Leaf). l.id) at leaves)
    ∙ ap (λ xs. leaf_ids (take at leaves) ++ xs) (drop-map (λ (l : Leaf). l.id) at leaves)

-- the rows of a term in leaves before a place, and those in the others
pub prefix-rows : (t : ℕ) (leaves : List Leaf) (at : ℕ) → at ≤ length leaves →
    list_all (is_before (leaf_ids leaves) at) (rows_of t (entries (take at leaves))) ≡ true
prefix-rows t leaves at within =
    let ids = leaf_ids leaves in
    all-rows (is_before ids at) t (entries (take at leaves)) (all-entries (λ id. nat_le (slot_of ids id) at) (take at leaves) (λ id there.
    le-leb (slot_of ids id) at (omega (arith, ap (λ xs. slot_of xs id) (ids-split leaves at), slot-prefix (leaf_ids (take at leaves)) (leaf_ids (drop at leaves)) id there, length-map (take at leaves) (λ (l : Leaf). l.id), length-take-le at leaves within))))

pub back-rows : (t : ℕ) (leaves : List Leaf) (at : ℕ) → at ≤ length leaves → are_distinct (leaf_ids leaves) ≡ true →
    list_any (is_before (leaf_ids leaves) at) (rows_of t (entries (drop at leaves))) ≡ false
back-rows t leaves at within apart =
    let ids = leaf_ids leaves in
    let prefix = leaf_ids (take at leaves) in
    let back = leaf_ids (drop at leaves) in
    any-rows (is_before ids at) t (entries (drop at leaves)) (any-entries (λ id. nat_le (slot_of ids id) at) (drop at leaves) (λ id there.
    lt-leb (slot_of ids id) at (omega (arith, ap (λ xs. slot_of xs id) (ids-split leaves at), slot-back prefix back id (apart-from prefix back id (ap are_distinct (sym (ids-split leaves at)) ∙ apart) there) there, length-map (take at leaves) (λ (l : Leaf). l.id), length-take-le at leaves within))))
