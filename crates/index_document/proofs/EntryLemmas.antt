-- The entries of a document by term.
use Rattle.std.proofs.Common.{◌≡◌, ℕ, ◌+◌, ◌<◌, suc, true, false, nat_lt, ◌==◌, List, [], ◌∷◌, ◌++◌, length, get_or, take, drop, map, refl, ap, sym, ◌∙◌, arith, inl, inr, true≢false}
use Rattle.std.specs.List.{list_all}
use Rattle.std.specs.List.Sorted.{IsNonDecreasingBy}
use Rattle.std.proofs.lemmas.Bool.{and_parts, and_from, or_right, eqb-true, eq-eqb, ne_eqb, cases_eq, lt-ltb, cond-true, cond-false}
use Rattle.std.proofs.lemmas.List.{map-append, take-append-drop}
use Rattle.std.proofs.lemmas.List.Elements.{filter-append}
use Rattle.std.proofs.lemmas.List.Concat.{flat_map-append}
use Rattle.ft_base.specs.Places.{is_ascending}
use Rattle.index_document.specs.declared.entry.Entry.{Entry}
use Rattle.index_document.specs.Terms.{Leaf, has, words_of}
use Rattle.index_document.specs.Rows.{entries, entries_from, leaf_entries, has_rows, of_term, row_of, rows_of}
use Rattle.index_document.specs.steps.Groups.{term_of, group, grouped}
use Rattle.ft_base.proofs.PlacesLemmas.{rest-ascending}
use Rattle.index_document.proofs.TermLemmas.{has-head, has-other, first-below, not-in-rest}

pub of_term-append : (t : ℕ) (a b : List Entry) → of_term t (a ++ b) ≡ of_term t a ++ of_term t b
of_term-append t a b = filter-append (λ (e : Entry). e.term == t) a b

pub rows_of-append : (t : ℕ) (a b : List Entry) → rows_of t (a ++ b) ≡ rows_of t a ++ rows_of t b
rows_of-append t a b = ap (λ es. map row_of es) (of_term-append t a b) ∙ map-append row_of (of_term t a) (of_term t b)

pub of_term-here : (t : ℕ) (e : Entry) (es : List Entry) → e.term ≡ t → of_term t (e ∷ es) ≡ e ∷ of_term t es
of_term-here t e es same = cond-true (e.term == t) (e ∷ of_term t es) (of_term t es) (eq-eqb e.term t same)

pub of_term-other : (t : ℕ) (e : Entry) (es : List Entry) → (e.term ≡ t → ⊥) → of_term t (e ∷ es) ≡ of_term t es
of_term-other t e es other = cond-false (e.term == t) (e ∷ of_term t es) (of_term t es) (ne_eqb e.term t other)

-- a term has rows where it is one of the entries'
pub has-rows : (t : ℕ) (es : List Entry) → has_rows es t ≡ has t (map term_of es)
has-rows t [] = refl
has-rows t (e ∷ es) = elim (cases_eq e.term t) [
  | inl same ↦ ap (λ xs. nat_lt 0 (length xs)) (of_term-here t e es same) ∙ lt-ltb 0 (length (e ∷ of_term t es)) (omega arith) ∙ sym (has-head e.term t (map term_of es) same)
  | inr other ↦ ap (λ xs. nat_lt 0 (length xs)) (of_term-other t e es other) ∙ has-rows t es ∙ sym (has-other e.term t (map term_of es) other)
]

pub no-rows : (t : ℕ) (es : List Entry) → has_rows es t ≡ false → of_term t es ≡ []
no-rows t es fails = nothing (of_term t es) fails
  where
    nothing : (xs : List Entry) → nat_lt 0 (length xs) ≡ false → xs ≡ []
    nothing [] fails = refl
    nothing (x ∷ xs) fails = absurd (true≢false (sym (lt-ltb 0 (length (x ∷ xs)) (omega arith)) ∙ fails))

-- the terms of the entries are the words
pub words-from : (leaf offset : ℕ) (words : List ℕ) → map term_of (entries_from leaf offset words) ≡ words
words-from leaf offset [] = refl
words-from leaf offset (w ∷ words) = ap (λ ws. w ∷ ws) (words-from leaf (offset + 1) words)

pub words-are : (leaves : List Leaf) → map term_of (entries leaves) ≡ words_of leaves
words-are [] = refl
words-are (l ∷ leaves) =
    map-append term_of (leaf_entries l) (entries leaves)
    ∙ ap (λ ws. ws ++ map term_of (entries leaves)) (words-from l.id 0 l.words)
    ∙ ap (λ ws. l.words ++ ws) (words-are leaves)

pub split-entries : (leaves : List Leaf) (at : ℕ) → entries leaves ≡ entries (take at leaves) ++ entries (drop at leaves)
split-entries leaves at = ap (λ ls. entries ls) (sym (take-append-drop at leaves)) ∙ flat_map-append leaf_entries (take at leaves) (drop at leaves)

-- an entry before others that is of none of these terms
pub grouped-other : (ids : List ℕ) (e : Entry) (es : List Entry) → has e.term ids ≡ false → grouped ids (e ∷ es) ≡ grouped ids es
grouped-other [] e es fails = refl
grouped-other (u ∷ ids) e es fails =
    let other : (e.term ≡ u) → ⊥ = λ same. true≢false (sym (has-head u e.term ids (sym same)) ∙ fails) in
    ap (λ xs. xs ++ grouped ids (e ∷ es)) (of_term-other u e es other)
    ∙ ap (λ xs. of_term u es ++ xs) (grouped-other ids e es (sym (has-other u e.term ids (λ same. other (sym same))) ∙ fails))

-- an entry before others none of which is of a smaller term
pub grouped-first : (ids : List ℕ) (e : Entry) (es : List Entry) → is_ascending ids ≡ true → has e.term ids ≡ true →
    ((u : ℕ) → u < e.term → of_term u es ≡ []) → grouped ids (e ∷ es) ≡ e ∷ grouped ids es
grouped-first [] e es up there least = absurd (true≢false (sym there))
grouped-first (u ∷ ids) e es up there least = elim (cases_eq u e.term) [
  | inl same ↦ ap (λ xs. xs ++ grouped ids (e ∷ es)) (of_term-here u e es (sym same))
      ∙ ap (λ xs. e ∷ (of_term u es ++ xs)) (grouped-other ids e es (not-in-rest u e.term ids up (omega (arith, same))))
  | inr other ↦
      let further : has e.term ids ≡ true = sym (has-other u e.term ids other) ∙ there in
      let nothing = least u (first-below u ids up e.term further) in
      ap (λ xs. xs ++ grouped ids (e ∷ es)) (of_term-other u e es (λ same. other (sym same)) ∙ nothing)
      ∙ grouped-first ids e es (rest-ascending u ids up) further least
      ∙ ap (λ xs. e ∷ (xs ++ grouped ids es)) (sym nothing)
]

none-below : (u : ℕ) (d : Entry) (es : List Entry) → ((k : ℕ) → k < length es → u < (get_or es k d).term) → of_term u es ≡ []
none-below u d [] below = refl
none-below u d (e ∷ es) below =
    of_term-other u e es (λ same. omega (arith, below 0 (omega arith), same)) ∙ none-below u d es (λ k there. below (suc k) (omega (arith, there)))

grouped-nothing : (ids : List ℕ) → grouped ids [] ≡ []
grouped-nothing [] = refl
grouped-nothing (u ∷ ids) = grouped-nothing ids

-- entries in the order of their terms are grouped by them
pub grouped-sorted : (ids : List ℕ) (es : List Entry) → is_ascending ids ≡ true → IsNonDecreasingBy term_of es →
    ((t : ℕ) → has t (map term_of es) ≡ true → has t ids ≡ true) → es ≡ grouped ids es
grouped-sorted ids [] up order there = sym (grouped-nothing ids)
grouped-sorted ids (e ∷ es) up order there =
    let least : (u : ℕ) → u < e.term → of_term u es ≡ [] = λ u below. none-below u e es (λ k within. omega (arith, order 0 (suc k) e (omega arith) (omega (arith, within)), below)) in
    let rest : IsNonDecreasingBy term_of es = λ i j d le within. order (suc i) (suc j) d (omega (arith, le)) (omega (arith, within)) in
    ap (λ xs. e ∷ xs) (grouped-sorted ids es up rest (λ t is. there t (or_right (e.term == t) (has t (map term_of es)) is)))
    ∙ sym (grouped-first ids e es up (there e.term (has-head e.term e.term (map term_of es) refl)) least)

-- the entries of a term are its group where they come first
group-prefix : (t : ℕ) (es rest : List Entry) → list_all (λ (e : Entry). e.term == t) es ≡ true → group t rest ≡ [] → group t (es ++ rest) ≡ es
group-prefix t [] rest all none = none
group-prefix t (e ∷ es) rest all none =
    let parts = and_parts (e.term == t) (list_all (λ (e : Entry). e.term == t) es) all in
    cond-true (e.term == t) (e ∷ group t (es ++ rest)) [] parts.0 ∙ ap (λ xs. e ∷ xs) (group-prefix t es rest parts.1 none)

all-of_term : (t : ℕ) (es : List Entry) → list_all (λ (e : Entry). e.term == t) (of_term t es) ≡ true
all-of_term t [] = refl
all-of_term t (e ∷ es) = elim (cases_eq e.term t) [
  | inl same ↦ ap (λ xs. list_all (λ (e : Entry). e.term == t) xs) (of_term-here t e es same) ∙ and_from (e.term == t) (list_all (λ (e : Entry). e.term == t) (of_term t es)) (eq-eqb e.term t same) (all-of_term t es)
  | inr other ↦ ap (λ xs. list_all (λ (e : Entry). e.term == t) xs) (of_term-other t e es other) ∙ all-of_term t es
]

group-skip : (t u : ℕ) (es rest : List Entry) → (u ≡ t → ⊥) → list_all (λ (e : Entry). e.term == u) es ≡ true → group t rest ≡ [] → group t (es ++ rest) ≡ []
group-skip t u [] rest other all none = none
group-skip t u (e ∷ es) rest other all none =
    let parts = and_parts (e.term == u) (list_all (λ (e : Entry). e.term == u) es) all in
    cond-false (e.term == t) (e ∷ group t (es ++ rest)) [] (ne_eqb e.term t (λ same. other (omega (arith, eqb-true e.term u parts.0, same))))

group-none : (t : ℕ) (ids : List ℕ) (es : List Entry) → has t ids ≡ false → group t (grouped ids es) ≡ []
group-none t [] es fails = refl
group-none t (u ∷ ids) es fails =
    let other : (u ≡ t) → ⊥ = λ same. true≢false (sym (has-head u t ids same) ∙ fails) in
    group-skip t u (of_term u es) (grouped ids es) other (all-of_term u es) (group-none t ids es (sym (has-other u t ids other) ∙ fails))

-- the group at the front of grouped entries is the first term's
pub group-first : (t : ℕ) (ids : List ℕ) (es : List Entry) → is_ascending (t ∷ ids) ≡ true → group t (grouped (t ∷ ids) es) ≡ of_term t es
group-first t ids es up = group-prefix t (of_term t es) (grouped ids es) (all-of_term t es) (group-none t ids es (not-in-rest t t ids up (omega arith)))

pub drop-prefix : {T : Type 0} (a b : List T) → drop (length a) (a ++ b) ≡ b
drop-prefix [] b = refl
drop-prefix (x ∷ a) b = drop-prefix a b
