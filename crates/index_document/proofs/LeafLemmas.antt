-- What is read of leaves, as the code reads it.
use Rattle.std.proofs.Common.{◌≡◌, ℕ, ◌+◌, ◌-◌, ◌<◌, ◌≤◌, suc, zero, true, false, not, Option, Some, None, List, [], ◌∷◌, length, get_or, take, refl, ap, sym, ◌∙◌, arith, inl, inr, true≢false}
use Rattle.std.specs.Option.{IfSome, IfNone, SomeIff}
use Rattle.std.proofs.lemmas.Bool.{and_parts, cases_Bool, cases_eq, cases_lt, not-true}
use Rattle.std.proofs.lemmas.List.{length-map, get_or-map}
use Rattle.index_document.specs.Terms.{Leaf, leaf_ids, has, are_distinct}
use Rattle.index_document.specs.steps.Directory.{slot_of}
use Rattle.index_document.proofs.TermLemmas.{has-at, has-other}
use Rattle.index_document.proofs.DirectoryLemmas.{slot-found, slot-there, slot-none, slot-zero, slot-some, slot-head, slot-other, next-some, words_at}

pub slot-most : (ids : List ℕ) (id : ℕ) → slot_of ids id ≤ length ids
slot-most ids id = elim (cases_Bool (has id ids)) [
  | inl there ↦ (slot-found ids id there).0
  | inr none ↦ omega (arith, slot-none ids id none)
]

pub slot-at : (ids : List ℕ) (at : ℕ) → at < length ids → are_distinct ids ≡ true → slot_of ids (get_or ids at 0) ≡ at + 1
slot-at [] at there apart = absurd (omega arith)
slot-at (x ∷ ids) zero there apart = slot-head x x ids refl
slot-at (x ∷ ids) (suc at) there apart =
    let parts = and_parts (not (has x ids)) (are_distinct ids) apart in
    let id = get_or ids at 0 in
    let inside = has-at ids at (omega (arith, there)) in
    let other : (x ≡ id) → ⊥ = λ same. true≢false (sym inside ∙ ap (λ z. has z ids) (sym same) ∙ not-true (has x ids) parts.0) in
    omega (arith, slot-other x id ids other, next-some (slot_of ids id) (slot-some ids id inside), slot-at ids at (omega (arith, there)) parts.1)

pub found-slot : (r : Option ℕ) (slot : ℕ) (leaves : List Leaf) (id : ℕ) → SomeIff r (1 ≤ slot) (slot - 1) → slot ≡ slot_of (leaf_ids leaves) id →
    IfSome r (λ number. (number < length leaves) × (get_or (leaf_ids leaves) number 0 ≡ id))
found-slot None slot leaves id is slot_is = tt
found-slot (Some n) slot leaves id is slot_is =
    let found = slot-found (leaf_ids leaves) id (slot-there (leaf_ids leaves) id (omega (arith, slot_is, is.0))) in
    let n_is : n ≡ slot_of (leaf_ids leaves) id - 1 = omega (arith, is.1, slot_is) in
    (omega (arith, n_is, found.0, is.0, slot_is, length-map leaves (λ (l : Leaf). l.id)), ap (λ k. get_or (leaf_ids leaves) k 0) n_is ∙ found.1)

pub found-none : (r : Option ℕ) (slot : ℕ) (leaves : List Leaf) (id : ℕ) → SomeIff r (1 ≤ slot) (slot - 1) → slot ≡ slot_of (leaf_ids leaves) id →
    IfNone r (has id (leaf_ids leaves) ≡ false)
found-none None slot leaves id is slot_is = slot-zero (leaf_ids leaves) id (none-is (slot_of (leaf_ids leaves) id) (λ some. is (omega (arith, some, slot_is))))
  where
    none-is : (n : ℕ) → (0 < n → ⊥) → n ≡ 0
    none-is zero no_more = refl
    none-is (suc n) no_more = absurd (no_more (omega arith))
found-none (Some n) slot leaves id is slot_is = tt

pub id-read : (leaves : List Leaf) (at : ℕ) (l : Leaf) → at < length leaves → l ≡ get_or leaves at l → l.id ≡ get_or (leaf_ids leaves) at 0
id-read leaves at l there read = ap (λ (x : Leaf). x.id) read ∙ sym (get_or-map (λ (x : Leaf). x.id) leaves at l 0 there)

pub words-read : (leaves : List Leaf) (at : ℕ) (l : Leaf) → at < length leaves → l ≡ get_or leaves at l → l.words ≡ words_at leaves at
words-read leaves at l there read = ap (λ (x : Leaf). x.words) read ∙ sym (get_or-map (λ (x : Leaf). x.words) leaves at l [] there)

pub has-id : (leaves : List Leaf) (at : ℕ) → at < length leaves → has (get_or (leaf_ids leaves) at 0) (leaf_ids leaves) ≡ true
has-id leaves at there = has-at (leaf_ids leaves) at (omega (arith, there, length-map leaves (λ (l : Leaf). l.id)))

-- the next of leaves with different numbers isn't one of those before it
pub next-apart : (leaves : List Leaf) (k : ℕ) (l : Leaf) → k < length leaves → l ≡ get_or leaves k l → are_distinct (leaf_ids leaves) ≡ true → has l.id (leaf_ids (take k leaves)) ≡ false
next-apart [] k l there read apart = absurd (omega arith)
next-apart (x ∷ leaves) zero l there read apart = refl
next-apart (x ∷ leaves) (suc k) l there read apart =
    let parts = and_parts (not (has x.id (leaf_ids leaves))) (are_distinct (leaf_ids leaves)) apart in
    let is = id-read leaves k l (omega (arith, there)) read in
    let inside : has l.id (leaf_ids leaves) ≡ true = ap (λ z. has z (leaf_ids leaves)) is ∙ has-id leaves k (omega (arith, there)) in
    let other : (x.id ≡ l.id) → ⊥ = λ same. true≢false (sym inside ∙ ap (λ z. has z (leaf_ids leaves)) (sym same) ∙ not-true (has x.id (leaf_ids leaves)) parts.0) in
    has-other x.id l.id (leaf_ids (take k leaves)) other ∙ next-apart leaves k l (omega (arith, there)) read parts.1

pub differs : (n m : ℕ) → n ≤ m → (n ≡ m → ⊥) → n < m
differs n m le other = elim (cases_eq n m) [
  | inl same ↦ absurd (other same)
  | inr apart ↦ less n m le apart
]
  where
    less : (n m : ℕ) → n ≤ m → (n ≡ m → ⊥) → n < m
    less n m le apart = elim (cases_lt n m) [ inl below ↦ below | inr above ↦ absurd (apart (omega (arith, le, above))) ]
