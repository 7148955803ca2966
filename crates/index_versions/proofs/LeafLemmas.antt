-- A leaf that comes into a document or goes out of it, by its place and by its number.
use Rattle.std.proofs.Common.{◌≡◌, ℕ, ◌<◌, ◌+◌, zero, suc, true, false, ◌||◌, ◌==◌, cond, not, List, [], ◌∷◌, ◌++◌, length, map, take, drop, get_or, Option, Some, None, refl, ap, sym, ◌∙◌, arith, true≢false, inl, inr}
use Rattle.std.specs.Prelude.{filter, insert, remove}
use Rattle.std.proofs.lemmas.Bool.{and_parts, or_parts, or_cases, or_left, or_right, false_from_ne_true, eqb-true, eq-eqb, cond-true, cond-false}
use Rattle.std.proofs.lemmas.List.{length-map, take-append-drop}
use Rattle.std.proofs.lemmas.Grind.{flat_map-append}
use Rattle.ft_base.specs.declared.ids.LeafId.{LeafId}
use Rattle.ft_base.proofs.Truth.{or_swap}
use Rattle.index_document.specs.Terms as by_id
use Rattle.index_document.specs.Terms.{are_distinct, has}
use Rattle.index_document.proofs.TermLemmas.{has-append, has-at}
use Rattle.index_meaning.specs.Entries.{Entry}
use Rattle.index_meaning.specs.Documents.{Leaf, leaf_ids, leaves_with, put_after, leaf_words}
use Rattle.index_versions.specs.steps.Held.{word_of, leaf_under, place_after, place_following, ids_of_leaf}

-- ---- where a leaf is found, of which no other has the number

other_first : (x : ℕ) (ids : List ℕ) (n : ℕ) (y : ℕ) → are_distinct (y ∷ ids) ≡ true → n < length ids → get_or ids n 0 ≡ x → (y == x) ≡ false
other_first x ids n y distinct within is =
    let parts = and_parts (not (has y ids)) (are_distinct ids) distinct in
    false_from_ne_true (y == x) (λ same.
    let there : has y ids ≡ true = ap (λ k. has k ids) (eqb-true y x same ∙ sym is) ∙ has-at ids n within in
    true≢false (sym parts.0 ∙ ap not there))

pub place_found : (x : ℕ) (ids : List ℕ) (n : ℕ) → are_distinct ids ≡ true → n < length ids → get_or ids n 0 ≡ x → n + 1 ≡ place_after x ids
place_found x [] n distinct within is = absurd (omega arith)
place_found x (y ∷ ids) zero distinct within is = one ∙ sym (cond-true (y == x) 1 (suc (place_after x ids)) (eq-eqb y x is))
  where
    one : 0 + 1 ≡ 1
    one = omega arith
place_found x (y ∷ ids) (suc n) distinct within is =
    let rest = place_found x ids n (and_parts (not (has y ids)) (are_distinct ids) distinct).1 (omega arith) is in
    let next : suc n + 1 ≡ suc (n + 1) = omega arith in
    next ∙ ap suc rest ∙ sym (cond-false (y == x) 1 (suc (place_after x ids)) (other_first x ids n y distinct (omega arith) is))

-- ---- without it

abbrev without : ℕ → List by_id.Leaf → List by_id.Leaf
without x leaves = filter (λ (l : by_id.Leaf). not (l.id == x)) leaves

none_taken : (x : ℕ) (leaves : List by_id.Leaf) → has x (by_id.leaf_ids leaves) ≡ false → without x leaves ≡ leaves
none_taken x [] none = refl
none_taken x (l ∷ leaves) none =
    let parts = or_parts (l.id == x) (has x (by_id.leaf_ids leaves)) none in
    ap (λ b. cond (not b) (l ∷ without x leaves) (without x leaves)) parts.0 ∙ ap (λ ls. l ∷ ls) (none_taken x leaves parts.1)

pub taken : (x : ℕ) (leaves : List by_id.Leaf) (n : ℕ) → are_distinct (by_id.leaf_ids leaves) ≡ true → n < length leaves → get_or (by_id.leaf_ids leaves) n 0 ≡ x
    → remove leaves n ≡ without x leaves
taken x [] n distinct within is = absurd (omega arith)
taken x (l ∷ leaves) zero distinct within is =
    let parts = and_parts (not (has l.id (by_id.leaf_ids leaves))) (are_distinct (by_id.leaf_ids leaves)) distinct in
    let none : has x (by_id.leaf_ids leaves) ≡ false = false_from_ne_true (has x (by_id.leaf_ids leaves)) (λ there.
    true≢false (sym parts.0 ∙ ap not (ap (λ k. has k (by_id.leaf_ids leaves)) is ∙ there))) in
    sym (none_taken x leaves none) ∙ sym (ap (λ b. cond (not b) (l ∷ without x leaves) (without x leaves)) (eq-eqb l.id x is))
taken x (l ∷ leaves) (suc n) distinct within is =
    let ids = by_id.leaf_ids leaves in
    let parts = and_parts (not (has l.id ids)) (are_distinct ids) distinct in
    let size = length-map leaves (λ (k : by_id.Leaf). k.id) in
    let other = other_first x ids n l.id distinct (omega (arith, size)) is in
    ap (λ ls. l ∷ ls) (taken x leaves n parts.1 (omega arith) is) ∙ sym (ap (λ b. cond (not b) (l ∷ without x leaves) (without x leaves)) other)

pub taken_words : (x : ℕ) (leaves : List by_id.Leaf) (n : ℕ) → are_distinct (by_id.leaf_ids leaves) ≡ true → n < length leaves → get_or (by_id.leaf_ids leaves) n 0 ≡ x
    → get_or (by_id.leaf_words leaves) n [] ≡ ids_of_leaf x leaves
taken_words x [] n distinct within is = absurd (omega arith)
taken_words x (l ∷ leaves) zero distinct within is = sym (cond-true (l.id == x) l.words (ids_of_leaf x leaves) (eq-eqb l.id x is))
taken_words x (l ∷ leaves) (suc n) distinct within is =
    let ids = by_id.leaf_ids leaves in
    let parts = and_parts (not (has l.id ids)) (are_distinct ids) distinct in
    let size = length-map leaves (λ (k : by_id.Leaf). k.id) in
    taken_words x leaves n parts.1 (omega arith) is ∙ sym (cond-false (l.id == x) l.words (ids_of_leaf x leaves) (other_first x ids n l.id distinct (omega (arith, size)) is))

-- ---- what this means

pub ids_under_leaves : (given : List Entry) (leaves : List by_id.Leaf) → leaf_ids (map (leaf_under given) leaves) ≡ by_id.leaf_ids leaves
ids_under_leaves given [] = refl
ids_under_leaves given (l ∷ leaves) = ap (λ xs. l.id ∷ xs) (ids_under_leaves given leaves)

pub taken_under : (given : List Entry) (x : ℕ) (leaves : List by_id.Leaf) → map (leaf_under given) (without x leaves) ≡ filter (λ (l : Leaf). not (l.id == x)) (map (leaf_under given) leaves)
taken_under given x [] = refl
taken_under given x (l ∷ leaves) =
    elim (not (l.id == x)) as (λ b. map (leaf_under given) (cond b (l ∷ without x leaves) (without x leaves))
    ≡ cond b (leaf_under given l ∷ filter (λ (k : Leaf). not (k.id == x)) (map (leaf_under given) leaves)) (filter (λ (k : Leaf). not (k.id == x)) (map (leaf_under given) leaves))) [
      | true ↦ ap (λ ls. leaf_under given l ∷ ls) (taken_under given x leaves)
      | false ↦ taken_under given x leaves
    ]

pub words_under_leaf : (given : List Entry) (x : ℕ) (leaves : List by_id.Leaf) → leaf_words x (map (leaf_under given) leaves) ≡ map (word_of given) (ids_of_leaf x leaves)
words_under_leaf given x [] = refl
words_under_leaf given x (l ∷ leaves) =
    elim (l.id == x) as (λ b. cond b (map (word_of given) l.words) (leaf_words x (map (leaf_under given) leaves)) ≡ map (word_of given) (cond b l.words (ids_of_leaf x leaves))) [
      | true ↦ refl
      | false ↦ words_under_leaf given x leaves
    ]

map_insert : {A B : Type 0} (f : A → B) (xs : List A) (n : ℕ) (x : A) → map f (insert xs n x) ≡ insert (map f xs) n (f x)
map_insert f xs zero x = refl
map_insert f [] (suc n) x = refl
map_insert f (y ∷ xs) (suc n) x = ap (λ ys. f y ∷ ys) (map_insert f xs n x)

inserted_after : (after : ℕ) (new : Leaf) (leaves : List Leaf) → insert leaves (place_after after (leaf_ids leaves)) new ≡ put_after after new leaves
inserted_after after new [] = refl
inserted_after after new (l ∷ leaves) =
    elim (l.id == after) as (λ b. insert (l ∷ leaves) (cond b 1 (suc (place_after after (leaf_ids leaves)))) new ≡ cond b (l ∷ new ∷ leaves) (l ∷ put_after after new leaves)) [
      | true ↦ refl
      | false ↦ ap (λ ls. l ∷ ls) (inserted_after after new leaves)
    ]

pub inserted_with : (after : Option LeafId) (new : Leaf) (leaves : List Leaf) → insert leaves (place_following after (leaf_ids leaves)) new ≡ leaves_with after new leaves
inserted_with None new leaves = refl
inserted_with (Some after) new leaves = inserted_after after.0 new leaves

pub put_under : (given : List Entry) (after : Option LeafId) (new : by_id.Leaf) (leaves : List by_id.Leaf)
    → map (leaf_under given) (insert leaves (place_following after (by_id.leaf_ids leaves)) new) ≡ leaves_with after (leaf_under given new) (map (leaf_under given) leaves)
put_under given after new leaves =
    map_insert (leaf_under given) leaves (place_following after (by_id.leaf_ids leaves)) new
    ∙ ap (λ ids. insert (map (leaf_under given) leaves) (place_following after ids) (leaf_under given new)) (sym (ids_under_leaves given leaves))
    ∙ inserted_with after (leaf_under given new) (map (leaf_under given) leaves)

-- ---- which ids the document has then

pub has_inserted : (t : ℕ) (leaves : List by_id.Leaf) (at : ℕ) (new : by_id.Leaf) → has t (by_id.words_of (insert leaves at new)) ≡ (has t new.words || has t (by_id.words_of leaves))
has_inserted t leaves at new =
    let prefix = take at leaves in
    let back = drop at leaves in
    ap (has t) (flat_map-append (λ (l : by_id.Leaf). l.words) prefix (new ∷ back))
    ∙ has-append t (by_id.words_of prefix) (new.words ++ by_id.words_of back)
    ∙ ap (λ b. has t (by_id.words_of prefix) || b) (has-append t new.words (by_id.words_of back))
    ∙ or_swap (has t (by_id.words_of prefix)) (has t new.words) (has t (by_id.words_of back))
    ∙ ap (λ b. has t new.words || b) (sym (has-append t (by_id.words_of prefix) (by_id.words_of back)))
    ∙ ap (λ ls. has t new.words || has t ls) (sym (flat_map-append (λ (l : by_id.Leaf). l.words) prefix back))
    ∙ ap (λ ls. has t new.words || has t (by_id.words_of ls)) (take-append-drop at leaves)

pub has_taken : (t x : ℕ) (leaves : List by_id.Leaf) → has t (by_id.words_of (without x leaves)) ≡ true → has t (by_id.words_of leaves) ≡ true
has_taken t x [] there = there
has_taken t x (l ∷ leaves) there =
    has-append t l.words (by_id.words_of leaves)
    ∙ elim (not (l.id == x)) as (λ b. has t (by_id.words_of (cond b (l ∷ without x leaves) (without x leaves))) ≡ true → (has t l.words || has t (by_id.words_of leaves)) ≡ true) [
      | true ↦ λ h. elim (or_cases (has t l.words) (has t (by_id.words_of (without x leaves))) (sym (has-append t l.words (by_id.words_of (without x leaves))) ∙ h)) [
        | inl here ↦ or_left (has t l.words) (has t (by_id.words_of leaves)) here
        | inr further ↦ or_right (has t l.words) (has t (by_id.words_of leaves)) (has_taken t x leaves further)
      ]
      | false ↦ λ h. or_right (has t l.words) (has t (by_id.words_of leaves)) (has_taken t x leaves h)
    ] there
