-- What the documents of a version mean: which are there, which ids they use, and that what an id names decides alone.
use Rattle.std.proofs.Common.{◌≡◌, ℕ, ◌+◌, Bool, true, false, ◌||◌, ◌==◌, cond, List, [], ◌∷◌, ◌++◌, map, refl, ap, sym, ◌∙◌, arith}
use Rattle.std.specs.Prelude.{nat_lt}
use Rattle.std.specs.List.{flat_map}
use Rattle.std.proofs.lemmas.Bool.{or_parts, or_left, or_right, lt-ltb}
use Rattle.std.proofs.lemmas.List.{map-append}
use Rattle.std.proofs.lemmas.List.Sums.{sum_by-cons}
use Rattle.index_document.specs.Terms as by_id
use Rattle.index_document.specs.Terms.{has}
use Rattle.index_document.proofs.TermLemmas.{has-append, has-head}
use Rattle.index_meaning.specs.Entries.{Entry}
use Rattle.index_meaning.specs.Documents.{Leaf, Numbered, words_of, document_ids, has_document, document_at, document_of, no_document, numbered, leaf_of}
use Rattle.index_versions.specs.steps.Held.{Held, word_of, leaf_under, document_under, documents_under, numbers, held_ids, documents_with, held_at}

-- ---- which are there

pub ids_under : (given : List Entry) (hs : List Held) → document_ids (documents_under given hs) ≡ numbers hs
ids_under given [] = refl
ids_under given (h ∷ hs) = ap (λ xs. h.index.doc ∷ xs) (ids_under given hs)

pub has_under : (given : List Entry) (id : ℕ) (hs : List Held) → has_document id (documents_under given hs) ≡ has id (numbers hs)
has_under given id [] = refl
has_under given id (h ∷ hs) = ap (λ b. (h.index.doc == id) || b) (has_under given id hs)

pub at_under : (given : List Entry) (id : ℕ) (hs : List Held) → document_at id (documents_under given hs) ≡ document_under given (held_at id hs)
at_under given id [] = refl
at_under given id (h ∷ hs) =
    elim (h.index.doc == id) as (λ b. cond b (document_under given h) (document_at id (documents_under given hs)) ≡ document_under given (cond b h (held_at id hs))) [
      | true ↦ refl
      | false ↦ at_under given id hs
    ]

-- ---- their words, and the ids that they use

abbrev pub all_ids : List Held → List ℕ
all_ids hs = flat_map held_ids hs

leaves_under : (given : List Entry) (leaves : List by_id.Leaf) → flat_map (λ (leaf : Leaf). leaf.words) (map (leaf_under given) leaves) ≡ map (word_of given) (by_id.words_of leaves)
leaves_under given [] = refl
leaves_under given (leaf ∷ leaves) =
    ap (λ ws. map (word_of given) leaf.words ++ ws) (leaves_under given leaves) ∙ sym (map-append (word_of given) leaf.words (by_id.words_of leaves))

pub words_under : (given : List Entry) (h : Held) → words_of (document_under given h) ≡ map (word_of given) (held_ids h)
words_under given h = leaves_under given h.index.leaves

pub all_words_under : (given : List Entry) (hs : List Held) → flat_map (λ (d : Numbered). words_of d.document) (documents_under given hs) ≡ map (word_of given) (all_ids hs)
all_words_under given [] = refl
all_words_under given (h ∷ hs) =
    (λ i. words_under given h i ++ all_words_under given hs i) ∙ sym (map-append (word_of given) (held_ids h) (all_ids hs))

more : (b : Bool) (n : ℕ) → nat_lt 0 (cond b 1 0 + n) ≡ (b || nat_lt 0 n)
more true n = lt-ltb 0 (1 + n) (omega arith)
more false n = ap (nat_lt 0) zero_plus
  where
    zero_plus : 0 + n ≡ n
    zero_plus = omega arith

pub used_has : (id : ℕ) (hs : List Held) → nat_lt 0 (documents_with id hs) ≡ has id (all_ids hs)
used_has id [] = refl
used_has id (h ∷ hs) =
    ap (nat_lt 0) (sum_by-cons (λ (g : Held). cond (has id (held_ids g)) 1 0) h hs) ∙ more (has id (held_ids h)) (documents_with id hs) ∙ ap (λ b. has id (held_ids h) || b) (used_has id hs) ∙ sym (has-append id (held_ids h) (all_ids hs))

-- ---- what an id names decides

pub same_map : {T : Type 0} (f g : ℕ → T) (xs : List ℕ) → ((x : ℕ) → has x xs ≡ true → f x ≡ g x) → map f xs ≡ map g xs
same_map f g [] same = refl
same_map f g (x ∷ xs) same =
    λ i. same x (has-head x x xs refl) i ∷ same_map f g xs (λ y there. same y (or_right (x == y) (has y xs) there)) i

abbrev pub Agree : List Entry → List Entry → List ℕ → Type 0
Agree new old xs = (id : ℕ) → has id xs ≡ true → word_of new id ≡ word_of old id

agree_prefix : (new old : List Entry) (xs ys : List ℕ) → Agree new old (xs ++ ys) → Agree new old xs
agree_prefix new old xs ys same id there = same id (has-append id xs ys ∙ or_left (has id xs) (has id ys) there)

agree_back : (new old : List Entry) (xs ys : List ℕ) → Agree new old (xs ++ ys) → Agree new old ys
agree_back new old xs ys same id there = same id (has-append id xs ys ∙ or_right (has id xs) (has id ys) there)

pub same_leaves : (new old : List Entry) (leaves : List by_id.Leaf) → Agree new old (by_id.words_of leaves) → map (leaf_under new) leaves ≡ map (leaf_under old) leaves
same_leaves new old [] same = refl
same_leaves new old (leaf ∷ leaves) same =
    let first = same_map (word_of new) (word_of old) leaf.words (agree_prefix new old leaf.words (by_id.words_of leaves) same) in
    λ i. leaf_of leaf.id (first i) ∷ same_leaves new old leaves (agree_back new old leaf.words (by_id.words_of leaves) same) i

pub same_under : (new old : List Entry) (hs : List Held) → Agree new old (all_ids hs) → documents_under new hs ≡ documents_under old hs
same_under new old [] same = refl
same_under new old (h ∷ hs) same =
    let first = same_leaves new old h.index.leaves (agree_prefix new old (held_ids h) (all_ids hs) same) in
    λ i. numbered h.index.doc (document_of (first i) h.breaks) ∷ same_under new old hs (agree_back new old (held_ids h) (all_ids hs) same) i

-- the ids of one document are among those of all
pub used_at : (n id : ℕ) (hs : List Held) → has id (held_ids (held_at n hs)) ≡ true → has id (all_ids hs) ≡ true
used_at n id [] there = there
used_at n id (h ∷ hs) there =
    has-append id (held_ids h) (all_ids hs)
    ∙ elim (h.index.doc == n) as (λ b. has id (held_ids (cond b h (held_at n hs))) ≡ true → (has id (held_ids h) || has id (all_ids hs)) ≡ true) [
      | true ↦ λ here. or_left (has id (held_ids h)) (has id (all_ids hs)) here
      | false ↦ λ further. or_right (has id (held_ids h)) (has id (all_ids hs)) (used_at n id hs further)
    ] there

-- where no document has the number, nothing is in it
pub none_at : (n : ℕ) (ds : List Numbered) → has_document n ds ≡ false → document_at n ds ≡ no_document
none_at n [] h = refl
none_at n (d ∷ ds) h =
    let parts = or_parts (d.id == n) (has_document n ds) h in
    ap (λ b. cond b d.document (document_at n ds)) parts.0 ∙ none_at n ds parts.1
