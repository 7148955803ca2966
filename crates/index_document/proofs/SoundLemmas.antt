-- The index of a document where leaves came into it or a leaf went out of it.
use Rattle.std.proofs.Common.{◌≡◌, ℕ, ◌+◌, ◌<◌, suc, Bool, true, false, nat_lt, ◌&&◌, ◌||◌, List, [], ◌∷◌, ◌++◌, length, get_or, take, drop, map, filter, refl, ap, sym, subst, ◌∙◌, arith, append-nil, drop-cons, true≢false}
use Rattle.std.specs.List.Sorted.{IsNonDecreasingBy}
use Rattle.std.proofs.lemmas.Bool.{or_left, or_right}
use Rattle.std.proofs.lemmas.List.{length-map, map-append, drop-drop}
use Rattle.std.proofs.lemmas.List.Concat.{flat_map-append}
use Rattle.ft_base.specs.Places.{is_ascending}
use Rattle.postings.specs.declared.row.Row.{Row}
use Rattle.shared_list.specs.Blocks.{joined, starts_from}
use Rattle.index_document.specs.declared.entry.Entry.{Entry}
use Rattle.index_document.specs.Terms.{Leaf, TermDocument, document_of, with_leaf, without_leaf, has, terms_of, words_of}
use Rattle.index_document.specs.declared.parts.Parts.{Parts}
use Rattle.index_document.specs.Rows.{HasTerms, IsIndexed, IsSound, entries, entries_of, has_rows, leaf_entries, of_term, row_of, rows_of, runs_of}
use Rattle.index_document.specs.steps.Groups.{IsSortedFrom, back_entries, entries_at, entries_with, entries_without, prefix_entries, grouped, term_of}
use Rattle.index_document.proofs.TermLemmas.{has-append, are-terms}
use Rattle.index_document.proofs.EntryLemmas.{grouped-sorted, has-rows, of_term-append, split-entries, words-are, words-from}
use Rattle.index_document.proofs.WideningLemmas.{ascending-filter, has-filter}

-- an index is of the same entries in any order that keeps those of each term
runs-same : (a b : List Entry) (ids : List ℕ) → ((t : ℕ) → of_term t a ≡ of_term t b) → runs_of a ids ≡ runs_of b ids
runs-same a b [] same = refl
runs-same a b (t ∷ ids) same = ap (λ es. map row_of es ∷ runs_of a ids) (same t) ∙ ap (λ rs. rows_of t b ∷ rs) (runs-same a b ids same)

pub indexed-same : (a b : List Entry) (ids starts : List ℕ) (rows : List Row) → ((t : ℕ) → of_term t a ≡ of_term t b) → IsIndexed a ids starts rows → IsIndexed b ids starts rows
indexed-same a b ids starts rows same indexed = record {
  rows_are = indexed.rows_are ∙ ap joined (runs-same a b ids same);
  starts_are = indexed.starts_are ∙ ap (λ rs. starts_from 0 rs) (runs-same a b ids same);
}

pub terms-same : (a b : List Entry) (ids : List ℕ) → ((t : ℕ) → of_term t a ≡ of_term t b) → HasTerms a ids → HasTerms b ids
terms-same a b ids same terms = record {
  rising = terms.rising;
  members = λ t. terms.members t ∙ ap (λ es. nat_lt 0 (length es)) (same t);
}

has-terms : (t : ℕ) (a b : List Entry) → has_rows (a ++ b) t ≡ (has_rows a t || has_rows b t)
has-terms t a b =
    has-rows t (a ++ b) ∙ ap (has t) (map-append term_of a b) ∙ has-append t (map term_of a) (map term_of b)
    ∙ ap (λ z. z || has t (map term_of b)) (sym (has-rows t a)) ∙ ap (λ z. has_rows a t || z) (sym (has-rows t b))

or-turn : (a b c : Bool) → ((a || b) || c) ≡ (a || (c || b))
or-turn true b c = refl
or-turn false true true = refl
or-turn false true false = refl
or-turn false false true = refl
or-turn false false false = refl

-- the terms, where those of new entries were merged into them
pub with-terms : (document : TermDocument) (at : ℕ) (new : List Entry) (old_ids ids : List ℕ) → HasTerms (entries_of document) old_ids → is_ascending ids ≡ true →
    ((t : ℕ) → has t ids ≡ (has t old_ids || has t (map term_of new))) → HasTerms (entries_with document at new) ids
with-terms document at new old_ids ids old up members = record {
  rising = up;
  members = λ t.
      let prefix = prefix_entries document at in
      let back = back_entries document at in
      members t ∙ ap (λ z. z || has t (map term_of new)) (old.members t ∙ ap (λ es. has_rows es t) (split-entries document.leaves at) ∙ has-terms t prefix back)
      ∙ ap (λ z. (has_rows prefix t || has_rows back t) || z) (sym (has-rows t new)) ∙ or-turn (has_rows prefix t) (has_rows back t) (has_rows new t)
      ∙ ap (λ z. has_rows prefix t || z) (sym (has-terms t new back)) ∙ sym (has-terms t prefix (new ++ back));
}

pub new-grouped : (new : List Entry) (old_ids ids : List ℕ) → is_ascending ids ≡ true → IsNonDecreasingBy term_of new →
    ((t : ℕ) → has t ids ≡ (has t old_ids || has t (map term_of new))) → new ≡ grouped ids new
new-grouped new old_ids ids up order members =
    grouped-sorted ids new up order (λ t there. members t ∙ or_right (has t old_ids) (has t (map term_of new)) there)

-- all entries are those before a leaf, its own and those after it
pub three-parts : (document : TermDocument) (at : ℕ) → entries_of document ≡ prefix_entries document at ++ (entries_at document at ++ entries (drop (suc at) document.leaves))
three-parts document at =
    let n : at + 1 ≡ suc at = omega arith in
    split-entries document.leaves at
    ∙ ap (λ es. prefix_entries document at ++ es) (split-entries (drop at document.leaves) 1
    ∙ ap (λ ls. entries_at document at ++ entries ls) (drop-drop 1 at document.leaves ∙ ap (λ i. drop i document.leaves) n))

pub old-grouped : (document : TermDocument) (at : ℕ) (old : List Entry) (ids : List ℕ) → HasTerms (entries_of document) ids → IsSortedFrom (entries_at document at) old → old ≡ grouped ids old
old-grouped document at old ids terms sorted =
    grouped-sorted ids old terms.rising sorted.in_order (λ t there.
    let prefix = prefix_entries document at in
    let back = entries (drop (suc at) document.leaves) in
    let inside : has_rows (entries_at document at) t ≡ true = ap (λ es. nat_lt 0 (length es)) (sym (sorted.same t)) ∙ has-rows t old ∙ there in
    terms.members t ∙ ap (λ es. has_rows es t) (three-parts document at) ∙ has-terms t prefix (entries_at document at ++ back)
    ∙ or_right (has_rows prefix t) (has_rows (entries_at document at ++ back) t) (has-terms t (entries_at document at) back ∙ or_left (has_rows (entries_at document at) t) (has_rows back t) inside))

-- the entries with a new leaf's, in the order of the text or of their terms
pub with-same : (document : TermDocument) (at : ℕ) (l : Leaf) (new : List Entry) → IsSortedFrom (leaf_entries l) new →
    (t : ℕ) → of_term t (entries_with document at new) ≡ of_term t (entries_of (with_leaf document at l))
with-same document at l new sorted t =
    let prefix = prefix_entries document at in
    let back = back_entries document at in
    of_term-append t prefix (new ++ back) ∙ ap (λ es. of_term t prefix ++ es) (of_term-append t new back ∙ ap (λ es. es ++ of_term t back) (sorted.same t) ∙ sym (of_term-append t (leaf_entries l) back))
    ∙ sym (of_term-append t prefix (leaf_entries l ++ back))
    ∙ ap (of_term t) (sym (flat_map-append leaf_entries (take at document.leaves) (l ∷ drop at document.leaves)))

-- the same for all leaves of a document
pub all-same : (doc : ℕ) (leaves : List Leaf) (new : List Entry) → IsSortedFrom (entries leaves) new → (t : ℕ) → of_term t (entries_with (document_of doc []) 0 new) ≡ of_term t (entries leaves)
all-same doc leaves new sorted t = ap (of_term t) (append-nil new) ∙ sorted.same t

pub without-is : (document : TermDocument) (at : ℕ) → entries_without document at ≡ entries_of (without_leaf document at)
without-is document at = sym (flat_map-append leaf_entries (take at document.leaves) (drop (suc at) document.leaves))

and-true : (a b : Bool) → (b ≡ true → a ≡ true) → (a && b) ≡ b
and-true true b holds = refl
and-true false true holds = absurd (true≢false (sym (holds refl)))
and-true false false holds = refl

or-more : (a b c : Bool) → (a || c) ≡ true → (a || (b || c)) ≡ true
or-more true b c there = refl
or-more false true c there = refl
or-more false false c there = there

still-there : (document : TermDocument) (at t : ℕ) → has_rows (entries_without document at) t ≡ true → has_rows (entries_of document) t ≡ true
still-there document at t there =
    let prefix = prefix_entries document at in
    let leaf = entries_at document at in
    let back = entries (drop (suc at) document.leaves) in
    ap (λ es. has_rows es t) (three-parts document at) ∙ has-terms t prefix (leaf ++ back) ∙ ap (λ z. has_rows prefix t || z) (has-terms t leaf back)
    ∙ or-more (has_rows prefix t) (has_rows leaf t) (has_rows back t) (sym (has-terms t prefix back) ∙ there)

-- the terms without those that went with a leaf
pub without-terms : (document : TermDocument) (at : ℕ) (ids : List ℕ) → HasTerms (entries_of document) ids → HasTerms (entries_of (without_leaf document at)) (filter (has_rows (entries_of (without_leaf document at))) ids)
without-terms document at ids old = record {
  rising = ascending-filter (has_rows (entries_of (without_leaf document at))) ids old.rising;
  members = λ t.
      let rest = entries_of (without_leaf document at) in
      has-filter (has_rows rest) ids t ∙ and-true (has t ids) (has_rows rest t) (λ there. old.members t ∙ still-there document at t (ap (λ es. has_rows es t) (without-is document at) ∙ there));
}

pub leaf-count : (l : Leaf) → length (leaf_entries l) ≡ length l.words
leaf-count l = sym (length-map (leaf_entries l) term_of) ∙ ap length (words-from l.id 0 l.words)

pub all-count : (leaves : List Leaf) → length (entries leaves) ≡ length (words_of leaves)
all-count leaves = sym (length-map (entries leaves) term_of) ∙ ap length (words-are leaves)

pub ids-are-terms : (document : TermDocument) (ids : List ℕ) → HasTerms (entries_of document) ids → ids ≡ terms_of (words_of document.leaves)
ids-are-terms document ids terms = are-terms ids (words_of document.leaves) terms.rising (λ t. terms.members t ∙ has-rows t (entries_of document) ∙ ap (has t) (words-are document.leaves))

pub sound-from : (parts : Parts) (document : TermDocument) → parts.leaves ≡ document → IsIndexed (entries_of document) parts.ids.items parts.starts.items parts.rows → HasTerms (entries_of document) parts.ids.items → IsSound parts
sound-from parts document is indexed terms = record {
  indexed = subst (λ (d : TermDocument). IsIndexed (entries_of d) parts.ids.items parts.starts.items parts.rows) (sym is) indexed;
  terms = subst (λ (d : TermDocument). HasTerms (entries_of d) parts.ids.items) (sym is) terms;
}

pub sound-copy : (a b : Parts) → b.leaves ≡ a.leaves → b.ids.items ≡ a.ids.items → b.starts.items ≡ a.starts.items → b.rows ≡ a.rows → IsSound a → IsSound b
sound-copy a b leaves ids starts rows sound = sound-from b a.leaves leaves
    (record {
      rows_are = rows ∙ sound.indexed.rows_are ∙ ap (λ ts. joined (runs_of (entries_of a.leaves) ts)) (sym ids);
      starts_are = starts ∙ sound.indexed.starts_are ∙ ap (λ ts. starts_from 0 (runs_of (entries_of a.leaves) ts)) (sym ids);
    })
    (record {
      rising = ap is_ascending ids ∙ sound.terms.rising;
      members = λ t. ap (has t) ids ∙ sound.terms.members t;
    })

pub sound-empty : (parts : Parts) (doc : ℕ) → parts.leaves ≡ document_of doc [] → parts.ids.items ≡ [] → parts.starts.items ≡ [] → parts.rows ≡ [] → IsSound parts
sound-empty parts doc leaves ids starts rows = sound-from parts (document_of doc []) leaves
    (record {
      rows_are = rows ∙ ap (λ ts. joined (runs_of [] ts)) (sym ids);
      starts_are = starts ∙ ap (λ ts. starts_from 0 (runs_of [] ts)) (sym ids);
    })
    (record {
      rising = ap is_ascending ids;
      members = λ t. ap (has t) ids;
    })

pub leaf-length : (l : Leaf) (made new : List Entry) → made ≡ leaf_entries l → IsSortedFrom made new → length new ≡ length l.words
leaf-length l made new are sorted = sorted.same_length ∙ ap length are ∙ leaf-count l

-- the entries of the leaf at a place
pub entries-at : (document : TermDocument) (at : ℕ) (l : Leaf) → at < length document.leaves → l ≡ get_or document.leaves at l → leaf_entries l ≡ entries_at document at
entries-at document at l there read =
    sym (append-nil (leaf_entries l)) ∙ ap (λ ls. entries (take 1 ls)) (ap (λ x. x ∷ drop (suc at) document.leaves) read ∙ sym (drop-cons document.leaves at l there))
