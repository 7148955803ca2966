-- The terms of a version: the entries of its dictionary are the words of its documents, each once, under its key, in order.
use Rattle.std.proofs.Common.{◌≡◌, ℕ, true, false, ◌||◌, ◌==◌, List, [], ◌∷◌, map, refl, ap, sym, ◌∙◌, true≢false, inl, inr}
use Rattle.std.specs.Prelude.{nat_lt}
use Rattle.std.specs.Ordering.{is_eq}
use Rattle.std.specs.declared.cmp.Ordering.TheVariants.{Less, Equal, Greater}
use Rattle.std.specs.Cmp.{both_ways}
use Rattle.std.proofs.Math.Bool.{or-false}
use Rattle.std.proofs.lemmas.Bool.{and_parts, or_cases, or_left, or_right, cases_Bool, eqb-true}
use Rattle.text_forms.specs.Forms.{key_of}
use Rattle.index_document.specs.Terms.{has}
use Rattle.index_document.proofs.TermLemmas.{has-head}
use Rattle.index_meaning.specs.Entries.{Entry, entry_cmp, has_entry, is_below, is_sorted, with_entry, with_entries}
use Rattle.index_meaning.specs.Dictionaries.{Term, entries, ids, are_given}
use Rattle.index_meaning.specs.Index.{term_of}
use Rattle.term_dict.proofs.OrderLemmas.{same_entry, below_less, turned_less}
use Rattle.term_dict.proofs.RankLemmas.{not_among}
use Rattle.term_dict.proofs.TermLemmas.{sorted_with}
use Rattle.index_versions.specs.Versions.{terms_of}
use Rattle.index_versions.specs.steps.Held.{Held, word_of, documents_under, documents_with}
use Rattle.index_versions.specs.steps.Naming.{are_keyed}
use Rattle.index_versions.proofs.DocumentLemmas.{all_ids, all_words_under, used_has}
use Rattle.index_versions.proofs.EntryLemmas.{equal_is, equal_same, id_there, there_id, id_live, id_names, word_is, keyed_at, names}
use Rattle.index_versions.proofs.NamingLemmas.{has_with_entries}

-- ---- entries in order are known by which they are

pub sorted_all : (new es : List Entry) → is_sorted es ≡ true → is_sorted (with_entries new es) ≡ true
sorted_all [] es sorted = sorted
sorted_all (e ∷ new) es sorted = sorted_all new (with_entry e es) (sorted_with e es sorted)

among_first : (e : Entry) (es : List Entry) → has_entry e (e ∷ es) ≡ true
among_first e es = or_left (is_eq (entry_cmp e e)) (has_entry e es) (equal_same e)

-- an entry before the first of entries in order is none of them
held_before : (e f : Entry) (es : List Entry) → entry_cmp e f ≡ Less → is_below f es ≡ true → has_entry e (f ∷ es) ≡ false
held_before e f es less below =
    (λ i. is_eq (less i) || not_among e es (below_less e f es less below) i)

pub same_sorted : (xs ys : List Entry) → is_sorted xs ≡ true → is_sorted ys ≡ true → ((e : Entry) → has_entry e xs ≡ has_entry e ys) → xs ≡ ys
same_sorted [] [] first second same = refl
same_sorted [] (y ∷ ys) first second same = absurd (true≢false (sym (same y ∙ among_first y ys)))
same_sorted (x ∷ xs) [] first second same = absurd (true≢false (sym (among_first x xs) ∙ same x))
same_sorted (x ∷ xs) (y ∷ ys) first second same =
    let left = and_parts (is_below x xs) (is_sorted xs) first in
    let right = and_parts (is_below y ys) (is_sorted ys) second in
    elim (entry_cmp x y) as (λ o. entry_cmp x y ≡ o → x ∷ xs ≡ y ∷ ys) [
      | Less ↦ λ is. absurd (true≢false (sym (among_first x xs) ∙ same x ∙ held_before x y ys is right.0))
      | Equal ↦ λ is.
          let heads : x ≡ y = same_entry x y is in
          λ i. heads i ∷ same_sorted xs ys left.1 right.1 (rests x y xs ys heads left.0 right.0 same) i
      | Greater ↦ λ is. absurd (true≢false (sym (among_first y ys) ∙ sym (same y) ∙ held_before y x xs (turned_less x y is) left.0))
    ] refl
  where
    rests : (x y : Entry) (xs ys : List Entry) → x ≡ y → is_below x xs ≡ true → is_below y ys ≡ true → ((e : Entry) → has_entry e (x ∷ xs) ≡ has_entry e (y ∷ ys))
        → (e : Entry) → has_entry e xs ≡ has_entry e ys
    rests x y xs ys heads below₁ below₂ same e = elim (cases_Bool (is_eq (entry_cmp e x))) [
      | inl here ↦
          let own : e ≡ x = equal_is e x here in
          ap (λ (f : Entry). has_entry f xs) own
          ∙ not_among x xs below₁
          ∙ sym (not_among y ys below₂)
          ∙ ap (λ (f : Entry). has_entry f ys) (sym (own ∙ heads))
      | inr other ↦
          sym (ap (λ b. b || has_entry e xs) other)
          ∙ same e
          ∙ ap (λ b. b || has_entry e ys) (ap (λ (f : Entry). is_eq (entry_cmp e f)) (sym heads) ∙ other)
    ]

-- ---- the words of ids as entries

abbrev pub named_entries : List Entry → List ℕ → List Entry
named_entries given ns = map (term_of key_of) (map (word_of given) ns)

-- an id of these whose word's entry it is
record HasId (given : List Entry) (e : Entry) (ns : List ℕ) : Type 0 where
  id : ℕ
  there : has id ns ≡ true
  is : e ≡ term_of key_of (word_of given id)

entry_id : (given : List Entry) (e : Entry) (ns : List ℕ) → has_entry e (named_entries given ns) ≡ true → HasId given e ns
entry_id given e [] among = absurd (true≢false (sym among))
entry_id given e (n ∷ ns) among =
    elim (or_cases (is_eq (entry_cmp e (term_of key_of (word_of given n)))) (has_entry e (named_entries given ns)) among) [
      | inl here ↦ record { id = n; there = has-head n n ns refl; is = equal_is e (term_of key_of (word_of given n)) here }
      | inr further ↦
          let found = entry_id given e ns further in
          record { id = found.id; there = or_right (n == found.id) (has found.id ns) found.there; is = found.is }
    ]

id_entry : (given : List Entry) (id : ℕ) (ns : List ℕ) → has id ns ≡ true → has_entry (term_of key_of (word_of given id)) (named_entries given ns) ≡ true
id_entry given id [] there = absurd (true≢false (sym there))
id_entry given id (n ∷ ns) there =
    let own = term_of key_of (word_of given id) in
    let first = term_of key_of (word_of given n) in
    elim (or_cases (n == id) (has id ns) there) [
      | inl here ↦
          or_left (is_eq (entry_cmp own first)) (has_entry own (named_entries given ns))
          (ap (λ m. is_eq (entry_cmp own (term_of key_of (word_of given m)))) (eqb-true n id here) ∙ equal_same own)
      | inr further ↦ or_right (is_eq (entry_cmp own first)) (has_entry own (named_entries given ns)) (id_entry given id ns further)
    ]

-- ---- what a version's dictionary has

-- the terms are in order, their ids name them, with keys of words, and they are those that the documents use
pub record IsDictionaryOf (given : List Entry) (ts : List Term) (hs : List Held) : Type 0 where
  pub sorted : is_sorted (entries ts) ≡ true
  pub named : are_given given ts ≡ true
  pub keyed : are_keyed given ≡ true
  pub used : (id : ℕ) → has id (ids ts) ≡ nat_lt 0 (documents_with id hs)

pub used_live : (given : List Entry) (ts : List Term) (hs : List Held) → IsDictionaryOf given ts hs → (id : ℕ) → has id (ids ts) ≡ has id (all_ids hs)
used_live given ts hs d id = d.used id ∙ used_has id hs

members : (given : List Entry) (ts : List Term) (hs : List Held) → IsDictionaryOf given ts hs → (e : Entry) → has_entry e (entries ts) ≡ has_entry e (named_entries given (all_ids hs))
members given ts hs d e = both_ways (has_entry e (entries ts)) (has_entry e (named_entries given (all_ids hs))) from to
  where
    from : has_entry e (entries ts) ≡ true → has_entry e (named_entries given (all_ids hs)) ≡ true
    from there =
        let found = there_id e ts there in
        let is_given = id_names given e ts found.0 d.named found.1 in
        let own : e ≡ term_of key_of (word_of given found.0) =
        keyed_at given found.0 e d.keyed is_given ∙ ap (term_of key_of) (sym (word_is given found.0 e is_given)) in
        ap (λ (f : Entry). has_entry f (named_entries given (all_ids hs))) own
        ∙ id_entry given found.0 (all_ids hs) (sym (used_live given ts hs d found.0) ∙ id_live e ts found.0 found.1)

    to : has_entry e (named_entries given (all_ids hs)) ≡ true → has_entry e (entries ts) ≡ true
    to there =
        let found = entry_id given e (all_ids hs) there in
        let n = names given ts found.id d.sorted d.named (used_live given ts hs d found.id ∙ found.there) in
        let own : e ≡ n.named =
        found.is ∙ ap (term_of key_of) (word_is given found.id n.named n.given_is) ∙ sym (keyed_at given found.id n.named d.keyed n.given_is) in
        ap (λ (f : Entry). has_entry f (entries ts)) own ∙ id_there n.named ts found.id n.id_is

-- the entries of the dictionary are the terms of the documents
pub terms_are : (given : List Entry) (ts : List Term) (hs : List Held) → IsDictionaryOf given ts hs → entries ts ≡ terms_of (documents_under given hs)
terms_are given ts hs d =
    same_sorted (entries ts) (with_entries (named_entries given (all_ids hs)) []) d.sorted (sorted_all (named_entries given (all_ids hs)) [] refl) same
    ∙ ap (λ ws. with_entries (map (term_of key_of) ws) []) (sym (all_words_under given hs))
  where
    same : (e : Entry) → has_entry e (entries ts) ≡ has_entry e (with_entries (named_entries given (all_ids hs)) [])
    same e =
        members given ts hs d e
        ∙ sym (or-false (has_entry e (named_entries given (all_ids hs))))
        ∙ sym (has_with_entries e (named_entries given (all_ids hs)) [])
