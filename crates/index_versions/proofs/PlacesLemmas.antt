-- What the calls of a version read: the count of a term, its places, and the leaves of a document, under what ids name.
use Rattle.std.proofs.Common.{◌≡◌, ℕ, ◌<◌, ◌+◌, zero, suc, true, ◌||◌, ◌==◌, cond, List, [], ◌∷◌, length, map, get_or, Some, refl, ap, sym, ◌∙◌, arith}
use Rattle.std.specs.Prelude.{slice_get}
use Rattle.std.specs.List.{list_any}
use Rattle.std.specs.Ordering.{is_eq, nat_cmp}
use Rattle.std.specs.Cmp.{both_ways, Equal-is}
use Rattle.std.specs.Cmp.Lexicographic.{slice_cmp}
use Rattle.std.specs.FinMap.{slice_cmp-IsAntisymmetric, nat_cmp-IsAntisymmetric}
use Rattle.std.proofs.lemmas.Bool.{and_parts, or_left, or_right, eqb-true, eq-eqb}
use Rattle.std.proofs.lemmas.Cmp.{nat_list_cmp_total, tied_itself}
use Rattle.std.proofs.lemmas.List.{length-map}
use Rattle.std.proofs.lemmas.List.Sums.{sum_by-cons}
use Rattle.std.proofs.lemmas.Simd.{map-map}
use Rattle.std.proofs.lemmas.Option.{same_Some, none-some}
use Rattle.text_forms.specs.Forms.{key_of}
use Rattle.index_document.specs.Terms as by_id
use Rattle.index_document.specs.Terms.{has}
use Rattle.index_document.proofs.TermLemmas.{has-append, has-head}
use Rattle.index_meaning.specs.Entries.{Entry, entry, entry_cmp, stands_at}
use Rattle.index_meaning.specs.Dictionaries.{Term, entries, ids, are_given}
use Rattle.index_meaning.specs.Documents.{Document, Leaf, Numbered, document_at, has_leaf, leaf_ids, token_count}
use Rattle.index_meaning.specs.Index.{term_of, document_count, has_term}
use Rattle.index_meaning.specs.Postings.{places, places_from, same_word}
use Rattle.index_versions.specs.Versions.{term_at}
use Rattle.index_versions.specs.steps.Held.{Held, word_of, leaf_under, document_under, numbered_under, documents_under, documents_with, held_ids, held_at}
use Rattle.index_versions.proofs.DocumentLemmas.{all_ids, words_under, at_under, used_at}
use Rattle.index_versions.proofs.EntryLemmas.{equal_is, equal_same, word_is, keyed_at, stands_is, one_id}
use Rattle.index_versions.proofs.TermsLemmas.{IsDictionaryOf, terms_are, used_live}

-- ---- a term by its number, and its id

-- the id of a number names the entry of that number
number_named : (given : List Entry) (ts : List Term) (n id : ℕ) (d : Entry) → are_given given ts ≡ true → slice_get (ids ts) n ≡ Some id →
    (slice_get given id ≡ Some (get_or (entries ts) n d)) × (has id (ids ts) ≡ true)
number_named given [] n id d named is = absurd (none-some id is)
number_named given (t ∷ ts) zero id d named is =
    let number : t.id ≡ id = same_Some t.id id is in
    (ap (slice_get given) (sym number) ∙ stands_is t.entry t.id given (and_parts (stands_at t.entry t.id given) (are_given given ts) named).0, has-head t.id id (ids ts) number)
number_named given (t ∷ ts) (suc n) id d named is =
    let rest = number_named given ts n id d (and_parts (stands_at t.entry t.id given) (are_given given ts) named).1 is in
    (rest.0, or_right (t.id == id) (has id (ids ts)) rest.1)

-- an id that is there, and the term that it names
pub record IsTermOf (given : List Entry) (ts : List Term) (id : ℕ) (e : Entry) : Type 0 where
  pub live : has id (ids ts) ≡ true
  pub given_is : slice_get given id ≡ Some e

pub term_is : (given : List Entry) (ts : List Term) (hs : List Held) (n id : ℕ) → IsDictionaryOf given ts hs → slice_get (ids ts) n ≡ Some id
    → IsTermOf given ts id (term_at n (documents_under given hs))
term_is given ts hs n id d is =
    let number = number_named given ts n id (entry [] []) d.named is in
    record {
      live = number.1;
      given_is = number.0 ∙ ap (λ es. Some (get_or es n (entry [] []))) (terms_are given ts hs d);
    }

-- ---- whether a word is the term's

pub same_word_is : (a b : List ℕ) → same_word a b ≡ true → a ≡ b
same_word_is a b same = slice_cmp-IsAntisymmetric nat_cmp-IsAntisymmetric a b ((Equal-is (slice_cmp nat_cmp a b)).0 same)

pub same_word_same : (a : List ℕ) → same_word a a ≡ true
same_word_same a = (Equal-is (slice_cmp nat_cmp a a)).1 (tied_itself nat_list_cmp_total a)

-- the word of another id that is there is the term's exactly where the ids are one
word_one : (given : List Entry) (ts : List Term) (hs : List Held) (id n : ℕ) (e : Entry) → IsDictionaryOf given ts hs → IsTermOf given ts id e → has n (ids ts) ≡ true
    → same_word (word_of given n) e.word ≡ (n == id)
word_one given ts hs id n e d t live = both_ways (same_word (word_of given n) e.word) (n == id) from to
  where
    from : same_word (word_of given n) e.word ≡ true → (n == id) ≡ true
    from same =
        eq-eqb n id (one_id given ts n id d.sorted d.named d.keyed live t.live (same_word_is (word_of given n) e.word same ∙ sym (word_is given id e t.given_is)))

    to : (n == id) ≡ true → same_word (word_of given n) e.word ≡ true
    to same =
        ap (λ w. same_word w e.word) (ap (word_of given) (eqb-true n id same) ∙ word_is given id e t.given_is) ∙ same_word_same e.word

entry_one : (given : List Entry) (ts : List Term) (hs : List Held) (id n : ℕ) (e : Entry) → IsDictionaryOf given ts hs → IsTermOf given ts id e → has n (ids ts) ≡ true
    → is_eq (entry_cmp e (term_of key_of (word_of given n))) ≡ (n == id)
entry_one given ts hs id n e d t live = both_ways (is_eq (entry_cmp e (term_of key_of (word_of given n)))) (n == id) from to
  where
    from : is_eq (entry_cmp e (term_of key_of (word_of given n))) ≡ true → (n == id) ≡ true
    from same =
        let words : e.word ≡ word_of given n = ap (λ (f : Entry). f.word) (equal_is e (term_of key_of (word_of given n)) same) in
        eq-eqb n id (one_id given ts n id d.sorted d.named d.keyed live t.live (sym (word_is given id e t.given_is ∙ words)))

    to : (n == id) ≡ true → is_eq (entry_cmp e (term_of key_of (word_of given n))) ≡ true
    to same =
        let words : word_of given n ≡ e.word = ap (word_of given) (eqb-true n id same) ∙ word_is given id e t.given_is in
        ap (λ (f : Entry). is_eq (entry_cmp e f)) (ap (term_of key_of) words ∙ sym (keyed_at given id e d.keyed t.given_is)) ∙ equal_same e

-- ---- how many documents have the term

abbrev AreLive : List Term → List ℕ → Type 0
AreLive ts ns = (n : ℕ) → has n ns ≡ true → has n (ids ts) ≡ true

rest_live : (ts : List Term) (n : ℕ) (ns : List ℕ) → AreLive ts (n ∷ ns) → AreLive ts ns
rest_live ts n ns live m there = live m (or_right (n == m) (has m ns) there)

any_word : (given : List Entry) (ts : List Term) (hs : List Held) (id : ℕ) (e : Entry) (ns : List ℕ) → IsDictionaryOf given ts hs → IsTermOf given ts id e → AreLive ts ns
    → list_any (λ word. is_eq (entry_cmp e (term_of key_of word))) (map (word_of given) ns) ≡ has id ns
any_word given ts hs id e [] d t live = refl
any_word given ts hs id e (n ∷ ns) d t live =
    let first = entry_one given ts hs id n e d t (live n (has-head n n ns refl)) in
    let rest = any_word given ts hs id e ns d t (rest_live ts n ns live) in
    λ i. first i || rest i

has_it : (given : List Entry) (ts : List Term) (hs : List Held) (id : ℕ) (e : Entry) (h : Held) → IsDictionaryOf given ts hs → IsTermOf given ts id e → AreLive ts (held_ids h)
    → has_term key_of e (document_under given h) ≡ has id (held_ids h)
has_it given ts hs id e h d t live =
    ap (λ ws. list_any (λ word. is_eq (entry_cmp e (term_of key_of word))) ws) (words_under given h) ∙ any_word given ts hs id e (held_ids h) d t live

count_is : (given : List Entry) (ts : List Term) (all : List Held) (id : ℕ) (e : Entry) (hs : List Held) → IsDictionaryOf given ts all → IsTermOf given ts id e → AreLive ts (all_ids hs)
    → document_count key_of e (documents_under given hs) ≡ documents_with id hs
count_is given ts all id e [] d t live = refl
count_is given ts all id e (h ∷ hs) d t live =
    let first = has_it given ts all id e h d t (λ n there. live n (has-append n (held_ids h) (all_ids hs) ∙ or_left (has n (held_ids h)) (has n (all_ids hs)) there)) in
    let rest = count_is given ts all id e hs d t (λ n there. live n (has-append n (held_ids h) (all_ids hs) ∙ or_right (has n (held_ids h)) (has n (all_ids hs)) there)) in
    sum_by-cons (λ (g : Numbered). cond (has_term key_of e g.document) 1 0) (numbered_under given h) (documents_under given hs)
    ∙ (λ i. cond (first i) 1 0 + rest i)
    ∙ sym (sum_by-cons (λ (g : Held). cond (has id (held_ids g)) 1 0) h hs)

all_live : (given : List Entry) (ts : List Term) (hs : List Held) → IsDictionaryOf given ts hs → AreLive ts (all_ids hs)
all_live given ts hs d n there = used_live given ts hs d n ∙ there

pub counted_is : (given : List Entry) (ts : List Term) (hs : List Held) (n id : ℕ) → IsDictionaryOf given ts hs → slice_get (ids ts) n ≡ Some id
    → documents_with id hs ≡ document_count key_of (term_at n (documents_under given hs)) (documents_under given hs)
counted_is given ts hs n id d is =
    sym (count_is given ts hs id (term_at n (documents_under given hs)) hs d (term_is given ts hs n id d is) (all_live given ts hs d))

-- ---- where the term stands

places_named : (given : List Entry) (ts : List Term) (hs : List Held) (id : ℕ) (e : Entry) (place : ℕ) (ns : List ℕ) → IsDictionaryOf given ts hs → IsTermOf given ts id e → AreLive ts ns
    → by_id.places_from id place ns ≡ places_from e.word place (map (word_of given) ns)
places_named given ts hs id e place [] d t live = refl
places_named given ts hs id e place (n ∷ ns) d t live =
    let first = word_one given ts hs id n e d t (live n (has-head n n ns refl)) in
    let rest = places_named given ts hs id e (place + 1) ns d t (rest_live ts n ns live) in
    λ i. cond (sym first i) (place ∷ rest i) (rest i)

pub places_are : (given : List Entry) (ts : List Term) (hs : List Held) (n id doc : ℕ) → IsDictionaryOf given ts hs → slice_get (ids ts) n ≡ Some id
    → by_id.places_of id (held_at doc hs).index.leaves ≡ places (term_at n (documents_under given hs)).word (document_at doc (documents_under given hs))
places_are given ts hs n id doc d is =
    let e = term_at n (documents_under given hs) in
    let h = held_at doc hs in
    places_named given ts hs id e 1 (held_ids h) d (term_is given ts hs n id d is) (λ m there. all_live given ts hs d m (used_at doc m hs there))
    ∙ ap (places_from e.word 1) (sym (words_under given h))
    ∙ ap (places e.word) (sym (at_under given doc hs))

-- ---- what a document means

pub tokens_are : (given : List Entry) (h : Held) (d : Document) → document_under given h ≡ d → length (held_ids h) ≡ token_count d
tokens_are given h d is = sym (length-map (held_ids h) (word_of given)) ∙ ap length (sym (words_under given h)) ∙ ap token_count is

pub leaves_are : (given : List Entry) (h : Held) (d : Document) → document_under given h ≡ d → length h.index.leaves ≡ length d.leaves
leaves_are given h d is = sym (length-map h.index.leaves (leaf_under given)) ∙ ap (λ (e : Document). length e.leaves) is

pub leaf_ids_are : (given : List Entry) (h : Held) (d : Document) → document_under given h ≡ d → by_id.leaf_ids h.index.leaves ≡ leaf_ids d.leaves
leaf_ids_are given h d is = sym (map-map (λ (leaf : Leaf). leaf.id) (leaf_under given) h.index.leaves) ∙ ap (λ (e : Document). leaf_ids e.leaves) is

-- the leaf that stands at a place is there
pub leaf_there : (id n : ℕ) (d : Document) → n < length d.leaves → id ≡ get_or (leaf_ids d.leaves) n 0 → has_leaf id d ≡ true
leaf_there id n d within is = at id n d.leaves within is
  where
    at : (id n : ℕ) (leaves : List Leaf) → n < length leaves → id ≡ get_or (leaf_ids leaves) n 0 → list_any (λ (leaf : Leaf). leaf.id == id) leaves ≡ true
    at id n [] within is = absurd (omega arith)
    at id zero (leaf ∷ leaves) within is = or_left (leaf.id == id) (list_any (λ (other : Leaf). other.id == id) leaves) (eq-eqb leaf.id id (sym is))
    at id (suc n) (leaf ∷ leaves) within is =
        or_right (leaf.id == id) (list_any (λ (other : Leaf). other.id == id) leaves) (at id n leaves (omega arith) is)
