-- What each change of a document means, and that what always holds of a version holds before the document is exchanged.
use Rattle.std.proofs.Common.{◌≡◌, ℕ, Bool, true, false, ◌||◌, ◌==◌, cond, not, List, [], ◌∷◌, length, map, Option, Some, None, refl, ap, sym, ◌∙◌, arith, inl, inr, subst}
use Rattle.std.specs.Prelude.{nat_lt, filter, IfSome}
use Rattle.std.specs.List.{All}
use Rattle.std.specs.Ordering.{is_eq}
use Rattle.std.proofs.lemmas.Bool.{and_from, eqb-true, cases_Bool}
use Rattle.std.proofs.lemmas.Cmp.{eq_by_cmp_equiv, nat_list_cmp_total}
use Rattle.std.proofs.lemmas.List.{length-map}
use Rattle.std.proofs.lemmas.List.Elements.{All-cons, All-nil}
use Rattle.ft_base.specs.declared.ids.LeafId.{LeafId}
use Rattle.ft_base.specs.declared.places.Breaks.{Breaks}
use Rattle.ft_base.specs.Places.{is_ascending}
use Rattle.text_forms.specs.Forms.{key_of}
use Rattle.index_document.specs.Terms as by_id
use Rattle.index_document.specs.Terms.{TermDocument, has}
use Rattle.index_meaning.specs.Entries.{Entry, text_cmp}
use Rattle.index_meaning.specs.Dictionaries.{Dictionary, ids}
use Rattle.index_meaning.specs.Documents.{Leaf, Document, leaf_of, document_of, numbered, leaf_words, has_leaf, token_count, with_leaf, without_leaf, with_breaks}
use Rattle.index_meaning.specs.Documents.{document_at, with_document, leaves_with}
use Rattle.index_counts.specs.Counts.{count_of}
use Rattle.index_groups.specs.Groups.{may_be}
use Rattle.index_versions.specs.declared.parts.Parts.{Parts}
use Rattle.index_versions.specs.steps.Held.{Held, held_of, word_of, leaf_under, document_under, documents_under, numbers, held_ids, documents_with, held_at, listed, ids_of_leaf, place_following}
use Rattle.index_versions.specs.steps.Exchange.{of_number, exchanged}
use Rattle.index_versions.specs.steps.Naming.{are_keyed, entries_of, all_words, IsNamed}
use Rattle.index_versions.specs.steps.Sound.{IsGrouped, IsSound, IsSoundFor, meaning}
use Rattle.index_versions.proofs.ChangeLemmas.{once}
use Rattle.index_versions.proofs.WordLemmas.{words_of_entries}
use Rattle.index_versions.proofs.DocumentLemmas.{all_ids, used_has, used_at, at_under, words_under, Agree, same_leaves, same_under}
use Rattle.index_versions.proofs.ExchangeLemmas.{where_is, whole, counts_exchanged, ascending_exchanged, HasNumber, with_under}
use Rattle.index_versions.proofs.GroupLemmas.{at_grouped, exchanged_grouped}
use Rattle.index_versions.proofs.LeafLemmas.{put_under, taken_under, words_under_leaf, has_inserted, has_taken}

abbrev pub parts_with : Parts → Dictionary → Parts
parts_with parts dictionary = record { documents = parts.documents; dictionary = dictionary; counts = parts.counts; groups = parts.groups }

pub held_number : (n : ℕ) (hs : List Held) → (held_at n hs).index.doc ≡ n
held_number n [] = refl
held_number n (h ∷ hs) = elim (cases_Bool (h.index.doc == n)) [
  | inl same ↦ ap (λ b. (cond b h (held_at n hs)).index.doc) same ∙ eqb-true h.index.doc n same
  | inr other ↦ ap (λ b. (cond b h (held_at n hs)).index.doc) other ∙ held_number n hs
]

-- ---- the leaves of a document, by their numbers

has_leaves : (given : List Entry) (x : ℕ) (leaves : List by_id.Leaf) (breaks : Breaks) → has_leaf x (document_of (map (leaf_under given) leaves) breaks) ≡ has x (by_id.leaf_ids leaves)
has_leaves given x [] breaks = refl
has_leaves given x (l ∷ leaves) breaks = ap (λ b. (l.id == x) || b) (has_leaves given x leaves breaks)

pub has_leaf_under : (given : List Entry) (n x : ℕ) (hs : List Held) → has_leaf x (document_at n (documents_under given hs)) ≡ has x (by_id.leaf_ids (held_at n hs).index.leaves)
has_leaf_under given n x hs = ap (has_leaf x) (at_under given n hs) ∙ has_leaves given x (held_at n hs).index.leaves (held_at n hs).breaks

pub leaf_size : (given : List Entry) (n x : ℕ) (hs : List Held) → length (leaf_words x (document_at n (documents_under given hs)).leaves) ≡ length (ids_of_leaf x (held_at n hs).index.leaves)
leaf_size given n x hs =
    ap (λ (d : Document). length (leaf_words x d.leaves)) (at_under given n hs)
    ∙ ap length (words_under_leaf given x (held_at n hs).index.leaves)
    ∙ length-map (ids_of_leaf x (held_at n hs).index.leaves) (word_of given)

pub token_size : (given : List Entry) (n : ℕ) (hs : List Held) → token_count (document_at n (documents_under given hs)) ≡ length (held_ids (held_at n hs))
token_size given n hs =
    ap token_count (at_under given n hs) ∙ ap length (words_under given (held_at n hs)) ∙ length-map (held_ids (held_at n hs)) (word_of given)

-- ---- entries that come leave the meaning as it was

pub entries_keyed : (words : List (List ℕ)) → are_keyed (entries_of words) ≡ true
entries_keyed [] = refl
entries_keyed (word ∷ words) =
    and_from (is_eq (text_cmp (key_of word) (key_of word))) (are_keyed (entries_of words)) ((eq_by_cmp_equiv nat_list_cmp_total).refl (key_of word)) (entries_keyed words)

pub agree : (parts : Parts) (es : List Entry) (new : Dictionary) (named : List ℕ) → IsSound parts → IsNamed parts.dictionary es new named → Agree new.given parts.dictionary.given (all_ids parts.documents)
agree parts es new named sound names id there = names.kept id (sound.used id ∙ used_has id parts.documents ∙ there)

used_there : (n id : ℕ) (hs : List Held) → has id (held_ids (held_at n hs)) ≡ true → nat_lt 0 (documents_with id hs) ≡ true
used_there n id hs there = used_has id hs ∙ used_at n id hs there

absorb : (x y z : Bool) → (y ≡ true → z ≡ true) → (x || z) ≡ ((x || y) || z)
absorb true y z h = refl
absorb false true z h = h refl
absorb false false z h = refl

-- ---- a leaf comes

pub record IsPut (parts : Parts) (n : ℕ) (after : Option LeafId) (leaf : ℕ) (words : List (List ℕ)) (new : Dictionary) (named : List ℕ) (next : Held) : Type 0 where
  pub sound : IsSound parts
  pub names : IsNamed parts.dictionary (entries_of words) new named
  pub next_is : next ≡ held_of (by_id.with_leaf (held_at n parts.documents).index (place_following after (by_id.leaf_ids (held_at n parts.documents).index.leaves)) (by_id.leaf_of leaf named))
      (held_at n parts.documents).breaks

module _ (parts : Parts) (n : ℕ) (after : Option LeafId) (leaf : ℕ) (words : List (List ℕ)) (new : Dictionary) (named : List ℕ) (next : Held) (put : IsPut parts n after leaf words new named next) where
  pub put_number : next.index.doc ≡ n
  put_number = ap (λ (h : Held). h.index.doc) put.next_is ∙ held_number n parts.documents

  pub put_ready : IsSoundFor (held_ids next) (parts_with parts new)
  put_ready =
      let held = held_at n parts.documents in
      let at = place_following after (by_id.leaf_ids held.index.leaves) in
      record {
        ascending = put.sound.ascending;
        used = λ id.
            let own : has id (held_ids next) ≡ (has id named || has id (held_ids held)) = ap (λ (h : Held). has id (held_ids h)) put.next_is ∙ has_inserted id held.index.leaves at (by_id.leaf_of leaf named) in
            put.names.members id
            ∙ ap (λ b. has id named || b) (put.sound.used id)
            ∙ absorb (has id named) (has id (held_ids held)) (nat_lt 0 (documents_with id parts.documents)) (used_there n id parts.documents)
            ∙ ap (λ b. b || nat_lt 0 (documents_with id parts.documents)) (sym own);
        counted = put.sound.counted;
        grouped = put.sound.grouped;
        keyed = put.names.keyed put.sound.keyed (entries_keyed words);
      }

  put_document_under : document_under new.given next ≡ with_leaf after (leaf_of leaf words) (document_at n (meaning parts))
  put_document_under =
      let held = held_at n parts.documents in
      let given = parts.dictionary.given in
      let same = same_leaves new.given given held.index.leaves (λ id there. agree parts (entries_of words) new named put.sound put.names id (used_at n id parts.documents there)) in
      let text : map (word_of new.given) named ≡ words = put.names.words ∙ words_of_entries words in
      ap (document_under new.given) put.next_is
      ∙ ap (λ (ls : List Leaf). document_of ls held.breaks) (put_under new.given after (by_id.leaf_of leaf named) held.index.leaves)
      ∙ (λ i. document_of (leaves_with after (leaf_of leaf (text i)) (same i)) held.breaks)
      ∙ ap (with_leaf after (leaf_of leaf words)) (sym (at_under given n parts.documents))

  pub put_means : documents_under new.given (exchanged n (next ∷ []) parts.documents)
      ≡ with_document (numbered n (with_leaf after (leaf_of leaf words) (document_at n (meaning parts)))) (meaning parts)
  put_means =
      with_under new.given n next parts.documents put_number put.sound.ascending
      ∙ (λ i. with_document (numbered n (put_document_under i)) (same_under new.given parts.dictionary.given parts.documents (agree parts (entries_of words) new named put.sound put.names) i))

-- ---- a leaf goes

pub record IsTaken (parts : Parts) (n leaf : ℕ) (next : Held) : Type 0 where
  pub sound : IsSound parts
  pub next_is : next ≡ held_of (by_id.document_of (held_at n parts.documents).index.doc (filter (λ (l : by_id.Leaf). not (l.id == leaf)) (held_at n parts.documents).index.leaves)) (held_at n parts.documents).breaks

module _ (parts : Parts) (n leaf : ℕ) (next : Held) (taken : IsTaken parts n leaf next) where
  pub taken_number : next.index.doc ≡ n
  taken_number = ap (λ (h : Held). h.index.doc) taken.next_is ∙ held_number n parts.documents

  pub taken_ready : IsSoundFor (held_ids next) parts
  taken_ready = record {
    ascending = taken.sound.ascending;
    used = λ id.
        taken.sound.used id
        ∙ absorb false (has id (held_ids next)) (nat_lt 0 (documents_with id parts.documents))
        (λ there. used_there n id parts.documents (has_taken id leaf (held_at n parts.documents).index.leaves (ap (λ (h : Held). has id (held_ids h)) (sym taken.next_is) ∙ there)));
    counted = taken.sound.counted;
    grouped = taken.sound.grouped;
    keyed = taken.sound.keyed;
  }

  pub taken_means : documents_under parts.dictionary.given (exchanged n (next ∷ []) parts.documents)
      ≡ with_document (numbered n (without_leaf leaf (document_at n (meaning parts)))) (meaning parts)
  taken_means =
      let held = held_at n parts.documents in
      let given = parts.dictionary.given in
      with_under given n next parts.documents taken_number taken.sound.ascending
      ∙ ap (λ (d : Document). with_document (numbered n d) (meaning parts))
      (ap (document_under given) taken.next_is
      ∙ ap (λ (ls : List Leaf). document_of ls held.breaks) (taken_under given leaf held.index.leaves)
      ∙ ap (without_leaf leaf) (sym (at_under given n parts.documents)))

-- ---- a document comes with all its leaves

pub record Comes (parts : Parts) (n : ℕ) (leaves : List Leaf) (breaks : Breaks) (new : Dictionary) (made : List by_id.Leaf) (next : Held) : Type 0 where
  pub sound : IsSound parts
  pub names : IsNamed parts.dictionary (entries_of (all_words leaves)) new (by_id.words_of made)
  pub leaves_are : map (leaf_under new.given) made ≡ leaves
  pub next_is : next ≡ held_of (by_id.document_of n made) breaks

module _ (parts : Parts) (n : ℕ) (leaves : List Leaf) (breaks : Breaks) (new : Dictionary) (made : List by_id.Leaf) (next : Held) (comes : Comes parts n leaves breaks new made next) where
  pub comes_number : next.index.doc ≡ n
  comes_number = ap (λ (h : Held). h.index.doc) comes.next_is

  pub comes_ready : IsSoundFor (held_ids next) (parts_with parts new)
  comes_ready = record {
    ascending = comes.sound.ascending;
    used = λ id.
        comes.names.members id
        ∙ ap (λ b. has id (by_id.words_of made) || b) (comes.sound.used id)
        ∙ ap (λ (h : Held). has id (held_ids h) || nat_lt 0 (documents_with id parts.documents)) (sym comes.next_is);
    counted = comes.sound.counted;
    grouped = comes.sound.grouped;
    keyed = comes.names.keyed comes.sound.keyed (entries_keyed (all_words leaves));
  }

  pub comes_means : documents_under new.given (exchanged n (next ∷ []) parts.documents) ≡ with_document (numbered n (document_of leaves breaks)) (meaning parts)
  comes_means =
      let same = same_under new.given parts.dictionary.given parts.documents (agree parts (entries_of (all_words leaves)) new (by_id.words_of made) comes.sound comes.names) in
      let document : document_under new.given next ≡ document_of leaves breaks =
      ap (document_under new.given) comes.next_is ∙ ap (λ (ls : List Leaf). document_of ls breaks) comes.leaves_are in
      with_under new.given n next parts.documents comes_number comes.sound.ascending ∙ (λ i. with_document (numbered n (document i)) (same i))

  pub comes_size : length (by_id.words_of made) ≡ length (all_words leaves)
  comes_size =
      sym (length-map (by_id.words_of made) (word_of new.given)) ∙ ap length (comes.names.words ∙ words_of_entries (all_words leaves))

-- ---- a document of the same words takes the place of another

number_counted : (id n : ℕ) (hs : List Held) → is_ascending (numbers hs) ≡ true → documents_with id (of_number n hs) ≡ cond (has id (held_ids (held_at n hs))) 1 0
number_counted id n hs up = elim (where_is n hs up) [
  | inl none ↦ ap (documents_with id) none.number ∙ sym (ap (λ (h : Held). cond (has id (held_ids h)) 1 0) none.found)
  | inr there ↦ ap (documents_with id) there.number ∙ once id (Some there.held) ∙ sym (ap (λ (h : Held). cond (has id (held_ids h)) 1 0) there.found)
]

same_counts : (id n : ℕ) (new : Option Held) (hs : List Held) → is_ascending (numbers hs) ≡ true → documents_with id (listed new) ≡ cond (has id (held_ids (held_at n hs))) 1 0
    → documents_with id (exchanged n (listed new) hs) ≡ documents_with id hs
same_counts id n new hs up same =
    let was = ap (documents_with id) (whole n hs up) ∙ counts_exchanged id n (of_number n hs) hs in
    omega (arith, counts_exchanged id n (listed new) hs, was, same, number_counted id n hs up)

pub same_sound : (parts after : Parts) (n : ℕ) (new : Option Held) → IsSound parts → HasNumber n new
    → ((id : ℕ) → documents_with id (listed new) ≡ cond (has id (held_ids (held_at n parts.documents))) 1 0)
    → All (IsGrouped parts.groups) (listed new) → after.documents ≡ exchanged n (listed new) parts.documents → after.dictionary ≡ parts.dictionary → after.counts ≡ parts.counts
    → after.groups ≡ parts.groups → IsSound after
same_sound parts after n new sound number same next documents dictionary counts groups =
    let hs = parts.documents in
    let total : (id : ℕ) → documents_with id after.documents ≡ documents_with id hs = λ id. ap (documents_with id) documents ∙ same_counts id n new hs sound.ascending (same id) in
    record {
      ascending = ap (λ xs. is_ascending (numbers xs)) documents ∙ ascending_exchanged n new hs number sound.ascending;
      used = λ id. ap (λ (d : Dictionary). has id (ids d.terms)) dictionary ∙ sound.used id ∙ ap (nat_lt 0) (sym (total id));
      counted = λ id. ap (λ cs. count_of cs id) counts ∙ sound.counted id ∙ sym (total id);
      grouped = subst (λ gs. All (IsGrouped gs) after.documents) (sym groups)
          (subst (All (IsGrouped parts.groups)) (sym documents) (exchanged_grouped parts.groups n (listed new) hs sound.grouped next));
      keyed = ap (λ (d : Dictionary). are_keyed d.given) dictionary ∙ sound.keyed;
    }

pub breaks_means : (parts : Parts) (n : ℕ) (breaks : Breaks) (next : Held) → IsSound parts → next ≡ held_of (held_at n parts.documents).index breaks
    → documents_under parts.dictionary.given (exchanged n (next ∷ []) parts.documents) ≡ with_document (numbered n (with_breaks breaks (document_at n (meaning parts)))) (meaning parts)
breaks_means parts n breaks next sound is =
    let given = parts.dictionary.given in
    with_under given n next parts.documents (ap (λ (h : Held). h.index.doc) is ∙ held_number n parts.documents) sound.ascending
    ∙ ap (λ (d : Document). with_document (numbered n d) (meaning parts)) (ap (document_under given) is ∙ ap (with_breaks breaks) (sym (at_under given n parts.documents)))

pub breaks_counted : (parts : Parts) (n id : ℕ) (breaks : Breaks) (next : Held) → next ≡ held_of (held_at n parts.documents).index breaks
    → documents_with id (next ∷ []) ≡ cond (has id (held_ids (held_at n parts.documents))) 1 0
breaks_counted parts n id breaks next is = once id (Some next) ∙ ap (λ (h : Held). cond (has id (held_ids h)) 1 0) is

pub breaks_grouped : (parts : Parts) (n : ℕ) (breaks : Breaks) (next : Held) → IsSound parts → next ≡ held_of (held_at n parts.documents).index breaks
    → All (IsGrouped parts.groups) (next ∷ [])
breaks_grouped parts n breaks next sound is =
    let hs = parts.documents in
    All-cons (IsGrouped parts.groups) next []
    (λ id there.
    ap (may_be parts.groups id) (ap (λ (h : Held). h.index.doc) is ∙ held_number n hs)
    ∙ at_grouped parts.groups n hs sound.grouped id (ap (λ (h : Held). has id (held_ids h)) (sym is) ∙ there))
    (All-nil (IsGrouped parts.groups))

-- ---- a document without leaves goes

no_leaves : (given : List Entry) (leaves : List by_id.Leaf) → map (leaf_under given) leaves ≡ [] → leaves ≡ []
no_leaves given [] h = refl
no_leaves given (l ∷ leaves) h = let size = ap length h in absurd (omega (arith, size))

pub bare_counted : (parts : Parts) (n id : ℕ) → (document_at n (meaning parts)).leaves ≡ [] → documents_with id [] ≡ cond (has id (held_ids (held_at n parts.documents))) 1 0
bare_counted parts n id none =
    let held = held_at n parts.documents in
    let leaves : held.index.leaves ≡ [] = no_leaves parts.dictionary.given held.index.leaves (ap (λ (d : Document). d.leaves) (sym (at_under parts.dictionary.given n parts.documents)) ∙ none) in
    sym (ap (λ ls. cond (has id (by_id.words_of ls)) 1 0) leaves)

-- ---- what the code has in hand

pub leaf_after_under : (given : List Entry) (n : ℕ) (hs : List Held) (index : TermDocument) (after : Option LeafId) → index ≡ (held_at n hs).index
    → IfSome after (λ other. has_leaf other.0 (document_at n (documents_under given hs)) ≡ true) → IfSome after (λ other. has other.0 (by_id.leaf_ids index.leaves) ≡ true)
leaf_after_under given n hs index None is there = there
leaf_after_under given n hs index (Some other) is there =
    ap (λ (d : TermDocument). has other.0 (by_id.leaf_ids d.leaves)) is ∙ sym (has_leaf_under given n other.0 hs) ∙ there

pub put_next : (n : ℕ) (hs : List Held) (after : Option LeafId) (leaf : ℕ) (named : List ℕ) (held : Held) (index made : TermDocument) (next : Held)
    → held ≡ held_at n hs → index ≡ held.index → made ≡ by_id.with_leaf index (place_following after (by_id.leaf_ids index.leaves)) (by_id.leaf_of leaf named) → next ≡ held_of made held.breaks
    → next ≡ held_of (by_id.with_leaf (held_at n hs).index (place_following after (by_id.leaf_ids (held_at n hs).index.leaves)) (by_id.leaf_of leaf named)) (held_at n hs).breaks
put_next n hs after leaf named held index made next first second third fourth =
    let with_ = λ (d : TermDocument). by_id.with_leaf d (place_following after (by_id.leaf_ids d.leaves)) (by_id.leaf_of leaf named) in
    fourth ∙ (λ i. held_of ((third ∙ ap with_ second) i) held.breaks) ∙ ap (λ (h : Held). held_of (with_ h.index) h.breaks) first

pub taken_next : (n : ℕ) (hs : List Held) (leaf : ℕ) (held : Held) (index made : TermDocument) (next : Held)
    → held ≡ held_at n hs → index ≡ held.index → made ≡ by_id.document_of index.doc (filter (λ (l : by_id.Leaf). not (l.id == leaf)) index.leaves) → next ≡ held_of made held.breaks
    → next ≡ held_of (by_id.document_of (held_at n hs).index.doc (filter (λ (l : by_id.Leaf). not (l.id == leaf)) (held_at n hs).index.leaves)) (held_at n hs).breaks
taken_next n hs leaf held index made next first second third fourth =
    let without_ = λ (d : TermDocument). by_id.document_of d.doc (filter (λ (l : by_id.Leaf). not (l.id == leaf)) d.leaves) in
    fourth ∙ (λ i. held_of ((third ∙ ap without_ second) i) held.breaks) ∙ ap (λ (h : Held). held_of (without_ h.index) h.breaks) first

pub taken_size : (given : List Entry) (n leaf : ℕ) (hs : List Held) (held : Held) (index : TermDocument) → held ≡ held_at n hs → index ≡ held.index
    → length (ids_of_leaf leaf index.leaves) ≡ length (leaf_words leaf (document_at n (documents_under given hs)).leaves)
taken_size given n leaf hs held index first second =
    ap (λ (d : TermDocument). length (ids_of_leaf leaf d.leaves)) (second ∙ ap (λ (h : Held). h.index) first) ∙ sym (leaf_size given n leaf hs)
