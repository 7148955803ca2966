-- Words get ids one after the other: what is named then, and which ids are known to be in the dictionary.
use Rattle.std.proofs.Common.{◌≡◌, ℕ, ◌<◌, ◌+◌, true, ◌||◌, List, [], ◌∷◌, ◌++◌, length, map, take, get_or, refl, ap, sym, subst, ◌∙◌, arith}
use Rattle.std.specs.Ordering.{is_eq}
use Rattle.std.proofs.lemmas.Bool.{and_parts, or_left, or_right, lt-ltb}
use Rattle.std.proofs.lemmas.Grind.{flat_map-append}
use Rattle.std.proofs.lemmas.List.{map-append, map_more, take_more, length-map, append-nil}
use Rattle.std.proofs.lemmas.List.Folds.{list_all-append}
use Rattle.ft_base.proofs.Truth.{or_turned}
use Rattle.text_forms.specs.Forms.{key_of}
use Rattle.index_document.specs.Terms as by_id
use Rattle.index_document.specs.Terms.{has}
use Rattle.index_document.proofs.TermLemmas.{has-append}
use Rattle.index_counts.specs.Counts.{count_of}
use Rattle.index_meaning.specs.Entries.{Entry, text_cmp}
use Rattle.index_meaning.specs.Dictionaries.{Dictionary, ids}
use Rattle.index_meaning.specs.Documents.{Leaf, leaf_of}
use Rattle.index_meaning.specs.Index.{term_of}
use Rattle.index_versions.specs.declared.parts.Parts.{Parts}
use Rattle.index_versions.specs.steps.Held.{word_of, leaf_under, documents_with}
use Rattle.index_versions.specs.steps.Naming.{all_words, are_keyed, entries_of, IsNamed}
use Rattle.index_versions.specs.steps.Sound.{IsSound}
use Rattle.index_versions.proofs.DocumentLemmas.{same_leaves, same_map}

-- ---- the words of entries

pub words_of_entries : (words : List (List ℕ)) → map (λ (e : Entry). e.word) (entries_of words) ≡ words
words_of_entries [] = refl
words_of_entries (word ∷ words) = ap (λ ws. word ∷ ws) (words_of_entries words)

pub named_size : (given : List Entry) (named : List ℕ) (words : List (List ℕ)) → map (word_of given) named ≡ map (λ (e : Entry). e.word) (entries_of words) → length named ≡ length words
named_size given named words h = sym (length-map named (word_of given)) ∙ ap length (h ∙ words_of_entries words)

-- ---- no word, one word, and words after others

pub both_named : (a b c : Dictionary) (es fs : List Entry) (xs ys : List ℕ) → IsNamed a es b xs → IsNamed b fs c ys → IsNamed a (es ++ fs) c (xs ++ ys)
both_named a b c es fs xs ys first second =
    let there : (id : ℕ) → (has id xs || has id (ids a.terms)) ≡ true → has id (ids b.terms) ≡ true = λ id h. first.members id ∙ h in
    let same = same_map (word_of c.given) (word_of b.given) xs (λ id h. second.kept id (there id (or_left (has id xs) (has id (ids a.terms)) h))) in
    record {
      kept = λ id old. second.kept id (there id (or_right (has id xs) (has id (ids a.terms)) old)) ∙ first.kept id old;
      words =
          map-append (word_of c.given) xs ys
          ∙ (λ i. (same ∙ first.words) i ++ second.words i)
          ∙ sym (map-append (λ (e : Entry). e.word) es fs);
      members = λ id.
          second.members id
          ∙ ap (λ t. has id ys || t) (first.members id)
          ∙ or_turned (has id ys) (has id xs) (has id (ids a.terms))
          ∙ ap (λ t. t || has id (ids a.terms)) (sym (has-append id xs ys));
      keyed = λ all keys.
          let parts = and_parts (are_keyed es) (are_keyed fs) (sym (list_all-append (λ (e : Entry). is_eq (text_cmp e.key (key_of e.word))) es fs) ∙ keys) in
          second.keyed (first.keyed all parts.0) parts.1;
    }

-- ---- one more word, and one more leaf

pub more_named : (old now new : Dictionary) (words : List (List ℕ)) (i : ℕ) (word : List ℕ) (named : List ℕ) (id : ℕ) → i < length words → word ≡ get_or words i word
    → IsNamed old (entries_of (take i words)) now named → IsNamed now (entries_of (word ∷ [])) new (id ∷ [])
    → IsNamed old (entries_of (take (i + 1) words)) new (named ++ id ∷ [])
more_named old now new words i word named id within is first second =
    let es : entries_of (take (i + 1) words) ≡ entries_of (take i words) ++ entries_of (word ∷ []) =
    map_more (term_of key_of) words i word within ∙ ap (λ w. entries_of (take i words) ++ term_of key_of w ∷ []) (sym is) in
    subst (λ fs. IsNamed old fs new (named ++ id ∷ [])) (sym es) (both_named old now new (entries_of (take i words)) (entries_of (word ∷ [])) named (id ∷ []) first second)

more_words : (leaves : List Leaf) (i : ℕ) (leaf : Leaf) → i < length leaves → leaf ≡ get_or leaves i leaf → all_words (take (i + 1) leaves) ≡ all_words (take i leaves) ++ leaf.words
more_words leaves i leaf within is =
    ap all_words (take_more leaves i leaf within ∙ ap (λ (l : Leaf). take i leaves ++ l ∷ []) (sym is))
    ∙ flat_map-append (λ (l : Leaf). l.words) (take i leaves) (leaf ∷ [])
    ∙ ap (λ ws. all_words (take i leaves) ++ ws) (append-nil leaf.words)

module _ (old now new : Dictionary) (leaves : List Leaf) (i : ℕ) (leaf : Leaf) (made : List by_id.Leaf) (named : List ℕ) (within : i < length leaves) (is : leaf ≡ get_or leaves i leaf)
    (first : IsNamed old (entries_of (all_words (take i leaves))) now (by_id.words_of made)) (second : IsNamed now (entries_of leaf.words) new named) where
  pub leaf_named : IsNamed old (entries_of (all_words (take (i + 1) leaves))) new (by_id.words_of (made ++ by_id.leaf_of leaf.id named ∷ []))
  leaf_named =
      let words = all_words (take i leaves) in
      let es : entries_of (all_words (take (i + 1) leaves)) ≡ entries_of words ++ entries_of leaf.words =
      ap entries_of (more_words leaves i leaf within is) ∙ map-append (term_of key_of) words leaf.words in
      let all : by_id.words_of (made ++ by_id.leaf_of leaf.id named ∷ []) ≡ by_id.words_of made ++ named =
      flat_map-append (λ (l : by_id.Leaf). l.words) made (by_id.leaf_of leaf.id named ∷ []) ∙ ap (λ ws. by_id.words_of made ++ ws) (append-nil named) in
      subst (λ fs. IsNamed old fs new (by_id.words_of (made ++ by_id.leaf_of leaf.id named ∷ []))) (sym es)
      (subst (λ ns. IsNamed old (entries_of words ++ entries_of leaf.words) new ns) (sym all)
      (both_named old now new (entries_of words) (entries_of leaf.words) (by_id.words_of made) named first second))

  pub leaf_made : map (leaf_under now.given) made ≡ take i leaves → map (leaf_under new.given) (made ++ by_id.leaf_of leaf.id named ∷ []) ≡ take (i + 1) leaves
  leaf_made before =
      let same = same_leaves new.given now.given made (λ id there.
      second.kept id (first.members id ∙ or_left (has id (by_id.words_of made)) (has id (ids old.terms)) there)) in
      let words : map (word_of new.given) named ≡ leaf.words = second.words ∙ words_of_entries leaf.words in
      map-append (leaf_under new.given) made (by_id.leaf_of leaf.id named ∷ [])
      ∙ (λ j. (same ∙ before) j ++ leaf_of leaf.id (words j) ∷ [])
      ∙ ap (λ (l : Leaf). take i leaves ++ l ∷ []) is
      ∙ sym (take_more leaves i leaf within)

-- ---- ids that are known to be in the dictionary

pub counted_there : (parts : Parts) → IsSound parts → (id : ℕ) → 0 < count_of parts.counts id → has id (ids parts.dictionary.terms) ≡ true
counted_there parts sound id some =
    let counted : 0 < documents_with id parts.documents = omega (arith, sound.counted id, some) in
    sound.used id ∙ lt-ltb 0 (documents_with id parts.documents) counted
