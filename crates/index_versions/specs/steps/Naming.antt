-- Words as entries of a dictionary, and the ids under which it has them.
use Rattle.std.specs.Prelude.{◌≡◌, ◌≤◌, ◌<◌, ◌||◌, ℕ, Bool, true, List, length, map}
use Rattle.std.specs.List.{flat_map, list_all}
use Rattle.std.specs.Ordering.{is_eq}
use Rattle.text_forms.specs.Forms.{key_of}
use Rattle.index_document.specs.Terms.{has}
use Rattle.index_counts.specs.Counts.{count_of}
use Rattle.index_meaning.specs.Entries.{Entry, text_cmp}
use Rattle.index_meaning.specs.Dictionaries.{Dictionary, ids}
use Rattle.index_meaning.specs.Documents.{Leaf}
use Rattle.index_meaning.specs.Index.{term_of}
use Rattle.index_versions.specs.steps.Held.{word_of}

-- whether the key of each entry is that of its word
abbrev pub are_keyed : List Entry → Bool
are_keyed entries = list_all (λ e. is_eq (text_cmp e.key (key_of e.word))) entries

-- the words, each under its key
abbrev pub entries_of : List (List ℕ) → List Entry
entries_of words = map (term_of key_of) words

-- the words of leaves, one leaf after the other
abbrev pub all_words : List Leaf → List (List ℕ)
all_words leaves = flat_map (λ leaf. leaf.words) leaves

-- the second dictionary has these entries too, under these ids; an id that was there names the word that it named
pub record IsNamed (old : Dictionary) (entries : List Entry) (new : Dictionary) (named : List ℕ) : Type 0 where
  pub kept : (id : ℕ) → has id (ids old.terms) ≡ true → word_of new.given id ≡ word_of old.given id
  pub words : map (word_of new.given) named ≡ map (λ e. e.word) entries
  pub members : (id : ℕ) → has id (ids new.terms) ≡ (has id named || has id (ids old.terms))
  pub keyed : are_keyed old.given ≡ true → are_keyed entries ≡ true → are_keyed new.given ≡ true

-- ids that the dictionary has: those that were given from this number on, and those of which documents are counted
pub record IsKnown (counts : List ℕ) (first : ℕ) (d : Dictionary) : Type 0 where
  pub given : (id : ℕ) → first ≤ id → id < length d.given → has id (ids d.terms) ≡ true
  pub counted : (id : ℕ) → 0 < count_of counts id → has id (ids d.terms) ≡ true
