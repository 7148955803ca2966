-- Documents under ascending numbers, and the version that follows them under a set of abbreviations.
use Rattle.std.proofs.Common.{◌≡◌, ◌≢◌, ◌∙◌, subst, sym, ap, refl, ℕ, ◌+◌, ◌-◌, ◌<◌, ◌≤◌, arith, true, false, cond, not, ◌==◌, List, [], ◌∷◌, ◌++◌, map, inl, inr}
use Rattle.std.specs.Prelude.{Some, nat_lt}
use Rattle.std.specs.Map.{lookup, remove_entry}
use Rattle.std.specs.Str.{bytes_eq}
use Rattle.std.proofs.lemmas.Bool.{and_from, cases_Bool, cond-false, cond-true, eq-eqb, le-ltb, lt-ltb, ne_eqb, or_from, or_left, or_right}
use Rattle.std.proofs.lemmas.List.{length-map, map_push}
use Rattle.std.proofs.lemmas.List.Sums.{sum_by-cons, sum_by_push}
use Rattle.ft_base.specs.Places.{is_ascending}
use Rattle.index_meaning.specs.Documents.{Numbered, document_at, has_document, with_document, without_document}
use Rattle.index_meaning.specs.Index.{index}
use Rattle.index_updates.specs.Follows.{Follows, tree_document, under_tokens, under_tree}
use Rattle.ordered_tree.specs.Counts.{word_count}
use Rattle.ordered_tree.specs.Numbered as tree
use Rattle.ordered_tree.specs.Numbered.{plain}
use Rattle.path_meaning.specs.Collection.{Named}
use Rattle.text_forms.specs.Forms.{key_of}
use Rattle.document_store.specs.Indexed.{FollowsEach, IsIndexOf, under}
use Rattle.document_store.specs.Documents.{token_total, tokens_named}
use Rattle.document_store.specs.Loaded.{LoadedTree, to_document, tree_of, trees_of}
use Rattle.document_store.specs.steps.Numbering.{Ascend, IsKept, IsNumbered}

abbrev Entry : Type 0
Entry = List ℕ × LoadedTree

abbrev Entries : Type 0
Entries = List (List ℕ × LoadedTree)

-- ---- ascending numbers

ascend-from : (low from : ℕ) (es : Entries) (to : ℕ) → low ≤ from → Ascend from es to → Ascend low es to
ascend-from low from [] to less up = omega (arith, less, up)
ascend-from low from ((name, loaded) ∷ rest) to less up = let first = up.0 in (omega (arith, less, first), up.1)

-- a document comes under the next number
pub ascend-push : (from : ℕ) (es : Entries) (to : ℕ) (name : List ℕ) (loaded : LoadedTree) → Ascend from es to → loaded.doc.0 ≡ to → Ascend from (es ++ (name, loaded) ∷ []) (to + 1)
ascend-push from [] to name loaded up is = (omega (arith, up, is), omega (arith, is))
ascend-push from ((other, first) ∷ rest) to name loaded up is = (up.0, ascend-push (first.doc.0 + 1) rest to name loaded up.1 is)

-- a document goes
pub ascend-remove : (name : List ℕ) (from : ℕ) (es : Entries) (to : ℕ) → Ascend from es to → Ascend from (remove_entry (bytes_eq name) es) to
ascend-remove name from [] to up = up
ascend-remove name from ((other, first) ∷ rest) to up =
    elim (bytes_eq name other) as (λ t. Ascend from (cond t rest ((other, first) ∷ remove_entry (bytes_eq name) rest)) to)
    [ true ↦ (let low = up.0 in ascend-from from (first.doc.0 + 1) rest to (omega (arith, low)) up.1) | false ↦ (up.0, ascend-remove name (first.doc.0 + 1) rest to up.1) ]

-- no number is above the end
ascend-most : (from : ℕ) (es : Entries) (to : ℕ) → Ascend from es to → from ≤ to
ascend-most from [] to up = up
ascend-most from ((name, first) ∷ rest) to up = let low = up.0 in let later = ascend-most (first.doc.0 + 1) rest to up.1 in omega (arith, low, later)

-- ---- the document of a name

module _ (name : List ℕ) (found : LoadedTree) where
  -- where the first entry has the name, it is the one that is found, and else it is among the others
  first-found : (other : List ℕ) (first : LoadedTree) (rest : Entries) → bytes_eq name other ≡ true → lookup (bytes_eq name) ((other, first) ∷ rest) ≡ Some found → first ≡ found
  first-found other first rest same is =
      let both : Some first ≡ Some found = sym (cond-true (bytes_eq name other) (Some first) (lookup (bytes_eq name) rest) same) ∙ is in
      let one : first ≡ found = cc in
      one

  rest-found : (other : List ℕ) (first : LoadedTree) (rest : Entries) → bytes_eq name other ≡ false → lookup (bytes_eq name) ((other, first) ∷ rest) ≡ Some found → lookup (bytes_eq name) rest ≡ Some found
  rest-found other first rest differ is = sym (cond-false (bytes_eq name other) (Some first) (lookup (bytes_eq name) rest) differ) ∙ is

  found-low : (from : ℕ) (es : Entries) (to : ℕ) → Ascend from es to → lookup (bytes_eq name) es ≡ Some found → from ≤ found.doc.0
  found-low from [] to up is = let no : ⊥ = cc in absurd no
  found-low from ((other, first) ∷ rest) to up is = elim (cases_Bool (bytes_eq name other)) [
    | inl same ↦ let low = up.0 in let number = ap (λ (l : LoadedTree). l.doc.0) (first-found other first rest same is) in omega (arith, low, number)
    | inr differ ↦ let low = up.0 in let later = found-low (first.doc.0 + 1) rest to up.1 (rest-found other first rest differ is) in omega (arith, low, later)
  ]

  -- its tokens
  pub found-tokens : (es : Entries) → lookup (bytes_eq name) es ≡ Some found → tokens_named (map to_document es) name ≡ word_count (plain found.tree.root)
  found-tokens [] is = let no : ⊥ = cc in absurd no
  found-tokens ((other, first) ∷ rest) is = elim (cases_Bool (bytes_eq name other)) [
    | inl same ↦ cond-true (bytes_eq name other) (word_count (plain first.tree.root)) (tokens_named (map to_document rest) name) same
        ∙ ap (λ (l : LoadedTree). word_count (plain l.tree.root)) (first-found other first rest same is)
    | inr differ ↦ cond-false (bytes_eq name other) (word_count (plain first.tree.root)) (tokens_named (map to_document rest) name) differ
        ∙ found-tokens rest (rest-found other first rest differ is)
  ]

-- ---- how many tokens there are

pub total-push : (es : Entries) (name : List ℕ) (loaded : LoadedTree)
    → token_total (map to_document (es ++ (name, loaded) ∷ [])) ≡ token_total (map to_document es) + word_count (plain loaded.tree.root)
total-push es name loaded = ap token_total (map_push to_document es (name, loaded)) ∙ sum_by_push (λ (d : Named). word_count d.root) (map to_document es) (to_document (name, loaded))

pub total-less : (name : List ℕ) (found : LoadedTree) (es : Entries) → lookup (bytes_eq name) es ≡ Some found
    → token_total (map to_document es) ≡ word_count (plain found.tree.root) + token_total (map to_document (remove_entry (bytes_eq name) es))
total-less name found [] is = let no : ⊥ = cc in absurd no
total-less name found ((other, first) ∷ rest) is = elim (cases_Bool (bytes_eq name other)) [
  | inl same ↦
      sum_by-cons (λ (d : Named). word_count d.root) (to_document (other, first)) (map to_document rest)
      ∙ (ap (λ (l : LoadedTree). word_count (plain l.tree.root) + token_total (map to_document rest)) (first-found name found other first rest same is)
      ∙ ap (λ es. word_count (plain found.tree.root) + token_total (map to_document es)) (sym (cond-true (bytes_eq name other) rest ((other, first) ∷ remove_entry (bytes_eq name) rest) same)))
  | inr differ ↦
      let later = total-less name found rest (rest-found name found other first rest differ is) in
      let whole = sum_by-cons (λ (d : Named). word_count d.root) (to_document (other, first)) (map to_document rest) in
      let left = sum_by-cons (λ (d : Named). word_count d.root) (to_document (other, first)) (map to_document (remove_entry (bytes_eq name) rest)) in
      let gone = ap (λ es. token_total (map to_document es)) (cond-false (bytes_eq name other) rest ((other, first) ∷ remove_entry (bytes_eq name) rest) differ) in
      omega (arith, later, whole, left, gone)
]

-- ---- the numbers ascend

abbrev numbers_of : Entries → List ℕ
numbers_of entries = map (λ e. e.1.doc.0) entries

numbers-ascend : (from : ℕ) (es : Entries) (to : ℕ) → Ascend from es to → is_ascending (numbers_of es) ≡ true
numbers-ascend from [] to up = refl
numbers-ascend from ((name, first) ∷ []) to up = refl
numbers-ascend from ((name, first) ∷ (other, second) ∷ rest) to up =
    let less = up.1.0 in
    and_from (nat_lt first.doc.0 second.doc.0) (is_ascending (numbers_of ((other, second) ∷ rest))) (lt-ltb first.doc.0 second.doc.0 (omega (arith, less)))
    (numbers-ascend (first.doc.0 + 1) ((other, second) ∷ rest) to up.1)

-- ---- the version

module _ (abbreviations : List (List ℕ)) where
  -- the version that follows them
  abbrev pub followed : Entries → List Numbered
  followed entries = map (under_tree abbreviations) (trees_of entries)

  -- ---- a number that no document has

  pub absent : (from : ℕ) (es : Entries) (to id : ℕ) → Ascend from es to → to ≤ id → has_document id (followed es) ≡ false
  absent from [] to id up less = refl
  absent from ((name, first) ∷ rest) to id up less =
      let below = ascend-most (first.doc.0 + 1) rest to up.1 in
      or_from (first.doc.0 == id) (has_document id (followed rest)) (ne_eqb first.doc.0 id (λ is. omega (arith, below, less, is))) (absent (first.doc.0 + 1) rest to id up.1 less)

  -- the document of the next one stands after all
  pub with-last : (from : ℕ) (es : Entries) (to : ℕ) (new : Numbered) → Ascend from es to → new.id ≡ to → with_document new (followed es) ≡ followed es ++ new ∷ []
  with-last from [] to new up is = refl
  with-last from ((name, first) ∷ rest) to new up is =
      let below = ascend-most (first.doc.0 + 1) rest to up.1 in
      let d = under_tree abbreviations (tree_of (name, first)) in
      cond-false (nat_lt new.id d.id) (new ∷ d ∷ followed rest) (cond (new.id == d.id) (new ∷ followed rest) (d ∷ with_document new (followed rest))) (le-ltb new.id d.id (omega (arith, below, is)))
      ∙ (cond-false (new.id == d.id) (new ∷ followed rest) (d ∷ with_document new (followed rest)) (ne_eqb new.id d.id (λ same. omega (arith, below, is, same)))
      ∙ ap (λ ds. d ∷ ds) (with-last (first.doc.0 + 1) rest to new up.1 is))

  -- numbers that are greater than one stay where it goes
  all-stay : (from : ℕ) (es : Entries) (to id : ℕ) → Ascend from es to → id < from → without_document id (followed es) ≡ followed es
  all-stay from [] to id up less = refl
  all-stay from ((name, first) ∷ rest) to id up less =
      let low = up.0 in
      ap (λ t. cond (not t) (under_tree abbreviations (tree_of (name, first)) ∷ without_document id (followed rest)) (without_document id (followed rest)))
      (ne_eqb first.doc.0 id (λ same. omega (arith, low, less, same)))
      ∙ ap (λ ds. under_tree abbreviations (tree_of (name, first)) ∷ ds) (all-stay (first.doc.0 + 1) rest to id up.1 (omega (arith, low, less)))

  -- ---- the document of a name, in the version

  module _ (name : List ℕ) (found : LoadedTree) where
    -- it is in the version
    pub found-there : (es : Entries) → lookup (bytes_eq name) es ≡ Some found → has_document found.doc.0 (followed es) ≡ true
    found-there [] is = let no : ⊥ = cc in absurd no
    found-there ((other, first) ∷ rest) is = elim (cases_Bool (bytes_eq name other)) [
      | inl same ↦ or_left (first.doc.0 == found.doc.0) (has_document found.doc.0 (followed rest)) (eq-eqb first.doc.0 found.doc.0 (ap (λ (l : LoadedTree). l.doc.0) (first-found name found other first rest same is)))
      | inr differ ↦ or_right (first.doc.0 == found.doc.0) (has_document found.doc.0 (followed rest)) (found-there rest (rest-found name found other first rest differ is))
    ]

    found-document : (from : ℕ) (es : Entries) (to : ℕ) → Ascend from es to → lookup (bytes_eq name) es ≡ Some found → document_at found.doc.0 (followed es) ≡ tree_document abbreviations found.tree.root
    found-document from [] to up is = let no : ⊥ = cc in absurd no
    found-document from ((other, first) ∷ rest) to up is = elim (cases_Bool (bytes_eq name other)) [
      | inl same ↦
          let one = first-found name found other first rest same is in
          cond-true (first.doc.0 == found.doc.0) (tree_document abbreviations first.tree.root) (document_at found.doc.0 (followed rest)) (eq-eqb first.doc.0 found.doc.0 (ap (λ (l : LoadedTree). l.doc.0) one))
          ∙ ap (λ (l : LoadedTree). tree_document abbreviations l.tree.root) one
      | inr differ ↦
          let inside = rest-found name found other first rest differ is in
          let later = found-low name found (first.doc.0 + 1) rest to up.1 inside in
          cond-false (first.doc.0 == found.doc.0) (tree_document abbreviations first.tree.root) (document_at found.doc.0 (followed rest)) (ne_eqb first.doc.0 found.doc.0 (λ same. omega (arith, later, same)))
          ∙ found-document (first.doc.0 + 1) rest to up.1 inside
    ]

    pub found-follows : (from : ℕ) (es : Entries) (to : ℕ) → Ascend from es to → lookup (bytes_eq name) es ≡ Some found → Follows abbreviations (followed es) found.doc.0 found.tree.root
    found-follows from es to up is = record { there = found-there es is; document = found-document from es to up is }

    -- the version without it follows the others
    pub found-without : (from : ℕ) (es : Entries) (to : ℕ) → Ascend from es to → lookup (bytes_eq name) es ≡ Some found → without_document found.doc.0 (followed es) ≡ followed (remove_entry (bytes_eq name) es)
    found-without from [] to up is = let no : ⊥ = cc in absurd no
    found-without from ((other, first) ∷ rest) to up is = elim (cases_Bool (bytes_eq name other)) [
      | inl same ↦
          let number = ap (λ (l : LoadedTree). l.doc.0) (first-found name found other first rest same is) in
          ap (λ t. cond (not t) (under_tree abbreviations (tree_of (other, first)) ∷ without_document found.doc.0 (followed rest)) (without_document found.doc.0 (followed rest))) (eq-eqb first.doc.0 found.doc.0 number)
          ∙ (all-stay (first.doc.0 + 1) rest to found.doc.0 up.1 (omega (arith, number))
          ∙ sym (ap followed (cond-true (bytes_eq name other) rest ((other, first) ∷ remove_entry (bytes_eq name) rest) same)))
      | inr differ ↦
          let inside = rest-found name found other first rest differ is in
          let later = found-low name found (first.doc.0 + 1) rest to up.1 inside in
          ap (λ t. cond (not t) (under_tree abbreviations (tree_of (other, first)) ∷ without_document found.doc.0 (followed rest)) (without_document found.doc.0 (followed rest)))
          (ne_eqb first.doc.0 found.doc.0 (λ same. omega (arith, later, same)))
          ∙ (ap (λ ds. under_tree abbreviations (tree_of (other, first)) ∷ ds) (found-without (first.doc.0 + 1) rest to up.1 inside)
          ∙ sym (ap followed (cond-false (bytes_eq name other) rest ((other, first) ∷ remove_entry (bytes_eq name) rest) differ)))
    ]

  -- ---- the version is the index of the documents

  under-tokens : (es : Entries) → under abbreviations (numbers_of es) (map to_document es) ≡ map (under_tokens abbreviations) (trees_of es)
  under-tokens [] = refl
  under-tokens ((name, first) ∷ rest) = ap (λ ds. under_tokens abbreviations (tree_of (name, first)) ∷ ds) (under-tokens rest)

  -- by the law that an index has of trees what it has of their tokens
  pub is-index : ((key : List ℕ → List ℕ) (abbreviations : List (List ℕ)) (trees : List (ℕ × tree.Numbered))
      → index key (map (under_tree abbreviations) trees) ≡ index key (map (under_tokens abbreviations) trees))
      → (es : Entries) (version : List Numbered) (next : ℕ) → IsNumbered abbreviations es version next → IsIndexOf abbreviations (map to_document es) version
  is-index same es version next held = record {
    ids = numbers_of es;
    as_many = length-map es (λ e. e.1.doc.0) ∙ sym (length-map es to_document);
    ascending = numbers-ascend 0 es next held.ascend;
    index = ap (index key_of) held.follows ∙ (same key_of abbreviations (trees_of es) ∙ sym (ap (index key_of) (under-tokens es)));
  }

  -- ---- the version follows each document

  pub follows-first : (id : ℕ) (root : tree.Numbered) (rest : List Numbered) → Follows abbreviations (under_tree abbreviations (id, root) ∷ rest) id root
  follows-first id root rest = record {
    there = or_left (id == id) (has_document id rest) (eq-eqb id id refl);
    document = cond-true (id == id) (tree_document abbreviations root) (document_at id rest) (eq-eqb id id refl);
  }

  pub follows-ahead : (d : Numbered) (rest : List Numbered) (id : ℕ) (root : tree.Numbered) → d.id ≢ id → Follows abbreviations rest id root → Follows abbreviations (d ∷ rest) id root
  follows-ahead d rest id root apart follows = record {
    there = or_right (d.id == id) (has_document id rest) follows.there;
    document = cond-false (d.id == id) d.document (document_at id rest) (ne_eqb d.id id apart) ∙ follows.document;
  }

  all-ahead : (d : Numbered) (version : List Numbered) (from : ℕ) (es : Entries) (to : ℕ) → d.id < from → Ascend from es to → FollowsEach abbreviations version (trees_of es) → FollowsEach abbreviations (d ∷ version) (trees_of es)
  all-ahead d version from [] to less up all = tt
  all-ahead d version from ((name, first) ∷ rest) to less up all =
      let low = up.0 in (
        follows-ahead d version first.doc.0 first.tree.root (λ same. omega (arith, low, less, same)) all.0,
        all-ahead d version (first.doc.0 + 1) rest to (omega (arith, low, less)) up.1 all.1,
      )

  all-followed : (from : ℕ) (es : Entries) (to : ℕ) → Ascend from es to → FollowsEach abbreviations (followed es) (trees_of es)
  all-followed from [] to up = tt
  all-followed from ((name, first) ∷ rest) to up = (
    follows-first first.doc.0 first.tree.root (followed rest),
    all-ahead (under_tree abbreviations (tree_of (name, first))) (followed rest) (first.doc.0 + 1) rest to (omega arith) up.1 (all-followed (first.doc.0 + 1) rest to up.1),
  )

  pub follows-each : (es : Entries) (version : List Numbered) (next : ℕ) → IsNumbered abbreviations es version next → FollowsEach abbreviations version (trees_of es)
  follows-each es version next held = subst (λ (v : List Numbered). FollowsEach abbreviations v (trees_of es)) (sym held.follows) (all-followed 0 es next held.ascend)

  -- ---- a document comes or goes

  pub numbered-more : (es : Entries) (version next_version : List Numbered) (next : ℕ) (name : List ℕ) (loaded : LoadedTree) → IsNumbered abbreviations es version next → loaded.doc.0 ≡ next
      → next_version ≡ with_document (under_tree abbreviations (tree_of (name, loaded))) version → IsNumbered abbreviations (es ++ (name, loaded) ∷ []) next_version (next + 1)
  numbered-more es version next_version next name loaded held is made = record {
    ascend = ascend-push 0 es next name loaded held.ascend is;
    follows = made ∙ (ap (with_document (under_tree abbreviations (tree_of (name, loaded)))) held.follows
        ∙ (with-last 0 es next (under_tree abbreviations (tree_of (name, loaded))) held.ascend is
        ∙ sym (ap (map (under_tree abbreviations)) (map_push tree_of es (name, loaded)) ∙ map_push (under_tree abbreviations) (trees_of es) (tree_of (name, loaded)))));
  }

  pub numbered-less : (es : Entries) (version next_version : List Numbered) (next : ℕ) (name : List ℕ) (found : LoadedTree) → IsNumbered abbreviations es version next → lookup (bytes_eq name) es ≡ Some found
      → next_version ≡ without_document found.doc.0 version → IsNumbered abbreviations (remove_entry (bytes_eq name) es) next_version next
  numbered-less es version next_version next name found held is made = record {
    ascend = ascend-remove name 0 es next held.ascend;
    follows = made ∙ (ap (without_document found.doc.0) held.follows ∙ found-without name found 0 es next held.ascend is);
  }

  -- the document of a name, in the version of the documents, and its tokens
  pub found-known : (es : Entries) (version : List Numbered) (next : ℕ) (documents : List Named) (name asked : List ℕ) (found : LoadedTree) → IsNumbered abbreviations es version next
      → map to_document es ≡ documents → name ≡ asked → lookup (bytes_eq name) es ≡ Some found
      → Follows abbreviations version found.doc.0 found.tree.root × (tokens_named documents asked ≡ word_count (plain found.tree.root))
  found-known es version next documents name asked found held there same is = (
    subst (λ (v : List Numbered). Follows abbreviations v found.doc.0 found.tree.root) (sym held.follows) (found-follows name found 0 es next held.ascend is),
    ap (λ ds. tokens_named ds asked) (sym there) ∙ (ap (tokens_named (map to_document es)) (sym same) ∙ found-tokens name found es is),
  )

  -- ---- the same, with how many tokens there are

  pub kept-more : (es : Entries) (version next_version : List Numbered) (next words next_words : ℕ) (name : List ℕ) (loaded : LoadedTree) → IsKept abbreviations es version next words
      → loaded.doc.0 ≡ next → next_version ≡ with_document (under_tree abbreviations (tree_of (name, loaded))) version → next_words ≡ words + word_count (plain loaded.tree.root)
      → IsKept abbreviations (es ++ (name, loaded) ∷ []) next_version (next + 1) next_words
  kept-more es version next_version next words next_words name loaded held is made more = record {
    numbered = numbered-more es version next_version next name loaded held.numbered is made;
    counted = more ∙ (ap (λ n. n + word_count (plain loaded.tree.root)) held.counted ∙ sym (total-push es name loaded));
  }

  pub kept-less : (es : Entries) (version next_version : List Numbered) (next words next_words : ℕ) (name : List ℕ) (found : LoadedTree) → IsKept abbreviations es version next words
      → lookup (bytes_eq name) es ≡ Some found → next_version ≡ without_document found.doc.0 version → next_words ≡ words - word_count (plain found.tree.root)
      → IsKept abbreviations (remove_entry (bytes_eq name) es) next_version next next_words
  kept-less es version next_version next words next_words name found held is made less = record {
    numbered = numbered-less es version next_version next name found held.numbered is made;
    counted = let all = total-less name found es is in let before = held.counted in omega (arith, all, before, less);
  }

  -- the tokens of a document are among those of all
  pub kept-enough : (es : Entries) (version : List Numbered) (next words : ℕ) (name : List ℕ) (found : LoadedTree) → IsKept abbreviations es version next words
      → lookup (bytes_eq name) es ≡ Some found → word_count (plain found.tree.root) ≤ words
  kept-enough es version next words name found held is = let all = total-less name found es is in let before = held.counted in omega (arith, all, before)
