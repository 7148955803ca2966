-- Documents with their version, one after the other of which comes under other abbreviations.
use Rattle.std.proofs.Common.{◌≡◌, ◌∙◌, subst, sym, ap, ap₂, ℕ, ◌+◌, ◌<◌, ◌≤◌, arith, List, [], ◌∷◌, ◌++◌, length, take, drop, get_or, append_assoc, append-nil, map}
use Rattle.std.proofs.lemmas.List.{drop_all, drop_more, length-drop, map_push, take_all, take-append-drop, take_more}
use Rattle.index_meaning.specs.Documents.{Numbered, with_document}
use Rattle.index_updates.specs.Follows.{Follows, under_tree}
use Rattle.document_store.specs.Loaded.{LoadedTree, tree_of, trees_of}
use Rattle.document_store.specs.steps.Numbering.{Ascend, IsNumbered}
use Rattle.document_store.proofs.ApplyLemmas.{low-at, with-at}
use Rattle.document_store.proofs.NumberingLemmas.{follows-ahead, follows-first, followed}

abbrev Entries : Type 0
Entries = List (List ℕ × LoadedTree)

module _ (before now : List (List ℕ)) where
  -- the version where the first of the documents, as many, came under the new abbreviations
  abbrev pub rebroken : ℕ → Entries → List Numbered
  rebroken many es = followed now (take many es) ++ followed before (drop many es)

  -- it follows the next document as it was
  follows-behind : (name : List ℕ) (loaded : LoadedTree) (from : ℕ) (es rest : Entries) (to : ℕ) → Ascend from (es ++ (name, loaded) ∷ rest) to
      → Follows before (followed now es ++ followed before ((name, loaded) ∷ rest)) loaded.doc.0 loaded.tree.root
  follows-behind name loaded from [] rest to up = follows-first before loaded.doc.0 loaded.tree.root (followed before rest)
  follows-behind name loaded from ((other, first) ∷ es) rest to up =
      let low = low-at name loaded.doc loaded.tree loaded.tree (first.doc.0 + 1) es rest to up.1 in
      follows-ahead before (under_tree now (tree_of (other, first))) (followed now es ++ followed before ((name, loaded) ∷ rest)) loaded.doc.0 loaded.tree.root
      (λ same. omega (arith, low, same)) (follows-behind name loaded (first.doc.0 + 1) es rest to up.1)

  module _ (all : Entries) (version : List Numbered) (next : ℕ) (held : IsNumbered before all version next) where
    pub rebroken-first : version ≡ rebroken 0 all
    rebroken-first = held.follows

    pub rebroken-last : (at : ℕ) (made : List Numbered) → made ≡ rebroken at all → length all ≤ at → made ≡ followed now all
    rebroken-last at made is end =
        is ∙ (ap₂ (λ es fs. followed now es ++ followed before fs) (take_all at all end) (drop_all at all end) ∙ append-nil (followed now all))

    module _ (at : ℕ) (name : List ℕ) (loaded : LoadedTree) (made : List Numbered) (found : drop at all ≡ (name, loaded) ∷ drop (at + 1) all) (is : made ≡ rebroken at all) where
      abbrev entry : List ℕ × LoadedTree
      entry = (name, loaded)

      there : at < length all
      there = let some : length (drop at all) ≡ length (entry ∷ drop (at + 1) all) = ap length found in let long = length-drop at all in omega (arith, some, long)

      one-more : take (at + 1) all ≡ take at all ++ entry ∷ []
      one-more =
          let both : get_or all at entry ∷ drop (at + 1) all ≡ entry ∷ drop (at + 1) all = sym (drop_more all at entry there) ∙ found in
          let one : get_or all at entry ≡ entry = cc in
          take_more all at entry there ∙ ap (λ e. take at all ++ e ∷ []) one

      ascending : Ascend 0 (take at all ++ entry ∷ drop (at + 1) all) next
      ascending = subst (λ es. Ascend 0 es next) (sym (take-append-drop at all) ∙ ap (λ es. take at all ++ es) found) held.ascend

      made-is : made ≡ followed now (take at all) ++ followed before (entry ∷ drop (at + 1) all)
      made-is = is ∙ ap (λ es. followed now (take at all) ++ followed before es) found

      pub rebroken-follows : Follows before made loaded.doc.0 loaded.tree.root
      rebroken-follows =
          subst (λ (v : List Numbered). Follows before v loaded.doc.0 loaded.tree.root) (sym made-is)
          (follows-behind name loaded 0 (take at all) (drop (at + 1) all) next ascending)

      pub rebroken-next : (made' : List Numbered) → made' ≡ with_document (under_tree now (loaded.doc.0, loaded.tree.root)) made → made' ≡ rebroken (at + 1) all
      rebroken-next made' put =
          let new = under_tree now (loaded.doc.0, loaded.tree.root) in
          let longer : followed now (take (at + 1) all) ≡ followed now (take at all) ++ new ∷ [] =
          ap (followed now) one-more ∙ (ap (map (under_tree now)) (map_push tree_of (take at all) entry) ∙ map_push (under_tree now) (trees_of (take at all)) (tree_of entry)) in
          put ∙ (ap (with_document new) made-is
          ∙ (with-at name loaded.doc loaded.tree loaded.tree now before now 0 (take at all) (drop (at + 1) all) next ascending
          ∙ (sym (append_assoc (followed now (take at all)) (new ∷ []) (followed before (drop (at + 1) all)))
          ∙ ap (λ ds. ds ++ followed before (drop (at + 1) all)) (sym longer))))
