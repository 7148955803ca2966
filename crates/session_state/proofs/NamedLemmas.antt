-- The documents of a name are the one that a look-up finds, and what holds of each holds of it.
use Rattle.std.proofs.Common.{◌≡◌, ◌∙◌, sym, ap, subst, refl, ℕ, Bool, true, false, cond, List, [], ◌∷◌, map}
use Rattle.std.specs.Prelude.{Some, None, filter}
use Rattle.std.specs.List.{AllByRecursion, IsDistinct}
use Rattle.std.specs.Map.{keys_of, lookup}
use Rattle.std.specs.Str.{bytes_eq}
use Rattle.std.proofs.lemmas.Slice.Eq.{bytes_eq-Decides}
use Rattle.path_meaning.specs.Collection.{Named}
use Rattle.ordered_tree.specs.Numbered.{Numbered}
use Rattle.document_store.specs.Loaded.{LoadedTree, to_document, trees_of}

abbrev Entry : Type 0
Entry = List ℕ × LoadedTree

abbrev of_name : List ℕ → List Entry → List Named
of_name name entries = filter (λ d. bytes_eq name d.name) (map to_document entries)

-- the first document, by the test of its name
of_name-first : (name : List ℕ) (e : Entry) (es : List Entry) (test : Bool) → bytes_eq name e.0 ≡ test → of_name name (e ∷ es) ≡ cond test (to_document e ∷ of_name name es) (of_name name es)
of_name-first name e es test is = ap (λ t. cond t (to_document e ∷ of_name name es) (of_name name es)) is

lookup-first : (name : List ℕ) (e : Entry) (es : List Entry) (test : Bool) → bytes_eq name e.0 ≡ test → lookup (bytes_eq name) (e ∷ es) ≡ cond test (Some e.1) (lookup (bytes_eq name) es)
lookup-first name e es test is = ap (λ t. cond t (Some e.1) (lookup (bytes_eq name) es)) is

pub none-named : (name : List ℕ) (es : List Entry) → lookup (bytes_eq name) es ≡ None → of_name name es ≡ []
none-named name [] h = refl
none-named name (e ∷ es) h = by (none-named name es) (bytes_eq name e.0) refl
  where
    by : (lookup (bytes_eq name) es ≡ None → of_name name es ≡ []) → (test : Bool) → bytes_eq name e.0 ≡ test → of_name name (e ∷ es) ≡ []
    by rest true is = let both : Some e.1 ≡ None = sym (lookup-first name e es true is) ∙ h in let no : ⊥ = cc in absurd no
    by rest false is = of_name-first name e es false is ∙ rest (sym (lookup-first name e es false is) ∙ h)

others : (name : List ℕ) (es : List Entry) → AllByRecursion (λ other. bytes_eq name other ≡ false) (keys_of es) → of_name name es ≡ []
others name [] h = refl
others name (e ∷ es) h = of_name-first name e es false h.0 ∙ others name es h.1

pub one-named : (name : List ℕ) (es : List Entry) (found : LoadedTree) → IsDistinct bytes_eq (keys_of es) → lookup (bytes_eq name) es ≡ Some found → of_name name es ≡ to_document (name, found) ∷ []
unfolding IsDistinct
one-named name [] found apart h = let no : ⊥ = cc in absurd no
one-named name (e ∷ es) found apart h = by (λ is. one-named name es found apart.1 is) (bytes_eq name e.0) refl
  where
    by : (lookup (bytes_eq name) es ≡ Some found → of_name name es ≡ to_document (name, found) ∷ []) → (test : Bool) → bytes_eq name e.0 ≡ test → of_name name (e ∷ es) ≡ to_document (name, found) ∷ []
    by rest true is =
        let same : name ≡ e.0 = (bytes_eq-Decides name e.0).0 is in
        let both : Some e.1 ≡ Some found = sym (lookup-first name e es true is) ∙ h in
        let value : e.1 ≡ found = cc in
        of_name-first name e es true is
        ∙ (ap (λ ds. to_document e ∷ ds) (ap (λ n. of_name n es) same ∙ others e.0 es apart.0)
        ∙ (ap (λ n. to_document (n, e.1) ∷ []) (sym same) ∙ ap (λ v. to_document (name, v) ∷ []) value))
    by rest false is = of_name-first name e es false is ∙ rest (sym (lookup-first name e es false is) ∙ h)

-- what holds of each tree holds of that of the document which is found
pub found-tree : (P : ℕ × Numbered → Type 0) (name : List ℕ) (es : List Entry) (found : LoadedTree) → AllByRecursion P (trees_of es) → lookup (bytes_eq name) es ≡ Some found → P (found.doc.0, found.tree.root)
found-tree P name [] found all h = let no : ⊥ = cc in absurd no
found-tree P name ((other, first) ∷ es) found all h = by (found-tree P name es found all.1) (bytes_eq name other) refl
  where
    by : (lookup (bytes_eq name) es ≡ Some found → P (found.doc.0, found.tree.root)) → (test : Bool) → bytes_eq name other ≡ test → P (found.doc.0, found.tree.root)
    by rest true is =
        let both : Some first ≡ Some found = sym (lookup-first name (other, first) es true is) ∙ h in
        let value : first ≡ found = cc in
        subst (λ (l : LoadedTree). P (l.doc.0, l.tree.root)) value all.0
    by rest false is = rest (sym (lookup-first name (other, first) es false is) ∙ h)
