-- Lists of trees with references, one tree further.
use Rattle.std.proofs.Common.{◌≡◌, ℕ, suc, ◌+◌, ◌<◌, ◌≤◌, List, ◌∷◌, length, get_or, drop, ap, sym, ◌∙◌, add-one, drop-cons}
use Rattle.std.proofs.lemmas.List.{drop_all}
use Rattle.ordered_tree.specs.Numbered.{no_children, child_then}
use Rattle.ordered_tree.specs.RefView.{ref_node}
use Rattle.ordered_tree.specs.declared.ref_tree.RefTree.{RefTree}
use Rattle.tree_edits.proofs.RowsJoined.{row}

pub drop_next : {X : Type 0} (xs : List X) (i : ℕ) (x : X) → i < length xs → x ≡ get_or xs i x → drop i xs ≡ x ∷ drop (i + 1) xs
drop_next xs i x more is = rw add-one (drop-cons xs i x more ∙ ap (λ k. k ∷ drop (suc i) xs) (sym is))

pub next_row : (trees : List RefTree) (i : ℕ) (tree : RefTree) → i < length trees → tree ≡ get_or trees i tree
    → row (drop i trees) ≡ child_then (ref_node tree) (row (drop (i + 1) trees))
next_row trees i tree more is = ap row (drop_next trees i tree more is)

pub last_row : (trees : List RefTree) (i : ℕ) → length trees ≤ i → row (drop i trees) ≡ no_children
last_row trees i done = ap row (drop_all i trees done)
