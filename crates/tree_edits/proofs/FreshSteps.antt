-- Content that gets references, one node further.
use Rattle.std.proofs.Common.{◌≡◌, ℕ, ◌+◌, ◌<◌, ◌≤◌, List, [], ◌∷◌, ◌++◌, map, length, get_or, drop, sym, ap, ap₂, ◌∙◌, arith}
use Rattle.std.proofs.lemmas.List.{drop-drop, get_or-drop}
use Rattle.doc_grammar.specs.Limits.{node_count}
use Rattle.ft_base.specs.declared.ids.NodeRef.{NodeRef}
use Rattle.ordered_tree.specs.Numbered.{child_then}
use Rattle.ordered_tree.specs.RefView.{ref_node}
use Rattle.ordered_tree.specs.declared.ref_tree.RefTree.{RefTree}
use Rattle.ordered_tree.proofs.BuildingLemmas.{drop-next, kids-done}
use Rattle.plain_tree.specs.Document.{nodes}
use Rattle.plain_tree.specs.View.{node}
use Rattle.plain_tree.specs.declared.tree.Tree.{Tree}
use Rattle.tree_edits.specs.Edits.{append, only}
use Rattle.tree_edits.specs.Fresh.{first_ref, fresh, all_fresh}
use Rattle.tree_edits.proofs.PlainLemmas.{append_append, append_none}
use Rattle.tree_edits.proofs.RowsJoined.{row, row_append}

pub first_left : (refs : List NodeRef) (next : ℕ) → first_ref (drop next refs) ≡ get_or refs next (record { 0 = 0 })
first_left refs next =
    let here : next + 0 ≡ next = omega arith in
    get_or-drop next refs 0 (record { 0 = 0 }) ∙ ap (λ i. get_or refs i (record { 0 = 0 })) here

-- a tree of those that are left has its references
pub one_fresh : (refs : List NodeRef) (next : ℕ) (trees : List Tree) (i : ℕ) (tree : Tree) (kids after : List RefTree) (made : RefTree) (next-after : ℕ)
    → i < length trees → tree ≡ get_or trees i tree → after ≡ kids ++ made ∷ [] → ref_node made ≡ fresh (drop next refs) (node tree) → next-after ≡ next + node_count (node tree)
    → append (row after) (all_fresh (drop next-after refs) (nodes (map node (drop (i + 1) trees)))) ≡ append (row kids) (all_fresh (drop next refs) (nodes (map node (drop i trees))))
one_fresh refs next trees i tree kids after made next-after more is put made-is further =
    let rest = nodes (map node (drop (i + 1) trees)) in
    let left : nodes (map node (drop i trees)) ≡ nodes (map node (tree ∷ drop (i + 1) trees)) = ap (λ l. nodes (map node l)) (drop-next trees i tree more is) in
    let lower : drop next-after refs ≡ drop (node_count (node tree)) (drop next refs) = ap (λ k. drop k refs) further ∙ sym (drop-drop (node_count (node tree)) next refs) in
    ap₂ (λ l d. append (row l) (all_fresh d rest)) put lower
    ∙ ap (λ ns. append ns (all_fresh (drop (node_count (node tree)) (drop next refs)) rest)) (row_append kids (made ∷ []))
    ∙ append_append (row kids) (only (ref_node made)) (all_fresh (drop (node_count (node tree)) (drop next refs)) rest)
    ∙ ap (λ n. append (row kids) (child_then n (all_fresh (drop (node_count (node tree)) (drop next refs)) rest))) made-is
    ∙ ap (λ ns. append (row kids) (all_fresh (drop next refs) ns)) (sym left)

pub none_fresh : (refs : List NodeRef) (trees : List Tree) (i : ℕ) (kids : List RefTree) (next : ℕ) → length trees ≤ i
    → append (row kids) (all_fresh (drop next refs) (nodes (map node (drop i trees)))) ≡ row kids
none_fresh refs trees i kids next done =
    ap (λ ns. append (row kids) (all_fresh (drop next refs) ns)) (kids-done trees i done) ∙ append_none (row kids)
